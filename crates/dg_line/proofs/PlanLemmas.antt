-- What a plan by what words match can fail with.
use Rattle.std.proofs.Common.{◌≡◌, ℕ, Bool, true, false, List, [], if◌then◌else◌, Option, Some, None, Result, Ok, Err, IfErr, ◌⊎◌, inl, inr, subst, sym}
use Rattle.clap.specs.Walk.{Row, Text}
use Rattle.clap.specs.Faults.{fault_of}
use Rattle.dg_line.specs.Options.{line_app, line_rows}
use Rattle.dg_line.specs.Values.{selects_well, words_of}
use Rattle.dg_line.specs.Words.{bad_word_in}
use Rattle.dg_line.specs.Plan.{HasFault, is_bare, mode_of, plan_by, plan_in, plan_made, plan_where}
use Rattle.dg_line.specs.declared.plan.Plan.{Plan}
use Rattle.dg_line.specs.declared.plan.Mode.{Mode}
use Rattle.dg_line.specs.declared.fault.LineFault.{LineFault}
use Rattle.dg_line.specs.declared.fault.LineFault.TheVariants as fault

-- a fault with no text
abbrev IsTextless : LineFault → Type 0
IsTextless (fault.Words text) = ⊥
IsTextless (fault.Shown text) = ⊥
IsTextless _ = Unit {0}

abbrev IsReadSo : Result Plan LineFault → Type 0
IsReadSo (Ok plan) = Unit {0}
IsReadSo (Err f) = IsTextless f

chosen : (b : Bool) (plan : Plan) → IsReadSo (if b then Ok plan else Err fault.BadSelection)
chosen true plan = tt
chosen false plan = tt

in_mode : (m : Option Mode) (rows : List Row) → IsReadSo (plan_in m rows)
in_mode None rows = tt
in_mode (Some mode) rows = chosen (selects_well rows) (plan_made mode rows)

placed : (o : Option ℕ) (m : Option Mode) (rows : List Row) → IsReadSo (plan_where o m rows)
placed (Some place) m rows = tt
placed None m rows = in_mode m rows

textless : (bare : Bool) (rows : List Row) (f : LineFault) → plan_by bare rows ≡ Err f → IsTextless f
unfolding plan_by
textless bare rows f e = subst IsReadSo e (placed (bad_word_in (words_of rows)) (mode_of bare rows) rows)

fails : (words : List Text) (f : LineFault) → fault_of line_app words ≡ [] → (f ≡ fault.Memory) ⊎ (plan_by (is_bare words) (line_rows words) ≡ Err f) → HasFault words f
fails words f none (inl e) = subst (HasFault words) (sym e) tt
fails words (fault.Words text) none (inr e) = absurd (textless _ _ _ e)
fails words (fault.Shown text) none (inr e) = absurd (textless _ _ _ e)
fails words fault.Memory none (inr e) = tt
fails words (fault.BadWord place) none (inr e) = (none, e)
fails words fault.TwoModes none (inr e) = (none, e)
fails words fault.BadSelection none (inr e) = (none, e)

-- the fault of a line, by that of what its words match
pub fault_by_rows : (words : List Text) (bare : Bool) (rows : List Row) (r : Result Plan LineFault) → fault_of line_app words ≡ [] → bare ≡ is_bare words → rows ≡ line_rows words
    → IfErr r (λ f. (f ≡ fault.Memory) ⊎ (plan_by bare rows ≡ Err f)) → IfErr r (HasFault words)
fault_by_rows words bare rows (Ok plan) none empty same h = tt
fault_by_rows words bare rows (Err f) none empty same h =
    fails words f none
    (subst (λ rs. (f ≡ fault.Memory) ⊎ (plan_by (is_bare words) rs ≡ Err f)) same
    (subst (λ b. (f ≡ fault.Memory) ⊎ (plan_by b rows ≡ Err f)) empty h))
