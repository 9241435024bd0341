-- Steps of the loop over the parts of a format.
use Rattle.std.proofs.Common.{◌≡◌, ℕ, List, [], ◌∷◌, ◌++◌, length, refl, ap, ◌∙◌, Err, arith}
use Rattle.std.specs.Prelude.{codes}
use Rattle.dg_cmds.specs.declared.fault.CmdFault.TheVariants.{Tcl}
use Rattle.dg_bytes.specs.Chain.{◌>>=◌}
use Rattle.dg_cmds.specs.Answers.{limited}
use Rattle.dg_cmds.specs.Formats.{with_parts, with_field}

pub plain-step : (text part plain : List ℕ) (parts later rest values : List (List ℕ)) → parts ≡ part ∷ later → part ≡ [] → later ≡ plain ∷ rest
    → with_parts text parts values ≡ (limited (text ++ 37 ∷ plain) >>= λ longer. with_parts longer rest values)
plain-step text part plain parts later rest values e f g =
    ap (λ (ps : List (List ℕ)). with_parts text ps values)
    (e ∙ (ap (λ (p : List ℕ). p ∷ later) f ∙ ap (λ (ls : List (List ℕ)). [] ∷ ls) g))

-- a part that is a field
field-at : (text part v : List ℕ) (later others : List (List ℕ)) → (length part ≡ 0 → length later ≡ 0)
    → with_parts text (part ∷ later) (v ∷ others) ≡ (with_field text part v >>= λ longer. with_parts longer later others)
field-at text [] v [] others h = refl
field-at text [] v (plain ∷ rest) others h = absurd (omega (arith, h refl))
field-at text (b ∷ bs) v later others h = refl

pub field-step : (text part v : List ℕ) (parts later values others : List (List ℕ)) → parts ≡ part ∷ later → (length part ≡ 0 → length later ≡ 0) → values ≡ v ∷ others
    → with_parts text parts values ≡ (with_field text part v >>= λ longer. with_parts longer later others)
field-step text part v parts later values others e h g =
    ap (λ (ps : List (List ℕ)). with_parts text ps values) e
    ∙ (ap (λ (vs : List (List ℕ)). with_parts text (part ∷ later) vs) g ∙ field-at text part v later others h)

none-at : (text part : List ℕ) (later values : List (List ℕ)) → (length part ≡ 0 → length later ≡ 0) → length values ≡ 0
    → with_parts text (part ∷ later) values ≡ Err (Tcl (codes "not enough arguments for all format specifiers"))
none-at text part later (v ∷ others) h none = absurd (omega arith)
none-at text [] [] [] h none = refl
none-at text [] (plain ∷ rest) [] h none = absurd (omega (arith, h refl))
none-at text (b ∷ bs) later [] h none = refl

pub none-step : (text part : List ℕ) (parts later values : List (List ℕ)) → parts ≡ part ∷ later → (length part ≡ 0 → length later ≡ 0) → length values ≡ 0
    → with_parts text parts values ≡ Err (Tcl (codes "not enough arguments for all format specifiers"))
none-step text part parts later values e h none = ap (λ (ps : List (List ℕ)). with_parts text ps values) e ∙ none-at text part later values h none
