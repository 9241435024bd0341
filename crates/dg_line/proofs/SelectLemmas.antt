-- What a plan and a fault say of what is selected.
use Rattle.std.proofs.Common.{◌≡◌, ℕ, Bool, false, List, [], ◌∷◌, if◌then◌else◌, None, Result, ap, ap₂, ◌∙◌, sym, refl, true≢false, ◌<◌, ◌+◌, ◌++◌, length, map, take, get_or, Bor, ◌&&◌, subst, true}
use Rattle.std.specs.List.{list_all}
use Rattle.std.specs.Str.{is_utf8, IsUtf8}
use Rattle.std.proofs.lemmas.Str.{is_utf8-from_IsUtf8, IsUtf8-from_is_utf8}
use Rattle.std.proofs.lemmas.Grind.{take_at_read}
use Rattle.std.proofs.lemmas.List.{map-append}
use Rattle.std.proofs.lemmas.List.Folds.{list_all-append, list_all_at}
use Rattle.clap.specs.Kinds.{IsAmong, Kinds}
use Rattle.clap.specs.Faults.{fault_of}
use Rattle.clap.specs.declared.error.kind.ErrorKind.{ErrorKind}
use Rattle.dg_line.specs.Options.{line_app}
use Rattle.dg_line.specs.Plan.{HasFault, is_memory, planned}
use Rattle.dg_line.specs.Select.{selected_in, selection_by}
use Rattle.dg_line.specs.declared.plan.Plan.{Plan}
use Rattle.dg_line.specs.declared.fault.LineFault.{LineFault}
use Rattle.dg_line.specs.declared.fault.LineFault.TheVariants as fault

text : (words : List (List ℕ)) → list_all is_utf8 words ≡ true → selected_in (fault_of line_app words) (planned words) ≡ selection_by words
unfolding selection_by
text words e = ap (λ b. if b then selected_in (fault_of line_app words) (planned words) else None) (sym e)

refused : (kind : ErrorKind) (kinds : Kinds) (read : Result Plan LineFault) → IsAmong kind kinds → None ≡ selected_in kinds read
refused kind [] read h = absurd h
refused kind (k ∷ ks) read h = refl

-- words with a fault
pub selects_by_fault : (words : List (List ℕ)) (f : LineFault) → list_all is_utf8 words ≡ true → HasFault words f → is_memory f ≡ false → None ≡ selection_by words
selects_by_fault words (fault.Words t) e (kind, among, asks) other = refused kind _ (planned words) among ∙ text words e
selects_by_fault words (fault.Shown t) e (kind, among, asks) other = refused kind _ (planned words) among ∙ text words e
selects_by_fault words fault.Memory e h other = absurd (true≢false other)
selects_by_fault words (fault.BadWord place) e (none, read) other = sym (ap₂ selected_in none read) ∙ text words e
selects_by_fault words fault.TwoModes e (none, read) other = sym (ap₂ selected_in none read) ∙ text words e
selects_by_fault words fault.BadSelection e (none, read) other = sym (ap₂ selected_in none read) ∙ text words e

is_no_text : (bytes : List ℕ) → (IsUtf8 bytes → ⊥) → is_utf8 bytes ≡ false
is_no_text bytes none = go (is_utf8 bytes) refl
  where
    go : (b : Bool) → is_utf8 bytes ≡ b → is_utf8 bytes ≡ false
    go true e = absurd (none (IsUtf8-from_is_utf8 bytes e))
    go false e = e

-- a word that is no text
pub no_text_at : (words : List (List ℕ)) (i : ℕ) (word bytes : List ℕ) → i < length words → word ≡ get_or words i word → bytes ≡ word → (IsUtf8 bytes → ⊥) → list_all is_utf8 words ≡ false
no_text_at words i word bytes at is same none =
    list_all_at is_utf8 words i word at (ap is_utf8 (sym is ∙ sym same) ∙ is_no_text bytes none)

-- one more word that is a text
pub text_at : (words : List (List ℕ)) (texts more : List (Bor (List ℕ))) (i : ℕ) (word bytes : List ℕ) (t : Bor (List ℕ)) → i < length words → word ≡ get_or words i word → bytes ≡ word
    → (t.now ≡ bytes) × IsUtf8 bytes → more ≡ texts ++ t ∷ [] → (map (λ w. w.now) texts ≡ take i words) × (list_all is_utf8 (take i words) ≡ true)
    → (map (λ w. w.now) more ≡ take (i + 1) words) × (list_all is_utf8 (take (i + 1) words) ≡ true)
text_at words texts more i word bytes t at is same (now, good) grown (so_far, all) =
    let next : take (i + 1) words ≡ take i words ++ word ∷ [] =
    (take_at_read words i word at).1 ∙ ap (λ w. take i words ++ w ∷ []) (sym is) in (
      ap (map (λ (w : Bor (List ℕ)). w.now)) grown ∙ map-append (λ (w : Bor (List ℕ)). w.now) texts (t ∷ [])
          ∙ ap₂ (λ a w. a ++ w ∷ []) so_far (now ∙ same) ∙ sym next,
      ap (list_all is_utf8) next ∙ list_all-append is_utf8 (take i words) (word ∷ [])
          ∙ ap₂ (λ a b. a && (b && true)) all (is_utf8-from_IsUtf8 word (subst IsUtf8 same good)),
    )
