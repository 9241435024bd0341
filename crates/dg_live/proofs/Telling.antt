-- The sessions with one entry more, and reads with one more.
use Rattle.std.proofs.Common.{◌≡◌, ℕ, zero, suc, ◌+◌, ◌<◌, ◌≤◌, List, [], ◌∷◌, ◌++◌, length, set, get_or, take, refl, ap, ◌∙◌, arith}
use Rattle.std.proofs.lemmas.List.{take_more}
use Rattle.dg_transcript.specs.declared.entry.Entry.{Entry}
use Rattle.dg_world.specs.declared.question.Read.{Read}
use Rattle.dg_living.specs.Living.{with_entry}
use Rattle.dg_living.specs.Replayed.{told_entry, told_entries, transcript_of}

pub entry-set : (i : ℕ) (e : Entry) (ss : List (List Entry)) (d : List Entry) → i < length ss → with_entry i e ss ≡ set ss i (get_or ss i d ++ e ∷ [])
entry-set i e [] d lt = absurd (omega arith)
entry-set zero e (es ∷ ss) d lt = refl
entry-set (suc i) e (es ∷ ss) d lt = ap (λ xs. es ∷ xs) (entry-set i e ss d (omega arith))

pub entry-push : (i : ℕ) (e : Entry) (ss : List (List Entry)) → length ss ≤ i → with_entry i e ss ≡ ss ++ (e ∷ []) ∷ []
entry-push i e [] le = refl
entry-push zero e (es ∷ ss) le = absurd (omega arith)
entry-push (suc i) e (es ∷ ss) le = ap (λ xs. es ∷ xs) (entry-push i e ss (omega arith))

pub told-push : (ss : List (List Entry)) (rs : List Read) (r : Read) → told_entries ss (rs ++ r ∷ []) ≡ told_entry r.question r.answer (told_entries ss rs)
told-push ss [] r = refl
told-push ss (x ∷ rs) r = told-push (told_entry x.question x.answer ss) rs r

pub transcript-more : (rs : List Read) (i : ℕ) (r : Read) → i < length rs
    → transcript_of (take (i + 1) rs) ≡ told_entry (get_or rs i r).question (get_or rs i r).answer (transcript_of (take i rs))
transcript-more rs i r lt = ap transcript_of (take_more rs i r lt) ∙ told-push [] (take i rs) (get_or rs i r)
