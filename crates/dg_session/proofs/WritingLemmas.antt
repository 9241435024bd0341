-- What writes one after the other leave.
use Rattle.std.proofs.Common.{◌≡◌, ℕ, ◌+◌, ◌-◌, ◌≤◌, List, ◌++◌, length, take, drop, Option, sym, ap, subst, ◌∙◌, arith, take-add, take_all, le_refl, take-append-drop}
use Rattle.std.proofs.lemmas.List.{drop-take, append_assoc}
use Rattle.std.proofs.Math.Seq.{take-append_seam}
use Rattle.std.proofs.KnownBytes.{Appends-trans, Appends-kept}
use Rattle.std.specs.Io.KnownBytes.{Appends, Keeps}
use Rattle.dg_session.specs.Session.{AppendsFront}

rest_of : (bs : List ℕ) (at : ℕ) → at ≤ length bs → take (length bs - at) (drop at bs) ≡ drop at bs
rest_of bs at h =
    let all : at + (length bs - at) ≡ length bs = omega arith in
    sym (drop-take at (length bs - at) bs) ∙ ap (λ k. drop at (take k bs)) all ∙ ap (drop at) (take_all (length bs) bs (le_refl _))

-- n bytes after the first ones
pub writes_more : (old mid new : Option (List ℕ)) (bs : List ℕ) (at n next : ℕ) → at ≤ length bs → Appends old mid (take at bs) → Appends mid new (take n (take (length bs - at) (drop at bs))) → next ≡ at + n → Appends old new (take next bs)
writes_more old mid new bs at n next h p q e =
    subst (Appends old new) (sym (ap (λ k. take k bs) e ∙ take-add at n bs))
    (Appends-trans old mid new _ _ p (subst (λ l. Appends mid new (take n l)) (rest_of bs at h) q))

-- a write that failed left them
pub writes_none : (old mid new : Option (List ℕ)) (bs : List ℕ) (at next : ℕ) → Appends old mid (take at bs) → Keeps mid new → next ≡ at → Appends old new (take next bs)
writes_none old mid new bs at next p q e = subst (λ k. Appends old new (take k bs)) (sym e) (Appends-kept old mid new _ p q)

-- bytes with more after them are a front
pub front_of : (old new : Option (List ℕ)) (bs more all : List ℕ) → Appends old new bs → bs ++ more ≡ all → AppendsFront old new all
front_of old new bs more all p e = (length bs, subst (Appends old new) (sym (ap (take (length bs)) (sym e) ∙ take-append_seam bs more)) p)

-- a front of a first part
pub front_first : (old new : Option (List ℕ)) (first line more : List ℕ) → AppendsFront old new first → first ≡ line → AppendsFront old new (line ++ more)
front_first old new first line more (k, p) e =
    front_of old new (take k first) (drop k first ++ more) (line ++ more) p
    (sym (append_assoc (take k first) (drop k first) more) ∙ ap (λ t. t ++ more) (take-append-drop k first ∙ e))

-- a first part, and then a front of a second one
pub front_second : (old mid new : Option (List ℕ)) (first line second report : List ℕ) → Appends old mid first → first ≡ line → AppendsFront mid new second → second ≡ report → AppendsFront old new (line ++ report)
front_second old mid new first line second report p e (k, q) f =
    front_of old new (first ++ take k second) (drop k second) (line ++ report) (Appends-trans _ _ _ _ _ p q)
    (append_assoc first (take k second) (drop k second) ∙ ap (λ t. first ++ t) (take-append-drop k second ∙ f) ∙ ap (λ t. t ++ report) e)
