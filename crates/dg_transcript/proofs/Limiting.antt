-- Sessions in order, seen from their end.
use Rattle.std.proofs.Common.{◌≡◌, ℕ, zero, suc, ◌+◌, ◌<◌, Bool, true, false, ◌&&◌, List, [], ◌∷◌, ◌++◌, length, take, get_or, refl, sym, ap, ◌∙◌, arith}
use Rattle.std.proofs.lemmas.Bool.{and_parts}
use Rattle.std.proofs.lemmas.List.{take_more}
use Rattle.dg_transcript.specs.declared.entry.Entry.{Entry}
use Rattle.dg_transcript.specs.declared.line.Place.{Place}
use Rattle.dg_transcript.specs.Order.{role_of, admits, after_role}
use Rattle.dg_transcript.specs.Limits.{in_order}

-- the place after entries
abbrev pub place_from : Place → List Entry → Place
place_from p [] = p
place_from p (e ∷ es) = place_from (after_role (role_of e)) es

and_assoc : (a b c : Bool) → ((a && b) && c) ≡ (a && (b && c))
and_assoc true b c = refl
and_assoc false b c = refl

pub in_order-append : (p : Place) (es fs : List Entry) → in_order p (es ++ fs) ≡ (in_order p es && in_order (place_from p es) fs)
in_order-append p [] fs = refl
in_order-append p (e ∷ es) fs = ap (λ t. admits p (role_of e) && t) (in_order-append (after_role (role_of e)) es fs) ∙ sym (and_assoc (admits p (role_of e)) (in_order (after_role (role_of e)) es) (in_order (place_from (after_role (role_of e)) es) fs))

pub place_from-push : (p : Place) (es : List Entry) (e : Entry) → place_from p (es ++ e ∷ []) ≡ after_role (role_of e)
place_from-push p [] e = refl
place_from-push p (x ∷ es) e = place_from-push (after_role (role_of x)) es e

-- an entry that may not come
pub refused : (p : Place) (es : List Entry) (i : ℕ) (d : Entry) → i < length es → admits (place_from p (take i es)) (role_of (get_or es i d)) ≡ false → in_order p es ≡ true → ⊥
refused p [] i d lt not_here so = omega arith
refused p (e ∷ es) zero d lt not_here so = let can = (and_parts (admits p (role_of e)) (in_order (after_role (role_of e)) es) so).0 in cc
refused p (e ∷ es) (suc i) d lt not_here so = refused (after_role (role_of e)) es i d (omega arith) not_here (and_parts (admits p (role_of e)) (in_order (after_role (role_of e)) es) so).1

-- one more entry
pub one_more : (p : Place) (es : List Entry) (i : ℕ) (d : Entry) → i < length es → in_order p (take i es) ≡ true → admits (place_from p (take i es)) (role_of (get_or es i d)) ≡ true → in_order p (take (i + 1) es) ≡ true
one_more p es i d lt so_far here = ap (in_order p) (take_more es i d lt) ∙ in_order-append p (take i es) (get_or es i d ∷ []) ∙ rw (so_far, here) refl

pub place_more : (p : Place) (es : List Entry) (i : ℕ) (d : Entry) → i < length es → after_role (role_of (get_or es i d)) ≡ place_from p (take (i + 1) es)
place_more p es i d lt = sym (ap (place_from p) (take_more es i d lt) ∙ place_from-push p (take i es) (get_or es i d))
