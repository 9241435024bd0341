-- Places of entries that are the same are equal.
use Rattle.std.proofs.Common.{◌≡◌, ℕ, Bool, true, false, ◌&&◌, ◌==◌, refl, sym, ◌∙◌, arith}
use Rattle.std.proofs.lemmas.Bool.{and_parts, and_from, eqb-true, eq-eqb}
use Rattle.std.proofs.lemmas.Bool.Decides.{nat_tests}
use Rattle.std.specs.Prelude.{nat_eq}
use Rattle.std.specs.Cmp.Lexicographic.{pointwise, nat_list_eq_equiv, same_text}
use Rattle.dg_world.specs.declared.question.EntryPlace.{EntryPlace}
use Rattle.dg_world.specs.Question.{same_place}
use Rattle.dg_world.specs.Test.{same_test}

pub same_place-refl : (p : EntryPlace) → same_place p p ≡ true
same_place-refl p =
    and_from _ _
    (and_from _ _ (and_from _ _ (nat_list_eq_equiv.refl p.test.script) (nat_list_eq_equiv.refl p.test.board)) (eq-eqb p.session p.session refl))
    (eq-eqb p.place p.place refl)

pub same_place-true : (p q : EntryPlace) → same_place p q ≡ true → p ≡ q
same_place-true p q h =
    let parts = and_parts (same_test p.test q.test && (p.session == q.session)) (p.place == q.place) h in
    let both = and_parts (same_test p.test q.test) (p.session == q.session) parts.0 in
    let test = and_parts (pointwise nat_eq p.test.script q.test.script) (pointwise nat_eq p.test.board q.test.board) both.0 in
    λ i. record {
      test = record { board = same_text p.test.board q.test.board (sym test.1) i; script = same_text p.test.script q.test.script (sym test.0) i };
      session = eqb-true p.session q.session both.1 i;
      place = eqb-true p.place q.place parts.1 i;
    }

eqb-symm : (m n : ℕ) → (m == n) ≡ (n == m)
eqb-symm m n = grind (arith, nat_tests)

and_assoc : (x y z : Bool) → (x && (y && z)) ≡ ((x && y) && z)
and_assoc true y z = refl
and_assoc false y z = refl

-- the parts of two places are equal where those are the same the other way round
pub equal_place : (p q : EntryPlace) → (same_test p.test q.test && ((p.session == q.session) && (p.place == q.place))) ≡ same_place q p
equal_place p q =
    and_assoc (same_test p.test q.test) (p.session == q.session) (p.place == q.place)
    ∙ (λ i.
    ((nat_list_eq_equiv.symm p.test.script q.test.script i && nat_list_eq_equiv.symm p.test.board q.test.board i)
    && eqb-symm p.session q.session i)
    && eqb-symm p.place q.place i)
