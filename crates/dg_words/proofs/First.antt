-- A fault is the first, and a command ends where it does: what follows has no part in it.
use Rattle.std.specs.Prelude.{◌≡◌, ℕ, ◌+◌, List, [], ◌∷◌, ◌++◌, length, refl, ◌⊎◌, Result, Ok, Err}
use Rattle.std.proofs.Common.{arith, sym, ◌∙◌, ap, inl, inr}
use Rattle.dg_lists.specs.declared.fault.WordFault.{WordFault}
use Rattle.dg_words.specs.declared.kinds.Level.{Level}
use Rattle.dg_words.specs.declared.kinds.Level.TheVariants.{Top}
use Rattle.dg_lists.specs.declared.kinds.Mode.TheVariants.{Start}
use Rattle.dg_words.specs.declared.word.Word.{Word}
use Rattle.dg_words.specs.Machine.{Stepped, Go, Over, Fails, State, Answer, onward, stopped, step, stop, read, fresh}
use Rattle.dg_words.specs.First.{FirstCommand, FirstFault}

err_of : WordFault × ℕ → Answer → WordFault × ℕ
err_of d (Ok x) = d
err_of d (Err e) = e

ok_of : List Word × ℕ → Answer → List Word × ℕ
ok_of d (Ok x) = x
ok_of d (Err e) = d

-- what was told at a byte or at the end, from a state on
record Told (l : Level) (s : State) (text : List ℕ) (p : ℕ) (a : Answer) : Type 0 where
  front : List ℕ
  why : ((text ≡ front) × ((r : Result (List Word) WordFault) × (a ≡ stopped r (p + length front))))
      ⊎ ((b : ℕ) × (rest : List ℕ) × (text ≡ front ++ b ∷ rest) × ((more : List ℕ) → read l (front ++ b ∷ more) s p ≡ a) × ((f : WordFault) (q : ℕ) → a ≡ Err (f, q) → q ≡ p + length front))

further : (l : Level) (s n : State) (b : ℕ) (bs : List ℕ) (p : ℕ) (a : Answer) → step l s b ≡ Go n → Told l n bs (p + 1) a → Told l s (b ∷ bs) p a
unfolding read
further l s n b bs p a e t = record {
  front = b ∷ t.front;
  why = elim t.why [
    | inl (x, (r, y)) ↦ inl (ap (λ u. b ∷ u) x, (r, y ∙ ap (λ q. stopped r q) (omega arith)))
    | inr (c, rest, x, y, z) ↦ inr (c, rest, ap (λ u. b ∷ u) x, (λ more. ap (λ m. onward m p (λ k. read l (t.front ++ c ∷ more) k (p + 1))) e ∙ y more), λ f q h. omega (arith, z f q h))
  ];
}

err_place : (f : WordFault) (p q : ℕ) (g : WordFault) → ◌≡◌ {A = Answer} (Err (f, p)) (Err (g, q)) → q ≡ p
unfolding err_of
err_place f p q g e = sym (ap (λ a. (err_of (f, p) a).1) e)

turned : (l : Level) (s : State) (b : ℕ) (bs : List ℕ) (p : ℕ) (m : Stepped) → step l s b ≡ m → ((n : State) → Told l n bs (p + 1) (read l bs n (p + 1))) →
    Told l s (b ∷ bs) p (onward m p (λ n. read l bs n (p + 1)))
unfolding read
turned l s b bs p (Go n) e rec = further l s n b bs p (read l bs n (p + 1)) e (rec n)
turned l s b bs p (Over ws k) e rec = record { front = []; why = inr (b, bs, refl, (λ more. ap (λ m. onward m p (λ n. read l more n (p + 1))) e), λ f q h. absurd cc) }
turned l s b bs p (Fails g) e rec = record { front = []; why = inr (b, bs, refl, (λ more. ap (λ m. onward m p (λ n. read l more n (p + 1))) e), λ f q h. omega (arith, err_place g p q f h)) }

told : (l : Level) (text : List ℕ) (s : State) (p : ℕ) → Told l s text p (read l text s p)
unfolding read
told l [] s p = record { front = []; why = inl (refl, (stop s, ap (λ q. stopped (stop s) q) (omega arith))) }
told l (b ∷ bs) s p = turned l s b bs p (step l s b) refl (λ n. told l bs n (p + 1))

end_fault : (r : Result (List Word) WordFault) (p q : ℕ) (f : WordFault) → stopped r p ≡ Err (f, q) → q ≡ p
end_fault (Ok ws) p q f e = absurd cc
end_fault (Err g) p q f e = err_place g p q f e

end_command : (r : Result (List Word) WordFault) (p q : ℕ) (ws : List Word) → stopped r p ≡ Ok (ws, q) → q ≡ p
unfolding ok_of
end_command (Ok vs) p q ws e = sym (ap (λ a. (ok_of (vs, p) a).1) e)
end_command (Err g) p q ws e = absurd cc

pub first_fault : (text : List ℕ) (f : WordFault) (q : ℕ) → read Top text (fresh Start) 0 ≡ Err (f, q) → FirstFault text f q
first_fault text f q e =
    let t = told Top text (fresh Start) 0 in
    elim t.why as (λ _. FirstFault text f q) [
      | inl (x, (r, y)) ↦ record { front = t.front; place_is = omega (arith, end_fault r (0 + length t.front) q f (sym y ∙ e)); why = inl x }
      | inr (b, rest, x, y, z) ↦ record { front = t.front; place_is = omega (arith, z f q e); why = inr (b, rest, x, λ more. y more ∙ e) }
    ]

pub first_command : (text : List ℕ) (ws : List Word) (q : ℕ) → read Top text (fresh Start) 0 ≡ Ok (ws, q) → FirstCommand text ws q
first_command text ws q e =
    let t = told Top text (fresh Start) 0 in
    elim t.why as (λ _. FirstCommand text ws q) [
      | inl (x, (r, y)) ↦ record { front = t.front; why = inl (x, omega (arith, end_command r (0 + length t.front) q ws (sym y ∙ e))) }
      | inr (b, rest, x, y, z) ↦ record { front = t.front; why = inr (b, rest, x, λ more. y more ∙ e) }
    ]
