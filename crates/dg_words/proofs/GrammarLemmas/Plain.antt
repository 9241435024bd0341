-- Where a bracket or an index is one too many, a dot could stand.
use Rattle.std.specs.Prelude.{◌≡◌, ◌≢◌, ℕ, ◌+◌, List, [], ◌∷◌, ◌++◌, length, refl, Ok, None, nat_lt}
use Rattle.std.proofs.Common.{inl, inr, ◌∙◌, ap, sym, subst}
use Rattle.dg_lists.specs.declared.fault.WordFault.{WordFault}
use Rattle.dg_lists.specs.declared.fault.WordFault.TheVariants as fault
use Rattle.dg_lists.specs.declared.kinds.Class.{Class}
use Rattle.dg_lists.specs.declared.kinds.Class.TheVariants as class
use Rattle.dg_lists.specs.declared.kinds.Effect.TheVariants as effect
use Rattle.dg_lists.specs.declared.kinds.Delimiter.{Delimiter}
use Rattle.dg_lists.specs.declared.kinds.Delimiter.TheVariants as delimiter
use Rattle.dg_lists.specs.declared.kinds.Escape.{Escape}
use Rattle.dg_lists.specs.declared.kinds.Escape.TheVariants.{Octal, Byte, Short, Long}
use Rattle.dg_words.specs.declared.kinds.Level.{Level}
use Rattle.dg_words.specs.declared.kinds.Level.TheVariants as level
use Rattle.dg_lists.specs.declared.kinds.Mode.{Mode}
use Rattle.dg_lists.specs.declared.kinds.Mode.TheVariants as mode
use Rattle.dg_lists.specs.declared.kinds.Target.TheVariants as target
use Rattle.dg_words.specs.declared.word.Word.{Word}
use Rattle.dg_lists.specs.Classes.{class_of}
use Rattle.dg_words.specs.Transitions.{heard}
use Rattle.dg_lists.specs.Transitions.{behind_number, does, with_digit}
use Rattle.dg_words.specs.Transitions.{after, behind, behind_pair, in_context, numbered, transition}
use Rattle.dg_words.specs.Machine.{Go, Fails, Stepped, Over, State, level_in, onward, read, step}
use Rattle.dg_words.proofs.GrammarLemmas.Reads.{IsRead}
use Rattle.dg_lists.proofs.GrammarLemmas.Endable.{dot_is, no_dot}
use Rattle.dg_words.proofs.GrammarLemmas.GoOn.{FineStep, closing, fine_step}
use Rattle.dg_words.proofs.GrammarLemmas.Missing.{IsAt, fail_step}
use Rattle.dg_lists.proofs.GrammarLemmas.Numbers.{number}
use Rattle.dg_words.proofs.GrammarLemmas.Segments.{step_by}
use Rattle.dg_words.proofs.GrammarLemmas.Trails.{Cause, IsNested, Reached, cause}
use Rattle.dg_words.proofs.GrammarLemmas.Wrong.{bad_take}

-- a byte that opens: behind a word it cannot stand, and it is no digit
pub record OpensOne (b : ℕ) : Type 0 where
  pub class : Class
  pub is : class_of b ≡ class
  pub behind_word : (l : Level) (d : Delimiter) → l ≢ level.Alone → behind l d (heard l class) ≡ does effect.Nothing (target.Bad (after d))
  pub behind_slash : (d : Delimiter) → behind_pair d class ≡ does effect.Nothing (target.Bad (after d))
  pub no_digit : (e : Escape) (left v : ℕ) → with_digit (number e left v) b ≡ None

bracket_word : (l : Level) (d : Delimiter) → l ≢ level.Alone → behind l d (heard l class.LeftBracket) ≡ does effect.Nothing (target.Bad (after d))
bracket_word level.Top d n = refl
bracket_word level.List d n = refl
bracket_word level.Inside d n = refl
bracket_word level.Alone d n = absurd (n refl)

paren_word : (l : Level) (d : Delimiter) → l ≢ level.Alone → behind l d (heard l class.LeftParen) ≡ does effect.Nothing (target.Bad (after d))
paren_word level.Top d n = refl
paren_word level.List d n = refl
paren_word level.Inside d n = refl
paren_word level.Alone d n = absurd (n refl)

no_bracket : (e : Escape) (left v : ℕ) → with_digit (number e left v) 91 ≡ None
no_bracket Octal left v = refl
no_bracket Byte left v = refl
no_bracket Short left v = refl
no_bracket Long left v = refl

no_paren : (e : Escape) (left v : ℕ) → with_digit (number e left v) 40 ≡ None
no_paren Octal left v = refl
no_paren Byte left v = refl
no_paren Short left v = refl
no_paren Long left v = refl

pub bracket_opens : OpensOne 91
unfolding class_of
bracket_opens = record { class = class.LeftBracket; is = refl; behind_word = bracket_word; behind_slash = λ d. refl; no_digit = no_bracket }

pub paren_opens : OpensOne 40
unfolding class_of
paren_opens = record { class = class.LeftParen; is = refl; behind_word = paren_word; behind_slash = λ d. refl; no_digit = no_paren }

-- where it is refused for its nesting, no other cause stands
fault_in : WordFault → Stepped → WordFault
fault_in f (Fails g) = g
fault_in f m = f

fails_same : {f g : WordFault} → ◌≡◌ {A = Stepped} (Fails f) (Fails g) → f ≡ g
unfolding fault_in
fails_same {f = f} e = ap (fault_in f) e

nested_after : (d : Delimiter) → IsNested (after d) → ⊥
nested_after delimiter.Brace h = h
nested_after delimiter.Quote h = h

nested_dot : (f : WordFault) → IsNested f → IsAt class.Plain f → ⊥
nested_dot fault.MissingBracket n h = absurd cc
nested_dot fault.MissingParen n h = absurd cc
nested_dot f n h = n

nested_bad : (l : Level) (s : State) (k : Mode) (b : ℕ) (c : Class) (f g : WordFault) → class_of b ≡ c → s.mode ≡ k → transition (level_in l s.inner) (nat_lt 0 s.depth) k c b ≡ does effect.Nothing (target.Bad g) → step l s b ≡ Fails f → f ≡ g
nested_bad l s k b c f g i e t h =
    let x = subst (λ m. transition (level_in l s.inner) (nat_lt 0 s.depth) m c b ≡ does effect.Nothing (target.Bad g)) (sym e) t in
    fails_same (sym h ∙ step_by l s b c _ i x ∙ bad_take s.depth s.inner s.draft b g)

dot_stands : (l : Level) (s : State) (b : ℕ) (f g : WordFault) (k : Mode) → OpensOne b → IsNested f → step l s b ≡ Fails f → s.mode ≡ k → Cause (level_in l s.inner) 46 k g → ⊥
unfolding transition
dot_stands l s b f g k o n h e (Cause.behind_word d x y) =
    nested_after d (subst IsNested (nested_bad l s (mode.Behind d) b o.class f (after d) o.is e (o.behind_word (level_in l s.inner) d x) h) n)
dot_stands l s b f g k o n h e (Cause.behind_backslash d y) = nested_after d (subst IsNested (nested_bad l s (mode.BehindPair d) b o.class f (after d) o.is e (o.behind_slash d) h) n)
dot_stands l s b f g k o n h e (Cause.last_digit t x v i j w) = let y = sym (no_dot x.escape x.left x.value) ∙ j in absurd cc
dot_stands l s b f g k o n h e (Cause.no_digit t x w) =
    subst IsNested (nested_bad l s (mode.Number t x) b o.class f fault.BadCodePoint o.is e
    (ap (λ y. numbered (level_in l s.inner) t x o.class b y) (o.no_digit x.escape x.left x.value) ∙ ap (λ y. behind_number y (in_context (level_in l s.inner) t o.class b)) w) h) n

no_fault : (l : Level) (m : Mode) (front : List ℕ) (s : State) (b : ℕ) (f g : WordFault) → Reached l m front s → OpensOne b → IsNested f → step l s b ≡ Fails f → step l s 46 ≡ Fails g → ⊥
no_fault l m front s b f g r o n h e = elim (cause l m front s 46 g r e) [
  | inl x ↦ nested_dot g x (subst (λ c. IsAt c g) dot_is (fail_step l s 46 g e))
  | inr c ↦ dot_stands l s b f g s.mode o n h refl c
]

dot_over : (l : Level) (s : State) (ws : List Word) (k p : ℕ) → step l s 46 ≡ Over ws k → read l (46 ∷ []) s p ≡ Ok (ws, p + k)
unfolding read
dot_over l s ws k p e = ap (λ m. onward m p (λ n. read l [] n (p + 1))) e

dot_goes : (l : Level) (s n : State) (bs : List ℕ) (p : ℕ) → step l s 46 ≡ Go n → read l (46 ∷ bs) s p ≡ read l bs n (p + 1)
unfolding read
dot_goes l s n bs p e = ap (λ m. onward m p (λ k. read l bs k (p + 1))) e

pub plain : (l : Level) (m : Mode) (front : List ℕ) (s : State) (b : ℕ) (f : WordFault) → Reached l m front s → OpensOne b → IsNested f → step l s b ≡ Fails f → (more : List ℕ) × IsRead l m (front ++ 46 ∷ more)
plain l m front s b f r o n h = by (step l s 46) refl
  where
    by : (v : Stepped) → step l s 46 ≡ v → (more : List ℕ) × IsRead l m (front ++ 46 ∷ more)
    by (Go k) e =
        let c = closing l k.inner k.mode k.depth k.draft (subst FineStep e (fine_step l s 46 r.fine)) in
        let z = c.closes (0 + length front + 1) in
        (c.bytes, (c.words, z.0, (r.leads (46 ∷ c.bytes)).on 0 ∙ dot_goes l s k c.bytes (0 + length front) e ∙ z.1))
    by (Over ws k) e = ([], (ws, 0 + length front + k, (r.leads (46 ∷ [])).on 0 ∙ dot_over l s ws k (0 + length front) e))
    by (Fails g) e = absurd (no_fault l m front s b f g r o n h e)
