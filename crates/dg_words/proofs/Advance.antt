-- The reading of a command gets on, and its faults are the text's own.
use Rattle.std.specs.Prelude.{◌≡◌, ◌≢◌, ℕ, ◌+◌, ◌≤◌, ◌<◌, List, [], ◌∷◌, length, drop, refl, Result, Ok, Err, Bool, true, false, ◌⊎◌, MatchResult, IfOk, nat_lt}
use Rattle.std.proofs.Common.{arith, subst, sym, ap, inl, inr, length-drop}
use Rattle.dg_lists.specs.declared.fault.WordFault.{WordFault}
use Rattle.dg_lists.specs.declared.fault.WordFault.TheVariants.{Memory}
use Rattle.dg_lists.specs.declared.kinds.Class.{Class}
use Rattle.dg_lists.specs.declared.kinds.Class.TheVariants as class
use Rattle.dg_words.specs.declared.kinds.Level.{Level}
use Rattle.dg_words.specs.declared.kinds.Level.TheVariants as level
use Rattle.dg_lists.specs.declared.kinds.Context.{Context}
use Rattle.dg_lists.specs.declared.kinds.Mode.TheVariants.{Start, Gap, Operand}
use Rattle.dg_lists.specs.declared.kinds.Target.{Target}
use Rattle.dg_lists.specs.declared.kinds.Target.TheVariants as target
use Rattle.dg_words.specs.declared.word.Parsed.{Parsed}
use Rattle.dg_words.specs.declared.word.Word.{Word}
use Rattle.dg_lists.specs.Classes.{class_of}
use Rattle.dg_words.specs.Transitions.{heard}
use Rattle.dg_words.specs.Transitions.{transition, ends, in_start}
use Rattle.dg_words.specs.Machine.{Draft, Stepped, Go, Over, Fails, State, Answer, onward, stopped, step, stop, read, fresh, follow, has_room, opens, leaves_index}
use Rattle.dg_words.specs.Reading.{kind_of, words_only, command_at, words_of, operand_at}
use Rattle.dg_words.specs.Answers.{ReadsAs}
use Rattle.dg_words.proofs.Loop.{Falls, step_falls}
use Rattle.dg_words.proofs.Kept.{Kept, Keeps, step_keeps, fresh_kept}

ok_place : (d : ℕ) (a : Answer) → ℕ
ok_place d (Ok x) = x.1
ok_place d (Err e) = d

ok_words : List Word → Answer → List Word
ok_words d (Ok x) = x.0
ok_words d (Err e) = d

-- where a reading ends
halted : (r : Result (List Word) WordFault) (p q : ℕ) (ws : List Word) → stopped r p ≡ Ok (ws, q) → p ≡ q
unfolding ok_place
halted (Ok vs) p q ws e = ap (ok_place p) e
halted (Err f) p q ws e = absurd cc

moved : (d n p q : ℕ) (m : Stepped) (ws : List Word) (more : State → Answer) → Falls d m → ((s : State) → more s ≡ Ok (ws, q) → (p + 1 ≤ q) × (q ≤ p + 1 + n)) →
    onward m p more ≡ Ok (ws, q) → (p ≤ q) × (q ≤ p + 1 + n)
unfolding ok_place
moved d n p q (Go s) ws more f ih e = let h = ih s e in (omega (arith, h.0), omega (arith, h.1))
moved d n p q (Over vs k) ws more f ih e = let same : p + k ≡ q = ap (ok_place p) e in (omega (arith, f), omega (arith, f))
moved d n p q (Fails g) ws more f ih e = absurd cc

pub range : (l : Level) (bs : List ℕ) (s : State) (p q : ℕ) (ws : List Word) → read l bs s p ≡ Ok (ws, q) → (p ≤ q) × (q ≤ p + length bs)
unfolding read
range l [] s p q ws e = let h = halted (stop s) p q ws e in (omega (arith, h), omega (arith, h))
range l (b ∷ bs) s p q ws e =
    let h = moved s.depth (length bs) p q (step l s b) ws (λ n. read l bs n (p + 1)) (step_falls l s b) (λ n r. let k = range l bs n (p + 1) q ws r in (omega (arith, k.0), omega (arith, k.1))) e in
    (omega (arith, h.0), omega (arith, h.1))

-- no command begins by ending before its byte
abbrev Stays : Target → Type 0
Stays target.Rest = ⊥
Stays n = Unit {0}

start_stays : (c : Class) (b : ℕ) → Stays (in_start level.Top (heard level.Top c) b).next
start_stays class.Blank b = tt
start_stays class.Newline b = tt
start_stays class.Semicolon b = tt
start_stays class.Hash b = tt
start_stays class.Quote b = tt
start_stays class.Open b = tt
start_stays class.Backslash b = tt
start_stays class.LeftBracket b = tt
start_stays class.RightBracket b = tt
start_stays class.Dollar b = tt
start_stays c b = tt

transition_stays : (deep : Bool) (c : Class) (b : ℕ) → Stays (transition level.Top deep Start c b).next
unfolding transition
transition_stays deep c b = start_stays c b

abbrev Takes : Stepped → Type 0
Takes (Over ws k) = k ≡ 1
Takes m = Unit {0}

opens_takes : (b : Bool) (f : WordFault) (s : State) → Takes (opens b f s)
opens_takes true f s = tt
opens_takes false f s = tt

leave_takes : (is : List Context) (n : ℕ) (d : Draft) → Takes (leaves_index is n d)
leave_takes [] n d = tt
leave_takes (i ∷ is) n d = tt

follow_takes : (x : Target) (n : ℕ) (d : Draft) → Stays x → Takes (follow x n d)
follow_takes (target.To m) n d h = tt
follow_takes target.Deeper n d h = tt
follow_takes target.Shallower n d h = tt
follow_takes (target.Bracket s) n d h = opens_takes (has_room d []) _ _
follow_takes (target.Paren s) n d h = opens_takes (has_room d []) _ _
follow_takes target.Leave n d h = leave_takes d.indices n d
follow_takes target.End n d h = refl
follow_takes target.Rest n d h = absurd h
follow_takes (target.Bad f) n d h = tt

first_takes : (b : ℕ) → Takes (step level.Top (fresh Start) b)
unfolding step
first_takes b = follow_takes (transition level.Top (nat_lt 0 0) Start (class_of b) b).next 0 _ (transition_stays (nat_lt 0 0) (class_of b) b)

moved_on : (p q : ℕ) (m : Stepped) (ws : List Word) (more : State → Answer) → Takes m → ((s : State) → more s ≡ Ok (ws, q) → p + 1 ≤ q) → onward m p more ≡ Ok (ws, q) → p < q
unfolding ok_place
moved_on p q (Go s) ws more t ih e = omega (arith, ih s e)
moved_on p q (Over vs k) ws more t ih e = let same : p + k ≡ q = ap (ok_place p) e in omega (arith, t)
moved_on p q (Fails g) ws more t ih e = absurd cc

none_left : (p q : ℕ) (ws : List Word) → read level.Top [] (fresh Start) p ≡ Ok (ws, q) → ws ≡ []
unfolding read stop ends ok_words
none_left p q ws e = sym (ap (ok_words []) e)

begun : (bs : List ℕ) (p q : ℕ) (ws : List Word) → read level.Top bs (fresh Start) p ≡ Ok (ws, q) → ws ≢ [] → p < q
unfolding read
begun [] p q ws e ne = absurd (ne (none_left p q ws e))
begun (b ∷ bs) p q ws e ne = moved_on p q (step level.Top (fresh Start) b) ws (λ n. read level.Top bs n (p + 1)) (first_takes b) (λ n r. (range level.Top bs n (p + 1) q ws r).0) e

moved_over : (n p q : ℕ) (m : Stepped) (more : State → Answer) → Keeps m → ((s : State) → Kept s → more s ≡ Ok ([], q) → q ≡ p + 1 + n) → onward m p more ≡ Ok ([], q) → q ≡ p + 1 + n
unfolding ok_words
moved_over n p q (Go s) more k ih e = ih s k e
moved_over n p q (Over vs j) more k ih e = absurd (k (ap (ok_words vs) e))
moved_over n p q (Fails f) more k ih e = absurd cc

all_left : (bs : List ℕ) (s : State) (p q : ℕ) → Kept s → read level.Top bs s p ≡ Ok ([], q) → q ≡ p + length bs
unfolding read
all_left [] s p q k e = let h = halted (stop s) p q [] e in omega (arith, h)
all_left (b ∷ bs) s p q k e =
    let h = moved_over (length bs) p q (step level.Top s b) (λ n. read level.Top bs n (p + 1)) (step_keeps s b k) (λ n kn r. let x = all_left bs n (p + 1) q kn r in omega (arith, x)) e in omega (arith, h)

kind_ok : (a : Answer) (x : List Word × ℕ) → kind_of a ≡ Ok x → a ≡ Ok x
kind_ok (Ok y) x e = cc
kind_ok (Err f) x e = absurd cc

opened : (text : List ℕ) (at next : ℕ) (words : List Word) → command_at text at ≡ Ok (words, next) → read level.Top (drop at text) (fresh Start) at ≡ Ok (words, next)
unfolding command_at
opened text at next words e = kind_ok (read level.Top (drop at text) (fresh Start) at) (words, next) e

-- the place behind a command is within the text
pub next_within : (text : List ℕ) (at next : ℕ) (words : List Word) → at ≤ length text → command_at text at ≡ Ok (words, next) → next ≤ length text
next_within text at next words le e =
    let h = range level.Top (drop at text) (fresh Start) at next words (opened text at next words e) in omega (arith, h.1, length-drop at text, le)

-- it is further on where there are words
pub next_onward : (text : List ℕ) (at next : ℕ) (words : List Word) → command_at text at ≡ Ok (words, next) → words ≢ [] → at < next
next_onward text at next words e ne = begun (drop at text) at next words (opened text at next words e) ne

-- where there are no words nothing is left
pub next_over : (text : List ℕ) (at next : ℕ) (words : List Word) → at ≤ length text → command_at text at ≡ Ok (words, next) → words ≡ [] → next ≡ length text
next_over text at next words le e none =
    let h = all_left (drop at text) (fresh Start) at next fresh_kept (subst (λ ws. read level.Top (drop at text) (fresh Start) at ≡ Ok (ws, next)) none (opened text at next words e)) in
    omega (arith, h, length-drop at text, le)

pub operand_within : (text : List ℕ) (at next : ℕ) (words : List Word) → at ≤ length text → operand_at text at ≡ Ok (words, next) → next ≤ length text
unfolding operand_at
operand_within text at next words le e =
    let h = range level.Alone (drop at text) (fresh Operand) at next words (kind_ok (read level.Alone (drop at text) (fresh Operand) at) (words, next) e) in omega (arith, h.1, length-drop at text, le)

-- the answer of a reader, by what it returned
pub gives_command : (text : List ℕ) (at : ℕ) (r : Result Parsed WordFault) → ReadsAs (λ p. (p.words, p.next)) r (read level.Top (drop at text) (fresh Start) at) →
    MatchResult r (λ p. command_at text at ≡ Ok (p.words, p.next)) (λ f. (f ≡ Memory) ⊎ (command_at text at ≡ Err f))
unfolding command_at
gives_command text at (Ok p) e = ap kind_of e
gives_command text at (Err f) e = e

pub gives_operand : (text : List ℕ) (at : ℕ) (r : Result Parsed WordFault) → ReadsAs (λ p. (p.words, p.next)) r (read level.Alone (drop at text) (fresh Operand) at) →
    MatchResult r (λ p. operand_at text at ≡ Ok (p.words, p.next)) (λ f. (f ≡ Memory) ⊎ (operand_at text at ≡ Err f))
unfolding operand_at
gives_operand text at (Ok p) e = ap kind_of e
gives_operand text at (Err f) e = e

pub gives_operand_within : (text : List ℕ) (at : ℕ) (r : Result Parsed WordFault) → at ≤ length text →
    MatchResult r (λ p. operand_at text at ≡ Ok (p.words, p.next)) (λ f. (f ≡ Memory) ⊎ (operand_at text at ≡ Err f)) → IfOk r (λ p. p.next ≤ length text)
gives_operand_within text at (Ok p) le e = operand_within text at p.next p.words le e
gives_operand_within text at (Err f) le e = tt

pub gives_words : (text : List ℕ) (ws : List Word) (n : ℕ) → read level.List text (fresh Gap) 0 ≡ Ok (ws, n) → words_of text ≡ Ok ws
unfolding words_of
gives_words text ws n e = ap words_only e

only_fault : (a : Answer) (f : WordFault) → kind_of a ≡ Err f → words_only a ≡ Err f
only_fault (Ok x) f e = absurd cc
only_fault (Err g) f e = cc

pub gives_fault : (text : List ℕ) (f : WordFault) → (f ≡ Memory) ⊎ (kind_of (read level.List text (fresh Gap) 0) ≡ Err f) → (f ≡ Memory) ⊎ (words_of text ≡ Err f)
unfolding words_of
gives_fault text f (inl m) = inl m
gives_fault text f (inr e) = inr (only_fault (read level.List text (fresh Gap) 0) f e)

pub gives_within : (text : List ℕ) (at : ℕ) (r : Result Parsed WordFault) → at ≤ length text →
    MatchResult r (λ p. command_at text at ≡ Ok (p.words, p.next)) (λ f. (f ≡ Memory) ⊎ (command_at text at ≡ Err f)) → IfOk r (λ p. p.next ≤ length text)
gives_within text at (Ok p) le e = next_within text at p.next p.words le e
gives_within text at (Err f) le e = tt

pub gives_onward : (text : List ℕ) (at : ℕ) (r : Result Parsed WordFault) →
    MatchResult r (λ p. command_at text at ≡ Ok (p.words, p.next)) (λ f. (f ≡ Memory) ⊎ (command_at text at ≡ Err f)) → IfOk r (λ p. p.words ≢ [] → at < p.next)
gives_onward text at (Ok p) e = next_onward text at p.next p.words e
gives_onward text at (Err f) e = tt

pub gives_over : (text : List ℕ) (at : ℕ) (r : Result Parsed WordFault) → at ≤ length text →
    MatchResult r (λ p. command_at text at ≡ Ok (p.words, p.next)) (λ f. (f ≡ Memory) ⊎ (command_at text at ≡ Err f)) → IfOk r (λ p. p.words ≡ [] → p.next ≡ length text)
gives_over text at (Ok p) le e = next_over text at p.next p.words le e
gives_over text at (Err f) le e = tt
