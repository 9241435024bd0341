-- Readings that succeed, by the stack of what is open.
use Rattle.std.specs.Prelude.{◌≡◌, ℕ, suc, ◌+◌, ◌-◌, ◌<◌, List, [], ◌∷◌, ◌++◌, length, refl, Ok, Bool, true, false, Option, None, Some, nat_lt}
use Rattle.std.proofs.Common.{◌∙◌, ap, sym, arith, subst, length-append}
use Rattle.std.proofs.lemmas.Bool.{ltb-true}
use Rattle.dg_lists.specs.declared.fault.WordFault.{WordFault}
use Rattle.dg_lists.specs.declared.fault.WordFault.TheVariants.{MissingBrace, MissingBracket, MissingParen, MissingQuote}
use Rattle.dg_lists.specs.declared.kinds.Class.{Class}
use Rattle.dg_lists.specs.declared.kinds.Effect.{Effect}
use Rattle.dg_lists.specs.declared.kinds.Effect.TheVariants as effect
use Rattle.dg_lists.specs.declared.kinds.Ending.{Ending}
use Rattle.dg_lists.specs.declared.kinds.Ending.TheVariants as ending
use Rattle.dg_words.specs.declared.kinds.Level.{Level}
use Rattle.dg_words.specs.declared.kinds.Level.TheVariants as level
use Rattle.dg_lists.specs.declared.kinds.Mode.{Mode}
use Rattle.dg_lists.specs.declared.kinds.Mode.TheVariants as mode
use Rattle.dg_lists.specs.declared.kinds.Target.TheVariants as target
use Rattle.dg_words.specs.declared.kinds.Opener.{Opener}
use Rattle.dg_words.specs.declared.kinds.Opener.TheVariants as opener
use Rattle.dg_lists.specs.declared.kinds.Context.{Context}
use Rattle.dg_lists.specs.declared.kinds.Context.TheVariants as context
use Rattle.dg_lists.specs.declared.kinds.Transition.{Transition}
use Rattle.dg_words.specs.declared.word.Word.{Word}
use Rattle.dg_lists.specs.Classes.{class_of}
use Rattle.dg_lists.specs.Transitions.{does, whole}
use Rattle.dg_words.specs.Transitions.{ends, number_ends, context_ends, transition}
use Rattle.dg_words.specs.Machine.{Answer, Draft, Go, State, add, close, close_index, command, end_word, ended, has_room, is_none, leaves_index, level_in, onward, open_index, opens, perform, read, context_of, stop, stopped, take_transition}
use Rattle.dg_words.proofs.GrammarLemmas.Segments.{at, does_in, moved, step_by, taken_to}

-- The indices that are open outside of brackets stand at the bottom of the stack.
abbrev pub parens : List Context → List Opener
parens [] = []
parens (s ∷ ss) = opener.Paren s ∷ parens ss

-- a bracket is at the bottom of what is open within brackets
abbrev pub Rooted : List Opener → Type 0
Rooted [] = Unit {0}
Rooted (opener.Bracket s ∷ []) = Unit {0}
Rooted (opener.Paren s ∷ []) = ⊥
Rooted (o ∷ p ∷ os) = Rooted (p ∷ os)

abbrev pub level_at : Level → List Opener → Level
level_at l [] = l
level_at l (opener.Bracket s ∷ os) = level.Inside
level_at l (opener.Paren s ∷ os) = level_at l os

level_parens : (l : Level) (is : List Context) → level_at l (parens is) ≡ l
level_parens l [] = refl
level_parens l (s ∷ ss) = level_parens l ss

pub level_is : (l : Level) (inner : List Opener) (is : List Context) → Rooted inner → level_in l inner ≡ level_at l (inner ++ parens is)
level_is l [] is r = sym (level_parens l is)
level_is l (opener.Bracket s ∷ os) is r = refl
level_is l (opener.Paren s ∷ []) is r = absurd r
level_is l (opener.Paren s ∷ o ∷ os) is r = level_is l (o ∷ os) is r

-- a reading with this stack that succeeds
pub record Reads (l : Level) (m : Mode) (k : ℕ) (stack : List Opener) (t : List ℕ) : Type 0 where
  pub inner : List Opener
  pub draft : Draft
  pub place : ℕ
  pub answer : List Word × ℕ
  pub stands : inner ++ parens draft.indices ≡ stack
  pub rooted : Rooted inner
  pub is : read l t (at inner m k draft) place ≡ Ok answer

pub level_stands : (l : Level) (m : Mode) (k : ℕ) (stack : List Opener) (t : List ℕ) (r : Reads l m k stack t) → level_in l r.inner ≡ level_at l stack
level_stands l m k stack t r = level_is l r.inner r.draft.indices r.rooted ∙ ap (level_at l) r.stands

-- effects leave the indices
ended_kept : (is : List Context) (d : Draft) → (end_word is d).indices ≡ d.indices
ended_kept [] d = refl
ended_kept (s ∷ ss) d = refl

kept : (e : Effect) (d : Draft) → (perform e d).indices ≡ d.indices
kept effect.Word d = ended_kept d.indices d
kept effect.Nothing d = refl
kept (effect.Byte b) d = refl
kept (effect.Code c) d = refl
kept effect.Dollar d = refl
kept effect.DollarColon d = refl
kept effect.Close d = refl
kept effect.Global d = refl
kept effect.Value d = refl
kept effect.Expand d = refl

does_kept : (inner : List Opener) (e : Effect) (d : Draft) → (does_in inner e d).indices ≡ d.indices
does_kept [] e d = kept e d
does_kept (o ∷ os) e d = refl

moved_kept : (inner : List Opener) (a : List ℕ) (f g : Effect) (d : Draft) → (moved inner a (λ x. perform g (perform f x)) d).indices ≡ d.indices
moved_kept [] a f g d = kept g (perform f d) ∙ kept f d
moved_kept (o ∷ os) a f g d = refl

stack_as : (inner : List Opener) (d e : Draft) (stack : List Opener) → e.indices ≡ d.indices → inner ++ parens d.indices ≡ stack → inner ++ parens e.indices ≡ stack
stack_as inner d e stack h r = ap (λ i. inner ++ parens i) h ∙ r

-- the same is read from another mode, behind a effect
pub reads_as : (l : Level) (m o : Mode) (k : ℕ) (stack : List Opener) (t : List ℕ) (e : Effect) (r : Reads l m k stack t) →
    ((p : ℕ) → read l t (at r.inner m k r.draft) p ≡ read l t (at r.inner o k (does_in r.inner e r.draft)) p) → Reads l o k stack t
reads_as l m o k stack t e r h = record {
  inner = r.inner;
  draft = does_in r.inner e r.draft;
  place = r.place;
  answer = r.answer;
  stands = stack_as r.inner r.draft (does_in r.inner e r.draft) stack (does_kept r.inner e r.draft) r.stands;
  rooted = r.rooted;
  is = sym (h r.place) ∙ r.is;
}

pub reads_same : (l : Level) (m o : Mode) (k : ℕ) (stack : List Opener) (t : List ℕ) (r : Reads l m k stack t) → read l t (at r.inner m k r.draft) r.place ≡ read l t (at r.inner o k r.draft) r.place → Reads l o k stack t
reads_same l m o k stack t r h = record { inner = r.inner; draft = r.draft; place = r.place; answer = r.answer; stands = r.stands; rooted = r.rooted; is = sym h ∙ r.is }

-- a transition was taken
pub record Taken (l : Level) (t : Transition) (k : ℕ) (stack : List Opener) (b : ℕ) (bs : List ℕ) : Type 0 where
  pub inner : List Opener
  pub draft : Draft
  pub place : ℕ
  pub answer : List Word × ℕ
  pub stands : inner ++ parens draft.indices ≡ stack
  pub rooted : Rooted inner
  pub is : onward (take_transition t k inner draft b) place (λ n. read l bs n (place + 1)) ≡ Ok answer

pub taken : (l : Level) (m : Mode) (k : ℕ) (stack : List Opener) (b : ℕ) (bs : List ℕ) (c : Class) (t : Transition) → class_of b ≡ c → transition (level_at l stack) (nat_lt 0 k) m c b ≡ t → Reads l m k stack (b ∷ bs) → Taken l t k stack b bs
unfolding read
taken l m k stack b bs c t e h r = record {
  inner = r.inner;
  draft = r.draft;
  place = r.place;
  answer = r.answer;
  stands = r.stands;
  rooted = r.rooted;
  is = sym (ap (λ x. onward x r.place (λ n. read l bs n (r.place + 1)))
      (step_by l (at r.inner m k r.draft) b c t e (ap (λ y. transition y (nat_lt 0 k) m c b) (level_stands l m k stack (b ∷ bs) r) ∙ h))) ∙ r.is;
}

pub reads_to : (l : Level) (f g : Effect) (m : Mode) (k : ℕ) (stack : List Opener) (b : ℕ) (bs : List ℕ) → Taken l (record { first = f; second = g; next = target.To m }) k stack b bs → Reads l m k stack bs
reads_to l f g m k stack b bs r = record {
  inner = r.inner;
  draft = moved r.inner (b ∷ []) (λ x. perform g (perform f x)) r.draft;
  place = r.place + 1;
  answer = r.answer;
  stands = stack_as r.inner r.draft (moved r.inner (b ∷ []) (λ x. perform g (perform f x)) r.draft) stack (moved_kept r.inner (b ∷ []) f g r.draft) r.stands;
  rooted = r.rooted;
  is = sym (ap (λ x. onward x r.place (λ n. read l bs n (r.place + 1))) (taken_to f g m r.inner k r.draft b)) ∙ r.is;
}

-- braces within braces
deeper_to : (inner : List Opener) (k b : ℕ) (d : Draft) → take_transition (does (effect.Byte b) target.Deeper) k inner d b ≡ Go (at inner mode.Braced (k + 1) (moved inner (b ∷ []) (add (b ∷ [])) d))
deeper_to [] k b d = refl
deeper_to (o ∷ os) k b d = refl

shallower_to : (inner : List Opener) (k b : ℕ) (d : Draft) → take_transition (does (effect.Byte b) target.Shallower) k inner d b ≡ Go (at inner mode.Braced (k - 1) (moved inner (b ∷ []) (add (b ∷ [])) d))
shallower_to [] k b d = refl
shallower_to (o ∷ os) k b d = refl

pub reads_deeper : (l : Level) (k : ℕ) (stack : List Opener) (b : ℕ) (bs : List ℕ) → Taken l (does (effect.Byte b) target.Deeper) k stack b bs → Reads l mode.Braced (k + 1) stack bs
reads_deeper l k stack b bs r = record {
  inner = r.inner;
  draft = moved r.inner (b ∷ []) (add (b ∷ [])) r.draft;
  place = r.place + 1;
  answer = r.answer;
  stands = stack_as r.inner r.draft (moved r.inner (b ∷ []) (add (b ∷ [])) r.draft) stack (moved_kept r.inner (b ∷ []) effect.Nothing (effect.Byte b) r.draft) r.stands;
  rooted = r.rooted;
  is = sym (ap (λ x. onward x r.place (λ n. read l bs n (r.place + 1))) (deeper_to r.inner k b r.draft)) ∙ r.is;
}

pub reads_shallower : (l : Level) (k : ℕ) (stack : List Opener) (b : ℕ) (bs : List ℕ) → Taken l (does (effect.Byte b) target.Shallower) k stack b bs → Reads l mode.Braced (k - 1) stack bs
reads_shallower l k stack b bs r = record {
  inner = r.inner;
  draft = moved r.inner (b ∷ []) (add (b ∷ [])) r.draft;
  place = r.place + 1;
  answer = r.answer;
  stands = stack_as r.inner r.draft (moved r.inner (b ∷ []) (add (b ∷ [])) r.draft) stack (moved_kept r.inner (b ∷ []) effect.Nothing (effect.Byte b) r.draft) r.stands;
  rooted = r.rooted;
  is = sym (ap (λ x. onward x r.place (λ n. read l bs n (r.place + 1))) (shallower_to r.inner k b r.draft)) ∙ r.is;
}

-- a bracket or an index opens
length_parens : (is : List Context) → length (parens is) ≡ length is
length_parens [] = refl
length_parens (s ∷ ss) = ap suc (length_parens ss)

depth_is : (inner : List Opener) (d : Draft) (stack : List Opener) → inner ++ parens d.indices ≡ stack → length stack ≡ length d.indices + length inner
depth_is inner d stack h = ap length (sym h) ∙ length-append inner (parens d.indices) ∙ ap (λ x. length inner + x) (length_parens d.indices) ∙ omega arith

opened_if : (x : Bool) (f : WordFault) (s : State) (p : ℕ) (more : State → Answer) (a : List Word × ℕ) → onward (opens x f s) p more ≡ Ok a → (x ≡ true) × (more s ≡ Ok a)
opened_if true f s p more a h = (refl, h)
opened_if false f s p more a h = absurd cc

room_is : (inner : List Opener) (d : Draft) (stack : List Opener) → inner ++ parens d.indices ≡ stack → has_room d inner ≡ true → length stack < 100
room_is inner d stack h r = omega (arith, depth_is inner d stack h, ltb-true (length d.indices + length inner) 100 r)

-- the stack has room, and with this above it the rest is read
abbrev pub Above : Level → Mode → ℕ → List Opener → Opener → List ℕ → Type 0
Above l m k stack o bs = (length stack < 100) × Reads l m k (o ∷ stack) bs

above_bracket : (l : Level) (s : Context) (k : ℕ) (stack : List Opener) (b : ℕ) (bs : List ℕ) (inner : List Opener) (d : Draft) (p : ℕ) (a : List Word × ℕ) → inner ++ parens d.indices ≡ stack → Rooted inner →
    onward (take_transition (does effect.Nothing (target.Bracket s)) k inner d b) p (λ n. read l bs n (p + 1)) ≡ Ok a → Above l mode.Start k stack (opener.Bracket s) bs
above_bracket l s k stack b bs [] d p a h q r =
    let x = opened_if (has_room d []) MissingBracket (at (opener.Bracket s ∷ []) mode.Start k (close d)) p (λ n. read l bs n (p + 1)) a r in
    (room_is [] d stack h x.0, record { inner = opener.Bracket s ∷ []; draft = close d; place = p + 1; answer = a; stands = ap (λ y. opener.Bracket s ∷ y) h; rooted = tt; is = x.1 })
above_bracket l s k stack b bs (o ∷ os) d p a h q r =
    let x = opened_if (has_room d (o ∷ os)) MissingBracket (at (opener.Bracket s ∷ o ∷ os) mode.Start k (add (b ∷ []) d)) p (λ n. read l bs n (p + 1)) a r in
    (room_is (o ∷ os) d stack h x.0, record { inner = opener.Bracket s ∷ o ∷ os; draft = add (b ∷ []) d; place = p + 1; answer = a; stands = ap (λ y. opener.Bracket s ∷ y) h; rooted = q; is = x.1 })

pub reads_bracket : (l : Level) (s : Context) (k : ℕ) (stack : List Opener) (b : ℕ) (bs : List ℕ) → Taken l (does effect.Nothing (target.Bracket s)) k stack b bs → Above l mode.Start k stack (opener.Bracket s) bs
reads_bracket l s k stack b bs r = above_bracket l s k stack b bs r.inner r.draft r.place r.answer r.stands r.rooted r.is

above_paren : (l : Level) (f : Effect) (s : Context) (k : ℕ) (stack : List Opener) (b : ℕ) (bs : List ℕ) (inner : List Opener) (d : Draft) (p : ℕ) (a : List Word × ℕ) → inner ++ parens d.indices ≡ stack → Rooted inner →
    onward (take_transition (record { first = f; second = effect.Nothing; next = target.Paren s }) k inner d b) p (λ n. read l bs n (p + 1)) ≡ Ok a → Above l (mode.In context.Index) k stack (opener.Paren s) bs
above_paren l f s k stack b bs [] d p a h q r =
    let e = perform f d in
    let g = stack_as [] d e stack (kept f d) h in
    let x = opened_if (has_room e []) MissingParen (at [] (mode.In context.Index) k (open_index s e)) p (λ n. read l bs n (p + 1)) a r in
    (room_is [] e stack g x.0, record { inner = []; draft = open_index s e; place = p + 1; answer = a; stands = ap (λ y. opener.Paren s ∷ y) g; rooted = tt; is = x.1 })
above_paren l f s k stack b bs (o ∷ os) d p a h q r =
    let x = opened_if (has_room d (o ∷ os)) MissingParen (at (opener.Paren s ∷ o ∷ os) (mode.In context.Index) k (add (b ∷ []) d)) p (λ n. read l bs n (p + 1)) a r in
    (room_is (o ∷ os) d stack h x.0, record { inner = opener.Paren s ∷ o ∷ os; draft = add (b ∷ []) d; place = p + 1; answer = a; stands = ap (λ y. opener.Paren s ∷ y) h; rooted = q; is = x.1 })

pub reads_paren : (l : Level) (f : Effect) (s : Context) (k : ℕ) (stack : List Opener) (b : ℕ) (bs : List ℕ) → Taken l (record { first = f; second = effect.Nothing; next = target.Paren s }) k stack b bs → Above l (mode.In context.Index) k stack (opener.Paren s) bs
reads_paren l f s k stack b bs r = above_paren l f s k stack b bs r.inner r.draft r.place r.answer r.stands r.rooted r.is

-- the innermost bracket or index ends
top_of : List Opener → Opener
top_of [] = opener.Bracket context.Bare
top_of (o ∷ os) = o

below : List Opener → List Opener
below [] = []
below (o ∷ os) = os

same_top : {o p : Opener} {os ps : List Opener} → o ∷ os ≡ p ∷ ps → o ≡ p
unfolding top_of
same_top e = ap top_of e

same_below : {o p : Opener} {os ps : List Opener} → o ∷ os ≡ p ∷ ps → os ≡ ps
unfolding below
same_below e = ap below e

context_same : (l : Level) (k : ℕ) (o p : Opener) (stack : List Opener) (bs : List ℕ) → o ≡ p → Reads l (mode.In (context_of o)) k stack bs → Reads l (mode.In (context_of p)) k stack bs
context_same l k o p stack bs e r = subst (λ x. Reads l (mode.In (context_of x)) k stack bs) e r

left_index : (l : Level) (k : ℕ) (o : Opener) (stack : List Opener) (b : ℕ) (bs : List ℕ) (is : List Context) (d : Draft) (p : ℕ) (a : List Word × ℕ) → d.indices ≡ is → parens is ≡ o ∷ stack →
    onward (take_transition (does effect.Nothing target.Leave) k [] d b) p (λ n. read l bs n (p + 1)) ≡ Ok a → Reads l (mode.In (context_of o)) k stack bs
left_index l k o stack b bs [] d p a e h r = absurd cc
left_index l k o stack b bs (s ∷ ss) d p a e h r =
    context_same l k (opener.Paren s) o stack bs (same_top h)
    (record {
      inner = [];
      draft = close_index ss d;
      place = p + 1;
      answer = a;
      stands = same_below h;
      rooted = tt;
      is = sym (ap (λ i. onward (leaves_index i k d) p (λ n. read l bs n (p + 1))) e) ∙ r;
    })

rooted_below : (o p : Opener) (os : List Opener) → Rooted (o ∷ p ∷ os) → Rooted (p ∷ os)
rooted_below (opener.Bracket s) p os h = h
rooted_below (opener.Paren s) p os h = h

left : (l : Level) (k : ℕ) (o : Opener) (stack : List Opener) (b : ℕ) (bs : List ℕ) (inner : List Opener) (d : Draft) (p : ℕ) (a : List Word × ℕ) → inner ++ parens d.indices ≡ o ∷ stack → Rooted inner →
    onward (take_transition (does effect.Nothing target.Leave) k inner d b) p (λ n. read l bs n (p + 1)) ≡ Ok a → Reads l (mode.In (context_of o)) k stack bs
left l k o stack b bs [] d p a h q r = left_index l k o stack b bs d.indices d p a refl h r
left l k o stack b bs (x ∷ []) d p a h q r =
    context_same l k x o stack bs (same_top h) (record { inner = []; draft = command d; place = p + 1; answer = a; stands = same_below h; rooted = tt; is = r })
left l k o stack b bs (x ∷ y ∷ os) d p a h q r =
    context_same l k x o stack bs (same_top h) (record { inner = y ∷ os; draft = add (b ∷ []) d; place = p + 1; answer = a; stands = same_below h; rooted = rooted_below x y os q; is = r })

pub reads_leave : (l : Level) (k : ℕ) (o : Opener) (stack : List Opener) (b : ℕ) (bs : List ℕ) → Taken l (does effect.Nothing target.Leave) k (o ∷ stack) b bs → Reads l (mode.In (context_of o)) k stack bs
reads_leave l k o stack b bs r = left l k o stack b bs r.inner r.draft r.place r.answer r.stands r.rooted r.is

-- a command within brackets ends
no_bracket : (is : List Context) (s : Context) (stack : List Opener) → parens is ≡ opener.Bracket s ∷ stack → ⊥
no_bracket [] s stack h = cc
no_bracket (i ∷ is) s stack h = let x = same_top h in cc

command_over : (l : Level) (k : ℕ) (s : Context) (stack : List Opener) (b : ℕ) (bs : List ℕ) (inner : List Opener) (d : Draft) (p : ℕ) (a : List Word × ℕ) → inner ++ parens d.indices ≡ opener.Bracket s ∷ stack → Rooted inner →
    onward (take_transition (does effect.Nothing target.End) k inner d b) p (λ n. read l bs n (p + 1)) ≡ Ok a → Reads l mode.Start k (opener.Bracket s ∷ stack) bs
command_over l k s stack b bs [] d p a h q r = absurd (no_bracket d.indices s stack h)
command_over l k s stack b bs (o ∷ os) d p a h q r = record { inner = o ∷ os; draft = add (b ∷ []) d; place = p + 1; answer = a; stands = h; rooted = q; is = r }

pub reads_command : (l : Level) (k : ℕ) (s : Context) (stack : List Opener) (b : ℕ) (bs : List ℕ) → Taken l (does effect.Nothing target.End) k (opener.Bracket s ∷ stack) b bs → Reads l mode.Start k (opener.Bracket s ∷ stack) bs
reads_command l k s stack b bs r = command_over l k s stack b bs r.inner r.draft r.place r.answer r.stands r.rooted r.is

-- no spelling goes on
bad_transition : (l : Level) (f : WordFault) (k : ℕ) (b : ℕ) (bs : List ℕ) (inner : List Opener) (d : Draft) (p : ℕ) (a : List Word × ℕ) → onward (take_transition (does effect.Nothing (target.Bad f)) k inner d b) p (λ n. read l bs n (p + 1)) ≡ Ok a → ⊥
bad_transition l f k b bs [] d p a r = absurd cc
bad_transition l f k b bs (o ∷ os) d p a r = absurd cc

pub reads_bad : (l : Level) (f : WordFault) (k : ℕ) (stack : List Opener) (b : ℕ) (bs : List ℕ) → Taken l (does effect.Nothing (target.Bad f)) k stack b bs → ⊥
reads_bad l f k stack b bs r = bad_transition l f k b bs r.inner r.draft r.place r.answer r.is

-- the text does not end in this mode
pub stops_bad : (l : Level) (m : Mode) (k : ℕ) (stack : List Opener) (r : Reads l m k stack []) → (f : WordFault) → ends (is_none r.inner) m ≡ ending.Bad f → ⊥
unfolding read stop
stops_bad l m k stack r f h = let x = sym (ap (λ y. stopped (ended y r.draft) r.place) h) ∙ r.is in absurd cc

within : (inner : List Opener) (is : List Context) (s : Context) (stack : List Opener) → inner ++ parens is ≡ opener.Bracket s ∷ stack → is_none inner ≡ false
within [] is s stack h = absurd (no_bracket is s stack h)
within (o ∷ os) is s stack h = refl

pub quote_open : (x : Bool) (d e : Effect) → context_ends x context.Quoted d e ≡ ending.Bad MissingQuote
quote_open true d e = refl
quote_open false d e = refl

pub index_open : (x : Bool) (d e : Effect) → context_ends x context.Index d e ≡ ending.Bad MissingParen
index_open true d e = refl
index_open false d e = refl

-- nor in any within brackets
abbrev IsBad : Ending → Type 0
IsBad e = (f : WordFault) × (e ≡ ending.Bad f)

context_inside : (s : Context) (d e : Effect) → IsBad (context_ends false s d e)
context_inside context.Bare d e = (MissingBracket, refl)
context_inside context.Quoted d e = (MissingQuote, refl)
context_inside context.Index d e = (MissingParen, refl)
context_inside context.Alone d e = (MissingBracket, refl)

number_inside : (s : Context) (x : Option Effect) → IsBad (number_ends false s x)
number_inside s (Some d) = context_inside s effect.Nothing d
number_inside context.Bare None = (MissingBracket, refl)
number_inside context.Quoted None = (MissingQuote, refl)
number_inside context.Index None = (MissingParen, refl)
number_inside context.Alone None = (MissingBracket, refl)

ends_inside : (m : Mode) → IsBad (ends false m)
unfolding ends
ends_inside (mode.In s) = context_inside s effect.Nothing effect.Nothing
ends_inside (mode.Pair s) = context_inside s effect.Nothing (effect.Byte 92)
ends_inside (mode.Join s) = context_inside s effect.Nothing effect.Nothing
ends_inside (mode.Dollar s) = context_inside s effect.Nothing effect.Dollar
ends_inside (mode.Colon s) = context_inside s effect.Nothing effect.DollarColon
ends_inside (mode.Name s) = context_inside s effect.Nothing effect.Value
ends_inside (mode.Number s n) = number_inside s (whole n)
ends_inside (mode.NameBrace s) = (MissingBrace, refl)
ends_inside mode.BraceFirst = (MissingBrace, refl)
ends_inside mode.BraceStar = (MissingBrace, refl)
ends_inside mode.Braced = (MissingBrace, refl)
ends_inside mode.BracedPair = (MissingBrace, refl)
ends_inside mode.BracedJoin = (MissingBrace, refl)
ends_inside m = (MissingBracket, refl)

pub stops_inside : (l : Level) (m : Mode) (k : ℕ) (s : Context) (stack : List Opener) → Reads l m k (opener.Bracket s ∷ stack) [] → ⊥
stops_inside l m k s stack r =
    let x = ends_inside m in
    stops_bad l m k (opener.Bracket s ∷ stack) r x.0 (ap (λ y. ends y m) (within r.inner r.draft.indices s stack r.stands) ∙ x.1)
