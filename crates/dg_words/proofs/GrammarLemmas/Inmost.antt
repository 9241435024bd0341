-- A reading needs the ends of what is open, in their order, and the end of a text misses the first of them.
use Rattle.std.specs.Prelude.{◌≡◌, ℕ, zero, suc, ◌+◌, ◌-◌, List, [], ◌∷◌, refl, Ok, Err, Result, Bool, true, false, Option, None, Some, cond, nat_lt}
use Rattle.std.proofs.Common.{◌∙◌, ap, sym, arith, subst}
use Rattle.std.proofs.lemmas.Bool.{lt-ltb}
use Rattle.dg_lists.specs.declared.fault.WordFault.{WordFault}
use Rattle.dg_lists.specs.declared.fault.WordFault.TheVariants as fault
use Rattle.dg_lists.specs.declared.kinds.Class.{Class}
use Rattle.dg_lists.specs.declared.kinds.Class.TheVariants as class
use Rattle.dg_lists.specs.declared.kinds.Effect.{Effect}
use Rattle.dg_lists.specs.declared.kinds.Effect.TheVariants as effect
use Rattle.dg_lists.specs.declared.kinds.Delimiter.TheVariants as delimiter
use Rattle.dg_words.specs.declared.kinds.Level.{Level}
use Rattle.dg_lists.specs.declared.kinds.Mode.{Mode}
use Rattle.dg_lists.specs.declared.kinds.Mode.TheVariants as mode
use Rattle.dg_lists.specs.declared.kinds.Target.{Target}
use Rattle.dg_lists.specs.declared.kinds.Target.TheVariants as target
use Rattle.dg_words.specs.declared.kinds.Opener.{Opener}
use Rattle.dg_lists.specs.declared.kinds.Context.{Context}
use Rattle.dg_lists.specs.declared.kinds.Context.TheVariants as context
use Rattle.dg_lists.specs.declared.kinds.Transition.{Transition}
use Rattle.dg_words.specs.declared.word.Word.{Word}
use Rattle.dg_lists.specs.Classes.{class_of}
use Rattle.dg_lists.specs.Transitions.{goes, is_space, whole}
use Rattle.dg_words.specs.Transitions.{ends, in_brace_first, in_brace_star, in_braced, in_braced_pair, in_name_brace, number_ends, context_ends, transition}
use Rattle.dg_words.specs.Machine.{Draft, Go, Fails, Over, Stepped, State, ended, follow, follow_inside, has_room, is_none, leaves, leaves_index, level_in, onward, opens, perform, read, context_of, step, stop, stopped, take_transition}
use Rattle.dg_words.specs.Grammar.Ends.{InOrder}
use Rattle.dg_lists.proofs.GrammarLemmas.Bytes.{is_class}
use Rattle.dg_words.proofs.GrammarLemmas.Closers.{brace_ends, deep_ends, ends_at, ends_of, part_ends, top_ends}
use Rattle.dg_words.proofs.GrammarLemmas.InOrder.{in_both, in_same}
use Rattle.dg_words.proofs.GrammarLemmas.Openings.{Going, IsWordy, effect_indices, going, inside_ends, context_in, IsOther}

-- what stays of the ends behind a byte: all, or all but the first
data Kept (b : ℕ) (ks ls : List ℕ) : Type 0 where
  all : InOrder ks ls → Kept b ks ls
  first : {js : List ℕ} → ks ≡ b ∷ js → InOrder js ls → Kept b ks ls

abbrev KeptMove : ℕ → List ℕ → Stepped → Type 0
KeptMove b ks (Go s) = Kept b ks (ends_at s)
KeptMove b ks (Over ws n) = ks ≡ []
KeptMove b ks (Fails f) = Unit {0}

deep_more : (n : ℕ) (ks : List ℕ) → InOrder ks (deep_ends n ks)
deep_more zero ks = in_same ks
deep_more (suc n) ks = InOrder.past 125 (deep_more n ks)

brace_more : (m : Mode) (n : ℕ) (ks : List ℕ) → InOrder ks (brace_ends m n ks)
brace_more (mode.NameBrace s) n ks = InOrder.past 125 (in_same ks)
brace_more mode.BraceFirst n ks = InOrder.past 125 (in_same ks)
brace_more mode.BraceStar n ks = InOrder.past 125 (in_same ks)
brace_more mode.Braced n ks = InOrder.past 125 (deep_more n ks)
brace_more mode.BracedPair n ks = InOrder.past 125 (deep_more n ks)
brace_more mode.BracedJoin n ks = InOrder.past 125 (deep_more n ks)
brace_more m n ks = in_same ks

-- outside of braces
kept_same : (b : ℕ) (s : Context) (m : Mode) (n : ℕ) (os : List Opener) (is : List Context) → context_in m ≡ s → Kept b (part_ends s os is) (ends_of os m n is)
kept_same b s m n os is e = Kept.all (subst (λ t. InOrder (part_ends t os is) (ends_of os m n is)) e (brace_more m n (part_ends (context_in m) os is)))

bare_in : (t : Context) (os : List Opener) (is : List Context) → IsWordy t → InOrder (part_ends context.Bare os is) (part_ends t os is)
bare_in context.Bare os is h = in_same _
bare_in context.Alone [] is h = InOrder.none
bare_in context.Alone (o ∷ os) is h = in_same _
bare_in context.Quoted [] is h = InOrder.none
bare_in context.Quoted (o ∷ os) is h = InOrder.past 34 (in_same _)
bare_in context.Index os is h = absurd h

alone_is : (os : List Opener) (is : List Context) → part_ends context.Alone os is ≡ part_ends context.Bare os is
alone_is [] is = refl
alone_is (o ∷ os) is = refl

quoted_is : (os : List Opener) (is : List Context) → part_ends context.Quoted os is ≡ 34 ∷ part_ends context.Bare os is
quoted_is [] is = refl
quoted_is (o ∷ os) is = refl

kept_words : (b : ℕ) (s : Context) (m : Mode) (n : ℕ) (os : List Opener) (is : List Context) → IsWordy s → IsWordy (context_in m) → (s ≡ context.Quoted → class_of b ≡ class.Quote) → Kept b (part_ends s os is) (ends_of os m n is)
kept_words b context.Bare m n os is i j f = Kept.all (in_both (bare_in (context_in m) os is j) (brace_more m n _))
kept_words b context.Alone m n os is i j f = Kept.all (in_both (subst (λ ks. InOrder ks (part_ends (context_in m) os is)) (sym (alone_is os is)) (bare_in (context_in m) os is j)) (brace_more m n _))
kept_words b context.Quoted m n os is i j f =
    let e : b ≡ 34 = is_class b class.Quote (f refl) in
    Kept.first (quoted_is os is ∙ ap (λ k. k ∷ part_ends context.Bare os is) (sym e)) (in_both (bare_in (context_in m) os is j) (brace_more m n _))
kept_words b context.Index m n os is i j f = absurd i

kept_opens : (b : ℕ) (ks : List ℕ) (x : Bool) (f : WordFault) (s : State) → InOrder ks (ends_at s) → KeptMove b ks (opens x f s)
kept_opens b ks true f s h = Kept.all h
kept_opens b ks false f s h = tt

kept_index : (b : ℕ) (is : List Context) (n : ℕ) (d : Draft) → b ≡ 41 → KeptMove b (top_ends context.Index is) (leaves_index is n d)
kept_index b [] n d e = Kept.first (ap (λ k. k ∷ []) (sym e)) InOrder.none
kept_index b (s ∷ is) n d e = Kept.first (ap (λ k. k ∷ top_ends s is) (sym e)) (in_same _)

kept_bare : (b : ℕ) (is : List Context) (n : ℕ) (d : Draft) → KeptMove b [] (leaves_index is n d)
kept_bare b [] n d = Kept.all InOrder.none
kept_bare b (s ∷ is) n d = Kept.all InOrder.none

rest_none : (s : Context) (is : List Context) → IsWordy s → (s ≡ context.Quoted → ⊥) → top_ends s is ≡ []
rest_none context.Bare is i f = refl
rest_none context.Alone is i f = refl
rest_none context.Quoted is i f = absurd (f refl)
rest_none context.Index is i f = absurd i

kept_follow : (s : Context) (b : ℕ) (x : Target) (n : ℕ) (d : Draft) → Going s (class_of b) x → KeptMove b (part_ends s [] d.indices) (follow x n d)
kept_follow s b x n d (Going.stays {m = m} e) = kept_same b s m n [] d.indices e
kept_follow s b x n d (Going.words {m = m} i j f) = kept_words b s m n [] d.indices i j f
kept_follow s b x n d (Going.deeper e) = kept_same b s mode.Braced (n + 1) [] d.indices (sym e)
kept_follow s b x n d (Going.shallower e) = kept_same b s mode.Braced (n - 1) [] d.indices (sym e)
kept_follow s b x n d (Going.bracket e) = kept_opens b _ (has_room d []) fault.MissingBracket _ (InOrder.past 93 (in_same _))
kept_follow s b x n d (Going.paren e) = kept_opens b _ (has_room d []) fault.MissingParen _ (InOrder.past 41 (in_same _))
kept_follow s b x n d (Going.ends_index i e) = subst (λ t. KeptMove b (part_ends t [] d.indices) (leaves_index d.indices n d)) (sym i) (kept_index b d.indices n d (is_class b class.RightParen e))
kept_follow s b x n d (Going.ends_bracket i e) = subst (λ t. KeptMove b (part_ends t [] d.indices) (leaves_index d.indices n d)) (sym i) (kept_bare b d.indices n d)
kept_follow s b x n d (Going.ends_command e) = ap (λ t. top_ends t d.indices) e
kept_follow s b x n d (Going.rests i f) = rest_none s d.indices i f
kept_follow s b x n d (Going.fails f) = tt

-- within brackets
kept_leaves : (b : ℕ) (ks : List ℕ) (o : Opener) (os : List Opener) (n : ℕ) (d : Draft) → ks ≡ b ∷ part_ends (context_of o) os d.indices → KeptMove b ks (leaves (o ∷ os) n d b)
kept_leaves b ks o [] n d e = Kept.first e (in_same _)
kept_leaves b ks o (p ∷ ps) n d e = Kept.first e (in_same _)

kept_inside : (s : Context) (b : ℕ) (x : Target) (n : ℕ) (o : Opener) (os : List Opener) (d : Draft) → Going s (class_of b) x → KeptMove b (part_ends s (o ∷ os) d.indices) (follow_inside x n (o ∷ os) d b)
kept_inside s b x n o os d (Going.stays {m = m} e) = kept_same b s m n (o ∷ os) d.indices e
kept_inside s b x n o os d (Going.words {m = m} i j f) = kept_words b s m n (o ∷ os) d.indices i j f
kept_inside s b x n o os d (Going.deeper e) = kept_same b s mode.Braced (n + 1) (o ∷ os) d.indices (sym e)
kept_inside s b x n o os d (Going.shallower e) = kept_same b s mode.Braced (n - 1) (o ∷ os) d.indices (sym e)
kept_inside s b x n o os d (Going.bracket e) = kept_opens b _ (has_room d (o ∷ os)) fault.MissingBracket _ (InOrder.past 93 (in_same _))
kept_inside s b x n o os d (Going.paren e) = kept_opens b _ (has_room d (o ∷ os)) fault.MissingParen _ (InOrder.past 41 (in_same _))
kept_inside s b x n o os d (Going.ends_index i e) =
    kept_leaves b _ o os n d (ap (λ t. part_ends t (o ∷ os) d.indices) i ∙ ap (λ k. k ∷ part_ends (context_of o) os d.indices) (sym (is_class b class.RightParen e)))
kept_inside s b x n o os d (Going.ends_bracket i e) =
    kept_leaves b _ o os n d (ap (λ t. part_ends t (o ∷ os) d.indices) i ∙ ap (λ k. k ∷ part_ends (context_of o) os d.indices) (sym (is_class b class.RightBracket e)))
kept_inside s b x n o os d (Going.ends_command e) = kept_same b s mode.Start n (o ∷ os) d.indices (sym e)
kept_inside s b x n o os d (Going.rests i f) = kept_words b s mode.Start n (o ∷ os) d.indices i tt (λ e. absurd (f e))
kept_inside s b x n o os d (Going.fails f) = tt

kept_take : (s : Context) (b : ℕ) (t : Transition) (n : ℕ) (os : List Opener) (d : Draft) → Going s (class_of b) t.next → KeptMove b (part_ends s os d.indices) (take_transition t n os d b)
kept_take s b t n [] d g =
    let e = perform t.first d in
    subst (λ is. KeptMove b (part_ends s [] is) (follow t.next n (perform t.second e))) (effect_indices t.second e ∙ effect_indices t.first d) (kept_follow s b t.next n (perform t.second e) g)
kept_take s b t n (o ∷ os) d g = kept_inside s b t.next n o os d g

-- inside of braces
data Bracing (m : Mode) (n b : ℕ) : Target → Type 0 where
  to : {k : Mode} → context_in k ≡ context_in m → ((ks : List ℕ) → Kept b (brace_ends m n ks) (brace_ends k n ks)) → Bracing m n b (target.To k)
  deeper : context_in m ≡ context.Bare → ((ks : List ℕ) → Kept b (brace_ends m n ks) (125 ∷ deep_ends (n + 1) ks)) → Bracing m n b target.Deeper
  shallower : context_in m ≡ context.Bare → ((ks : List ℕ) → Kept b (brace_ends m n ks) (125 ∷ deep_ends (n - 1) ks)) → Bracing m n b target.Shallower

closes : {b : ℕ} (ks : List ℕ) → b ≡ 125 → Kept b (125 ∷ ks) ks
closes ks e = Kept.first (ap (λ k. k ∷ ks) (sym e)) (in_same ks)

bracing_name : (s : Context) (n b : ℕ) (c : Class) → class_of b ≡ c → Bracing (mode.NameBrace s) n b (in_name_brace s c b).next
bracing_name s n b class.Close e = Bracing.to refl (λ ks. closes ks (is_class b class.Close e))
bracing_name s n b c e = Bracing.to refl (λ ks. Kept.all (in_same _))

deep_one : (n : ℕ) (ks : List ℕ) → InOrder (deep_ends n ks) (deep_ends (n + 1) ks)
deep_one n ks = let e : suc n ≡ n + 1 = omega arith in subst (λ k. InOrder (deep_ends n ks) (deep_ends k ks)) e (InOrder.past 125 (in_same _))

-- where braces are not counted yet
abbrev IsFirst : Mode → Type 0
IsFirst mode.BraceFirst = Unit {0}
IsFirst mode.BraceStar = Unit {0}
IsFirst m = ⊥

bracing_first : (m : Mode) → IsFirst m → (n b : ℕ) (c : Class) → class_of b ≡ c → Bracing m n b (in_braced false c b).next
bracing_first mode.BraceFirst h n b class.Open e = Bracing.deeper refl (λ ks. Kept.all (InOrder.here 125 (deep_more (n + 1) ks)))
bracing_first mode.BraceFirst h n b class.Close e = Bracing.to refl (λ ks. closes ks (is_class b class.Close e))
bracing_first mode.BraceFirst h n b class.Backslash e = Bracing.to refl (λ ks. Kept.all (InOrder.here 125 (deep_more n ks)))
bracing_first mode.BraceFirst h n b c e = Bracing.to refl (λ ks. Kept.all (InOrder.here 125 (deep_more n ks)))
bracing_first mode.BraceStar h n b class.Open e = Bracing.deeper refl (λ ks. Kept.all (InOrder.here 125 (deep_more (n + 1) ks)))
bracing_first mode.BraceStar h n b class.Close e = Bracing.to refl (λ ks. closes ks (is_class b class.Close e))
bracing_first mode.BraceStar h n b class.Backslash e = Bracing.to refl (λ ks. Kept.all (InOrder.here 125 (deep_more n ks)))
bracing_first mode.BraceStar h n b c e = Bracing.to refl (λ ks. Kept.all (InOrder.here 125 (deep_more n ks)))
bracing_first m h n b c e = absurd h

-- where they are
abbrev IsCounted : Mode → Type 0
IsCounted mode.Braced = Unit {0}
IsCounted mode.BracedJoin = Unit {0}
IsCounted m = ⊥

close_deep : (n b : ℕ) (ks : List ℕ) → nat_lt 0 n ≡ true → b ≡ 125 → Kept b (125 ∷ deep_ends n ks) (125 ∷ deep_ends (n - 1) ks)
close_deep zero b ks h e = absurd cc
close_deep (suc n) b ks h e = let l : n ≡ suc n - 1 = omega arith in subst (λ k. Kept b (125 ∷ deep_ends (suc n) ks) (125 ∷ deep_ends k ks)) l (closes (125 ∷ deep_ends n ks) e)

close_last : (n b : ℕ) (ks : List ℕ) → nat_lt 0 n ≡ false → b ≡ 125 → Kept b (125 ∷ deep_ends n ks) ks
close_last zero b ks h e = closes ks e
close_last (suc n) b ks h e = let l = lt-ltb 0 (suc n) (omega arith) in absurd cc

bracing_braced : (m : Mode) → IsCounted m → (n b : ℕ) (x : Bool) (c : Class) → nat_lt 0 n ≡ x → class_of b ≡ c → Bracing m n b (in_braced x c b).next
bracing_braced mode.Braced h n b x class.Open d e = Bracing.deeper refl (λ ks. Kept.all (InOrder.here 125 (deep_one n ks)))
bracing_braced mode.Braced h n b true class.Close d e = Bracing.shallower refl (λ ks. close_deep n b ks d (is_class b class.Close e))
bracing_braced mode.Braced h n b false class.Close d e = Bracing.to refl (λ ks. close_last n b ks d (is_class b class.Close e))
bracing_braced mode.Braced h n b true class.Backslash d e = Bracing.to refl (λ ks. Kept.all (in_same _))
bracing_braced mode.Braced h n b false class.Backslash d e = Bracing.to refl (λ ks. Kept.all (in_same _))
bracing_braced mode.Braced h n b true c d e = Bracing.to refl (λ ks. Kept.all (in_same _))
bracing_braced mode.Braced h n b false c d e = Bracing.to refl (λ ks. Kept.all (in_same _))
bracing_braced mode.BracedJoin h n b x class.Open d e = Bracing.deeper refl (λ ks. Kept.all (InOrder.here 125 (deep_one n ks)))
bracing_braced mode.BracedJoin h n b true class.Close d e = Bracing.shallower refl (λ ks. close_deep n b ks d (is_class b class.Close e))
bracing_braced mode.BracedJoin h n b false class.Close d e = Bracing.to refl (λ ks. close_last n b ks d (is_class b class.Close e))
bracing_braced mode.BracedJoin h n b true class.Backslash d e = Bracing.to refl (λ ks. Kept.all (in_same _))
bracing_braced mode.BracedJoin h n b false class.Backslash d e = Bracing.to refl (λ ks. Kept.all (in_same _))
bracing_braced mode.BracedJoin h n b true c d e = Bracing.to refl (λ ks. Kept.all (in_same _))
bracing_braced mode.BracedJoin h n b false c d e = Bracing.to refl (λ ks. Kept.all (in_same _))
bracing_braced m h n b x c d e = absurd h

bracing_pair : (n b : ℕ) (c : Class) → Bracing mode.BracedPair n b (in_braced_pair c b).next
bracing_pair n b class.Newline = Bracing.to refl (λ ks. Kept.all (in_same _))
bracing_pair n b c = Bracing.to refl (λ ks. Kept.all (in_same _))

bracing_brace : (n b : ℕ) (c : Class) → class_of b ≡ c → Bracing mode.BraceFirst n b (in_brace_first c b).next
bracing_brace n b class.Star e = Bracing.to refl (λ ks. Kept.all (in_same _))
bracing_brace n b c e = bracing_first mode.BraceFirst tt n b c e

bracing_star : (n b : ℕ) (c : Class) → class_of b ≡ c → Bracing mode.BraceStar n b (in_brace_star c b).next
bracing_star n b class.Close e = Bracing.to refl (λ ks. closes ks (is_class b class.Close e))
bracing_star n b c e = bracing_first mode.BraceStar tt n b c e

bracing_join : (n b : ℕ) (x y : Bool) (c : Class) → nat_lt 0 n ≡ y → class_of b ≡ c → Bracing mode.BracedJoin n b (cond x (goes mode.BracedJoin) (in_braced y c b)).next
bracing_join n b true y c d e = Bracing.to refl (λ ks. Kept.all (in_same _))
bracing_join n b false y c d e = bracing_braced mode.BracedJoin tt n b y c d e

brace_follow : (m : Mode) (b : ℕ) (x : Target) (n : ℕ) (d : Draft) → Bracing m n b x → KeptMove b (ends_of [] m n d.indices) (follow x n d)
brace_follow m b x n d (Bracing.to {k = k} e f) = subst (λ t. Kept b (brace_ends m n (part_ends t [] d.indices)) (ends_of [] k n d.indices)) e (f _)
brace_follow m b x n d (Bracing.deeper e f) = subst (λ t. Kept b (brace_ends m n (part_ends t [] d.indices)) (ends_of [] mode.Braced (n + 1) d.indices)) (sym e) (f _)
brace_follow m b x n d (Bracing.shallower e f) = subst (λ t. Kept b (brace_ends m n (part_ends t [] d.indices)) (ends_of [] mode.Braced (n - 1) d.indices)) (sym e) (f _)

brace_inside : (m : Mode) (b : ℕ) (x : Target) (n : ℕ) (o : Opener) (os : List Opener) (d : Draft) → Bracing m n b x → KeptMove b (ends_of (o ∷ os) m n d.indices) (follow_inside x n (o ∷ os) d b)
brace_inside m b x n o os d (Bracing.to {k = k} e f) = subst (λ t. Kept b (brace_ends m n (part_ends t (o ∷ os) d.indices)) (ends_of (o ∷ os) k n d.indices)) e (f _)
brace_inside m b x n o os d (Bracing.deeper e f) = subst (λ t. Kept b (brace_ends m n (part_ends t (o ∷ os) d.indices)) (ends_of (o ∷ os) mode.Braced (n + 1) d.indices)) (sym e) (f _)
brace_inside m b x n o os d (Bracing.shallower e f) = subst (λ t. Kept b (brace_ends m n (part_ends t (o ∷ os) d.indices)) (ends_of (o ∷ os) mode.Braced (n - 1) d.indices)) (sym e) (f _)

brace_take : (m : Mode) (b : ℕ) (t : Transition) (n : ℕ) (os : List Opener) (d : Draft) → Bracing m n b t.next → KeptMove b (ends_of os m n d.indices) (take_transition t n os d b)
brace_take m b t n [] d g =
    let e = perform t.first d in
    subst (λ is. KeptMove b (ends_of [] m n is) (follow t.next n (perform t.second e))) (effect_indices t.second e ∙ effect_indices t.first d) (brace_follow m b t.next n (perform t.second e) g)
brace_take m b t n (o ∷ os) d g = brace_inside m b t.next n o os d g

kept_at : (l : Level) (m : Mode) (n : ℕ) (os : List Opener) (d : Draft) (b : ℕ) → KeptMove b (ends_of os m n d.indices) (take_transition (transition (level_in l os) (nat_lt 0 n) m (class_of b) b) n os d b)
unfolding transition
kept_at l (mode.NameBrace s) n os d b = brace_take (mode.NameBrace s) b _ n os d (bracing_name s n b (class_of b) refl)
kept_at l mode.BraceFirst n os d b = brace_take mode.BraceFirst b _ n os d (bracing_brace n b (class_of b) refl)
kept_at l mode.BraceStar n os d b = brace_take mode.BraceStar b _ n os d (bracing_star n b (class_of b) refl)
kept_at l mode.Braced n os d b = brace_take mode.Braced b _ n os d (bracing_braced mode.Braced tt n b (nat_lt 0 n) (class_of b) refl refl)
kept_at l mode.BracedPair n os d b = brace_take mode.BracedPair b _ n os d (bracing_pair n b (class_of b))
kept_at l mode.BracedJoin n os d b = brace_take mode.BracedJoin b _ n os d (bracing_join n b (is_space b) (nat_lt 0 n) (class_of b) refl refl)
kept_at l m n os d b = kept_take (context_in m) b (transition (level_in l os) (nat_lt 0 n) m (class_of b) b) n os d (going (level_in l os) (nat_lt 0 n) m (class_of b) b)

kept_step : (l : Level) (s : State) (b : ℕ) → KeptMove b (ends_at s) (step l s b)
unfolding step
kept_step l s b = kept_at l s.mode s.depth s.inner s.draft b

-- where a text may end nothing is open
context_none : (s : Context) (is : List Context) (x y : Effect) (d : Draft) (ws : List Word) → ended (context_ends true s x y) d ≡ Ok ws → top_ends s is ≡ []
context_none context.Quoted is x y d ws e = absurd cc
context_none context.Index is x y d ws e = absurd cc
context_none context.Bare is x y d ws e = refl
context_none context.Alone is x y d ws e = refl

number_none : (s : Context) (r : Option Effect) (is : List Context) (d : Draft) (ws : List Word) → ended (number_ends true s r) d ≡ Ok ws → top_ends s is ≡ []
number_none s (Some x) is d ws e = context_none s is effect.Nothing x d ws e
number_none context.Bare None is d ws e = refl
number_none context.Alone None is d ws e = refl
number_none context.Quoted None is d ws e = absurd cc
number_none context.Index None is d ws e = absurd cc

none_top : (m : Mode) (n : ℕ) (is : List Context) (d : Draft) (ws : List Word) → ended (ends true m) d ≡ Ok ws → ends_of [] m n is ≡ []
unfolding ends
none_top (mode.In s) n is d ws e = context_none s is effect.Nothing effect.Nothing d ws e
none_top (mode.Pair s) n is d ws e = context_none s is effect.Nothing (effect.Byte 92) d ws e
none_top (mode.Join s) n is d ws e = context_none s is effect.Nothing effect.Nothing d ws e
none_top (mode.Dollar s) n is d ws e = context_none s is effect.Nothing effect.Dollar d ws e
none_top (mode.Colon s) n is d ws e = context_none s is effect.Nothing effect.DollarColon d ws e
none_top (mode.Name s) n is d ws e = context_none s is effect.Nothing effect.Value d ws e
none_top (mode.Number s x) n is d ws e = number_none s (whole x) is d ws e
none_top (mode.NameBrace s) n is d ws e = absurd cc
none_top mode.BraceFirst n is d ws e = absurd cc
none_top mode.BraceStar n is d ws e = absurd cc
none_top mode.Braced n is d ws e = absurd cc
none_top mode.BracedPair n is d ws e = absurd cc
none_top mode.BracedJoin n is d ws e = absurd cc
none_top m n is d ws e = refl

none_at : (m : Mode) (n : ℕ) (os : List Opener) (is : List Context) (d : Draft) (ws : List Word) → ended (ends (is_none os) m) d ≡ Ok ws → ends_of os m n is ≡ []
none_at m n [] is d ws e = none_top m n is d ws e
none_at m n (o ∷ os) is d ws e = absurd (inside_ends m d ws e)

needed_end : (ks : List ℕ) (r : Result (List Word) WordFault) (p : ℕ) (x : List Word × ℕ) → ((ws : List Word) → r ≡ Ok ws → ks ≡ []) → stopped r p ≡ Ok x → InOrder ks []
needed_end ks (Ok ws) p x f e = subst (λ js. InOrder js []) (sym (f ws refl)) InOrder.none
needed_end ks (Err g) p x f e = absurd cc

needed_kept : (b : ℕ) (bs ks ls : List ℕ) → Kept b ks ls → InOrder ls bs → InOrder ks (b ∷ bs)
needed_kept b bs ks ls (Kept.all h) i = InOrder.past b (in_both h i)
needed_kept b bs ks ls (Kept.first e h) i = subst (λ js. InOrder js (b ∷ bs)) (sym e) (InOrder.here b (in_both h i))

needed_transition : (l : Level) (b : ℕ) (bs ks : List ℕ) (p : ℕ) (x : List Word × ℕ) (m : Stepped) → KeptMove b ks m → ((n : State) → read l bs n (p + 1) ≡ Ok x → InOrder (ends_at n) bs) → onward m p (λ n. read l bs n (p + 1)) ≡ Ok x → InOrder ks (b ∷ bs)
needed_transition l b bs ks p x (Go n) h f e = needed_kept b bs ks (ends_at n) h (f n e)
needed_transition l b bs ks p x (Over ws n) h f e = subst (λ js. InOrder js (b ∷ bs)) (sym h) InOrder.none
needed_transition l b bs ks p x (Fails g) h f e = absurd cc

pub needed : (l : Level) (more : List ℕ) (s : State) (p : ℕ) (x : List Word × ℕ) → read l more s p ≡ Ok x → InOrder (ends_at s) more
unfolding read stop
needed l [] s p x e = needed_end (ends_at s) (stop s) p x (λ ws i. none_at s.mode s.depth s.inner s.draft.indices s.draft ws i) e
needed l (b ∷ bs) s p x e = needed_transition l b bs (ends_at s) p x (step l s b) (kept_step l s b) (λ n j. needed l bs n (p + 1) x j) e

-- what the end of a text tells of these ends
abbrev pub IsMissing : WordFault → ℕ → Type 0
IsMissing fault.MissingBrace k = k ≡ 125
IsMissing fault.MissingQuote k = k ≡ 34
IsMissing fault.MissingBracket k = k ≡ 93
IsMissing fault.MissingParen k = k ≡ 41
IsMissing f k = ⊥

abbrev pub IsInmost : WordFault → List ℕ → Type 0
IsInmost f [] = IsOther f
IsInmost f (k ∷ ks) = IsMissing f k

fault_in : WordFault → Result (List Word) WordFault → WordFault
fault_in f (Ok x) = f
fault_in f (Err g) = g

err_same : {f g : WordFault} → ◌≡◌ {A = Result (List Word) WordFault} (Err f) (Err g) → f ≡ g
unfolding fault_in
err_same {f = f} e = ap (fault_in f) e

told : (k : ℕ) (g f : WordFault) → IsMissing g k → ◌≡◌ {A = Result (List Word) WordFault} (Err g) (Err f) → IsMissing f k
told k g f h e = subst (λ x. IsMissing x k) (err_same e) h

inmost_context : (s : Context) (os : List Opener) (is : List Context) (x y : Effect) (d : Draft) (f : WordFault) → ended (context_ends (is_none os) s x y) d ≡ Err f → IsInmost f (part_ends s os is)
inmost_context context.Quoted [] is x y d f e = told 34 fault.MissingQuote f refl e
inmost_context context.Quoted (o ∷ os) is x y d f e = told 34 fault.MissingQuote f refl e
inmost_context context.Index [] [] x y d f e = told 41 fault.MissingParen f refl e
inmost_context context.Index [] (i ∷ is) x y d f e = told 41 fault.MissingParen f refl e
inmost_context context.Index (o ∷ os) is x y d f e = told 41 fault.MissingParen f refl e
inmost_context context.Bare [] is x y d f e = absurd cc
inmost_context context.Alone [] is x y d f e = absurd cc
inmost_context context.Bare (o ∷ os) is x y d f e = told 93 fault.MissingBracket f refl e
inmost_context context.Alone (o ∷ os) is x y d f e = told 93 fault.MissingBracket f refl e

inmost_number : (s : Context) (os : List Opener) (is : List Context) (r : Option Effect) (d : Draft) (f : WordFault) → ended (number_ends (is_none os) s r) d ≡ Err f → IsInmost f (part_ends s os is)
inmost_number s os is (Some x) d f e = inmost_context s os is effect.Nothing x d f e
inmost_number context.Bare [] is None d f e = subst IsOther (err_same e) tt
inmost_number context.Alone [] is None d f e = subst IsOther (err_same e) tt
inmost_number context.Quoted [] is None d f e = inmost_context context.Quoted [] is effect.Nothing effect.Nothing d f e
inmost_number context.Index [] is None d f e = inmost_context context.Index [] is effect.Nothing effect.Nothing d f e
inmost_number s (o ∷ os) is None d f e = inmost_context s (o ∷ os) is effect.Nothing effect.Nothing d f e

inmost_at : (m : Mode) (n : ℕ) (os : List Opener) (is : List Context) (d : Draft) (f : WordFault) → ended (ends (is_none os) m) d ≡ Err f → IsInmost f (ends_of os m n is)
unfolding ends
inmost_at (mode.In s) n os is d f e = inmost_context s os is effect.Nothing effect.Nothing d f e
inmost_at (mode.Pair s) n os is d f e = inmost_context s os is effect.Nothing (effect.Byte 92) d f e
inmost_at (mode.Join s) n os is d f e = inmost_context s os is effect.Nothing effect.Nothing d f e
inmost_at (mode.Dollar s) n os is d f e = inmost_context s os is effect.Nothing effect.Dollar d f e
inmost_at (mode.Colon s) n os is d f e = inmost_context s os is effect.Nothing effect.DollarColon d f e
inmost_at (mode.Name s) n os is d f e = inmost_context s os is effect.Nothing effect.Value d f e
inmost_at (mode.Number s x) n os is d f e = inmost_number s os is (whole x) d f e
inmost_at (mode.NameBrace s) n os is d f e = told 125 fault.MissingBrace f refl e
inmost_at mode.BraceFirst n os is d f e = told 125 fault.MissingBrace f refl e
inmost_at mode.BraceStar n os is d f e = told 125 fault.MissingBrace f refl e
inmost_at mode.Braced n os is d f e = told 125 fault.MissingBrace f refl e
inmost_at mode.BracedPair n os is d f e = told 125 fault.MissingBrace f refl e
inmost_at mode.BracedJoin n os is d f e = told 125 fault.MissingBrace f refl e
inmost_at (mode.BehindPair delimiter.Brace) n [] is d f e = subst IsOther (err_same e) tt
inmost_at (mode.BehindPair delimiter.Quote) n [] is d f e = subst IsOther (err_same e) tt
inmost_at m n [] is d f e = absurd cc
inmost_at mode.Operand n (o ∷ os) is d f e = told 93 fault.MissingBracket f refl e
inmost_at m n (o ∷ os) is d f e = told 93 fault.MissingBracket f refl e

pub inmost : (s : State) (f : WordFault) → stop s ≡ Err f → IsInmost f (ends_at s)
unfolding stop
inmost s f e = inmost_at s.mode s.depth s.inner s.draft.indices s.draft f e
