-- Steps and segments of a reading.
use Rattle.std.specs.Prelude.{◌≡◌, ℕ, ◌+◌, List, [], ◌∷◌, ◌++◌, length, refl, false, nat_lt}
use Rattle.std.proofs.Common.{◌∙◌, ap, sym, arith, subst, append_assoc, length-append}
use Rattle.std.proofs.lemmas.List.{append-nil}
use Rattle.dg_lists.specs.declared.kinds.Class.{Class}
use Rattle.dg_lists.specs.declared.kinds.Class.TheVariants as class
use Rattle.dg_lists.specs.declared.kinds.Effect.{Effect}
use Rattle.dg_lists.specs.declared.kinds.Effect.TheVariants as effect
use Rattle.dg_words.specs.declared.kinds.Level.{Level}
use Rattle.dg_lists.specs.declared.kinds.Mode.{Mode}
use Rattle.dg_lists.specs.declared.kinds.Mode.TheVariants as mode
use Rattle.dg_lists.specs.declared.kinds.Target.TheVariants as target
use Rattle.dg_words.specs.declared.kinds.Opener.{Opener}
use Rattle.dg_lists.specs.declared.kinds.Context.{Context}
use Rattle.dg_lists.specs.declared.kinds.Context.TheVariants as context
use Rattle.dg_lists.specs.declared.kinds.Transition.{Transition}
use Rattle.dg_lists.specs.Classes.{class_of}
use Rattle.dg_words.specs.Transitions.{heard}
use Rattle.dg_lists.specs.Transitions.{behind_effect}
use Rattle.dg_words.specs.Transitions.{ends, in_bare, in_context, context_ends, transition}
use Rattle.dg_words.specs.Machine.{Draft, Go, State, add, ended, follow, is_none, level_in, onward, perform, read, step, stop, stopped, take_transition}

abbrev pub at : List Opener → Mode → ℕ → Draft → State
at inner m n d = record { mode = m; depth = n; inner = inner; draft = d }

-- before the text after, reading t from s on leaves n
pub record Leads (l : Level) (after : List ℕ) (s : State) (t : List ℕ) (n : State) : Type 0 where
  pub on : (p : ℕ) → read l (t ++ after) s p ≡ read l after n (p + length t)

pub lead_same : (l : Level) (after : List ℕ) (s n : State) → ((p : ℕ) → read l after s p ≡ read l after n p) → Leads l after s [] n
lead_same l after s n h = record { on = λ p. h p ∙ ap (λ q. read l after n q) (omega arith) }

pub lead_none : (l : Level) (after : List ℕ) (s : State) → Leads l after s [] s
lead_none l after s = lead_same l after s s (λ p. refl)

pub lead_one : (l : Level) (after : List ℕ) (s n : State) (b : ℕ) → step l s b ≡ Go n → Leads l after s (b ∷ []) n
unfolding read
lead_one l after s n b e = record { on = λ p. ap (λ m. onward m p (λ k. read l after k (p + 1))) e }

pub lead_both : (l : Level) (after : List ℕ) (s n m : State) (t u : List ℕ) → Leads l (u ++ after) s t n → Leads l after n u m → Leads l after s (t ++ u) m
lead_both l after s n m t u f g = record {
  on = λ p. ap (λ x. read l x s p) (append_assoc t u after) ∙ f.on p ∙ g.on (p + length t) ∙ ap (λ q. read l after m q) (omega (arith, length-append t u));
}

pub step_by : (l : Level) (s : State) (b : ℕ) (c : Class) (t : Transition) → class_of b ≡ c → transition (level_in l s.inner) (nat_lt 0 s.depth) s.mode c b ≡ t → step l s b ≡ take_transition t s.depth s.inner s.draft b
unfolding step
step_by l s b c t h e = ap (λ (x : Transition). take_transition x s.depth s.inner s.draft b) (ap (λ k. transition (level_in l s.inner) (nat_lt 0 s.depth) s.mode k b) h ∙ e)

pub read_step : (l : Level) (s n : State) (b : ℕ) (bs : List ℕ) (p : ℕ) → step l s b ≡ step l n b → read l (b ∷ bs) s p ≡ read l (b ∷ bs) n p
unfolding read
read_step l s n b bs p e = ap (λ m. onward m p (λ k. read l bs k (p + 1))) e

pub read_end : (l : Level) (s n : State) (p : ℕ) → stop s ≡ stop n → read l [] s p ≡ read l [] n p
unfolding read
read_end l s n p e = ap (λ r. stopped r p) e

-- what a text does to the draft: within brackets it is kept as it stands
abbrev pub moved : List Opener → List ℕ → (Draft → Draft) → Draft → Draft
moved [] a f d = f d
moved (o ∷ os) a f d = add a d

pub add_add : (u v : List ℕ) (d : Draft) → add v (add u d) ≡ add (u ++ v) d
add_add u v d = ap (λ t. record d { text = t }) (append_assoc d.text u v)

pub add_none : (d : Draft) → add [] d ≡ d
add_none d = ap (λ t. record d { text = t }) (append-nil d.text)

pub moved_both : (inner : List Opener) (a u : List ℕ) (f g : Draft → Draft) (d : Draft) → moved inner u g (moved inner a f d) ≡ moved inner (a ++ u) (λ x. g (f x)) d
moved_both [] a u f g d = refl
moved_both (o ∷ os) a u f g d = add_add a u d

-- a text read in a mode, whatever the draft
abbrev pub Seg : Level → List Opener → List ℕ → Mode → ℕ → List ℕ → (Draft → Draft) → Mode → ℕ → Type 0
Seg l inner after m n a f k o = (d : Draft) → Leads l after (at inner m n d) a (at inner k o (moved inner a f d))

pub seg_both : (l : Level) (inner : List Opener) (after : List ℕ) (m k j : Mode) (n o i : ℕ) (a u : List ℕ) (f g : Draft → Draft) →
    Seg l inner (u ++ after) m n a f k o → Seg l inner after k o u g j i → Seg l inner after m n (a ++ u) (λ x. g (f x)) j i
seg_both l inner after m k j n o i a u f g x y = λ d.
    subst (λ z. Leads l after (at inner m n d) (a ++ u) (at inner j i z)) (moved_both inner a u f g d) (lead_both l after _ _ _ a u (x d) (y (moved inner a f d)))

pub taken_to : (f g : Effect) (m : Mode) (inner : List Opener) (n : ℕ) (d : Draft) (b : ℕ) →
    take_transition (record { first = f; second = g; next = target.To m }) n inner d b ≡ Go (at inner m n (moved inner (b ∷ []) (λ x. perform g (perform f x)) d))
taken_to f g m [] n d b = refl
taken_to f g m (o ∷ os) n d b = refl

pub seg_one : (l : Level) (inner : List Opener) (after : List ℕ) (m k : Mode) (n b : ℕ) (c : Class) (f g : Effect) → class_of b ≡ c →
    transition (level_in l inner) (nat_lt 0 n) m c b ≡ record { first = f; second = g; next = target.To k } → Seg l inner after m n (b ∷ []) (λ x. perform g (perform f x)) k n
seg_one l inner after m k n b c f g e h = λ d. lead_one l after _ _ b (step_by l (at inner m n d) b c _ e h ∙ taken_to f g k inner n d b)

pub seg_then : (l : Level) (inner : List Opener) (after : List ℕ) (m k j : Mode) (n o i b : ℕ) (u : List ℕ) (f g : Draft → Draft) →
    Seg l inner (u ++ after) m n (b ∷ []) f k o → Seg l inner after k o u g j i → Seg l inner after m n (b ∷ u) (λ x. g (f x)) j i
seg_then l inner after m k j n o i b u f g x y = seg_both l inner after m k j n o i (b ∷ []) u f g x y

-- nothing is done first where parts stand
bare_first : (l : Level) (c : Class) (b : ℕ) → (in_bare l c b).first ≡ effect.Nothing
bare_first l class.Blank b = refl
bare_first l class.Newline b = refl
bare_first l class.Semicolon b = refl
bare_first l class.LeftBracket b = refl
bare_first l class.RightBracket b = refl
bare_first l class.Backslash b = refl
bare_first l class.Dollar b = refl
bare_first l c b = refl

pub context_first : (l : Level) (s : Context) (c : Class) (b : ℕ) → (in_context l s c b).first ≡ effect.Nothing
context_first l context.Bare c b = bare_first l (heard l c) b
context_first l context.Quoted class.Quote b = refl
context_first l context.Quoted class.LeftBracket b = refl
context_first l context.Quoted class.Backslash b = refl
context_first l context.Quoted class.Dollar b = refl
context_first l context.Quoted c b = refl
context_first l context.Index class.RightParen b = refl
context_first l context.Index class.LeftBracket b = refl
context_first l context.Index class.Backslash b = refl
context_first l context.Index class.Dollar b = refl
context_first l context.Index c b = refl
context_first l context.Alone c b = refl

-- a effect that is still to be done, behind which parts go on
abbrev pub does_in : List Opener → Effect → Draft → Draft
does_in [] e d = perform e d
does_in (o ∷ os) e d = d

pub pend_transition : (t : Transition) (e : Effect) (inner : List Opener) (d : Draft) (b : ℕ) → t.first ≡ effect.Nothing → take_transition (behind_effect e t) 0 inner d b ≡ take_transition t 0 inner (does_in inner e d) b
pend_transition t e [] d b h = ap (λ x. follow t.next 0 (perform t.second (perform x (perform e d)))) (sym h)
pend_transition t e (o ∷ os) d b h = refl

pub pend_step : (l : Level) (inner : List Opener) (m : Mode) (s : Context) (e : Effect) (d : Draft) (b : ℕ) →
    transition (level_in l inner) false m (class_of b) b ≡ behind_effect e (in_context (level_in l inner) s (class_of b) b) → step l (at inner m 0 d) b ≡ step l (at inner (mode.In s) 0 (does_in inner e d)) b
unfolding transition
pend_step l inner m s e d b h =
    let t : Transition = in_context (level_in l inner) s (class_of b) b in
    step_by l (at inner m 0 d) b (class_of b) (behind_effect e t) refl h ∙ pend_transition t e inner d b (context_first (level_in l inner) s (class_of b) b)
    ∙ sym (step_by l (at inner (mode.In s) 0 (does_in inner e d)) b (class_of b) t refl refl)

pend_ended : (inner : List Opener) (s : Context) (e : Effect) (d : Draft) → ended (context_ends (is_none inner) s effect.Nothing e) d ≡ ended (context_ends (is_none inner) s effect.Nothing effect.Nothing) (does_in inner e d)
pend_ended [] context.Bare e d = refl
pend_ended [] context.Quoted e d = refl
pend_ended [] context.Index e d = refl
pend_ended [] context.Alone e d = refl
pend_ended (o ∷ os) context.Bare e d = refl
pend_ended (o ∷ os) context.Quoted e d = refl
pend_ended (o ∷ os) context.Index e d = refl
pend_ended (o ∷ os) context.Alone e d = refl

pub pend_stop : (inner : List Opener) (m : Mode) (s : Context) (e : Effect) (d : Draft) → ends (is_none inner) m ≡ context_ends (is_none inner) s effect.Nothing e →
    stop (at inner m 0 d) ≡ stop (at inner (mode.In s) 0 (does_in inner e d))
unfolding stop ends
pend_stop inner m s e d h = ap (λ x. ended x d) h ∙ pend_ended inner s e d

-- before this text a mode is that of parts, with a effect to be done
pub record Pends (l : Level) (inner : List Opener) (after : List ℕ) (m : Mode) (s : Context) (e : Effect) : Type 0 where
  pub transitions : (b : ℕ) (rest : List ℕ) → after ≡ b ∷ rest → transition (level_in l inner) false m (class_of b) b ≡ behind_effect e (in_context (level_in l inner) s (class_of b) b)
  pub stops : ends (is_none inner) m ≡ context_ends (is_none inner) s effect.Nothing e

pub pend_read : (l : Level) (inner : List Opener) (after : List ℕ) (m : Mode) (s : Context) (e : Effect) (d : Draft) → Pends l inner after m s e → (p : ℕ) →
    read l after (at inner m 0 d) p ≡ read l after (at inner (mode.In s) 0 (does_in inner e d)) p
pend_read l inner [] m s e d h p = read_end l _ _ p (pend_stop inner m s e d h.stops)
pend_read l inner (b ∷ bs) m s e d h p = read_step l _ _ b bs p (pend_step l inner m s e d b (h.transitions b bs refl))

pub done : (inner : List Opener) (e : Effect) (d : Draft) → does_in inner e d ≡ moved inner [] (perform e) d
done [] e d = refl
done (o ∷ os) e d = sym (add_none d)

pub seg_pend : (l : Level) (inner : List Opener) (after : List ℕ) (m : Mode) (s : Context) (e : Effect) → Pends l inner after m s e → Seg l inner after m 0 [] (perform e) (mode.In s) 0
seg_pend l inner after m s e h = λ d.
    subst (λ x. Leads l after (at inner m 0 d) [] (at inner (mode.In s) 0 x)) (done inner e d) (lead_same l after _ _ (pend_read l inner after m s e d h))
