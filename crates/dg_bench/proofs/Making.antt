-- What a call of a bench comes to.
use Rattle.std.proofs.Common.{ℕ, ◌≡◌, ◌⊎◌, inl, inr, ◌+◌, ◌<◌, ◌≤◌, Bool, true, false, List, [], ◌∷◌, ◌++◌, length, true≢false, refl, sym, ap, ◌∙◌, subst, arith}
use Rattle.std.specs.Prelude.{Option, None, Some, MatchOption, Result, Ok, Err, IfOk, IfErr, OnOk}
use Rattle.std.proofs.lemmas.List.{append-nil}
use Rattle.dg_bench.specs.declared.note.PlaceNote.{PlaceNote}
use Rattle.dg_core.specs.Core.{CoreView, new_core}
use Rattle.dg_world.specs.declared.refusal.Refusal.{Refusal}
use Rattle.dg_world.specs.declared.question.Question.{Question}
use Rattle.dg_world.specs.declared.question.Answer.{Answer}
use Rattle.dg_bench.specs.declared.call.Call.{Call}
use Rattle.dg_bench.specs.declared.refusal.BenchRefusal.{BenchRefusal}
use Rattle.dg_bench.specs.declared.refusal.BenchRefusal.TheVariants.{Shorter, HistoryFull, Edit, Memory}
use Rattle.dg_bench.specs.History.{IsLegal, Makes, Steps}
use Rattle.dg_bench.specs.Seen.{Seen, Told, Kept, kept_of, seen_all, called, KnowsAll, IsKept}
use Rattle.dg_bench.specs.Refusals.{SeesAll, SeesMore, Refuses, RefusesBegun, IsRefused, never}
use Rattle.dg_bench.specs.Made.{Enters, Looks, IsMade, IsLook}
use Rattle.dg_bench.proofs.Steps.{makes_next}

sees_again : (old : Kept) (pass p back : Seen) → SeesAll old pass p → SeesAll old p back → SeesAll old pass back
sees_again old pass p back s t = (s.0, t.1, t.2, s.3)

-- a refusal of a pass that was shown all calls
pub refused_later : (limit : ℕ) (old new : Kept) (pass p back : Seen) (why : BenchRefusal) → SeesAll old pass p → Refuses never limit old new p back why → Refuses never limit old new pass back why
refused_later limit old new pass p back (Shorter seen found) s h =
    let count = ap (λ (q : Seen). q.count) s.1 in
    absurd (omega (arith, count, h.0, h.1, h.2))
refused_later limit old new pass p back HistoryFull s h = (sees_again old pass p back s h.0, h.1, h.2)
refused_later limit old new pass p back (Edit why) s h = absurd h.2
refused_later limit old new pass p back Memory s h = (sees_again old pass p back s h.0, h.1)

sees_more : (old : Kept) (pass back : Seen) → SeesAll old pass back → SeesMore pass back
sees_more old pass back s = subst (SeesMore pass) (sym s.1) (refl, refl, s.0, s.2, s.3)

-- what a caller is told of a refusal
pub is_refused : (cause : CoreView → Refusal → Type 0) (limit : ℕ) (old new : Kept) (pass back : Seen) (why : BenchRefusal) → Refuses cause limit old new pass back why → IsRefused cause pass back why
is_refused cause limit old new pass back (Shorter seen found) h = (h.0, h.2, h.3)
is_refused cause limit old new pass back HistoryFull h = sees_more old pass back h.0
is_refused cause limit old new pass back (Edit why) h =
    (sees_more old pass back h.0, (old.core, subst (λ (q : Seen). Makes new_core q.calls old.core) (sym h.0.1) h.1, h.2), h.3)
is_refused cause limit old new pass back Memory h = sees_more old pass back h.0

-- what a caller is told of a call that entered
pub is_made : (limit : ℕ) (old new : Kept) (pass back : Seen) (receipt : Told) (call : Call) → Enters limit old new pass back receipt call → IsMade pass back receipt call
is_made limit old new pass back receipt call e =
    record {
      before = old.calls;
      within = e.within;
      begins = e.begins;
      legal = subst IsLegal e.calls e.legal;
      back = e.back ∙ ap seen_all e.calls;
      receipt = e.receipt;
    }

-- and of a look
pub is_look : (old new : Kept) (pass back : Seen) (receipt : Told) (q : Question) (a : Answer) → Looks old new pass back receipt q a → IsLook pass back receipt q a
is_look old new pass back receipt q a l =
    record {
      calls = old.calls;
      within = l.within;
      begins = l.begins;
      legal = l.legal;
      core = old.core;
      makes = l.makes;
      answer = l.answer;
      back = l.back;
      receipt = l.receipt;
    }

pub is_answered : (limit : ℕ) (old new : Kept) (pass back : Seen) (receipt : Told) (call : Call) (q : Question) (a : Answer) (o : Option Answer)
    → MatchOption o (Enters limit old new pass back receipt call) (λ _. Looks old new pass back receipt q a) → IsMade pass back receipt call ⊎ IsLook pass back receipt q a
is_answered limit old new pass back receipt call q a None h = inl (is_made limit old new pass back receipt call h)
is_answered limit old new pass back receipt call q a (Some b) h = inr (is_look old new pass back receipt q a h)

-- a call that the core has made, behind the others
pub next_made : (old : Kept) (core next : CoreView) (calls : List Call) (stopped : Bool) (call : Call) → kept_of core calls stopped ≡ old
    → (old.stopped ≡ false) × Makes new_core old.calls old.core → Steps core call next → Makes new_core (calls ++ call ∷ []) next
next_made old core next calls stopped call view run step =
    makes_next new_core calls core next call (subst (λ (k : Kept). Makes new_core k.calls k.core) (sym view) run.1) step

pub next_legal : (old : Kept) (core next : CoreView) (calls : List Call) (stopped : Bool) (entered call : Call) → kept_of core calls stopped ≡ old
    → (old.stopped ≡ false) × Makes new_core old.calls old.core → entered ≡ call → Steps core call next → IsLegal (calls ++ entered ∷ [])
next_legal old core next calls stopped entered call view run same step =
    subst (λ (x : Call). IsLegal (calls ++ x ∷ [])) (sym same) (next, next_made old core next calls stopped call view run step)

-- a call that was made, by a pass that had seen all calls
pub enters : (limit : ℕ) (old : Kept) (core next : CoreView) (calls now : List Call) (stopped after : Bool) (back : Seen) (receipt : Told) (entered call : Call)
    → kept_of core calls stopped ≡ old → (old.stopped ≡ false) × Makes new_core old.calls old.core → length old.calls < limit
    → entered ≡ call → Steps core call next → now ≡ calls ++ entered ∷ [] → back ≡ seen_all (calls ++ entered ∷ []) → receipt ≡ called (length calls) entered → after ≡ stopped
    → Enters limit old (kept_of next now after) (seen_all old.calls) back receipt call
enters limit old core next calls now stopped after back receipt entered call view run room same step now_is back_is receipt_is after_is =
    let made = next_made old core next calls stopped call view run step in
    let all : now ≡ calls ++ call ∷ [] = now_is ∙ ap (λ (x : Call). calls ++ x ∷ []) same in
    record {
      within = omega arith;
      begins = λ ours. ([], append-nil old.calls);
      room = room;
      running = run.0;
      goes_on = after_is ∙ ap (λ (k : Kept). k.stopped) view ∙ run.0;
      step = subst (λ (k : Kept). Steps k.core call next) view step;
      calls = all ∙ ap (λ (k : Kept). k.calls ++ call ∷ []) view;
      legal = (next, subst (λ xs. Makes new_core xs next) (sym all) made);
      back = back_is ∙ ap seen_all (sym now_is);
      receipt = receipt_is ∙ ap (called (length calls)) same ∙ ap (λ (k : Kept). called (length k.calls) call) view;
    }

-- and what it is to a pass that was shown them
pub entered_later : (limit : ℕ) (old mid new : Kept) (pass p later : Seen) (told : Told) (call : Call)
    → mid ≡ old → SeesAll old pass p → Enters limit mid new (seen_all mid.calls) later told call → Enters limit old new pass later told call
entered_later limit old mid new pass p later told call same sees e =
    let f : Enters limit old new (seen_all old.calls) later told call = subst (λ (k : Kept). Enters limit k new (seen_all k.calls) later told call) same e in
    record {
      within = sees.0;
      begins = sees.3;
      room = f.room;
      running = f.running;
      goes_on = f.goes_on;
      step = f.step;
      calls = f.calls;
      legal = f.legal;
      back = f.back;
      receipt = f.receipt;
    }

-- a call that was begun and is refused
pub refused_begun : (cause : CoreView → Refusal → Type 0) (limit : ℕ) (old mid new : Kept) (pass p : Seen) (why : BenchRefusal)
    → mid ≡ old → SeesAll old pass p → (old.stopped ≡ false) × Makes new_core old.calls old.core → length old.calls < limit
    → RefusesBegun cause mid new why → Refuses cause limit old new pass p why
refused_begun cause limit old mid new pass p why same sees run room r =
    told why (subst (λ (k : Kept). RefusesBegun cause k new why) same r)
  where
    told : (w : BenchRefusal) → RefusesBegun cause old new w → Refuses cause limit old new pass p w
    told (Shorter seen found) h = absurd h
    told HistoryFull h = (sees, h.0, inr h.1)
    told (Edit cause_of) h = (sees, run.1, h.0, h.1, h.2, room)
    told Memory h = (sees, h)

-- what the locked value keeps then
pub kept_next : (names : List ℕ) (old : Kept) (core next : CoreView) (calls now : List Call) (notes : List PlaceNote) (stopped after : Bool) (entered call : Call)
    → kept_of core calls stopped ≡ old → (old.stopped ≡ false) × Makes new_core old.calls old.core → entered ≡ call → Steps core call next
    → now ≡ calls ++ entered ∷ [] → KnowsAll names notes now → IsKept names next now notes after
kept_next names old core next calls now notes stopped after entered call view run same step now_is all =
    let made : Makes new_core now next =
    subst (λ xs. Makes new_core xs next) (sym (now_is ∙ ap (λ (x : Call). calls ++ x ∷ []) same)) (next_made old core next calls stopped call view run step) in
    (all, (next, made), λ _. made)

-- and once the bench has stopped
pub kept_stopped : (names : List ℕ) (next : CoreView) (calls now : List Call) (notes : List PlaceNote) (after : Bool) → IsLegal calls → now ≡ calls → after ≡ true → KnowsAll names notes now
    → IsKept names next now notes after
kept_stopped names next calls now notes after legal now_is after_is all =
    (all, subst IsLegal (sym now_is) legal, λ running. absurd (true≢false (sym after_is ∙ running)))

-- the refusal of a bench that stops
pub stops : (cause : CoreView → Refusal → Type 0) (old : Kept) (core next : CoreView) (calls now : List Call) (stopped after : Bool)
    → kept_of core calls stopped ≡ old → now ≡ calls → after ≡ true → RefusesBegun cause old (kept_of next now after) HistoryFull
stops cause old core next calls now stopped after view now_is after_is = (now_is ∙ ap (λ (k : Kept). k.calls) view, after_is)

-- what the locked value keeps once a call was ended, in either case
pub kept_finished : {A : Type 0} (names : List ℕ) (old : Kept) (core next : CoreView) (calls mid now : List Call) (notes : List PlaceNote) (stopped after : Bool) (entered call : Call) (r : Result A BenchRefusal)
    → kept_of core calls stopped ≡ old → (old.stopped ≡ false) × Makes new_core old.calls old.core → IsLegal calls → mid ≡ calls → entered ≡ call → Steps core call next
    → OnOk r (now ≡ mid ++ entered ∷ []) → IfErr r (λ why. (now ≡ mid) × (after ≡ true) × (why ≡ HistoryFull)) → KnowsAll names notes now → IsKept names next now notes after
kept_finished names old core next calls mid now notes stopped after entered call (Ok made) view run legal mid_is same step ok err all =
    kept_next names old core next calls now notes stopped after entered call view run same step (ok ∙ ap (λ xs. xs ++ entered ∷ []) mid_is) all
kept_finished names old core next calls mid now notes stopped after entered call (Err why) view run legal mid_is same step ok err all =
    kept_stopped names next calls now notes after legal (err.0 ∙ mid_is) err.1 all

-- what the call is that was ended
pub enters_finished : (limit : ℕ) (old : Kept) (core next : CoreView) (calls mid now : List Call) (stopped after : Bool) (entered call : Call) (r : Result (Seen × Told) BenchRefusal)
    → kept_of core calls stopped ≡ old → (old.stopped ≡ false) × Makes new_core old.calls old.core → length old.calls < limit → mid ≡ calls → entered ≡ call → Steps core call next
    → OnOk r (now ≡ mid ++ entered ∷ []) → IfOk r (λ m. m.0 ≡ seen_all (mid ++ entered ∷ [])) → IfOk r (λ m. m.1 ≡ called (length mid) entered) → OnOk r (after ≡ stopped)
    → IfOk r (λ m. Enters limit old (kept_of next now after) (seen_all old.calls) m.0 m.1 call)
enters_finished limit old core next calls mid now stopped after entered call (Ok made) view run room mid_is same step now_is back_is receipt_is after_is =
    enters limit old core next calls now stopped after made.0 made.1 entered call view run room same step
    (now_is ∙ ap (λ xs. xs ++ entered ∷ []) mid_is) (back_is ∙ ap (λ xs. seen_all (xs ++ entered ∷ [])) mid_is) (receipt_is ∙ ap (λ xs. called (length xs) entered) mid_is) after_is
enters_finished limit old core next calls mid now stopped after entered call (Err why) view run room mid_is same step now_is back_is receipt_is after_is = tt

-- or its refusal
pub refuses_finished : {A : Type 0} (cause : CoreView → Refusal → Type 0) (old : Kept) (core next : CoreView) (calls mid now : List Call) (stopped after : Bool) (r : Result A BenchRefusal)
    → kept_of core calls stopped ≡ old → mid ≡ calls → IfErr r (λ why. (now ≡ mid) × (after ≡ true) × (why ≡ HistoryFull)) → IfErr r (RefusesBegun cause old (kept_of next now after))
refuses_finished cause old core next calls mid now stopped after (Ok made) view mid_is err = tt
refuses_finished cause old core next calls mid now stopped after (Err why) view mid_is err =
    subst (RefusesBegun cause old (kept_of next now after)) (sym err.2) (stops cause old core next calls now stopped after view (err.0 ∙ mid_is) err.1)

-- a bench that runs isn't full for a look
pub never_full : (old new : Kept) (pass back : Seen) (why : BenchRefusal) → ((limit : ℕ) → Refuses never limit old new pass back why) → new ≡ old → old.stopped ≡ false → why ≡ HistoryFull → ⊥
never_full old new pass back why refused same running full =
    let told : SeesAll old pass back × (new.calls ≡ old.calls) × (((length old.calls + 1 ≤ length old.calls) × (new ≡ old)) ⊎ (new.stopped ≡ true)) =
    subst (λ (w : BenchRefusal). Refuses never (length old.calls + 1) old new pass back w) full (refused (length old.calls + 1)) in
    elim told.2 as (λ _. ⊥) [
      | inl l ↦ (let above : length old.calls + 1 ≤ length old.calls = l.0 in omega arith)
      | inr stopped ↦ true≢false (sym stopped ∙ ap (λ (k : Kept). k.stopped) same ∙ running)
    ]

-- a first ask by a pass that was shown all calls
pub asked_first : (limit : ℕ) (old mid new : Kept) (pass p later : Seen) (told : Told) (q : Question) (a : Answer) (o : Option Answer) (call : Call)
    → mid ≡ old → SeesAll old pass p → o ≡ None → Enters limit mid new p later told call
    → MatchOption o (Enters limit old new pass later told call) (λ _. Looks old new pass later told q a)
asked_first limit old mid new pass p later told q a o call same sees none e =
    let f : Enters limit old new p later told call = subst (λ (k : Kept). Enters limit k new p later told call) same e in
    let entered : Enters limit old new pass later told call =
    record {
      within = sees.0;
      begins = sees.3;
      room = f.room;
      running = f.running;
      goes_on = f.goes_on;
      step = f.step;
      calls = f.calls;
      legal = f.legal;
      back = f.back;
      receipt = f.receipt;
    } in
    subst (λ (x : Option Answer). MatchOption x (Enters limit old new pass later told call) (λ _. Looks old new pass later told q a)) (sym none) entered
