-- What holds between the turns of a live run, and what its end is.
use Rattle.std.proofs.Common.{◌≡◌, ℕ, ◌+◌, ◌-◌, ◌^◌, ◌<◌, ◌≤◌, true, false, List, [], ◌∷◌, ◌++◌, length, refl, sym, subst, ap, ◌∙◌, arith, sum_by}
use Rattle.std.specs.Prelude.{Option, Some, None}
use Rattle.dg_transcript.specs.declared.entry.Entry.{Entry}
use Rattle.dg_transcript.specs.declared.cursor.Action.{Action}
use Rattle.dg_transcript.specs.Limits.{IsTranscript}
use Rattle.dg_world.specs.declared.question.Question.{Question}
use Rattle.dg_world.specs.declared.question.Question.TheVariants as question
use Rattle.dg_world.specs.declared.question.Answer.{Answer}
use Rattle.dg_world.specs.declared.question.Answer.TheVariants as answer
use Rattle.dg_world.specs.declared.question.Read.{Read}
use Rattle.dg_world.specs.declared.test_id.TestId.{TestId}
use Rattle.dg_world.specs.Question.{fits}
use Rattle.dg_language.specs.declared.ask.Ask.{Ask}
use Rattle.dg_language.specs.Play.{Play, Ends, Asks, Source, Over, run, GivesEach, Leads}
use Rattle.dg_language.specs.Evaluation.{Ending}
use Rattle.dg_language.specs.Judge.{judge}
use Rattle.dg_results.specs.declared.verdict.Line.{Line}
use Rattle.dg_records.specs.Truth.{RecordView}
use Rattle.dg_eval.specs.Evaluating.{NeedsNext}
use Rattle.dg_eval.specs.Truth.{JobView}
use Rattle.dg_eval.specs.Advance.{HasEndedWith, started, Advances, Refuses}
use Rattle.dg_eval.specs.declared.job.Turn.TheVariants.{Need}
use Rattle.dg_eval.specs.declared.job.JobFault.{JobFault}
use Rattle.dg_eval.specs.declared.job.JobFault.TheVariants.{NotAsked, WrongKind, PatternLost, Memory, Failed}
use Rattle.dg_live.specs.declared.fault.LiveFault.TheVariants.{Job}
use Rattle.dg_living.specs.Living.{LivesAsked, LivesOn, entries_at}
use Rattle.dg_living.specs.Replayed.{MayAnswer, LeadsLive, IsReplayed, AllStand, TellsOf, others, told_entry, transcript_of}
use Rattle.dg_living.proofs.Agreeing.{sum-more}
use Rattle.dg_living.proofs.Judging.{judging-lives}
use Rattle.dg_living.proofs.Walking.{told-plain, lives-along, live-replayed}
use Rattle.dg_live.specs.Walk.{GateStep, AskerStep, Acts, calls_of, AnswersTo, IsKnown, IsForAsker, Walks, IsLiveRun, Turns, CanFail}
use Rattle.dg_live.proofs.Telling.{told-push}

-- where reads lead to, they lead to live, if they lead anywhere live
leads-same : (play rest other : Play Ending) (reads : List Read) → LeadsLive play reads other → Leads play reads rest → LeadsLive play reads rest
leads-same play rest other [] live leads = leads
leads-same (Ends e) rest other (r ∷ rs) live leads = absurd leads
leads-same (Asks ask f) rest other (r ∷ rs) live leads = (live.0, live.1, leads-same (f r.answer) rest other rs live.2 leads.2)

leads-more : (play : Play Ending) (reads : List Read) (ask : Ask) (f : Answer → Play Ending) (a : Answer) → LeadsLive play reads (Asks ask f)
    → MayAnswer ask.question ask.action a → LeadsLive play (reads ++ record { question = ask.question; answer = a } ∷ []) (f a)
leads-more play [] ask f a leads may =
    subst (λ p. LeadsLive p (record { question = ask.question; answer = a } ∷ []) (f a)) (sym leads) (refl, may, refl)
leads-more (Ends e) (r ∷ rs) ask f a leads may = absurd leads
leads-more (Asks first g) (r ∷ rs) ask f a leads may = (leads.0, leads.1, leads-more (g r.answer) rs ask f a leads.2 may)

-- what answers the asker's questions and the gate's may be answered live
may-answer : (q : Question) (o : Option Action) (a : Answer) → fits q a ≡ true → IsKnown o a → MayAnswer q o a
may-answer q None a kind known = kind
may-answer q (Some act) a kind known = known

-- what lives on and asks: the asker not about an entry, the gate while there is room
for-asker : (t : TestId) (ss : List (List Entry)) (q : Question) (o : Option Action) (f : Answer → List (List Entry) → Type 0)
    → LivesAsked t ss q o f → IsForAsker o q
for-asker t ss q None f lives = lives.0
for-asker t ss q (Some act) f lives = tt

has-room : (t : TestId) (ss : List (List Entry)) (q : Question) (o : Option Action) (act : Action) (f : Answer → List (List Entry) → Type 0)
    → o ≡ Some act → LivesAsked t ss q o f → sum_by length ss < 65536
has-room t ss q None act f is lives = absurd cc
has-room t ss q (Some other) act f is lives = lives.2

-- an answer adds an entry where the gate was called
one-call : (t : TestId) (ss : List (List Entry)) (q : Question) (o : Option Action) (a : Answer) (f : Answer → List (List Entry) → Type 0)
    → LivesAsked t ss q o f → MayAnswer q o a → sum_by length (told_entry q a ss) ≡ sum_by length ss + calls_of o
one-call t ss q None a f lives may = ap (sum_by length) (told-plain q a ss lives.0) ∙ omega arith
one-call t ss q (Some act) a f lives may =
    ap (λ x. sum_by length (told_entry x a ss)) lives.1.2
    ∙ ap (λ x. sum_by length (told_entry (question.Entry (record { test = t; session = lives.0; place = length (entries_at (lives.0 - 1) ss) })) x ss)) may.3
    ∙ sum-more (lives.0 - 1) may.0 ss

-- a job that asks can only want memory, or refuse an answer of another kind
pub refuses-can : (j k l : JobView) (ask : Ask) (a : Answer) (f : JobFault) → j.failed ≡ false → Advances j k (Need ask) → Refuses k l a f → CanFail (Job f)
refuses-can j k l ask a NotAsked sound asked why = let stood = ap (λ x. x.asked) asked.2 in absurd cc
refuses-can j k l ask a WrongKind sound asked why = tt
refuses-can j k l ask a PatternLost sound asked why = tt
refuses-can j k l ask a Memory sound asked why = tt
refuses-can j k l ask a Failed sound asked why = let stays = ap (λ x. x.failed) asked.2 in absurd cc

module _ {G A : Type 0} (gates : GateStep G) (asks : AskerStep A) where
  walks-more : (play : Play Ending) (reads : List Read) (ask : Ask) (f : Answer → Play Ending) (a : Answer) (g h k : G) (s u w : A)
      → LeadsLive play reads (Asks ask f) → IsForAsker ask.action ask.question → Walks gates asks play reads g s h u
      → AnswersTo gates asks ask.question ask.action a h u k w
      → Walks gates asks play (reads ++ record { question = ask.question; answer = a } ∷ []) g s k w
  walks-more play [] ask f a g h k s u w leads right walk told =
      subst (λ p. Walks gates asks p (record { question = ask.question; answer = a } ∷ []) g s k w) (sym leads) (
        refl,
        right,
        (
          k,
          w,
          subst (λ x. AnswersTo gates asks ask.question ask.action a x s k w) walk.0
              (subst (λ x. AnswersTo gates asks ask.question ask.action a h x k w) walk.1 told),
          (refl, refl),
        ),
      )
  walks-more (Ends e) (r ∷ rs) ask f a g h k s u w leads right walk told = absurd leads
  walks-more (Asks first m) (r ∷ rs) ask f a g h k s u w leads right walk told = (
    walk.0,
    walk.1,
    (walk.2.0, walk.2.1, walk.2.2, walks-more (m r.answer) rs ask f a walk.2.0 h k walk.2.1 u w leads.2 right walk.2.3 told),
  )

  module _ (count : G → ℕ) (t : TestId) (g : G) (s : A) where
    -- a job that was answered live, by these calls
    pub record Going (j : JobView) (h : G) (u : A) : Type 0 where
      pub test : j.test ≡ t
      pub live : j.live ≡ true
      pub failed : j.failed ≡ false
      pub walk : Walks gates asks (judge t) j.reads g s h u
      pub rest : Play Ending
      pub leads : LeadsLive (judge t) j.reads rest
      pub counted : count h ≤ count g + sum_by length (transcript_of j.reads)

    next-lives : (j : JobView) (h : G) (u : A) (ask : Ask) (i : Going j h u) (n : NeedsNext j.test j.reads ask)
        → LeadsLive (judge t) j.reads (Asks ask n.leads.0) × LivesOn t (Asks ask n.leads.0) (transcript_of j.reads)
    next-lives j h u ask i n =
        let leads = leads-same (judge t) (Asks ask n.leads.0) i.rest j.reads i.leads
        (subst (λ x. Leads (judge x) j.reads (Asks ask n.leads.0)) i.test n.leads.1) in (
          leads,
          lives-along t (judge t) (Asks ask n.leads.0) [] j.reads (judging-lives t) leads,
        )

    -- the gate can be called for what is asked next
    pub going-room : (j : JobView) (h : G) (u : A) → Going j h u → count g + 65536 < 2 ^ 64 → (ask : Ask) → NeedsNext j.test j.reads ask → Acts ask
        → count h < 2 ^ 64 - 1
    going-room j h u i room ask n acts =
        let lives = (next-lives j h u ask i n).1 in
        omega (arith, i.counted, room, has-room t (transcript_of j.reads) ask.question ask.action acts.0 _ acts.1 lives)

    -- one answer more
    pub going-on : (old new : JobView) (h k : G) (u w : A) → Going old h u → Turns gates asks count old new h u k w None → Going new k w
    going-on old new h k u w i turn =
        let ask = turn.0 in
        let a = turn.1 in
        let next = next-lives old h u ask i turn.2 in
        let may = may-answer ask.question ask.action a turn.3 turn.5 in
        let more : List Read = old.reads ++ record { question = ask.question; answer = a } ∷ [] in
        let reads : new.reads ≡ more = ap (λ x. x.reads) turn.7 in
        let calls : sum_by length (transcript_of more) ≡ sum_by length (transcript_of old.reads) + calls_of ask.action =
        ap (sum_by length) (told-push [] old.reads (record { question = ask.question; answer = a }))
        ∙ one-call t (transcript_of old.reads) ask.question ask.action a _ next.1 may in
        let counted : count k ≤ count g + sum_by length (transcript_of more) = omega (arith, i.counted, turn.6, calls) in
        record {
          test = ap (λ x. x.test) turn.7 ∙ i.test;
          live = ap (λ x. x.live) turn.7 ∙ i.live;
          failed = ap (λ x. x.failed) turn.7 ∙ i.failed;
          walk = subst (λ rs. Walks gates asks (judge t) rs g s k w) (sym reads)
              (walks-more (judge t) old.reads ask turn.2.leads.0 a g h k s u w next.0
              (for-asker t (transcript_of old.reads) ask.question ask.action _ next.1) i.walk turn.4);
          rest = turn.2.leads.0 a;
          leads = subst (λ rs. LeadsLive (judge t) rs (turn.2.leads.0 a)) (sym reads) (leads-more (judge t) old.reads ask turn.2.leads.0 a next.0 may);
          counted = subst (λ rs. count k ≤ count g + sum_by length (transcript_of rs)) (sym reads) counted;
        }

    replayed : (j : JobView) (h : G) (u : A) (v : List Line) (steps : ℕ) → Going j h u → (e : HasEndedWith j.test j.reads v steps) → IsReplayed t j.reads e.ending
    replayed j h u v steps i e =
        live-replayed t j.reads e.ending
        (leads-same (judge t) (Ends e.ending) i.rest j.reads i.leads (subst (λ x. Leads (judge x) j.reads (Ends e.ending)) i.test e.has_ended.leads))

    pub ends-kept : (old new : JobView) (h k : G) (u w : A) (r : RecordView) → Going old h u → Turns gates asks count old new h u k w (Some r)
        → IsTranscript (transcript_of r.reads)
    ends-kept old new h k u w r i turn =
        subst (λ rs. IsTranscript (transcript_of rs)) (sym turn.2) (replayed old h u r.verdict new.steps i turn.0).transcript

    pub ends-live : (old new : JobView) (h k : G) (u w : A) (r : RecordView) → Going old h u → Turns gates asks count old new h u k w (Some r)
        → IsLiveRun gates asks t g s k w r (transcript_of r.reads)
    ends-live old new h k u w r i turn =
        let all = replayed old h u r.verdict new.steps i turn.0 in
        let same : old.reads ≡ r.reads = sym turn.2 in
        record {
          test = turn.1 ∙ i.test;
          walk = subst (λ x. Walks gates asks (judge t) r.reads g s x w) (sym turn.3)
              (subst (λ x. Walks gates asks (judge t) r.reads g s h x) (sym turn.4) (subst (λ rs. Walks gates asks (judge t) rs g s h u) same i.walk));
          transcript = refl;
          kept = subst (λ rs. IsTranscript (transcript_of rs)) same all.transcript;
          entries = subst (λ rs. AllStand t (transcript_of rs) rs) same all.entries;
          ending = turn.0.ending;
          verdict = turn.0.lines;
          stays = all.stays;
          replay = subst (λ rs. (look : Source) → GivesEach look (others rs) → TellsOf look t (transcript_of rs) → run look (judge t) ≡ Over turn.0.ending) same all.replay;
        }

    -- the same run under other names
    pub live-as : (h : G) (u : A) (r q : RecordView) (ss : List (List Entry)) → q ≡ r → ss ≡ transcript_of r.reads
        → IsLiveRun gates asks t g s h u r (transcript_of r.reads) → IsLiveRun gates asks t g s h u q ss
    live-as h u r q ss same kept run_of =
        subst (λ x. IsLiveRun gates asks t g s h u q x) (sym kept) (subst (λ x. IsLiveRun gates asks t g s h u x (transcript_of r.reads)) (sym same) run_of)

    -- a job that has just begun
    pub going-first : (j : JobView) → j ≡ started t → Going j g s
    going-first j is =
        record {
          test = ap (λ x. x.test) is;
          live = ap (λ x. x.live) is;
          failed = ap (λ x. x.failed) is;
          walk = subst (λ rs. Walks gates asks (judge t) rs g s g s) (sym (ap (λ x. x.reads) is)) (refl, refl);
          rest = judge t;
          leads = subst (λ rs. LeadsLive (judge t) rs (judge t)) (sym (ap (λ x. x.reads) is)) refl;
          counted = omega arith;
        }
