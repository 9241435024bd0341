-- A job that is told what a world answers, whose book may grow meanwhile.
use Rattle.std.proofs.Common.{◌≡◌, inl, inr, ◌<◌, ◌≤◌, Bool, true, false, List, [], ◌∷◌, ◌++◌, true≢false, refl, ap, sym, ◌∙◌, subst, arith}
use Rattle.std.proofs.lemmas.List.{append_assoc, append-nil}
use Rattle.std.specs.Prelude.{Option, Some, None}
use Rattle.dg_world.specs.World.{FitsQuestion, WorldView, look, IsAsked}
use Rattle.dg_world.specs.Question.{fits, same_question}
use Rattle.dg_world.specs.declared.question.Question.{Question}
use Rattle.dg_world.specs.declared.question.Question.TheVariants as question
use Rattle.dg_world.specs.declared.question.Answer.{Answer}
use Rattle.dg_world.specs.declared.question.Read.{Read}
use Rattle.dg_world.specs.declared.test_id.TestId.{TestId}
use Rattle.dg_language.specs.declared.ask.Ask.{Ask}
use Rattle.dg_language.specs.Play.{Play, Ends, Asks, Source, heard, lookup, end_of, GivesEach, Leads, reads_in, read_on}
use Rattle.dg_language.specs.Evaluation.{Ending}
use Rattle.dg_language.specs.Judge.{judge, verdict_in, verdict_of}
use Rattle.dg_language.proofs.Sources.{run-leads, leads_more}
use Rattle.dg_records.specs.Truth.{RecordView, answers_of}
use Rattle.dg_records.proofs.HoldsLemmas.{heard-look}
use Rattle.dg_eval.specs.Truth.{JobView}
use Rattle.dg_eval.specs.Evaluating.{NeedsNext, HasEnded}
use Rattle.dg_eval.specs.Advance.{started, Advances, AdvancesAlong, GoesAlong, HaltsAlong, Tells, Halts, Refuses}
use Rattle.dg_eval.specs.Arriving.{AreGiven}
use Rattle.dg_eval.specs.declared.job.Turn.{Turn}
use Rattle.dg_eval.specs.declared.job.Turn.TheVariants.{Need, Done}
use Rattle.dg_eval.specs.declared.job.JobFault.{JobFault}
use Rattle.dg_eval.specs.declared.job.JobFault.TheVariants.{NotAsked, WrongKind, PatternLost, Memory, Failed}
use Rattle.dg_index.specs.Kept.{KeptView, IsAskedOf}
use Rattle.dg_core.specs.Core.{record_in, lines_or_none}
use Rattle.dg_core.specs.Turns.{left_of, bound, over_answers, turns_left}
use Rattle.dg_core.specs.Turning.{AsksInTurn}
use Rattle.dg_core.specs.Asking.{all_reads, IsTold, IsToldMore, Stops, Ends as EndsWith, Judges, Fails}
use Rattle.dg_core.proofs.Turning.{asks-append}
use Rattle.dg_core.proofs.Growing.{asked-grown, grown-gives, bound-grown}

some≢none : {A : Type 0} (a : A) → Some a ≡ None → ⊥
some≢none a h = cc

-- reads that the source gave, and where they led to, are the first of all reads
pub reads-along : {A : Type 0} (p : Play A) (source : Source) (reads : List Read) (rest : Play A) → Leads p reads rest → GivesEach source reads
    → reads_in source p ≡ reads ++ reads_in source rest
reads-along p source [] rest l g = ap (reads_in source) l
reads-along (Ends a) source (r ∷ rs) rest l g = absurd l
reads-along (Asks q k) source (r ∷ rs) rest l g =
    let e : heard q.question (source q.question) ≡ Some r.answer = subst (λ x. heard x (source x) ≡ Some r.answer) (sym l.0) g.0 in
    ap (λ o. read_on q.question o (λ a. reads_in source (k a))) e
    ∙ ap (λ x. record { question = x; answer = r.answer } ∷ reads_in source (k r.answer)) l.0
    ∙ ap (λ x. r ∷ x) (reads-along (k r.answer) source rs rest l.2 g.1)

-- and what is left is where they led to
left-along : {A : Type 0} (p : Play A) (reads : List Read) (rest : Play A) → Leads p reads rest → left_of p reads ≡ rest
left-along p [] rest l = l
left-along (Ends a) (r ∷ rs) rest l = absurd l
left-along (Asks q k) (r ∷ rs) rest l = left-along (k r.answer) rs rest l.2

pub gives-more : (source : Source) (rs : List Read) (r : Read) → GivesEach source rs → heard r.question (source r.question) ≡ Some r.answer → GivesEach source (rs ++ r ∷ [])
gives-more source [] r h e = (e, tt)
gives-more source (x ∷ rs) r h e = (h.0, gives-more source rs r h.1 e)

-- what a world answers is heard, and is of its question's kind
heard-given : (w : WorldView) (q : Question) (a : Answer) → look w q ≡ Some a → heard q (look w q) ≡ Some a
heard-given w q a e = heard-look w q ∙ e

fits-given : (w : WorldView) (q : Question) (a : Answer) → look w q ≡ Some a → fits q a ≡ true
fits-given w q a e = step (fits q a) refl (sym (ap (heard q) e) ∙ heard-given w q a e)
  where
    step : (b : Bool) → fits q a ≡ b → elim b as (λ _. Option Answer) [ true ↦ Some a | false ↦ None ] ≡ Some a → fits q a ≡ true
    step true f h = f
    step false f h = absurd (some≢none a (sym h))

-- the first answer to a question stays where more was read
lookup-first : (q : Question) (reads more : List Read) (a : Answer) → lookup q reads ≡ Some a → lookup q (reads ++ more) ≡ Some a
unfolding lookup
lookup-first q [] more a h = cc
lookup-first q (r ∷ rs) more a h = step (same_question r.question q) h (lookup-first q rs more a)
  where
    step : (b : Bool) → elim b as (λ _. Option Answer) [ true ↦ Some r.answer | false ↦ lookup q rs ] ≡ Some a → (lookup q rs ≡ Some a → lookup q (rs ++ more) ≡ Some a)
        → elim b as (λ _. Option Answer) [ true ↦ Some r.answer | false ↦ lookup q (rs ++ more) ] ≡ Some a
    step true h ih = h
    step false h ih = ih h

-- a job that has just begun was told nothing
pub told-first : (w : WorldView) (t : TestId) (j : JobView) → j ≡ started t → IsTold w t j
told-first w t j is =
    record {
      test = ap (λ (x : JobView). x.test) is;
      live = ap (λ (x : JobView). x.live) is;
      failed = ap (λ (x : JobView). x.failed) is;
      asked = ap (λ (x : JobView). x.asked) is;
      gives = subst (GivesEach (answers_of w)) (sym (ap (λ (x : JobView). x.reads) is)) tt;
      rest = judge t;
      leads = subst (λ rs. Leads (judge t) rs (judge t)) (sym (ap (λ (x : JobView). x.reads) is)) refl;
    }

-- the record of a job that has ended is the record of its test in that world
record-ended : (w : WorldView) (t : TestId) (reads : List Read) (e : Ending) (r : RecordView) → HasEnded t reads e → GivesEach (answers_of w) reads
    → r.test ≡ t → r.reads ≡ reads → r.verdict ≡ e.verdict → Judges w t r
unfolding record_in
record-ended w t reads e r h g et er ev =
    let all : reads ≡ reads_in (answers_of w) (judge t) = sym (reads-along (judge t) (answers_of w) reads (Ends e) h.leads g ∙ append-nil reads) in
    let lines : verdict_in (answers_of w) t ≡ Some e.verdict =
    ap (λ c. verdict_of (end_of c)) (run-leads (judge t) (answers_of w) reads (Ends e) h.leads g) in
    record {
      made = λ i. record { test = et i; reads = (er ∙ all) i; verdict = (ev ∙ sym (ap lines_or_none lines)) i };
      ends = (e.verdict, lines);
    }

-- the job has come to its end, and its record read what the job was told
pub told-done : (w : WorldView) (old new : JobView) (r : RecordView) → IsTold w old.test old → Advances old new (Done r) → Judges w old.test r × (r.reads ≡ old.reads)
told-done w old new r k a = (record-ended w old.test old.reads _ r a.1.has_ended k.gives a.2 a.3 (sym a.1.lines), a.3)

-- a job that goes on fails for want of memory, or where it was told that a pattern is read
pub halts-fails : (w : WorldView) (old new : JobView) (f : JobFault) → IsTold w old.test old → Halts old new f → Fails w old.test f
unfolding all_reads
halts-fails w old new NotAsked k h = absurd h
halts-fails w old new WrongKind k h = absurd h
halts-fails w old new PatternLost k h =
    let text = h.1.0 in
    let along = reads-along (judge old.test) (answers_of w) old.reads k.rest k.leads k.gives in
    (text, ap (lookup (question.Pattern text)) along ∙ lookup-first (question.Pattern text) old.reads (reads_in (answers_of w) k.rest) _ h.1.1)
halts-fails w old new Memory k h = tt
halts-fails w old new Failed k h = absurd (true≢false (sym k.live ∙ h.0))

-- one that is told what the world answers fails for want of memory
pub refuses-fails : (v w : WorldView) (old mid new : JobView) (q : Ask) (a : Answer) (f : JobFault) → IsTold v old.test old → Advances old mid (Need q)
    → IsAsked v w q.question a → Refuses mid new a f → Fails w old.test f
refuses-fails v w old mid new q a NotAsked k n e h = absurd (some≢none q (sym (ap (λ j. j.asked) n.2) ∙ h.1))
refuses-fails v w old mid new q a WrongKind k n e h =
    let kind = rw n.2 at h.0 in
    absurd (true≢false (sym (fits-given w q.question a e.answered) ∙ kind))
refuses-fails v w old mid new q a PatternLost k n e h = absurd h
refuses-fails v w old mid new q a Memory k n e h = tt
refuses-fails v w old mid new q a Failed k n e h = absurd (true≢false (sym h.0 ∙ ap (λ j. j.failed) n.2 ∙ k.failed))

-- an answer leaves fewer turns
fewer-turns : (v w : WorldView) (t : TestId) (reads : List Read) (q : Ask) (a : Answer) → NeedsNext t reads q → IsAsked v w q.question a
    → turns_left w t (reads ++ record { question = q.question; answer = a } ∷ []) < turns_left v t reads
unfolding turns_left
fewer-turns v w t reads q a n asked =
    let k = n.leads.0 in
    let here : left_of (judge t) reads ≡ Asks q k = left-along (judge t) reads (Asks q k) n.leads.1 in
    let next : left_of (judge t) (reads ++ record { question = q.question; answer = a } ∷ []) ≡ k a =
    left-along (judge t) (reads ++ record { question = q.question; answer = a } ∷ []) (k a)
    (leads_more (judge t) reads q a k n.leads.1 (fits-given w q.question a asked.answered)) in
    let grown : bound w (Asks q k) ≤ bound v (Asks q k) = bound-grown v w (asked-grown v w q.question a asked) (Asks q k) in
    let told : over_answers (look w q.question) (λ b. bound w (k b)) ≡ bound w (k a) = ap (λ o. over_answers o (λ b. bound w (k b))) asked.answered in
    omega (arith, grown, told, ap (bound w) next, ap (bound v) here)

-- the job has one answer more
pub told-more : (before after : KeptView) (old mid new : JobView) (q : Ask) (a : Answer) → IsTold before.world old.test old → Advances old mid (Need q)
    → IsAskedOf before after q.question a → Tells mid new a mid.asked → IsToldMore before after old new
told-more before after old mid new q a k n asked h =
    let v = before.world in
    let w = after.world in
    let e : IsAsked v w q.question a = asked.0 in
    let t = rw n.2 at h in
    let l = n.1.leads in
    rw t.1
    (record {
      told = record {
        test = refl;
        live = k.live;
        failed = k.failed;
        asked = refl;
        gives = gives-more (answers_of w) old.reads (record { question = q.question; answer = a }) (grown-gives v w (asked-grown v w q.question a e) old.reads k.gives)
            (heard-given w q.question a e.answered);
        rest = l.0 a;
        leads = leads_more (judge old.test) old.reads q a l.0 l.1 (fits-given w q.question a e.answered);
      };
      same = refl;
      fewer = fewer-turns v w old.test old.reads q a n.1 e;
      more = record { question = q.question; answer = a } ∷ [];
      asked = (after, asked, refl);
      reads = refl;
    })

-- an answer that a world has changes nothing of it
pub asked-looked : (k : KeptView) (q : Question) (a : Answer) → look k.world q ≡ Some a → FitsQuestion q a → IsAskedOf k k q a
asked-looked k q a e f = (record { answered = e; fits = f; grown = rw e refl }, rw e refl)

-- the same answers, and a question more that may be new
pub stops-more : (before after : KeptView) (old mid new : JobView) (q : Ask) (a : Answer) → Stops before old mid (Need q) → IsAskedOf before after q.question a
    → Tells mid new a mid.asked → IsToldMore before after old new
stops-more before after old mid new q a s asked h =
    let m : IsToldMore before after s.last new = told-more before after s.last mid new q a (subst (λ t. IsTold before.world t s.last) (sym s.same) s.told) s.advances asked h in
    let less : turns_left after.world old.test new.reads < turns_left before.world old.test s.last.reads =
    subst (λ t. turns_left after.world t new.reads < turns_left before.world t s.last.reads) s.same m.fewer in
    let fewer = s.fewer in
    record {
      told = subst (λ t. IsTold after.world t new) s.same m.told;
      same = m.same ∙ s.same;
      fewer = omega (arith, less, fewer);
      more = s.more ++ m.more;
      asked = asks-append before before after s.more m.more s.asked m.asked;
      reads = m.reads ∙ ap (λ rs. rs ++ m.more) s.reads ∙ append_assoc old.reads s.more m.more;
    }

-- the job has come to its end
pub stops-done : (k : KeptView) (old new : JobView) (r : RecordView) → Stops k old new (Done r) → EndsWith k old r
stops-done k old new r s =
    let done = told-done k.world s.last new r (subst (λ t. IsTold k.world t s.last) (sym s.same) s.told) s.advances in
    (subst (λ t. Judges k.world t r) s.same done.0, (s.more, s.asked, done.1 ∙ s.reads))

-- a question that may be new was answered, and the job fails for want of memory
pub stops-fails : (before : KeptView) (w : WorldView) (old mid new : JobView) (q : Ask) (a : Answer) (f : JobFault) → Stops before old mid (Need q)
    → IsAsked before.world w q.question a → Refuses mid new a f → Fails w old.test f
stops-fails before w old mid new q a f s asked h =
    subst (λ t. Fails w t f) s.same (refuses-fails before.world w s.last mid new q a f (subst (λ t. IsTold before.world t s.last) (sym s.same) s.told) s.advances asked h)

-- what a source gives, one list after another
gives-both : (source : Source) (xs ys : List Read) → GivesEach source xs → GivesEach source ys → GivesEach source (xs ++ ys)
gives-both source [] ys g h = h
gives-both source (x ∷ xs) ys g h = (g.0, gives-both source xs ys g.1 h)

gives-given : (source : Source) (holds : Question → Answer → Type 0) (rs : List Read) → AreGiven source holds rs → GivesEach source rs
gives-given source holds [] g = tt
gives-given source holds (r ∷ rs) g = (g.0, gives-given source holds rs g.2)

-- answers that a world has were asked in turn, which changes nothing of it
asks-given : (k : KeptView) (rs : List Read) → AreGiven (answers_of k.world) FitsQuestion rs → AsksInTurn k rs k
asks-given k [] g = refl
asks-given k (r ∷ rs) g = (k, asked-looked k r.question r.answer (sym (heard-look k.world r.question) ∙ g.0) g.1, asks-given k rs g.2)

-- answers leave at most as many questions
bound-along : {A : Type 0} (w : WorldView) (p : Play A) (rs : List Read) (rest : Play A) → Leads p rs rest → GivesEach (answers_of w) rs → bound w rest ≤ bound w p
bound-along w p [] rest l g = let e = ap (bound w) l in omega (arith, e)
bound-along w (Ends a) (r ∷ rs) rest l g = absurd l
bound-along w (Asks q k) (r ∷ rs) rest l g =
    let e : look w q.question ≡ Some r.answer = subst (λ x. look w x ≡ Some r.answer) (sym l.0) (sym (heard-look w r.question) ∙ g.0) in
    let told : over_answers (look w q.question) (λ b. bound w (k b)) ≡ bound w (k r.answer) = ap (λ o. over_answers o (λ b. bound w (k b))) e in
    let less = bound-along w (k r.answer) rs rest l.2 g.1 in
    omega (arith, told, less)

-- where the first reads lead to, the others go on from
leads-behind : {A : Type 0} (p : Play A) (rs more : List Read) (mid rest : Play A) → Leads p rs mid → Leads p (rs ++ more) rest → Leads mid more rest
leads-behind p [] more mid rest l m = subst (λ x. Leads x more rest) l m
leads-behind (Ends a) (r ∷ rs) more mid rest l m = absurd l
leads-behind (Asks q k) (r ∷ rs) more mid rest l m = leads-behind (k r.answer) rs more mid rest l.2 m.2

-- turns that are told in a row leave at most as many
fewer-along : (w : WorldView) (t : TestId) (reads more : List Read) (mid rest : Play Ending) → Leads (judge t) reads mid → Leads (judge t) (reads ++ more) rest
    → GivesEach (answers_of w) more → turns_left w t (reads ++ more) ≤ turns_left w t reads
unfolding turns_left
fewer-along w t reads more mid rest l m g =
    let here = ap (bound w) (left-along (judge t) reads mid l) in
    let next = ap (bound w) (left-along (judge t) (reads ++ more) rest m) in
    let less = bound-along w mid more rest (leads-behind (judge t) reads more mid rest l m) g in
    omega (arith, here, next, less)

-- a job that was told answers of a world, and what these were
record IsToldOn (k : KeptView) (old mid : JobView) : Type 0 where
  told : IsTold k.world old.test mid
  same : mid.test ≡ old.test
  fewer : turns_left k.world old.test mid.reads ≤ turns_left k.world old.test old.reads
  more : List Read
  asked : AsksInTurn k more k
  reads : mid.reads ≡ old.reads ++ more

told-along : (k : KeptView) (old mid : JobView) → IsTold k.world old.test old → GoesAlong (answers_of k.world) FitsQuestion old mid → IsToldOn k old mid
told-along k old mid t (inl e) =
    record {
      told = subst (λ j. IsTold k.world old.test j) (sym e) t;
      same = ap (λ (j : JobView). j.test) e;
      fewer = let same = ap (λ (j : JobView). turns_left k.world old.test j.reads) e in omega (arith, same);
      more = [];
      asked = refl;
      reads = ap (λ (j : JobView). j.reads) e ∙ sym (append-nil old.reads);
    }
told-along k old mid t (inr m) =
    let reads : mid.reads ≡ old.reads ++ m.more = ap (λ (j : JobView). j.reads) m.is in
    let leads : Leads (judge old.test) (old.reads ++ m.more) m.rest = subst (λ rs. Leads (judge old.test) rs m.rest) reads m.leads in
    let given = gives-given (answers_of k.world) FitsQuestion m.more m.given in
    record {
      told = subst (λ j. IsTold k.world old.test j) (sym m.is)
          (record {
            test = refl;
            live = refl;
            failed = refl;
            asked = refl;
            gives = gives-both (answers_of k.world) old.reads m.more t.gives given;
            rest = m.rest;
            leads = leads;
          });
      same = ap (λ (j : JobView). j.test) m.is;
      fewer = subst (λ rs. turns_left k.world old.test rs ≤ turns_left k.world old.test old.reads) (sym reads)
          (fewer-along k.world old.test old.reads m.more t.rest m.rest t.leads leads given);
      more = m.more;
      asked = asks-given k m.more m.given;
      reads = reads;
    }

-- a turn behind what a job was told in a row
pub along-stops : (k : KeptView) (old new : JobView) (turn : Turn) → IsTold k.world old.test old → AdvancesAlong (answers_of k.world) FitsQuestion old new turn
    → Stops k old new turn
along-stops k old new turn t a =
    let on = told-along k old a.0 t a.1 in
    record { last = a.0; told = on.told; same = on.same; fewer = on.fewer; more = on.more; asked = on.asked; reads = on.reads; advances = a.2 }

pub along-fails : (k : KeptView) (old new : JobView) (f : JobFault) → IsTold k.world old.test old → HaltsAlong (answers_of k.world) FitsQuestion old new f
    → Fails k.world old.test f
along-fails k old new f t h =
    let on = told-along k old h.0 t h.1 in
    subst (λ u. Fails k.world u f) on.same (halts-fails k.world h.0 new f (subst (λ u. IsTold k.world u h.0) (sym on.same) on.told) h.2)
