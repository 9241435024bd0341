-- Along live answers a judging lives on, and its transcript answers what was read.
use Rattle.std.proofs.Common.{◌≡◌, ℕ, zero, suc, ◌-◌, ◌≤◌, Bool, true, false, List, [], ◌∷◌, ◌++◌, length, refl, sym, subst, ap, ◌∙◌, arith}
use Rattle.std.specs.Prelude.{Option, Some, None, slice_get, option_and_then}
use Rattle.dg_transcript.specs.declared.entry.Entry.{Entry}
use Rattle.dg_transcript.specs.declared.cursor.Action.{Action}
use Rattle.dg_transcript.specs.Sessions.{entry_at}
use Rattle.dg_world.specs.declared.question.Question.{Question}
use Rattle.dg_world.specs.declared.question.Question.TheVariants as question
use Rattle.dg_world.specs.declared.question.Answer.{Answer}
use Rattle.dg_world.specs.declared.question.Answer.TheVariants as answer
use Rattle.dg_world.specs.declared.question.Read.{Read}
use Rattle.dg_world.specs.declared.test_id.TestId.{TestId}
use Rattle.dg_world.specs.Question.{fits}
use Rattle.dg_world.specs.Transcripts.{entry_answer}
use Rattle.dg_language.specs.Play.{Play, Ends, Asks, Source, heard, GivesEach, Leads}
use Rattle.dg_language.specs.Evaluation.{Ending}
use Rattle.dg_language.specs.Judge.{judge}
use Rattle.dg_language.proofs.Sources.{run-leads}
use Rattle.dg_living.specs.Living.{LivesAsked, LivesOn, is_about_entry, entries_at, with_entry}
use Rattle.dg_living.specs.Replayed.{MayAnswer, LeadsLive, told_entry, told_entries, transcript_of, StandsIn, AllStand, others, TellsOf, LiveJudgingsAreReplayed}
use Rattle.dg_living.proofs.Judging.{judging-lives}

pub told-plain : (q : Question) (a : Answer) (ss : List (List Entry)) → is_about_entry q ≡ false → told_entry q a ss ≡ ss
told-plain (question.Entry place) a ss plain = absurd cc
told-plain q a ss plain = refl

-- one answer
answered-lives : (t : TestId) (ss : List (List Entry)) (q p : Question) (o : Option Action) (a : Answer) (f : Answer → List (List Entry) → Type 0)
    → q ≡ p → LivesAsked t ss q o f → MayAnswer q o a → f a (told_entry p a ss)
answered-lives t ss q p None a f same lives may =
    subst (f a) (sym (told-plain p a ss (ap is_about_entry (sym same) ∙ lives.0))) (lives.1 a may)
answered-lives t ss q p (Some act) a f same lives may =
    let n = lives.0 in
    let asked = sym same ∙ lives.1.2 in
    subst (λ x. f x (told_entry p x ss)) (sym may.3)
    (subst (λ x. f (answer.Entry may.0) (told_entry x (answer.Entry may.0) ss)) (sym asked) (lives.4 may.0 may.1 may.2))

pub lives-along : (t : TestId) (play rest : Play Ending) (ss : List (List Entry)) (reads : List Read) → LivesOn t play ss → LeadsLive play reads rest
    → LivesOn t rest (told_entries ss reads)
lives-along t play rest ss [] lives leads = subst (λ p. LivesOn t p ss) leads lives
lives-along t (Ends e) rest ss (r ∷ rs) lives leads = absurd leads
lives-along t (Asks ask f) rest ss (r ∷ rs) lives leads =
    lives-along t (f r.answer) rest (told_entry r.question r.answer ss) rs
    (answered-lives t ss ask.question r.question ask.action r.answer (λ a next. LivesOn t (f a) next) leads.0 lives leads.1) leads.2

-- a live answer is of its question's kind
answered-fits : (t : TestId) (ss : List (List Entry)) (q : Question) (o : Option Action) (a : Answer) (f : Answer → List (List Entry) → Type 0)
    → LivesAsked t ss q o f → MayAnswer q o a → fits q a ≡ true
answered-fits t ss q None a f lives may = may
answered-fits t ss q (Some act) a f lives may =
    ap (λ x. fits q x) may.3 ∙ ap (λ x. fits x (answer.Entry may.0)) lives.1.2

pub leads-along : (t : TestId) (play rest : Play Ending) (ss : List (List Entry)) (reads : List Read) → LivesOn t play ss → LeadsLive play reads rest
    → Leads play reads rest
leads-along t play rest ss [] lives leads = leads
leads-along t (Ends e) rest ss (r ∷ rs) lives leads = absurd leads
leads-along t (Asks ask f) rest ss (r ∷ rs) lives leads = (
  leads.0,
  answered-fits t ss ask.question ask.action r.answer (λ a next. LivesOn t (f a) next) lives leads.1,
  leads-along t (f r.answer) rest (told_entry r.question r.answer ss) rs
      (answered-lives t ss ask.question r.question ask.action r.answer (λ a next. LivesOn t (f a) next) leads.0 lives leads.1) leads.2,
)

-- ---- where entries stand

get-more : {X : Type 0} (xs : List X) (i : ℕ) (x y : X) → slice_get xs i ≡ Some x → slice_get (xs ++ y ∷ []) i ≡ Some x
get-more [] i x y is = absurd cc
get-more (z ∷ xs) zero x y is = is
get-more (z ∷ xs) (suc i) x y is = get-more xs i x y is

get-last : {X : Type 0} (xs : List X) (y : X) → slice_get (xs ++ y ∷ []) (length xs) ≡ Some y
get-last [] y = refl
get-last (z ∷ xs) y = get-last xs y

entry-stays : (i j place : ℕ) (e x : Entry) (ss : List (List Entry)) → slice_get (entries_at i ss) place ≡ Some e
    → slice_get (entries_at i (with_entry j x ss)) place ≡ Some e
entry-stays i j place e x [] is = absurd cc
entry-stays zero zero place e x (es ∷ ss) is = get-more es place e x is
entry-stays zero (suc j) place e x (es ∷ ss) is = is
entry-stays (suc i) zero place e x (es ∷ ss) is = is
entry-stays (suc i) (suc j) place e x (es ∷ ss) is = entry-stays i j place e x ss is

entry-new : (i : ℕ) (e : Entry) (ss : List (List Entry)) → i ≤ length ss
    → slice_get (entries_at i (with_entry i e ss)) (length (entries_at i ss)) ≡ Some e
entry-new zero e [] le = refl
entry-new (suc i) e [] le = absurd (omega arith)
entry-new zero e (es ∷ ss) le = get-last es e
entry-new (suc i) e (es ∷ ss) le = entry-new i e ss (omega arith)

told-stays : (i place : ℕ) (e : Entry) (q : Question) (a : Answer) (ss : List (List Entry)) → slice_get (entries_at i ss) place ≡ Some e
    → slice_get (entries_at i (told_entry q a ss)) place ≡ Some e
told-stays i place e (question.Entry p) (answer.Entry x) ss is = entry-stays i (p.session - 1) place e x ss is
told-stays i place e q a ss is = is

all-told-stays : (i place : ℕ) (e : Entry) (ss : List (List Entry)) (reads : List Read) → slice_get (entries_at i ss) place ≡ Some e
    → slice_get (entries_at i (told_entries ss reads)) place ≡ Some e
all-told-stays i place e ss [] is = is
all-told-stays i place e ss (r ∷ rs) is =
    all-told-stays i place e (told_entry r.question r.answer ss) rs (told-stays i place e r.question r.answer ss is)

session-get : (m place : ℕ) (ss : List (List Entry)) → option_and_then (λ es. slice_get es place) (slice_get ss m) ≡ slice_get (entries_at m ss) place
session-get m place [] = refl
session-get zero place (es ∷ ss) = refl
session-get (suc m) place (es ∷ ss) = session-get m place ss

entry_at-get : (ss : List (List Entry)) (n place : ℕ) → 1 ≤ n → entry_at ss n place ≡ slice_get (entries_at (n - 1) ss) place
entry_at-get ss zero place le = absurd (omega arith)
entry_at-get ss (suc m) place le =
    let here : suc m - 1 ≡ m = omega arith in session-get m place ss ∙ sym (ap (λ i. slice_get (entries_at i ss) place) here)

-- an answer stands in the transcript of it and of all that follow
answer-stands : (t : TestId) (ss : List (List Entry)) (q p : Question) (o : Option Action) (a : Answer) (f : Answer → List (List Entry) → Type 0)
    (rs : List Read) → q ≡ p → LivesAsked t ss q o f → MayAnswer q o a → StandsIn t (told_entries (told_entry p a ss) rs) p a
answer-stands t ss q p None a f rs same lives may = plainly p (ap is_about_entry (sym same) ∙ lives.0)
  where
    plainly : (x : Question) → is_about_entry x ≡ false → StandsIn t (told_entries (told_entry p a ss) rs) x a
    plainly (question.Entry place) plain = absurd cc
    plainly x plain = tt
answer-stands t ss q p (Some act) a f rs same lives may =
    let n = lives.0 in
    let e = may.0 in
    let asked = sym same ∙ lives.1.2 in
    subst (λ x. StandsIn t (told_entries (told_entry x a ss) rs) x a) (sym asked) (
      refl,
      (
        e,
        may.3,
        entry_at-get _ n (length (entries_at (n - 1) ss)) lives.1.0
            ∙ all-told-stays (n - 1) (length (entries_at (n - 1) ss)) e _ rs
            (subst (λ x. slice_get (entries_at (n - 1) (told_entry (question.Entry (record { test = t; session = n; place = length (entries_at (n - 1) ss) })) x ss)) (length (entries_at (n - 1) ss)) ≡ Some e)
            (sym may.3) (entry-new (n - 1) e ss (omega (arith, lives.1.0, lives.1.1)))),
      ),
    )

all-stand : (t : TestId) (play rest : Play Ending) (ss : List (List Entry)) (reads : List Read) → LivesOn t play ss → LeadsLive play reads rest
    → AllStand t (told_entries ss reads) reads
all-stand t play rest ss [] lives leads = tt
all-stand t (Ends e) rest ss (r ∷ rs) lives leads = absurd leads
all-stand t (Asks ask f) rest ss (r ∷ rs) lives leads = (
  answer-stands t ss ask.question r.question ask.action r.answer (λ a next. LivesOn t (f a) next) rs leads.0 lives leads.1,
  all-stand t (f r.answer) rest (told_entry r.question r.answer ss) rs
      (answered-lives t ss ask.question r.question ask.action r.answer (λ a next. LivesOn t (f a) next) leads.0 lives leads.1) leads.2,
)

-- ---- the replay

-- a source of the transcript and of the other answers gives all that was read
gives-all : (look : Source) (t : TestId) (ss : List (List Entry)) (reads : List Read) → AllStand t ss reads → TellsOf look t ss
    → GivesEach look (others reads) → GivesEach look reads
gives-all look t ss [] stand tells given = tt
gives-all look t ss (r ∷ rs) stand tells given =
    by_kind (is_about_entry r.question) refl given (λ g. gives-all look t ss rs stand.1 tells g)
  where
    entry-told : (q : Question) → StandsIn t ss q r.answer → is_about_entry q ≡ true → heard q (look q) ≡ Some r.answer
    entry-told (question.Entry place) stands about =
        let e = stands.1.0 in
        let told : look (question.Entry place) ≡ Some (answer.Entry e) =
        ap (λ x. look (question.Entry (record { test = x; session = place.session; place = place.place }))) stands.0
        ∙ tells place.session place.place ∙ ap (λ o. Some (entry_answer o)) stands.1.2 in
        ap (heard (question.Entry place)) told ∙ ap (λ x. Some x) (sym stands.1.1)
    entry-told q stands about = absurd cc

    by_kind : (b : Bool) → is_about_entry r.question ≡ b → GivesEach look (elim b as (λ _. List Read) [ true ↦ others rs | false ↦ r ∷ others rs ])
        → (GivesEach look (others rs) → GivesEach look rs) → GivesEach look (r ∷ rs)
    by_kind true about g more = (entry-told r.question stand.0 about, more g)
    by_kind false about g more = (g.0, more g.1)

pub live-replayed : LiveJudgingsAreReplayed
live-replayed t reads e leads =
    let lives = judging-lives t in
    let at_end : LivesOn t (Ends e) (transcript_of reads) = lives-along t (judge t) (Ends e) [] reads lives leads in
    let stand : AllStand t (transcript_of reads) reads = all-stand t (judge t) (Ends e) [] reads lives leads in
    record {
      transcript = at_end.1;
      entries = stand;
      replay = λ look given tells.
          run-leads (judge t) look reads (Ends e) (leads-along t (judge t) (Ends e) [] reads lives leads)
          (gives-all look t (transcript_of reads) reads stand tells given);
      stays = at_end.0;
    }
