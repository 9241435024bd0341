-- What holds of a state while an evaluation lives on.
use Rattle.std.proofs.Common.{◌≡◌, ℕ, ◌-◌, ◌<◌, ◌≤◌, Bool, true, false, List, [], ◌∷◌, length, refl, sym, subst, ◌∙◌, arith, sum_by}
use Rattle.std.specs.Prelude.{Option, Some, None}
use Rattle.std.specs.List.{AllByRecursion}
use Rattle.dg_transcript.specs.declared.entry.Entry.{Entry}
use Rattle.dg_transcript.specs.Limits.{IsTranscript}
use Rattle.dg_transcript.proofs.Lists.{All-push}
use Rattle.dg_sessions.specs.Views.{SessionsView}
use Rattle.dg_world.specs.declared.question.Question.{Question}
use Rattle.dg_world.specs.declared.question.Question.TheVariants as question
use Rattle.dg_world.specs.declared.question.Answer.{Answer}
use Rattle.dg_world.specs.declared.question.Read.{Read}
use Rattle.dg_world.specs.declared.test_id.TestId.{TestId}
use Rattle.dg_world.specs.Question.{same_question}
use Rattle.dg_language.specs.Play.{lookup}
use Rattle.dg_language.specs.State.{State, learn}
use Rattle.dg_language.proofs.Asking.{same_question-true}
use Rattle.dg_living.specs.Living.{is_about_entry, entries_at, with_entry}
use Rattle.dg_living.proofs.Agreeing.{AllAgree, agree-sessions, at-more}

-- a question about an entry is about one that there is
abbrev pub IsPast : List (List Entry) → Question → Type 0
IsPast ss (question.Entry place) = place.place < length (entries_at (place.session - 1) ss)
IsPast ss q = Unit {0}

abbrev pub ArePast : List (List Entry) → List Read → Type 0
ArePast ss known = AllByRecursion (λ r. IsPast ss r.question) known

-- The test is this one; the entries that are known are among those so far, and the sessions stand behind these.
pub record Holding (t at : TestId) (known : List Read) (sessions : SessionsView) (ss : List (List Entry)) : Type 0 where
  pub test : at ≡ t
  pub past : ArePast ss known
  pub agree : AllAgree sessions.all ss
  pub used : sessions.used ≡ sum_by length ss
  pub room : sessions.used ≤ 65536
  pub few : length ss ≤ 64

abbrev pub Holds : TestId → State → List (List Entry) → Type 0
Holds t s ss = Holding t s.test s.known s.sessions ss

pub transcript : (t : TestId) (s : State) (ss : List (List Entry)) → Holds t s ss → IsTranscript ss
transcript t s ss h =
    record { sessions = h.few; entries = omega (arith, h.used, h.room); each = agree-sessions s.sessions.all ss h.agree }

-- another state that agrees with the same entries
pub record Same (s u : State) : Type 0 where
  pub test : u.test ≡ s.test
  pub known : u.known ≡ s.known
  pub used : u.sessions.used ≡ s.sessions.used
  pub agree : (ss : List (List Entry)) → AllAgree s.sessions.all ss → AllAgree u.sessions.all ss

pub moved : (t : TestId) (s u : State) (ss : List (List Entry)) → Same s u → Holds t s ss → Holds t u ss
moved t s u ss same h =
    record {
      test = same.test ∙ h.test;
      past = subst (ArePast ss) (sym same.known) h.past;
      agree = same.agree ss h.agree;
      used = same.used ∙ h.used;
      room = omega (arith, same.used, h.room);
      few = h.few;
    }

past-plain : (ss : List (List Entry)) (q : Question) → is_about_entry q ≡ false → IsPast ss q
past-plain ss (question.Entry place) plain = absurd cc
past-plain ss q plain = tt

pub learned : (t : TestId) (q : Question) (a : Answer) (s : State) (ss : List (List Entry)) → is_about_entry q ≡ false → Holds t s ss
    → Holds t (learn q a s) ss
unfolding learn
learned t q a s ss plain h =
    record {
      test = h.test;
      past = All-push (λ r. IsPast ss r.question) s.known (record { question = q; answer = a }) h.past (past-plain ss q plain);
      agree = h.agree;
      used = h.used;
      room = h.room;
      few = h.few;
    }

past-more : (i : ℕ) (e : Entry) (ss : List (List Entry)) (q : Question) → IsPast ss q → IsPast (with_entry i e ss) q
past-more i e ss (question.Entry place) past = omega (arith, past, at-more i (place.session - 1) e ss)
past-more i e ss q past = tt

pub all-past-more : (i : ℕ) (e : Entry) (ss : List (List Entry)) (known : List Read) → ArePast ss known → ArePast (with_entry i e ss) known
all-past-more i e ss [] past = tt
all-past-more i e ss (r ∷ rs) past = (past-more i e ss r.question past.0, all-past-more i e ss rs past.1)

-- the next entry of a session is not known
pub not-known : (t : TestId) (n place : ℕ) (ss : List (List Entry)) (known : List Read) → place ≡ length (entries_at (n - 1) ss) → ArePast ss known
    → lookup (question.Entry (record { test = t; session = n; place = place })) known ≡ None
unfolding lookup
not-known t n place ss [] at past = refl
not-known t n place ss (r ∷ rs) at past = go (same_question r.question q) refl (not-known t n place ss rs at past.1)
  where
    q : Question
    q = question.Entry (record { test = t; session = n; place = place })

    behind : r.question ≡ q → IsPast ss q
    behind same = subst (IsPast ss) same past.0

    go : (b : Bool) → same_question r.question q ≡ b → lookup q rs ≡ None
        → (elim b as (λ _. Option Answer) [ true ↦ Some r.answer | false ↦ lookup q rs ]) ≡ None
    go true same ih =
        let lt : place < length (entries_at (n - 1) ss) = behind (same_question-true r.question q same) in absurd (omega (arith, lt, at))
    go false same ih = ih
