-- Answers that are the same are equal.
use Rattle.std.proofs.Common.{◌≡◌, ◌↔◌, ℕ, true, ◌&&◌, ◌==◌, List, refl, ap, subst, IsTrue, eq-eqb}
use Rattle.std.specs.Prelude.{nat_eq}
use Rattle.std.proofs.lemmas.Bool.{and_parts, and_from, eqb-true}
use Rattle.std.specs.Cmp.Lexicographic.{pointwise, pointwise_decides}
use Rattle.dg_transcript.specs.contracts.code.ErrorCodePartialEq.TheImpl as codes
use Rattle.dg_transcript.specs.contracts.entry.EntryPartialEq.TheImpl as entries
use Rattle.dg_match.specs.contracts.reading.ReadingPartialEq.TheImpl as readings
use Rattle.dg_world.specs.contracts.question.AnswerPartialEq.TheImpl as answers
use Rattle.dg_transcript.specs.declared.code.ErrorCode.{ErrorCode}
use Rattle.dg_transcript.specs.declared.code.ErrorCode.TheVariants.{NotFound, NotPermitted, BrokenPipe, Other}
use Rattle.dg_transcript.specs.declared.entry.Entry.{Entry}
use Rattle.dg_transcript.specs.declared.entry.Entry.TheVariants as entry
use Rattle.dg_match.specs.declared.reading.Reading.{Reading}
use Rattle.dg_match.specs.declared.reading.Reading.TheVariants.{Read, Syntax, TooLarge}
use Rattle.dg_bytes.specs.Same.{same_words}
use Rattle.dg_world.specs.Entries.{same_code, same_entry}
use Rattle.std.specs.Cmp.Lexicographic.{bytes_decides}
use Rattle.dg_world.specs.Question.{same_reading, same_answer}
use Rattle.dg_world.specs.declared.question.Answer.{Answer}
use Rattle.dg_world.specs.declared.question.Answer.TheVariants as answer

words_decide : (a b : List (List ℕ)) → IsTrue (same_words a b) ↔ (a ≡ b)
words_decide = pointwise_decides bytes_decides

code-refl : (c : ErrorCode) → same_code c c ≡ true
code-refl NotFound = refl
code-refl NotPermitted = refl
code-refl BrokenPipe = refl
code-refl Other = refl

code-true : (c d : ErrorCode) → same_code c d ≡ true → c ≡ d
code-true NotFound NotFound h = refl
code-true NotPermitted NotPermitted h = refl
code-true BrokenPipe BrokenPipe h = refl
code-true Other Other h = refl
code-true _ _ h = cc

reading-refl : (r : Reading) → same_reading r r ≡ true
reading-refl Read = refl
reading-refl Syntax = refl
reading-refl TooLarge = refl

reading-true : (r q : Reading) → same_reading r q ≡ true → r ≡ q
reading-true Read Read h = refl
reading-true Syntax Syntax h = refl
reading-true TooLarge TooLarge h = refl
reading-true _ _ h = cc

pub entry-refl : (e : Entry) → same_entry e e ≡ true
entry-refl (entry.Started a) = (words_decide a a).1 refl
entry-refl (entry.NoStart c a) = and_from _ _ (code-refl c) ((words_decide a a).1 refl)
entry-refl (entry.Sent a) = (bytes_decides a a).1 refl
entry-refl (entry.NoSend c a) = and_from _ _ (code-refl c) ((bytes_decides a a).1 refl)
entry-refl (entry.Chunk m a) = and_from _ _ (eq-eqb m m refl) ((bytes_decides a a).1 refl)
entry-refl (entry.End m) = eq-eqb m m refl
entry-refl (entry.NoRead c) = code-refl c
entry-refl (entry.Silence m) = eq-eqb m m refl
entry-refl entry.Closed = refl
entry-refl (entry.NoClose c) = code-refl c
entry-refl (entry.Exited m) = eq-eqb m m refl
entry-refl (entry.Killed m) = eq-eqb m m refl
entry-refl (entry.NoWait c) = code-refl c

-- entries that are the same are equal
pub entry-true : (a b : Entry) → same_entry a b ≡ true → a ≡ b
entry-true (entry.Started a) (entry.Started b) h = ap entry.Started ((words_decide a b).0 h)
entry-true (entry.NoStart c a) (entry.NoStart d b) h =
    let p = and_parts (same_code c d) (same_words a b) h in
    let e = code-true c d p.0 in
    let f = (words_decide a b).0 p.1 in
    rw (e, f) refl
entry-true (entry.Sent a) (entry.Sent b) h = ap entry.Sent ((bytes_decides a b).0 h)
entry-true (entry.NoSend c a) (entry.NoSend d b) h =
    let p = and_parts (same_code c d) (pointwise nat_eq a b) h in
    let e = code-true c d p.0 in
    let f = (bytes_decides a b).0 p.1 in
    rw (e, f) refl
entry-true (entry.Chunk m a) (entry.Chunk n b) h =
    let p = and_parts (m == n) (pointwise nat_eq a b) h in
    let e = eqb-true m n p.0 in
    let f = (bytes_decides a b).0 p.1 in
    rw (e, f) refl
entry-true (entry.End m) (entry.End n) h = ap entry.End (eqb-true m n h)
entry-true (entry.NoRead c) (entry.NoRead d) h = ap entry.NoRead (code-true c d h)
entry-true (entry.Silence m) (entry.Silence n) h = ap entry.Silence (eqb-true m n h)
entry-true entry.Closed entry.Closed h = refl
entry-true (entry.NoClose c) (entry.NoClose d) h = ap entry.NoClose (code-true c d h)
entry-true (entry.Exited m) (entry.Exited n) h = ap entry.Exited (eqb-true m n h)
entry-true (entry.Killed m) (entry.Killed n) h = ap entry.Killed (eqb-true m n h)
entry-true (entry.NoWait c) (entry.NoWait d) h = ap entry.NoWait (code-true c d h)
entry-true _ _ h = cc

pub same_answer-refl : (a b : Answer) → a ≡ b → same_answer a b ≡ true
same_answer-refl a b e = subst (λ x. same_answer a x ≡ true) e (itself a)
  where
    itself : (a : Answer) → same_answer a a ≡ true
    itself answer.Absent = refl
    itself (answer.Content t) = (bytes_decides t t).1 refl
    itself (answer.Tool t) = (bytes_decides t t).1 refl
    itself (answer.Triplet t) = (bytes_decides t t).1 refl
    itself answer.Unset = refl
    itself (answer.Value t) = (bytes_decides t t).1 refl
    itself answer.Ended = refl
    itself (answer.Entry e) = entry-refl e
    itself (answer.Reading r) = reading-refl r

pub same_answer-true : (a b : Answer) → same_answer a b ≡ true → a ≡ b
same_answer-true answer.Absent answer.Absent h = refl
same_answer-true (answer.Content a) (answer.Content b) h = ap answer.Content ((bytes_decides a b).0 h)
same_answer-true (answer.Tool a) (answer.Tool b) h = ap answer.Tool ((bytes_decides a b).0 h)
same_answer-true (answer.Triplet a) (answer.Triplet b) h = ap answer.Triplet ((bytes_decides a b).0 h)
same_answer-true answer.Unset answer.Unset h = refl
same_answer-true (answer.Value a) (answer.Value b) h = ap answer.Value ((bytes_decides a b).0 h)
same_answer-true answer.Ended answer.Ended h = refl
same_answer-true (answer.Entry a) (answer.Entry b) h = ap answer.Entry (entry-true a b h)
same_answer-true (answer.Reading a) (answer.Reading b) h = ap answer.Reading (reading-true a b h)
same_answer-true _ _ h = cc

code_eq : (c d : ErrorCode) → codes.ghosts.eq c d ≡ same_code c d
code_eq NotFound NotFound = refl
code_eq NotPermitted NotPermitted = refl
code_eq BrokenPipe BrokenPipe = refl
code_eq Other Other = refl
code_eq _ _ = refl

-- the test that the code makes of entries
pub entry_eq : (a b : Entry) → entries.ghosts.eq a b ≡ same_entry a b
entry_eq (entry.Started a) (entry.Started b) = refl
entry_eq (entry.NoStart c a) (entry.NoStart d b) = ap (λ x. x && same_words a b) (code_eq c d)
entry_eq (entry.Sent a) (entry.Sent b) = refl
entry_eq (entry.NoSend c a) (entry.NoSend d b) = ap (λ x. x && pointwise nat_eq a b) (code_eq c d)
entry_eq (entry.Chunk m a) (entry.Chunk n b) = refl
entry_eq (entry.End m) (entry.End n) = refl
entry_eq (entry.NoRead c) (entry.NoRead d) = code_eq c d
entry_eq (entry.Silence m) (entry.Silence n) = refl
entry_eq entry.Closed entry.Closed = refl
entry_eq (entry.NoClose c) (entry.NoClose d) = code_eq c d
entry_eq (entry.Exited m) (entry.Exited n) = refl
entry_eq (entry.Killed m) (entry.Killed n) = refl
entry_eq (entry.NoWait c) (entry.NoWait d) = code_eq c d
entry_eq _ _ = refl

reading_eq : (r q : Reading) → readings.ghosts.eq r q ≡ same_reading r q
reading_eq Read Read = refl
reading_eq Syntax Syntax = refl
reading_eq TooLarge TooLarge = refl
reading_eq _ _ = refl

-- the test that the code makes is whether two answers are the same
pub answer_eq : (a b : Answer) → answers.ghosts.eq a b ≡ same_answer a b
answer_eq answer.Absent answer.Absent = refl
answer_eq (answer.Content a) (answer.Content b) = refl
answer_eq (answer.Tool a) (answer.Tool b) = refl
answer_eq (answer.Triplet a) (answer.Triplet b) = refl
answer_eq answer.Unset answer.Unset = refl
answer_eq (answer.Value a) (answer.Value b) = refl
answer_eq answer.Ended answer.Ended = refl
answer_eq (answer.Entry a) (answer.Entry b) = entry_eq a b
answer_eq (answer.Reading a) (answer.Reading b) = reading_eq a b
answer_eq _ _ = refl
