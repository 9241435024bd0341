-- How far a session is.
use Rattle.std.proofs.Common.{◌≡◌, ℕ, ◌+◌, ◌-◌, ◌<◌, ◌≤◌, List, [], ◌∷◌, ◌++◌, ◌⊎◌, inl, inr, map, length, Option, None, Some, IfSome, refl, sym, ap, subst, cond, Bool, true, false, ◌==◌, ◌∙◌, arith, length-append, true≢false, Result, Ok, Err, OnErr}
use Rattle.std.proofs.lemmas.List.{append_assoc, append-nil}
use Rattle.std.proofs.KnownBytes.{Appends-kept, Appends-nil, Appends-trans}
use Rattle.std.proofs.BufReadLemmas.{take_through-nil, take_through_nonempty}
use Rattle.std.specs.Result.{result_unwrap_or}
use Rattle.std.specs.Io.BufRead.{take_through, drop_through, DropsThrough}
use Rattle.std.specs.Io.KnownBytes.{Appends, IsAtEnd, Keeps}
use Rattle.bstr.specs.Records.{trim_record}
use Rattle.bstr.proofs.lemmas.RecordLemmas.{records-nil, records-step}
use Rattle.dg_session.specs.declared.answer.LineAnswer.{LineAnswer}
use Rattle.dg_session.specs.declared.request.Request.{Request}
use Rattle.dg_session.specs.Answer.{text_of}
use Rattle.dg_session.specs.Request.{request_of}
use Rattle.dg_session.specs.declared.answer.LineAnswer.TheVariants as answer
use Rattle.dg_session.specs.declared.request.Request.TheVariants as request
use Rattle.dg_session.specs.Session.{requests_of, edit_answer, Edits, Selects, Reports, Follows, Writes, RunsShort, Answers, AnswersFront, AnswersLine, AnswersLineFront, AnswersOne}
use Rattle.dg_line.specs.Select.{selection_by}
use Rattle.dg_world.specs.declared.edit.Edit.{Edit}
use Rattle.dg_world.specs.declared.edit.Edit.TheVariants.{PutFile, RemoveFile, PutTranscript, DropTranscript, Select}
use Rattle.dg_world.specs.declared.selection.Selection.{Selection}
use Rattle.dg_core.specs.Core.{CoreView, edited_core, settled, settled_up_to, evaluated}
use Rattle.dg_core.proofs.Completing.{completed}
use Rattle.dg_session.proofs.WritingLemmas.{front_of, front_first, front_second}

edits-some : (core : CoreView) (edit : Edit) → (next : CoreView) × (given : LineAnswer) × Edits core edit next given
edits-some core edit = (result_unwrap_or (edited_core core edit) core, edit_answer (edited_core core edit), (refl, refl))

selects-some : (core : CoreView) (selection : Option Selection) → (next : CoreView) × (given : LineAnswer) × Selects core selection next given
selects-some core None = (core, answer.Refused 6, (refl, refl))
selects-some core (Some selection) = edits-some core (Select selection)

reports-some : (core : CoreView) → (next : CoreView) × (given : LineAnswer) × Reports core next given
unfolding settled_up_to
reports-some core =
    let (world, sum, grown, from_scratch) = completed core.world in (
      settled world core.compared core,
      answer.Sum sum.1 (evaluated core) sum.0,
      record { grown = grown; is_settled = refl; sum = sum; from_scratch = from_scratch; is_answered = refl },
    )

-- each request can be answered
follows-some : (core : CoreView) (next : Request) → (new : CoreView) × (given : LineAnswer) × Follows core next new given
unfolding Follows
follows-some core (request.Put name content) = edits-some core (PutFile name content)
follows-some core (request.Remove name) = edits-some core (RemoveFile name)
follows-some core (request.PutTranscript board script text) = edits-some core (PutTranscript board script text)
follows-some core (request.DropTranscript board script) = edits-some core (DropTranscript board script)
follows-some core (request.Select words) = selects-some core (selection_by words)
follows-some core request.Report = reports-some core
follows-some core request.Unknown = (core, answer.Unknown, (refl, refl))

writes-some : (core : CoreView) (requests : List Request) → (text : List ℕ) × (last : CoreView) × Writes core requests text last
writes-some core [] = ([], core, (refl, refl))
writes-some core (next ∷ requests) =
    let (new, given, one) = follows-some core next in
    let (more, last, rest) = writes-some new requests in
    (text_of given ++ more, last, (new, given, more, one, refl, rest))

writes-append : (core mid last : CoreView) (first more : List Request) (text after : List ℕ) → Writes core first text mid → Writes mid more after last
    → Writes core (first ++ more) (text ++ after) last
writes-append core mid last [] more text after (none, same) rest =
    subst (λ c. Writes c more (text ++ after) last) same (subst (λ t. Writes mid more t last) (sym (ap (λ t. t ++ after) none)) rest)
writes-append core mid last (next ∷ first) more text after (new, given, others, one, is, wrote) rest = (
  new,
  given,
  others ++ after,
  one,
  ap (λ t. t ++ after) is ∙ append_assoc (text_of given) others after,
  writes-append new mid last first more others after wrote rest,
)

writes-one : (core new : CoreView) (next : Request) (given : LineAnswer) → Follows core next new given → Writes core (next ∷ []) (text_of given) new
writes-one core new next given one = (new, given, [], one, sym (append-nil (text_of given)), (refl, refl))

-- the text so far is that of the requests so far, or one of them did not come to its end
abbrev pub SoFar : CoreView → CoreView → List Request → List Request → List ℕ → Type 0
SoFar first core all left text = ((before : List Request) × (all ≡ before ++ left) × Writes first before text core) ⊎ RunsShort first all text

so_far-one : (first core new : CoreView) (all left : List Request) (next : Request) (text : List ℕ) (given : LineAnswer) → SoFar first core all (next ∷ left) text → AnswersOne core new next given → SoFar first new all left (text ++ text_of given)
so_far-one first core new all left next text given (inl (before, split, wrote)) (inl one) =
    inl (
      before ++ next ∷ [],
      split ∙ sym (append_assoc before (next ∷ []) left),
      writes-append first core new before (next ∷ []) text (text_of given) wrote (writes-one core new next given one),
    )
so_far-one first core new all left next text given (inl (before, split, wrote)) (inr short) =
    inr (before, next, left, text, core, given, [], split, wrote, short, sym (append-nil _))
so_far-one first core new all left next text given (inr (before, at, others, done, last, short, more, split, wrote, is, all_of)) one =
    inr (before, at, others, done, last, short, more ++ text_of given, split, wrote, is, ap (λ t. t ++ text_of given) all_of ∙ append_assoc (done ++ text_of short) more (text_of given))

so_far-all : (first core : CoreView) (all : List Request) (text : List ℕ) → SoFar first core all [] text → ((last : CoreView) × Writes first all text last) ⊎ RunsShort first all text
so_far-all first core all text (inl (before, split, wrote)) =
    inl (core, subst (λ rs. Writes first rs text core) (sym (split ∙ append-nil before)) wrote)
so_far-all first core all text (inr short) = inr short

-- there is a whole text that begins with what was written
so_far-whole : (first core : CoreView) (all left : List Request) (text : List ℕ) → SoFar first core all left text → (more : List ℕ) × (((last : CoreView) × Writes first all (text ++ more) last) ⊎ RunsShort first all (text ++ more))
so_far-whole first core all left text (inl (before, split, wrote)) =
    let (more, last, rest) = writes-some core left in
    (more, inl (last, subst (λ rs. Writes first rs (text ++ more) last) (sym split) (writes-append first core last before left text more wrote rest)))
so_far-whole first core all left text (inr short) = ([], inr (subst (RunsShort first all) (sym (append-nil text)) short))

-- what was written so far, what the rest of the input will ask, and how many bytes may still come
abbrev pub Progress : Option (List ℕ) → Option (List ℕ) → Option (List ℕ) → Option (List ℕ) → CoreView → CoreView → ℕ → ℕ → Bool → Type 0
Progress input now out written first core limit left is_done =
    IfSome input (λ xs. (done : List ℕ) × (rest : List ℕ) × (now ≡ Some rest) × Appends out written done
    × SoFar first core (requests_of xs) (requests_of rest) done
    × (length xs + left ≡ limit + length rest)
    × (is_done ≡ true → rest ≡ []))

pub begins : (input out : Option (List ℕ)) (first : CoreView) (limit : ℕ) → Progress input input out out first first limit limit false
begins None out first limit = tt
begins (Some xs) out first limit = ([], xs, refl, Appends-nil out, inl ([], refl, (refl, refl)), omega arith, λ e. cc)

requests_of-nil : requests_of [] ≡ []
requests_of-nil = ap (map (λ line. request_of (trim_record 10 line))) (records-nil 10)

requests_of-step : (rest : List ℕ) → 0 < length rest → requests_of rest ≡ request_of (trim_record 10 (take_through 10 rest)) ∷ requests_of (drop_through 10 rest)
requests_of-step rest some = ap (map (λ line. request_of (trim_record 10 line))) (records-step 10 rest some)

through_whole : (xs : List ℕ) → take_through 10 xs ++ drop_through 10 xs ≡ xs
through_whole [] = refl
through_whole (x ∷ xs) = at (x == 10) (through_whole xs)
  where
    at : (b : Bool) → take_through 10 xs ++ drop_through 10 xs ≡ xs → cond b (x ∷ []) (x ∷ take_through 10 xs) ++ cond b xs (drop_through 10 xs) ≡ x ∷ xs
    at true h = refl
    at false h = ap (λ l. x ∷ l) h

read_of : (now : Option (List ℕ)) (line rest : List ℕ) → now ≡ Some rest → IfSome now (λ xs. line ≡ take_through 10 xs) → line ≡ take_through 10 rest
read_of now line rest e h = (let P : Option (List ℕ) → Type 0 = λ o. IfSome o (λ xs. line ≡ take_through 10 xs) in subst P e h)

left_of : (now later : Option (List ℕ)) (rest : List ℕ) → now ≡ Some rest → DropsThrough now later 10 → later ≡ Some (drop_through 10 rest)
left_of now later rest e h = (let P : Option (List ℕ) → Type 0 = λ o. DropsThrough o later 10 in subst P e h)

-- a line is the next request
next_of : (line rest : List ℕ) → line ≡ take_through 10 rest → 0 < length line → requests_of rest ≡ request_of (trim_record 10 line) ∷ requests_of (drop_through 10 rest)
next_of line rest read some =
    let nonempty : 0 < length rest = take_through_nonempty 10 rest (subst (λ k. 0 < length k) read some) in
    requests_of-step rest nonempty ∙ ap (λ l. request_of (trim_record 10 l) ∷ requests_of (drop_through 10 rest)) (sym read)

-- a flush leaves what was written
pub flushed : (input now out written wrote : Option (List ℕ)) (first core : CoreView) (limit left : ℕ) (was : Bool) → Progress input now out written first core limit left was → Keeps written wrote → Progress input now out wrote first core limit left was
flushed None now out written wrote first core limit left was p k = tt
flushed (Some xs) now out written wrote first core limit left was p k =
    let (done, rest, at, grew, so_far, count, ended) = p in
    (done, rest, at, Appends-kept out written wrote done grew k, so_far, count, ended)

-- a line was read and answered
pub goes_on : (input now later out written wrote : Option (List ℕ)) (first core new : CoreView) (line : List ℕ) (limit left next : ℕ) (was : Bool) → Progress input now out written first core limit left was →
    IfSome now (λ xs. line ≡ take_through 10 xs) → DropsThrough now later 10 → AnswersLine core new line written wrote →
    0 < length line → length line ≤ left → next ≡ left - length line → was ≡ false → Progress input later out wrote first new limit next was
goes_on None now later out written wrote first core new line limit left next was p l d a some fits e runs = tt
goes_on (Some xs) now later out written wrote first core new line limit left next was p l d (given, one, a) some fits e runs =
    let (done, rest, at, grew, so_far, count, ended) = p in
    let read = read_of now line rest at l in (
      done ++ text_of given,
      drop_through 10 rest,
      left_of now later rest at d,
      Appends-trans _ _ _ _ _ grew a,
      so_far-one first core new (requests_of xs) (requests_of (drop_through 10 rest)) (request_of (trim_record 10 line)) done given
          (subst (λ rs. SoFar first core (requests_of xs) rs done) (next_of line rest read some) so_far) one,
      omega (arith, count, ap length read, ap length (through_whole rest), length-append (take_through 10 rest) (drop_through 10 rest)),
      λ yes. absurd (true≢false (sym yes ∙ runs)),
    )

-- no line is left
pub stops : (input now later out written : Option (List ℕ)) (first core : CoreView) (line : List ℕ) (limit left : ℕ) (was : Bool) → Progress input now out written first core limit left was →
    IfSome now (λ xs. line ≡ take_through 10 xs) → DropsThrough now later 10 → length line ≡ 0 → Progress input later out written first core limit left true
stops None now later out written first core line limit left was p l d none = tt
stops (Some xs) now later out written first core line limit left was p l d none =
    let (done, rest, at, grew, so_far, count, ended) = p in
    let read = read_of now line rest at l in
    let empty : rest ≡ [] = take_through-nil 10 rest (sym (ap length read) ∙ none) in (
      done,
      [],
      left_of now later rest at d ∙ ap (λ k. Some (drop_through 10 k)) empty,
      grew,
      subst (λ k. SoFar first core (requests_of xs) (requests_of k) done) empty so_far,
      count ∙ ap (λ k. limit + length k) empty,
      λ _. refl,
    )

-- the whole text stands
pub ends : (input now out written : Option (List ℕ)) (first core : CoreView) (limit left : ℕ) (was : Bool) → Progress input now out written first core limit left was → was ≡ true →
    IfSome input (λ xs. Answers first xs out written)
ends None now out written first core limit left was p e = tt
ends (Some xs) now out written first core limit left was p e =
    let (done, rest, at, grew, so_far, count, ended) = p in
    (done, so_far-all first core (requests_of xs) done (subst (λ rs. SoFar first core (requests_of xs) rs done) (ap requests_of (ended e) ∙ requests_of-nil) so_far), grew)

-- and the input was within the limit
pub within : (input now out written : Option (List ℕ)) (first core : CoreView) (limit left : ℕ) (was : Bool) → Progress input now out written first core limit left was → was ≡ true →
    IfSome input (λ xs. length xs ≤ limit)
within None now out written first core limit left was p e = tt
within (Some xs) now out written first core limit left was p e =
    let (done, rest, at, grew, so_far, count, ended) = p in
    omega (arith, count, ap length (ended e))

-- and nothing is left of it
pub at_end : (input now out written : Option (List ℕ)) (first core : CoreView) (limit left : ℕ) (was : Bool) → Progress input now out written first core limit left was → was ≡ true →
    IfSome input (λ xs. IsAtEnd now)
at_end None now out written first core limit left was p e = tt
at_end (Some xs) now out written first core limit left was p e =
    let (done, rest, at, grew, so_far, count, ended) = p in
    subst IsAtEnd (sym (at ∙ ap (λ k. Some k) (ended e))) refl

-- a front of a text stands
pub front_so_far : (input now out written : Option (List ℕ)) (first core : CoreView) (limit left : ℕ) (was : Bool) → Progress input now out written first core limit left was →
    IfSome input (λ xs. AnswersFront first xs out written)
front_so_far None now out written first core limit left was p = tt
front_so_far (Some xs) now out written first core limit left was p =
    let (done, rest, at, grew, so_far, count, ended) = p in
    let (more, whole) = so_far-whole first core (requests_of xs) (requests_of rest) done so_far in
    (done ++ more, whole, front_of out written done more (done ++ more) grew refl)

-- and also after a front of the next answer
pub front_and_part : (input now out written wrote : Option (List ℕ)) (first core : CoreView) (line : List ℕ) (limit left : ℕ) (was : Bool) → Progress input now out written first core limit left was →
    IfSome now (λ xs. line ≡ take_through 10 xs) → AnswersLineFront core line written wrote → 0 < length line → IfSome input (λ xs. AnswersFront first xs out wrote)
front_and_part None now out written wrote first core line limit left was p l a some = tt
front_and_part (Some xs) now out written wrote first core line limit left was p l (new, given, one, a) some =
    let (done, rest, at, grew, so_far, count, ended) = p in
    let read = read_of now line rest at l in
    let later = requests_of (drop_through 10 rest) in
    let so_far' = so_far-one first core new (requests_of xs) later (request_of (trim_record 10 line)) done given
    (subst (λ rs. SoFar first core (requests_of xs) rs done) (next_of line rest read some) so_far) one in
    let (more, whole) = so_far-whole first new (requests_of xs) later (done ++ text_of given) so_far' in (
      (done ++ text_of given) ++ more,
      whole,
      front_first out wrote (done ++ text_of given) (done ++ text_of given) more (front_second out written wrote done done (text_of given) (text_of given) grew refl a refl) refl,
    )

-- nothing was written of the answer to a line
pub nothing_of : (core : CoreView) (line : List ℕ) (out : Option (List ℕ)) → AnswersLineFront core line out out
nothing_of core line out =
    let (new, given, one) = follows-some core (request_of (trim_record 10 line)) in
    (new, given, inl one, (0, Appends-nil out))

-- nothing was written of any answer
pub nothing_written : (input out : Option (List ℕ)) (first : CoreView) (limit : ℕ) → IfSome input (λ xs. AnswersFront first xs out out)
nothing_written input out first limit = front_so_far input input out out first first limit limit false (begins input out first limit)

-- a line past what is left is past the limit
pub past : (input now out written : Option (List ℕ)) (first core : CoreView) (limit left : ℕ) (was : Bool) → Progress input now out written first core limit left was →
    IfSome now (λ xs. left < length (take_through 10 xs)) → IfSome input (λ xs. limit < length xs)
past None now out written first core limit left was p h = tt
past (Some xs) now out written first core limit left was p h =
    let (done, rest, at, grew, so_far, count, ended) = p in
    let long : left < length (take_through 10 rest) = (let P : Option (List ℕ) → Type 0 = λ o. IfSome o (λ ys. left < length (take_through 10 ys)) in subst P at h) in
    omega (arith, count, long, ap length (through_whole rest), length-append (take_through 10 rest) (drop_through 10 rest))

-- where it holds at any outcome
pub at_err : {A E : Type 0} (r : Result A E) (P : Type 0) → P → OnErr r P
at_err (Ok x) P p = tt
at_err (Err e) P p = p

-- what holds after an error, and what that tells
pub err_is : {A E : Type 0} (r : Result A E) (P Q : Type 0) → (P → Q) → OnErr r P → OnErr r Q
err_is (Ok x) P Q f p = tt
err_is (Err e) P Q f p = f p
