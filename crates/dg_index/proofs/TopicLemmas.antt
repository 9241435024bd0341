-- What a change of the world leaves: the answers to the questions of the other topics.
use Rattle.std.proofs.Common.{◌≡◌, ◌∙◌, ℕ, Bool, true, false, ◌&&◌, cond, List, [], ◌∷◌, ◌++◌, refl, ap, sym}
use Rattle.std.specs.Prelude.{Option, Some, None, Result, Ok, Err, MatchOption, not, is_some, nat_le, length, option_and_then, option_map}
use Rattle.std.proofs.lemmas.Bool.{and_from, false≢true}
use Rattle.std.specs.declared.cmp.Ordering.{Ordering}
use Rattle.std.specs.declared.cmp.Ordering.TheVariants.{Less, Equal, Greater}
use Rattle.std.specs.Ordering.{nat_cmp, is_eq, match_ordering, ordering_then}
use Rattle.std.specs.BTreeMap.{insert_entry, is_at}
use Rattle.std.specs.Map.{lookup, remove_entry}
use Rattle.std.specs.Cmp.Lexicographic.{slice_cmp, bytes_decides, texts_ties}
use Rattle.dg_match.specs.declared.reading.Reading.{Reading as ReadingOfText}
use Rattle.dg_match.specs.Book.{reading_of}
use Rattle.dg_transcript.specs.declared.entry.Entry.{Entry as EntryOfSession}
use Rattle.dg_transcript.specs.Sessions.{entry_at}
use Rattle.dg_world.specs.Name.{is_name, is_single_part}
use Rattle.dg_bytes.specs.Same.{same_bytes}
use Rattle.dg_world.specs.Test.{TestView, test_cmp, test_of}
use Rattle.dg_world.specs.Transcripts.{entry_answer, for_test, for_sessions, transcript_in}
use Rattle.dg_world.specs.World.{WorldView, look, answer_of, content_of, transcript_of, edited, recorded, lacks_room, with_file, without_file, with_transcript, without_transcript, IsAsked}
use Rattle.dg_world.specs.declared.edit.Edit.{Edit}
use Rattle.dg_world.specs.declared.edit.Edit.TheVariants.{PutFile, RemoveFile, Select, PutTranscript, DropTranscript}
use Rattle.dg_world.specs.declared.question.Answer.{Answer}
use Rattle.dg_world.specs.declared.question.Answer.TheVariants as answer
use Rattle.dg_world.specs.declared.question.Question.{Question}
use Rattle.dg_world.specs.declared.question.Question.TheVariants.{File, Tool, Triplet, Variable, Entry, Pattern}
use Rattle.dg_world.specs.declared.refusal.Refusal.{Refusal}
use Rattle.dg_world.specs.Selection.{is_selection}
use Rattle.dg_world.specs.declared.refusal.Refusal.TheVariants.{BadName, TooLong, TooMany, NoSuchFile, NoSuchTranscript, BadSelection}
use Rattle.dg_world.specs.declared.selection.Selection.{Selection}
use Rattle.dg_index.specs.Topic.{is_on, topic_of, touched}
use Rattle.dg_index.specs.declared.topic.Topic.TheVariants as topic

abbrev Sessions : Type 0
Sessions = List (List EntryOfSession)

-- a test that fails at one of two equal values fails at the other
not_at : {X : Type 0} (test : X → Bool) (x y : X) → test x ≡ false → x ≡ y → test y ≡ false
not_at test x y other e = sym (ap test e) ∙ other

module _ {K X : Type 0} (cmp : K → K → Ordering) (equal : (a b : K) → is_eq (cmp a b) ≡ true → a ≡ b) where
  -- what another key has stays as an entry is put
  lookup-insert_other : (es : List (K × X)) (q k : K) (v : X) → is_eq (cmp q k) ≡ false → lookup (is_at (cmp q)) (insert_entry cmp es k v) ≡ lookup (is_at (cmp q)) es
  lookup-insert_other [] q k v other = ap (λ b. cond b (Some v) None) other
  lookup-insert_other (e ∷ es) q k v other = step (cmp k e.0) refl (lookup-insert_other es q k v other)
    where
      step : (o : Ordering) → cmp k e.0 ≡ o → lookup (is_at (cmp q)) (insert_entry cmp es k v) ≡ lookup (is_at (cmp q)) es
          → lookup (is_at (cmp q)) (match_ordering o ((k, v) ∷ e ∷ es) ((e.0, v) ∷ es) (e ∷ insert_entry cmp es k v))
          ≡ cond (is_eq (cmp q e.0)) (Some e.1) (lookup (is_at (cmp q)) es)
      step Less h ih = ap (λ b. cond b (Some v) (cond (is_eq (cmp q e.0)) (Some e.1) (lookup (is_at (cmp q)) es))) other
      step Equal h ih =
          let here = not_at (λ x. is_eq (cmp q x)) k e.0 other (equal k e.0 (ap is_eq h)) in
          ap (λ b. cond b (Some v) (lookup (is_at (cmp q)) es)) here ∙ sym (ap (λ b. cond b (Some e.1) (lookup (is_at (cmp q)) es)) here)
      step Greater h ih = ap (λ o. cond (is_eq (cmp q e.0)) (Some e.1) o) ih

  -- and as one is removed
  lookup-remove_other : (es : List (K × X)) (q k : K) → is_eq (cmp q k) ≡ false → lookup (is_at (cmp q)) (remove_entry (is_at (cmp k)) es) ≡ lookup (is_at (cmp q)) es
  lookup-remove_other [] q k other = refl
  lookup-remove_other (e ∷ es) q k other = step (is_eq (cmp k e.0)) refl (lookup-remove_other es q k other)
    where
      step : (b : Bool) → is_eq (cmp k e.0) ≡ b → lookup (is_at (cmp q)) (remove_entry (is_at (cmp k)) es) ≡ lookup (is_at (cmp q)) es
          → lookup (is_at (cmp q)) (cond b es (e ∷ remove_entry (is_at (cmp k)) es)) ≡ cond (is_eq (cmp q e.0)) (Some e.1) (lookup (is_at (cmp q)) es)
      step true h ih =
          let here = not_at (λ x. is_eq (cmp q x)) k e.0 other (equal k e.0 h) in
          sym (ap (λ b. cond b (Some e.1) (lookup (is_at (cmp q)) es)) here)
      step false h ih = ap (λ o. cond (is_eq (cmp q e.0)) (Some e.1) o) ih

-- bytes that compare as equal are
bytes_equal : (a b : List ℕ) → is_eq (slice_cmp nat_cmp a b) ≡ true → a ≡ b
bytes_equal a b h = (bytes_decides a b).0 (texts_ties a b ∙ h)

-- and so are tests
tests_equal : (a b : TestView) → is_eq (test_cmp a b) ≡ true → a ≡ b
tests_equal a b h = step (slice_cmp nat_cmp a.script b.script) refl h
  where
    step : (o : Ordering) → slice_cmp nat_cmp a.script b.script ≡ o → is_eq (ordering_then o (slice_cmp nat_cmp a.board b.board)) ≡ true → a ≡ b
    step Equal e g =
        let script = bytes_equal a.script b.script (ap is_eq e) in
        let board = bytes_equal a.board b.board g in
        λ i. record { board = board i; script = script i }
    step _ e g = cc

-- a test that decides is false where the values differ
fails : (b : Bool) → (b ≡ true → ⊥) → b ≡ false
fails true h = absurd (h refl)
fails false h = refl

other_name : (name n : List ℕ) → same_bytes name n ≡ false → is_eq (slice_cmp nat_cmp n name) ≡ false
other_name name n other =
    fails (is_eq (slice_cmp nat_cmp n name)) (λ h. false≢true (sym other ∙ (bytes_decides name n).1 (sym (bytes_equal n name h))))

other_test : (t u : TestView) → (same_bytes t.board u.board && same_bytes t.script u.script) ≡ false → is_eq (test_cmp u t) ≡ false
other_test t u other =
    fails (is_eq (test_cmp u t)) (λ h.
    let e = tests_equal u t h in
    false≢true (sym other ∙ and_from _ _ ((bytes_decides t.board u.board).1 (sym (ap (λ x. x.board) e))) ((bytes_decides t.script u.script).1 (sym (ap (λ x. x.script) e)))))

-- other files leave the answers to the questions that aren't on them
files-look : (w : WorldView) (name : List ℕ) (fs : List (List ℕ × List ℕ))
    → ((n : List ℕ) → same_bytes name n ≡ false → lookup (is_at (slice_cmp nat_cmp n)) fs ≡ lookup (is_at (slice_cmp nat_cmp n)) w.files)
    → (q : Question) → is_on (topic.File name) q ≡ false → look (record w { files = fs }) q ≡ look w q
files-look w name fs h (File n) other = ap (λ o. Some (answer_of o)) (h n other)
files-look w name fs h Tool other = refl
files-look w name fs h (Triplet machine) other = refl
files-look w name fs h (Variable n) other = refl
files-look w name fs h (Entry place) other = refl
files-look w name fs h (Pattern text) other = refl

-- and other transcripts those that aren't on them
transcripts-look : (w : WorldView) (t : TestView) (ts : List (TestView × Sessions))
    → ((u : TestView) → (same_bytes t.board u.board && same_bytes t.script u.script) ≡ false → lookup (is_at (test_cmp u)) ts ≡ lookup (is_at (test_cmp u)) w.transcripts)
    → (q : Question) → is_on (topic.Transcript t.board t.script) q ≡ false → look (record w { transcripts = ts }) q ≡ look w q
transcripts-look w t ts h (File n) other = refl
transcripts-look w t ts h Tool other = refl
transcripts-look w t ts h (Triplet machine) other = refl
transcripts-look w t ts h (Variable n) other = refl
transcripts-look w t ts h (Entry place) other =
    ap (λ o. Some (entry_answer (option_and_then (λ (ss : Sessions). entry_at ss place.session place.place) o))) (h place.test other)
transcripts-look w t ts h (Pattern text) other = refl

selection-look : (w : WorldView) (s : Selection) (q : Question) → is_on topic.Selection q ≡ false → look (record w { selection = s }) q ≡ look w q
selection-look w s (File n) other = refl
selection-look w s Tool other = cc
selection-look w s (Triplet machine) other = cc
selection-look w s (Variable n) other = cc
selection-look w s (Entry place) other = refl
selection-look w s (Pattern text) other = refl

-- an edit that was not refused was made
pub made : {A : Type 0} (b : Bool) (refusal : Refusal) (r : Result A Refusal) (v : A) → cond b (Err refusal) r ≡ Ok v → r ≡ Ok v
made true refusal r v h = cc
made false refusal r v h = h

pub made_where : {A : Type 0} (b : Bool) (refusal : Refusal) (r : Result A Refusal) (v : A) → cond b r (Err refusal) ≡ Ok v → r ≡ Ok v
made_where true refusal r v h = h
made_where false refusal r v h = cc

is_made : (a v : WorldView) (r : Result WorldView Refusal) → r ≡ Ok a → r ≡ Ok v → a ≡ v
is_made a v r g h = cc

put-look : (w : WorldView) (name bytes : List ℕ) (q : Question) → is_on (topic.File name) q ≡ false → look (with_file w name bytes) q ≡ look w q
put-look w name bytes q other =
    files-look w name _ (λ n apart. lookup-insert_other (slice_cmp nat_cmp) bytes_equal w.files n name bytes (other_name name n apart)) q other

removed-look : (w : WorldView) (name : List ℕ) (q : Question) → is_on (topic.File name) q ≡ false → look (without_file w name) q ≡ look w q
removed-look w name q other =
    files-look w name _ (λ n apart. lookup-remove_other (slice_cmp nat_cmp) bytes_equal w.files n name (other_name name n apart)) q other

recorded_in-look : (w : WorldView) (t : TestView) (ss : Sessions) (q : Question) → is_on (topic.Transcript t.board t.script) q ≡ false → look (with_transcript w t ss) q ≡ look w q
recorded_in-look w t ss q other =
    transcripts-look w t _ (λ u apart. lookup-insert_other test_cmp tests_equal w.transcripts u t ss (other_test t u apart)) q other

dropped-look : (w : WorldView) (t : TestView) (q : Question) → is_on (topic.Transcript t.board t.script) q ≡ false → look (without_transcript w t) q ≡ look w q
dropped-look w t q other =
    transcripts-look w t _ (λ u apart. lookup-remove_other test_cmp tests_equal w.transcripts u t (other_test t u apart)) q other

-- the answer in a world that was made
made-look : (w u v : WorldView) (q : Question) (r : Result WorldView Refusal) → r ≡ Ok v → r ≡ Ok u → look u q ≡ look w q → look v q ≡ look w q
made-look w u v q r h g same = ap (λ x. look x q) (sym (is_made u v r g h)) ∙ same

-- the bytes of a test are its board and its script
pub named_test : (board script : List ℕ) (f : TestView → Result WorldView Refusal) (v : WorldView) → for_test (test_of board script) f ≡ Ok v → f (record { board = board; script = script }) ≡ Ok v
named_test board script f v h = step (is_single_part board && is_name script) h
  where
    step : (b : Bool) → for_test (cond b (Some (record { board = board; script = script })) None) f ≡ Ok v → f (record { board = board; script = script }) ≡ Ok v
    step true g = g
    step false g = cc

sessions-look : (w v : WorldView) (t : TestView) (r : Result Sessions Refusal) (q : Question) → for_sessions r (with_transcript w t) ≡ Ok v
    → is_on (topic.Transcript t.board t.script) q ≡ false → look v q ≡ look w q
sessions-look w v t (Ok ss) q h other = made-look w (with_transcript w t ss) v q (Ok (with_transcript w t ss)) h refl (recorded_in-look w t ss q other)
sessions-look w v t (Err refusal) q h other = cc

-- an edit that is made leaves the answers to the questions of the other topics
pub edited-look : (w v : WorldView) (e : Edit) (q : Question) → edited w e ≡ Ok v → is_on (touched e) q ≡ false → look v q ≡ look w q
edited-look w v (PutFile name bytes) q h other =
    made-look w (with_file w name bytes) v q (Ok (with_file w name bytes)) (
    made (not (is_some (content_of w name)) && nat_le 4096 (length w.files)) TooMany _ v
    (made (not (nat_le (length bytes) 1048576)) TooLong _ v (made (not (is_name name)) BadName _ v h))
    ) refl (put-look w name bytes q other)
edited-look w v (RemoveFile name) q h other =
    made-look w (without_file w name) v q (Ok (without_file w name)) (made_where (is_some (content_of w name)) NoSuchFile _ v (made (not (is_name name)) BadName _ v h)) refl (removed-look w name q other)
edited-look w v (Select selection) q h other =
    made-look w (record w { selection = selection }) v q (Ok (record w { selection = selection })) (made_where (is_selection selection) BadSelection _ v h) refl (selection-look w selection q other)
edited-look w v (PutTranscript board script text) q h other =
    let t : TestView = record { board = board; script = script } in
    sessions-look w v t (transcript_in text) q (made (lacks_room w t) TooMany _ v (named_test board script _ v h)) other
edited-look w v (DropTranscript board script) q h other =
    let t : TestView = record { board = board; script = script } in
    made-look w (without_transcript w t) v q (Ok (without_transcript w t)) (made_where (is_some (transcript_of w t)) NoSuchTranscript _ v (named_test board script _ v h)) refl (dropped-look w t q other)

-- so does the recording of a transcript
pub recorded-look : (w v : WorldView) (t : TestView) (ss : Sessions) (q : Question) → recorded w t ss ≡ Ok v → is_on (topic.Transcript t.board t.script) q ≡ false → look v q ≡ look w q
recorded-look w v t ss q h other =
    made-look w (with_transcript w t ss) v q (Ok (with_transcript w t ss)) (made (lacks_room w t) TooMany _ v h) refl (recorded_in-look w t ss q other)

-- what the book has for another text stays as one is read
reading-more : (book : List (List ℕ × ReadingOfText)) (text other_text : List ℕ) (r : ReadingOfText) → same_bytes text other_text ≡ false
    → reading_of (book ++ (text, r) ∷ []) other_text ≡ reading_of book other_text
reading-more [] text other_text r apart =
    ap (λ b. cond b (Some r) None) (fails (same_bytes other_text text) (λ h. false≢true (sym apart ∙ (bytes_decides text other_text).1 (sym ((bytes_decides other_text text).0 h)))))
reading-more (e ∷ book) text other_text r apart = ap (λ o. cond (same_bytes other_text e.0) (Some e.1) o) (reading-more book text other_text r apart)

book-look : (w : WorldView) (text : List ℕ) (r : ReadingOfText) (q : Question) → is_on (topic.Pattern text) q ≡ false → look (record w { book = w.book ++ (text, r) ∷ [] }) q ≡ look w q
book-look w text r (File n) other = refl
book-look w text r Tool other = refl
book-look w text r (Triplet machine) other = refl
book-look w text r (Variable n) other = refl
book-look w text r (Entry place) other = refl
book-look w text r (Pattern t) other = ap (option_map answer.Reading) (reading-more w.book text t r other)

-- and a question leaves those of the other topics, and all of them where it had an answer
pub asked-look : (w v : WorldView) (asked : Question) (a : Answer) (q : Question) → IsAsked w v asked a → is_on (topic_of asked) q ≡ false → look v q ≡ look w q
asked-look w v asked a q h other = step (look w asked) h.grown
  where
    step : (o : Option Answer)
        → MatchOption o ((text : List ℕ) × (r : ReadingOfText) × (asked ≡ Pattern text) × (v ≡ record w { book = w.book ++ (text, r) ∷ [] })) (λ _. v ≡ w)
        → look v q ≡ look w q
    step None (text, r, is, grown) =
        let on : is_on (topic.Pattern text) q ≡ false = ap (λ x. is_on (topic_of x) q) (sym is) ∙ other in
        ap (λ x. look x q) grown ∙ book-look w text r q on
    step (Some b) same_world = ap (λ x. look x q) same_world
