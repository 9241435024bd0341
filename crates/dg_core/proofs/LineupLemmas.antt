-- What keeps a lineup: records that are put on a shelf, and edits that leave the names of the files and the selection.
use Rattle.std.proofs.lemmas.List.{take_all}
use Rattle.std.proofs.Common.{◌≡◌, ◌∙◌, ℕ, suc, ◌≤◌, Bool, true, false, cond, List, [], ◌∷◌, length, take, refl, ap, sym, subst, arith}
use Rattle.std.specs.Prelude.{IfSome, Option, Some, None, Result, Ok, Err, not, is_some, nat_le, ◌&&◌, slice_get, option_map, option_and_then}
use Rattle.std.specs.List.{filter, flat_map}
use Rattle.std.specs.List.Sorted.{IsStrictlySortedBy}
use Rattle.std.proofs.lemmas.Option.{get_or_from_slice_get, slice_get_within}
use Rattle.std.specs.declared.cmp.Ordering.{Ordering}
use Rattle.std.specs.declared.cmp.Ordering.TheVariants.{Less, Equal, Greater}
use Rattle.std.specs.Ordering.{nat_cmp, match_ordering}
use Rattle.std.specs.BTreeMap.{insert_entry}
use Rattle.std.specs.Map.{keys_of}
use Rattle.std.specs.Cmp.Lexicographic.{slice_cmp}
use Rattle.dg_transcript.specs.declared.entry.Entry.{Entry}
use Rattle.dg_world.specs.Name.{is_name}
use Rattle.dg_world.specs.Selection.{is_selected}
use Rattle.dg_world.specs.Test.{TestView, same_test}
use Rattle.dg_world.specs.Tests.{tests_on}
use Rattle.dg_world.specs.Transcripts.{for_sessions, transcript_in}
use Rattle.dg_world.specs.World.{WorldView, content_of, transcript_of, edited, lacks_room, selected, scripts, with_file, with_transcript, without_transcript}
use Rattle.dg_world.specs.declared.edit.Edit.{Edit}
use Rattle.dg_world.specs.declared.edit.Edit.TheVariants.{PutFile, RemoveFile, Select, PutTranscript, DropTranscript}
use Rattle.dg_world.specs.declared.refusal.Refusal.{Refusal}
use Rattle.dg_world.specs.declared.refusal.Refusal.TheVariants.{BadName, TooLong, TooMany, NoSuchTranscript}
use Rattle.dg_world.specs.declared.test_id.TestId.{TestId}
use Rattle.dg_records.specs.Truth.{RecordView, IsTrueRecord}
use Rattle.dg_records.specs.Shelf.{kept, with_record}
use Rattle.dg_records.proofs.ShelfLemmas.{same_test-true}
use Rattle.dg_index.specs.Topic.{touched}
use Rattle.dg_index.specs.Kept.{KeptView, is_held, place_of, changed, edited_kept}
use Rattle.dg_index.specs.Marks.{counted, judged_of, reads_of}
use Rattle.dg_index.proofs.TopicLemmas.{made, made_where, named_test}
use Rattle.dg_sum.specs.Judged.{Judged}
use Rattle.dg_core.specs.Core.{CoreView, pending, record_in, shelf_with, settled_up_to}
use Rattle.dg_core.specs.Scratch.{IsJudged}
use Rattle.dg_core.specs.Lineup.{IsPlace, ArePlaces, IsClosedOf, IsCurrent, IsLineup, IsOpenTo, HoldsElsewhere, adds_at_most}
use Rattle.dg_core.specs.declared.lineup.Lineup.{Lineup}
use Rattle.dg_core.specs.declared.openings.Openings.{Openings}
use Rattle.dg_core.proofs.OpeningLemmas.{picked, picked-all}
use Rattle.dg_core.proofs.PlaceLemmas.{kept-place, kept-at}
use Rattle.dg_core.proofs.Settling.{selected-held, held-some, kept-test, verdict-held}

-- a test that is held has a place, and a record there
pub held-placed : (w : WorldView) (s : List RecordView) (t : TestId) → is_held w s t ≡ true → place_of s t ≡ None → ⊥
held-placed w s t h none = held-some w s t h (kept-place s t ∙ ap (option_and_then (slice_get s)) none)

pub held-there : (w : WorldView) (s : List RecordView) (t : TestId) (i : ℕ) → is_held w s t ≡ true → place_of s t ≡ Some i → None ≡ option_map judged_of (slice_get s i) → ⊥
held-there w s t i h at none = step (slice_get s i) refl none
  where
    step : (o : Option RecordView) → slice_get s i ≡ o → None ≡ option_map judged_of o → ⊥
    step None e g = held-some w s t h (kept-at s t i at ∙ e)
    step (Some r) e g = cc

-- with the lines that it has in the world
pub judged-placed : (w : WorldView) (s : List RecordView) (t : TestId) (i : ℕ) (j : Judged) → is_held w s t ≡ true → place_of s t ≡ Some i → Some j ≡ option_map judged_of (slice_get s i)
    → IfSome (slice_get s i) (λ r. IsTrueRecord r.test r.reads r.verdict) → IsJudged w t j
judged-placed w s t i j h at is true_record = step (slice_get s i) refl is true_record
  where
    step : (o : Option RecordView) → slice_get s i ≡ o → Some j ≡ option_map judged_of o → IfSome o (λ r. IsTrueRecord r.test r.reads r.verdict) → IsJudged w t j
    step None e g y = cc
    step (Some r) e g y =
        let k : kept s t ≡ Some r = kept-at s t i at ∙ e in
        let same : judged_of r ≡ j = cc in
        subst (IsJudged w t) same (kept-test s t r k, verdict-held w s t r h k y (kept-test s t r k))

-- the place of a record stays as another is put on the shelf
place-stays : (s : List RecordView) (r : RecordView) (t : TestId) (i : ℕ) → place_of s t ≡ Some i → place_of (with_record s r) t ≡ Some i
place-stays [] r t i h = cc
place-stays (x ∷ xs) r t i h = step (same_test r.test x.test) (same_test t x.test) (place_of xs t) refl refl refl h (place-stays xs r t)
  where
    step : (a b : Bool) (o : Option ℕ) → same_test r.test x.test ≡ a → same_test t x.test ≡ b → place_of xs t ≡ o → cond b (Some 0) (option_map suc o) ≡ Some i
        → ((j : ℕ) → place_of xs t ≡ Some j → place_of (with_record xs r) t ≡ Some j)
        → place_of (cond a (r ∷ xs) (x ∷ with_record xs r)) t ≡ Some i
    step true b o same here rest h ih =
        let found : same_test t r.test ≡ b = ap (same_test t) (same_test-true r.test x.test same) ∙ here in
        ap (λ c. cond c (Some 0) (option_map suc (place_of xs t))) found ∙ ap (λ p. cond b (Some 0) (option_map suc p)) rest ∙ h
    step false true o same here rest h ih = ap (λ c. cond c (Some 0) (option_map suc (place_of (with_record xs r) t))) here ∙ h
    step false false None same here rest h ih = cc
    step false false (Some j) same here rest h ih =
        ap (λ c. cond c (Some 0) (option_map suc (place_of (with_record xs r) t))) here ∙ ap (option_map suc) (ih j rest) ∙ h

is-place-stays : (s : List RecordView) (r : RecordView) (t : TestId) (o : Option ℕ) → IsPlace s t o → IsPlace (with_record s r) t o
is-place-stays s r t None h = tt
is-place-stays s r t (Some i) h = place-stays s r t i h

places-stay : (s : List RecordView) (r : RecordView) (ts : List TestId) (ps : List (Option ℕ)) → ArePlaces s ts ps → ArePlaces (with_record s r) ts ps
places-stay s r [] ps h = tt
places-stay s r (t ∷ ts) [] h = absurd h
places-stay s r (t ∷ ts) (p ∷ ps) h = (is-place-stays s r t p h.0, places-stay s r ts ps h.1)

-- and as the records of some tests are
pub places-settled : (w : WorldView) (s : List RecordView) (us ts : List TestId) (ps : List (Option ℕ)) → ArePlaces s ts ps → ArePlaces (shelf_with w s us) ts ps
unfolding shelf_with
places-settled w s [] ts ps h = h
places-settled w s (u ∷ us) ts ps h = places-settled w (with_record s (record_in w u)) us ts ps (places-stay s (record_in w u) ts ps h)

-- an entry that adds none leaves the keys
insert-keys : {K X : Type 0} (cmp : K → K → Ordering) (es : List (K × X)) (k : K) (v : X) → length (insert_entry cmp es k v) ≡ length es → keys_of (insert_entry cmp es k v) ≡ keys_of es
insert-keys cmp [] k v h = absurd (omega (arith, h))
insert-keys {K} {X} cmp (e ∷ es) k v h = step (cmp k e.0) h (insert-keys cmp es k v)
  where
    step : (o : Ordering) → length (match_ordering o ((k, v) ∷ e ∷ es) ((e.0, v) ∷ es) (e ∷ insert_entry cmp es k v)) ≡ length (e ∷ es)
        → (length (insert_entry cmp es k v) ≡ length es → keys_of (insert_entry cmp es k v) ≡ keys_of es)
        → keys_of (match_ordering o ((k, v) ∷ e ∷ es) ((e.0, v) ∷ es) (e ∷ insert_entry cmp es k v)) ≡ keys_of (e ∷ es)
    step Less g ih = absurd (omega (arith, g))
    step Equal g ih = refl
    step Greater g ih = ap (λ l. e.0 ∷ l) (ih (omega (arith, g)))

-- the same names and the same selection select the same tests
same-selected : (w v : WorldView) → keys_of v.files ≡ keys_of w.files → v.selection ≡ w.selection → selected v ≡ selected w
unfolding selected scripts
same-selected w v k s = λ i. flat_map (tests_on (filter (is_selected (s i)) (k i))) (s i).boards

-- what is well is the same
same_world : (a b : WorldView) (r : Result WorldView Refusal) → r ≡ Ok a → r ≡ Ok b → a ≡ b
same_world a b r g h = cc

same_kept : (a b : KeptView) (r : Result KeptView Refusal) → r ≡ Ok a → r ≡ Ok b → a ≡ b
same_kept a b r g h = cc

-- two worlds with the same names and the same selection
abbrev SameNames : WorldView → WorldView → Type 0
SameNames w v = (keys_of v.files ≡ keys_of w.files) × (v.selection ≡ w.selection)

recorded-names : (w v : WorldView) (t : TestView) (r : Result (List (List Entry)) Refusal) → for_sessions r (with_transcript w t) ≡ Ok v → SameNames w v
recorded-names w v t (Ok ss) h = let same = same_world (with_transcript w t ss) v (Ok (with_transcript w t ss)) refl h in (ap (λ (x : WorldView). keys_of x.files) (sym same), ap (λ (x : WorldView). x.selection) (sym same))
recorded-names w v t (Err refusal) h = cc

edited-names : (w v : WorldView) (e : Edit) → edited w e ≡ Ok v → adds_at_most e ≡ true → length v.files ≡ length w.files → SameNames w v
edited-names w v (PutFile name bytes) h a l =
    let same = same_world (with_file w name bytes) v (Ok (with_file w name bytes)) refl (
    made (not (is_some (content_of w name)) && nat_le 4096 (length w.files)) TooMany _ v
    (made (not (nat_le (length bytes) 1048576)) TooLong _ v (made (not (is_name name)) BadName _ v h))) in (
      subst (λ (x : WorldView). length x.files ≡ length w.files → keys_of x.files ≡ keys_of w.files) same (insert-keys (slice_cmp nat_cmp) w.files name bytes) l,
      ap (λ (x : WorldView). x.selection) (sym same),
    )
edited-names w v (RemoveFile name) h a l = cc
edited-names w v (Select selection) h a l = cc
edited-names w v (PutTranscript board script text) h a l =
    let t : TestView = record { board = board; script = script } in
    recorded-names w v t (transcript_in text) (made (lacks_room w t) TooMany _ v (named_test board script _ v h))
edited-names w v (DropTranscript board script) h a l =
    let t : TestView = record { board = board; script = script } in
    let same = same_world (without_transcript w t) v (Ok (without_transcript w t)) refl (made_where (is_some (transcript_of w t)) NoSuchTranscript _ v (named_test board script _ v h)) in
    (ap (λ (x : WorldView). keys_of x.files) (sym same), ap (λ (x : WorldView). x.selection) (sym same))

-- the world of an edit that is made
edit-made : (k n : KeptView) (e : Edit) → edited_kept k e ≡ Ok n → edited k.world e ≡ Ok n.world
edit-made k n e h = step (edited k.world e) h
  where
    step : (r : Result WorldView Refusal) → changed k (touched e) r ≡ Ok n → r ≡ Ok n.world
    step (Ok w) h = ap Ok (ap (λ (x : KeptView). x.world) (same_kept (record k { world = w; compared = counted k.compared (reads_of (touched e) k.shelf) }) n (Ok _) refl h))
    step (Err refusal) h = cc

-- an edit that leaves the names and the selection leaves the tests and the records
pub edit-leaves : (k n : KeptView) (e : Edit) → edited_kept k e ≡ Ok n → adds_at_most e ≡ true → length n.world.files ≡ length k.world.files
    → (selected n.world ≡ selected k.world) × (n.shelf ≡ k.shelf)
edit-leaves k n e h a l = step (edited k.world e) refl h
  where
    step : (r : Result WorldView Refusal) → edited k.world e ≡ r → changed k (touched e) r ≡ Ok n → (selected n.world ≡ selected k.world) × (n.shelf ≡ k.shelf)
    step (Ok w) g h =
        let new : KeptView = record k { world = w; compared = counted k.compared (reads_of (touched e) k.shelf) } in
        let same = same_kept new n (Ok new) refl h in
        let world : w ≡ n.world = ap (λ (x : KeptView). x.world) same in
        let names = edited-names k.world n.world e (g ∙ ap Ok world) a l in
        (same-selected k.world n.world names.0 names.1, sym (ap (λ (x : KeptView). x.shelf) same))
    step (Err refusal) g h = cc

-- and so a lineup that was opened at what it touches
pub lineup-stays : (k n : KeptView) (e : Edit) (o : Option Lineup) → edited_kept k e ≡ Ok n → adds_at_most e ≡ true → length n.world.files ≡ length k.world.files
    → IfSome o (IsOpenTo e k.world k.shelf) → IfSome o (IsCurrent n.world n.shelf)
lineup-stays k n e None h a l i = tt
lineup-stays k n e (Some x) h a l i =
    let same = edit-leaves k n e h a l in
    let lineup = i.before.lineup in
    record {
      lineup = record { tests = lineup.tests ∙ sym same.0; places = subst (λ s. ArePlaces s x.tests x.places) (sym same.1) lineup.places; lead = lineup.lead };
      held = subst (λ s. IfSome x.openings (HoldsElsewhere n.world s x.tests)) (sym same.1) (i.after n.world (edit-made k n e h));
    }

-- a lineup of a core is one of the core that is settled, in a world that has grown
pub lineup-settled : (c : CoreView) (w : WorldView) (m i : ℕ) (l : Lineup) → selected w ≡ selected c.world → IsLineup c.world c.shelf l → IsLineup w (settled_up_to i i w m c).shelf l
unfolding settled_up_to
lineup-settled c w m i l same h = record { tests = h.tests ∙ sym same; places = places-settled w c.shelf (take i (pending c)) l.tests l.places h.places; lead = h.lead }

-- where all tests were looked at, those that are not held are the pending ones
pub pending-is : (c : CoreView) (ts us : List TestId) (i : ℕ) (l : List TestId) → l ≡ filter (λ t. not (is_held c.world c.shelf t)) (take i ts) → length ts ≤ i → ts ≡ us → us ≡ selected c.world
    → l ≡ pending c
unfolding pending
pending-is c ts us i l h long same are = h ∙ ap (filter (λ t. not (is_held c.world c.shelf t))) (take_all i ts long ∙ same ∙ are)

-- those at the open positions are all of them
pub pending-open : (c : CoreView) (o : Openings) (ts us l : List TestId) → IsStrictlySortedBy nat_cmp o.opened.keys → HoldsElsewhere c.world c.shelf ts o
    → l ≡ picked (λ t. not (is_held c.world c.shelf t)) us o.opened.keys → us ≡ ts → ts ≡ selected c.world → l ≡ pending c
unfolding pending
pending-open c o ts us l sorted held h same are =
    let unheld : TestId → Bool = λ t. not (is_held c.world c.shelf t) in
    h ∙ ap (λ x. picked unheld x o.opened.keys) same ∙ sym (picked-all unheld ts o.opened.keys sorted (λ at t here out. ap not (held at t here out))) ∙ ap (filter unheld) are

-- where nothing is pending, a lineup with no position open is current
pub closed-current : (c : CoreView) (l n : Lineup) → pending c ≡ [] → IsLineup c.world c.shelf l → IsClosedOf l n → IsCurrent c.world c.shelf n
closed-current c l n none lineup closed = record {
  lineup = record {
    tests = closed.tests ∙ lineup.tests;
    places = subst (λ ts. ArePlaces c.shelf ts n.places) (sym closed.tests) (subst (ArePlaces c.shelf l.tests) (sym closed.places_stay) lineup.places);
    lead = closed.lead;
  };
  held = step n.openings;
}
  where
    step : (o : Option Openings) → IfSome o (HoldsElsewhere c.world c.shelf n.tests)
    step None = tt
    step (Some o) =
        λ at t here shut.
        let stands : slice_get (selected c.world) at ≡ Some t = ap (λ ts. slice_get ts at) (sym (closed.tests ∙ lineup.tests)) ∙ here in
        selected-held c at t none (slice_get_within (selected c.world) at t stands) (sym (get_or_from_slice_get (selected c.world) at t t stands))

pub closed-currents : (c old : CoreView) (l : Lineup) (o : Option Lineup) → c ≡ old → pending old ≡ [] → IsLineup old.world old.shelf l → IfSome o (IsClosedOf l) → IfSome o (IsCurrent c.world c.shelf)
closed-currents c old l None same none lineup closed = tt
closed-currents c old l (Some n) same none lineup closed = subst (λ (x : CoreView). IsCurrent x.world x.shelf n) (sym same) (closed-current old l n none lineup closed)
