-- What edits keep.
use Rattle.std.proofs.Common.{◌≡◌, inl, inr, ℕ, ◌<◌, ◌≤◌, Bool, true, false, ◌&&◌, List, [], ◌∷◌, ◌++◌, get_or, append-nil, length, cond, refl, ap, sym, ◌∙◌, subst, take, take_all, arith, nat_le}
use Rattle.std.specs.declared.cmp.Ordering.{Ordering}
use Rattle.std.specs.declared.cmp.Ordering.TheVariants.{Less, Equal, Greater}
use Rattle.std.specs.Ordering.{nat_cmp, match_ordering}
use Rattle.std.specs.List.{list_all, filter, flat_map}
use Rattle.std.specs.Cmp.Lexicographic.{slice_cmp}
use Rattle.std.specs.BTreeMap.{insert_entry}
use Rattle.std.specs.Map.{remove_entry, keys_of}
use Rattle.std.proofs.lemmas.Bool.{and_parts, and_from, leb-true, leb-false, le-leb, false≢true}
use Rattle.std.proofs.lemmas.List.Folds.{list_all_at}
use Rattle.dg_world.specs.Name.{is_name, is_single_part}
use Rattle.dg_world.specs.Selection.{is_selection, first_selection, is_selected, are_boards, are_names, are_settings, are_distinct}
use Rattle.dg_world.specs.declared.selection.Selection.{Selection}
use Rattle.std.specs.Prelude.{not, is_some, ◌⊎◌}
use Rattle.dg_world.specs.World.{transcript_of, lacks_room, WorldView, is_world, is_file, scripts, selected}
use Rattle.dg_world.specs.Tests.{tests_on}
use Rattle.dg_world.specs.declared.test_id.TestId.{TestId}
use Rattle.dg_transcript.specs.declared.entry.Entry.{Entry as EntryOfSession}
use Rattle.dg_match.specs.declared.reading.Reading.{Reading}

abbrev pub Entry : Type 0
Entry = List ℕ × List ℕ

abbrev pub Transcripts : Type 0
Transcripts = List (TestId × List (List EntryOfSession))

abbrev pub Book : Type 0
Book = List (List ℕ × Reading)

-- each file is one after a file was put
put_all : (cmp : List ℕ → List ℕ → Ordering) (k v : List ℕ) → is_file (k, v) ≡ true → (es : List Entry) → list_all is_file es ≡ true → list_all is_file (insert_entry cmp es k v) ≡ true
put_all cmp k v h [] all = and_from (is_file (k, v)) true h refl
put_all cmp k v h (e ∷ es) all =
    let parts = and_parts (is_file e) (list_all is_file es) all in
    let name = and_parts (is_name e.0) (nat_le (length e.1) 1048576) parts.0 in
    let new = and_parts (is_name k) (nat_le (length v) 1048576) h in
    elim (cmp k e.0) as (λ o. list_all is_file (match_ordering o ((k, v) ∷ e ∷ es) ((e.0, v) ∷ es) (e ∷ insert_entry cmp es k v)) ≡ true) [
      | Less ↦ and_from _ _ h all
      | Equal ↦ and_from (is_file (e.0, v)) (list_all is_file es) (and_from (is_name e.0) (nat_le (length v) 1048576) name.0 new.1) parts.1
      | Greater ↦ and_from (is_file e) _ parts.0 (put_all cmp k v h es parts.1)
    ]

-- each file is one after a file was removed
removed_all : (test : List ℕ → Bool) (es : List Entry) → list_all is_file es ≡ true → list_all is_file (remove_entry test es) ≡ true
removed_all test [] all = all
removed_all test (e ∷ es) all =
    let parts = and_parts (is_file e) (list_all is_file es) all in
    elim (test e.0) as (λ b. list_all is_file (cond b es (e ∷ remove_entry test es)) ≡ true) [
      | true ↦ parts.1
      | false ↦ and_from (is_file e) _ parts.0 (removed_all test es parts.1)
    ]

-- and there are no more
pub length-remove_entry : {K V : Type 0} (test : K → Bool) (es : List (K × V)) → length (remove_entry test es) ≤ length es
length-remove_entry test [] = omega arith
length-remove_entry test (e ∷ es) =
    elim (test e.0) as (λ b. length (cond b es (e ∷ remove_entry test es)) ≤ length (e ∷ es)) [
      | true ↦ omega arith
      | false ↦ omega (arith, length-remove_entry test es)
    ]

-- a new world is within the limits
pub new_is_world : (fs : List Entry) (s : Selection) (ts : Transcripts) (book : Book) → fs ≡ [] → s ≡ first_selection → ts ≡ []
    → is_world (record { files = fs; selection = s; transcripts = ts; book = book }) ≡ true
unfolding is_world is_selection is_single_part is_name
new_is_world fs s ts book none first no_tests = rw (none, first, no_tests) refl

-- the parts of the limits
pub record Within (w : WorldView) : Type 0 where
  pub few_files : length w.files ≤ 4096
  pub are_files : list_all is_file w.files ≡ true
  pub selection : is_selection w.selection ≡ true
  pub few_transcripts : length w.transcripts ≤ 65536

pub within : (w : WorldView) → is_world w ≡ true → Within w
unfolding is_world
within w h =
    let all = and_parts (nat_le (length w.files) 4096 && list_all is_file w.files && is_selection w.selection) (nat_le (length w.transcripts) 65536) h in
    let both = and_parts (nat_le (length w.files) 4096 && list_all is_file w.files) (is_selection w.selection) all.0 in
    let parts = and_parts (nat_le (length w.files) 4096) (list_all is_file w.files) both.0 in
    record {
      few_files = leb-true (length w.files) 4096 parts.0;
      are_files = parts.1;
      selection = both.1;
      few_transcripts = leb-true (length w.transcripts) 65536 all.1;
    }

pub from_within : (w : WorldView) → Within w → is_world w ≡ true
unfolding is_world
from_within w p =
    let files = and_from (nat_le (length w.files) 4096) (list_all is_file w.files) (le-leb (length w.files) 4096 p.few_files) p.are_files in
    let run = and_from (nat_le (length w.files) 4096 && list_all is_file w.files) (is_selection w.selection) files p.selection in
    and_from (nat_le (length w.files) 4096 && list_all is_file w.files && is_selection w.selection) (nat_le (length w.transcripts) 65536) run
    (le-leb (length w.transcripts) 65536 p.few_transcripts)

-- a world with another list of files, each of which is one
is_world_with : (w : WorldView) (fs : List Entry) → is_world w ≡ true → length fs ≤ 4096 → list_all is_file fs ≡ true → is_world (record w { files = fs }) ≡ true
is_world_with w fs h few all =
    let p = within w h in
    from_within (record w { files = fs }) (record { few_files = few; are_files = all; selection = p.selection; few_transcripts = p.few_transcripts })

-- a put keeps the limits
pub put_is_world : (w : WorldView) (k v : List ℕ) (fs : List Entry) → is_world w ≡ true → is_name k ≡ true → length v ≤ 1048576 → fs ≡ insert_entry (slice_cmp nat_cmp) w.files k v → length fs ≤ 4096 → is_world (record w { files = fs }) ≡ true
put_is_world w k v fs h name short is few =
    let one : is_file (k, v) ≡ true = and_from (is_name k) (nat_le (length v) 1048576) name (le-leb (length v) 1048576 short) in
    is_world_with w fs h few (ap (list_all is_file) is ∙ put_all (slice_cmp nat_cmp) k v one w.files (within w h).are_files)

-- a removal keeps the limits
pub removed_is_world : (w : WorldView) (test : List ℕ → Bool) (fs : List Entry) → is_world w ≡ true → fs ≡ remove_entry test w.files → is_world (record w { files = fs }) ≡ true
removed_is_world w test fs h is =
    let few : length fs ≤ 4096 = omega (arith, ap length is, length-remove_entry test w.files, (within w h).few_files) in
    is_world_with w fs h few (ap (list_all is_file) is ∙ removed_all test w.files (within w h).are_files)

-- other transcripts keep the limits, where there are few
pub transcripts_are_world : (w : WorldView) (ts : Transcripts) → is_world w ≡ true → length ts ≤ 65536 → is_world (record w { transcripts = ts }) ≡ true
transcripts_are_world w ts h few =
    let p = within w h in
    from_within (record w { transcripts = ts }) (record { few_files = p.few_files; are_files = p.are_files; selection = p.selection; few_transcripts = few })

-- where there is room for a transcript, its test has one or there are fewer than the most
pub room_for : (w : WorldView) (t : TestId) → lacks_room w t ≡ false → (is_some (transcript_of w t) ≡ true) ⊎ (length w.transcripts < 65536)
room_for w t h = step (is_some (transcript_of w t)) refl h
  where
    step : (b : Bool) → is_some (transcript_of w t) ≡ b → (not b && nat_le 65536 (length w.transcripts)) ≡ false → (is_some (transcript_of w t) ≡ true) ⊎ (length w.transcripts < 65536)
    step true e g = inl e
    step false e g = inr (omega (arith, leb-false 65536 (length w.transcripts) g))

-- a removal keeps the limits
pub dropped_is_world : (w : WorldView) (test : TestId → Bool) (ts : Transcripts) → is_world w ≡ true → ts ≡ remove_entry test w.transcripts → is_world (record w { transcripts = ts }) ≡ true
dropped_is_world w test ts h is =
    let few : length ts ≤ 65536 = omega (arith, ap length is, length-remove_entry test w.transcripts, (within w h).few_transcripts) in
    transcripts_are_world w ts h few

-- and so does any book
pub book_is_world : (w : WorldView) (book : Book) → is_world w ≡ true → is_world (record w { book = book }) ≡ true
book_is_world w book h =
    let p = within w h in
    from_within (record w { book = book }) (record { few_files = p.few_files; are_files = p.are_files; selection = p.selection; few_transcripts = p.few_transcripts })

-- where no name is left, the names are all scripts
pub all_scripts : (w v : WorldView) → w ≡ v → (names left : List (List ℕ)) → names ++ filter (is_selected w.selection) left ≡ filter (is_selected w.selection) (keys_of w.files) → left ≡ [] → names ≡ scripts v
unfolding scripts
all_scripts w v same names left all none =
    sym (append-nil names) ∙ ap (λ l. names ++ filter (is_selected w.selection) l) (sym none) ∙ all ∙ ap scripts same

-- a world with another selection that is valid
pub selected_is_world : (w : WorldView) (s : Selection) → is_world w ≡ true → is_selection s ≡ true → is_world (record w { selection = s }) ≡ true
selected_is_world w s h valid =
    let p = within w h in
    from_within (record w { selection = s }) (record { few_files = p.few_files; are_files = p.are_files; selection = valid; few_transcripts = p.few_transcripts })

-- each board of a world is one
board_at : (w : WorldView) → is_world w ≡ true → (i : ℕ) (d : List ℕ) → i < length w.selection.boards → is_single_part (get_or w.selection.boards i d) ≡ true
unfolding is_selection
board_at w h i d lt =
    let s = w.selection in
    let valid = (within w h).selection in
    let four = and_parts (is_single_part s.tool && are_boards s.boards && are_names s.only && are_names s.ignore) (are_settings s.variables) valid in
    let three = and_parts (is_single_part s.tool && are_boards s.boards && are_names s.only) (are_names s.ignore) four.0 in
    let two = and_parts (is_single_part s.tool && are_boards s.boards) (are_names s.only) three.0 in
    let boards = and_parts (is_single_part s.tool) (are_boards s.boards) two.0 in
    let parts = and_parts (nat_le 1 (length s.boards) && nat_le (length s.boards) 16 && list_all is_single_part s.boards) (are_distinct s.boards) boards.1 in
    let each = (and_parts (nat_le 1 (length s.boards) && nat_le (length s.boards) 16) (list_all is_single_part s.boards) parts.0).1 in
    elim (is_single_part (get_or s.boards i d)) as (λ b. is_single_part (get_or s.boards i d) ≡ b → b ≡ true) [
      | true ↦ λ _. refl
      | false ↦ λ no. absurd (false≢true (sym (list_all_at is_single_part s.boards i d lt no) ∙ each))
    ] refl

pub board_of_items : (w : WorldView) → is_world w ≡ true → (items : List (List ℕ)) → items ≡ w.selection.boards → (i : ℕ) (x : List ℕ) → i < length items → x ≡ get_or items i x → is_single_part x ≡ true
board_of_items w h items same i x lt is =
    let P : List (List ℕ) → Type 0 = λ l. (x ≡ get_or l i x) × (i < length l) in
    let here : P w.selection.boards = subst P same (is, lt) in
    ap is_single_part here.0 ∙ board_at w h i x here.1

-- where no board is left, the tests are all
pub all_tests : (v : WorldView) (tests : List TestId) (names items : List (List ℕ)) (i : ℕ) → items ≡ v.selection.boards → names ≡ scripts v → tests ≡ flat_map (tests_on names) (take i v.selection.boards) → length items ≤ i → tests ≡ selected v
unfolding selected
all_tests v tests names items i same are so_far past =
    let past' : length v.selection.boards ≤ i = omega (arith, ap length same) in
    so_far ∙ ap (flat_map (tests_on names)) (take_all i v.selection.boards past') ∙ ap (λ n. flat_map (tests_on n) v.selection.boards) are
