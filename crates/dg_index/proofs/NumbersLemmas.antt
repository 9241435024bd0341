-- What is known by numbers, and stays known.
use Rattle.std.proofs.Common.{◌≡◌, ◌∙◌, ◌≤◌, ◌<◌, ◌+◌, ◌++◌, ℕ, zero, suc, Bool, true, false, cond, List, [], ◌∷◌, length, take, get_or, refl, ap, sym, subst, arith}
use Rattle.std.specs.Prelude.{◌-◌, ◌&&◌, Option, Some, None, Ok, not, slice_get, option_and_then, if◌then◌else◌, is_some, nat_le}
use Rattle.std.specs.Cmp.Lexicographic.{bytes_decides, slice_cmp, texts_ties}
use Rattle.std.specs.declared.cmp.Ordering.{Ordering}
use Rattle.std.specs.declared.cmp.Ordering.TheVariants.{Less, Equal, Greater}
use Rattle.std.specs.Ordering.{nat_cmp, is_eq, match_ordering}
use Rattle.std.specs.BTreeMap.{insert_entry, is_at}
use Rattle.std.specs.Map.{lookup, values_of}
use Rattle.std.proofs.lemmas.List.{map_push, take_more}
use Rattle.indexmap.specs.IndexMap.{insert_entry as insert_record}
use Rattle.dg_contents.specs.Contents.{ContentsView, number_of, holders_of, one_at, IsNumbering, KeepsHeldNumbers, KeepsNumbers}
use Rattle.dg_contents.proofs.ContentsLemmas.{held-numbered}
use Rattle.dg_world.specs.Test.{same_test}
use Rattle.dg_world.specs.World.{WorldView, look, edited, with_file, content_of, answer_of}
use Rattle.dg_world.specs.Name.{is_name}
use Rattle.dg_world.specs.declared.edit.Edit.TheVariants.{PutFile}
use Rattle.dg_world.specs.declared.question.Answer.TheVariants.{Content}
use Rattle.dg_world.specs.declared.question.Question.{Question}
use Rattle.dg_world.specs.declared.question.Question.TheVariants.{File, Tool, Triplet, Variable, Entry, Pattern}
use Rattle.dg_world.specs.declared.question.Read.{Read}
use Rattle.dg_world.specs.declared.refusal.Refusal.TheVariants.{BadName, TooLong, TooMany}
use Rattle.dg_world.specs.declared.test_id.TestId.{TestId}
use Rattle.dg_index.specs.Marks.{MarkedView, looked, all_looked}
use Rattle.dg_index.specs.Numbers.{content_read, given_once, given_at, given_by, given_in, number_in, numbers_in, AllHaveNumbers, AllNumbered, HasNumber, HoldsMore, IsNumbered, Tells, TellsOn}
use Rattle.dg_index.specs.Topic.{is_on}
use Rattle.dg_index.specs.declared.numbers.Now.{Now}
use Rattle.dg_index.specs.declared.numbers.Now.TheVariants.{Numbered}
use Rattle.dg_index.specs.declared.topic.Topic.{Topic}
use Rattle.dg_index.specs.declared.topic.Topic.TheVariants as topic
use Rattle.dg_index.proofs.TopicLemmas.{made}
use Rattle.dg_index.proofs.LookingLemmas.{looked_where}

abbrev Entries : Type 0
Entries = List (TestId × MarkedView)

one_at-itself : (text : List ℕ) → one_at text text ≡ 1
one_at-itself text = ap (λ b. if b then 1 else 0) ((bytes_decides text text).1 refl)

has-number : (c : ContentsView) (o : Option (List ℕ)) → ((t : List ℕ) → given_once t o ≤ holders_of c t) → HasNumber c o
has-number c None h = tt
has-number c (Some text) h = held-numbered c text (omega (arith, h text, one_at-itself text))

-- so have those of all reads whose contents are held
pub all-have : (c : ContentsView) (rs : List Read) → ((t : List ℕ) → given_by t rs ≤ holders_of c t) → AllHaveNumbers c rs
all-have c [] h = tt
all-have c (r ∷ rs) h =
    (has-number c (content_read r) (λ t. omega (arith, h t)), all-have c rs (λ t. omega (arith, h t)))

pub has-at : (c : ContentsView) (rs : List Read) (i : ℕ) (r : Read) → AllHaveNumbers c rs → i < length rs → r ≡ get_or rs i r → HasNumber c (content_read r)
has-at c [] i r h lt is = absurd (omega (arith, lt))
has-at c (x ∷ rs) zero r h lt is = subst (λ (y : Read). HasNumber c (content_read y)) (sym is) h.0
has-at c (x ∷ rs) (suc i) r h lt is = has-at c rs i r h.1 (omega (arith, lt)) is

-- numbers that are kept
option-stays : (c d : ContentsView) (o : Option (List ℕ)) → KeepsNumbers c d → HasNumber c o → option_and_then (number_of d) o ≡ option_and_then (number_of c) o
option-stays c d None keeps h = refl
option-stays c d (Some text) keeps (n, is) = keeps text n is ∙ sym is

pub numbers-stay : (c d : ContentsView) (rs : List Read) → KeepsNumbers c d → AllHaveNumbers c rs → numbers_in d rs ≡ numbers_in c rs
numbers-stay c d [] keeps h = refl
numbers-stay c d (r ∷ rs) keeps h = λ i. option-stays c d (content_read r) keeps h.0 i ∷ numbers-stay c d rs keeps h.1 i

-- where the reads' contents are still held
keeps-held : (c d : ContentsView) (o : Option (List ℕ)) → KeepsHeldNumbers c d → ((t : List ℕ) → given_once t o ≤ holders_of d t) → HasNumber c o
    → option_and_then (number_of d) o ≡ option_and_then (number_of c) o
keeps-held c d None keeps held h = refl
keeps-held c d (Some text) keeps held (n, is) = keeps text n is (omega (arith, held text, one_at-itself text)) ∙ sym is

pub numbers-kept : (c d : ContentsView) (rs : List Read) → KeepsHeldNumbers c d → ((t : List ℕ) → given_by t rs ≤ holders_of d t) → AllHaveNumbers c rs → numbers_in d rs ≡ numbers_in c rs
numbers-kept c d [] keeps held h = refl
numbers-kept c d (r ∷ rs) keeps held h =
    λ i. keeps-held c d (content_read r) keeps (λ t. omega (arith, held t)) h.0 i ∷ numbers-kept c d rs keeps (λ t. omega (arith, held t)) h.1 i

-- one read more
given-push : (text : List ℕ) (rs : List Read) (r : Read) → given_by text (rs ++ r ∷ []) ≡ given_by text rs + given_once text (content_read r)
given-push text [] r = omega arith
given-push text (x ∷ rs) r = omega (arith, given-push text rs r)

pub given-more : (text : List ℕ) (rs : List Read) (i : ℕ) (r : Read) → i < length rs → r ≡ get_or rs i r → given_by text (take (i + 1) rs) ≡ given_by text (take i rs) + given_once text (content_read r)
given-more text rs i r lt is =
    ap (given_by text) (take_more rs i r lt ∙ ap (λ x. take i rs ++ x ∷ []) (sym is)) ∙ given-push text (take i rs) r

pub numbers-more : (c : ContentsView) (rs : List Read) (i : ℕ) (r : Read) → i < length rs → r ≡ get_or rs i r → numbers_in c (take (i + 1) rs) ≡ numbers_in c (take i rs) ++ number_in c r ∷ []
numbers-more c rs i r lt is =
    ap (numbers_in c) (take_more rs i r lt ∙ ap (λ x. take i rs ++ x ∷ []) (sym is)) ∙ map_push (number_in c) (take i rs) r

-- the records that are kept
module _ (c d : ContentsView) where
  numbered-stay : (es : Entries) → KeepsNumbers c d → ((t : List ℕ) → given_in t es ≤ holders_of c t) → AllNumbered c es → AllNumbered d es
  numbered-stay [] keeps held h = tt
  numbered-stay (e ∷ es) keeps held h = (
    h.0 ∙ sym (numbers-stay c d e.1.record_of.reads keeps (all-have c e.1.record_of.reads (λ t. omega (arith, held t)))),
    numbered-stay es keeps (λ t. omega (arith, held t)) h.1,
  )

  numbered-kept : (es : Entries) → KeepsHeldNumbers c d → ((t : List ℕ) → given_in t es ≤ holders_of c t) → ((t : List ℕ) → given_in t es ≤ holders_of d t)
      → AllNumbered c es → AllNumbered d es
  numbered-kept [] keeps held left h = tt
  numbered-kept (e ∷ es) keeps held left h = (
    h.0 ∙ sym (numbers-kept c d e.1.record_of.reads keeps (λ t. omega (arith, left t)) (all-have c e.1.record_of.reads (λ t. omega (arith, held t)))),
    numbered-kept es keeps (λ t. omega (arith, held t)) (λ t. omega (arith, left t)) h.1,
  )

  -- more is held
  pub is_numbered-more : (es : Entries) → KeepsNumbers c d → ((t : List ℕ) → holders_of c t ≤ holders_of d t) → IsNumbered c es → IsNumbered d es
  is_numbered-more es keeps more k = record {
    numbered = numbered-stay es keeps k.held k.numbered;
    held = λ t. omega (arith, k.held t, more t);
  }

  -- of some reads besides
  pub more-held : (es : Entries) (rs qs : List Read) → rs ≡ qs → ((t : List ℕ) → holders_of c t + given_by t rs ≤ holders_of d t) → IsNumbered c es → HoldsMore d es qs
  more-held es rs qs same more k t = omega (arith, k.held t, more t, ap (given_by t) same)

  -- what was held besides is let go
  pub is_numbered-fewer : (es : Entries) (rs : List Read) → KeepsHeldNumbers c d → HoldsMore c es rs → ((t : List ℕ) → holders_of d t ≡ holders_of c t - given_by t rs)
      → AllNumbered c es → IsNumbered d es
  is_numbered-fewer es rs keeps more fewer h = record {
    numbered = numbered-kept es keeps (λ t. omega (arith, more t)) (λ t. omega (arith, more t, fewer t)) h;
    held = λ t. omega (arith, more t, fewer t);
  }

-- looking again leaves the numbers
looked-given : (w : WorldView) (t : Topic) (text : List ℕ) (es : Entries) → given_in text (all_looked w t es) ≡ given_in text es
looked-given w t text [] = refl
looked-given w t text (e ∷ es) = ap (λ n. given_by text e.1.record_of.reads + n) (looked-given w t text es)

looked-numbered : (w : WorldView) (t : Topic) (c : ContentsView) (es : Entries) → AllNumbered c es → AllNumbered c (all_looked w t es)
looked-numbered w t c [] h = tt
looked-numbered w t c (e ∷ es) h = (h.0, looked-numbered w t c es h.1)

pub is_numbered-looked : (w : WorldView) (t : Topic) (c : ContentsView) (es fs : Entries) → fs ≡ all_looked w t es → IsNumbered c es → IsNumbered c fs
is_numbered-looked w t c es fs is k =
    subst (IsNumbered c) (sym is) (record {
      numbered = looked-numbered w t c es k.numbered;
      held = λ text. omega (arith, looked-given w t text es, k.held text);
    })

pub holds_more-looked : (w : WorldView) (t : Topic) (c : ContentsView) (es fs : Entries) (rs : List Read) → fs ≡ all_looked w t es → HoldsMore c es rs → HoldsMore c fs rs
holds_more-looked w t c es fs rs is more text = omega (arith, looked-given w t text es, ap (given_in text) is, more text)

-- a record among those some of which were looked at again
abbrev pub KnowsNumbers : ContentsView → MarkedView → Type 0
KnowsNumbers c m = (m.numbers ≡ numbers_in c m.record_of.reads) × AllHaveNumbers c m.record_of.reads

knows-where : (w : WorldView) (t : Topic) (c : ContentsView) (es : Entries) (f : ℕ → Bool) (p : ℕ) (m : MarkedView) → AllNumbered c es → ((text : List ℕ) → given_in text es ≤ holders_of c text)
    → Some m ≡ slice_get (values_of (looked_where w t f es)) p → KnowsNumbers c m
knows-where w t c [] f p m h held is = cc
knows-where w t c (e ∷ es) f zero m h held is = step (f zero) is
  where
    have : AllHaveNumbers c e.1.record_of.reads
    have = all-have c e.1.record_of.reads (λ text. omega (arith, held text))

    step : (b : Bool) → Some m ≡ Some (cond b (looked w t e.1) e.1) → KnowsNumbers c m
    step true same = let it : m ≡ looked w t e.1 = cc in subst (KnowsNumbers c) (sym it) (h.0, have)
    step false same = let it : m ≡ e.1 = cc in subst (KnowsNumbers c) (sym it) (h.0, have)
knows-where w t c (e ∷ es) f (suc p) m h held is = knows-where w t c es (λ k. f (suc k)) p m h.1 (λ text. omega (arith, held text)) is

pub knows-numbers : (w : WorldView) (t : Topic) (c : ContentsView) (es : Entries) (f : ℕ → Bool) (p : ℕ) (m : MarkedView) → IsNumbered c es
    → Some m ≡ slice_get (values_of (looked_where w t f es)) p → KnowsNumbers c m
knows-numbers w t c es f p m k is = knows-where w t c es f p m k.numbered k.held is

-- a record that is placed, and the one that its test had
given-inserted : (text : List ℕ) (es : Entries) (k : TestId) (m : MarkedView)
    → given_in text (insert_record same_test es k m) + given_at text (lookup (same_test k) es) ≡ given_in text es + given_by text m.record_of.reads
given-inserted text [] k m = omega arith
given-inserted text (e ∷ es) k m = step (same_test k e.0) (given-inserted text es k m)
  where
    step : (b : Bool) → given_in text (insert_record same_test es k m) + given_at text (lookup (same_test k) es) ≡ given_in text es + given_by text m.record_of.reads
        → given_in text (cond b ((e.0, m) ∷ es) (e ∷ insert_record same_test es k m)) + given_at text (cond b (Some e.1) (lookup (same_test k) es))
        ≡ given_in text (e ∷ es) + given_by text m.record_of.reads
    step true ih = omega arith
    step false ih = omega (arith, ih)

numbered-inserted : (c : ContentsView) (es : Entries) (k : TestId) (m : MarkedView) → m.numbers ≡ numbers_in c m.record_of.reads → AllNumbered c es → AllNumbered c (insert_record same_test es k m)
numbered-inserted c [] k m here h = (here, tt)
numbered-inserted c (e ∷ es) k m here h = step (same_test k e.0) (numbered-inserted c es k m here h.1)
  where
    step : (b : Bool) → AllNumbered c (insert_record same_test es k m) → AllNumbered c (cond b ((e.0, m) ∷ es) (e ∷ insert_record same_test es k m))
    step true ih = (here, h.1)
    step false ih = (h.0, ih)

pub is_numbered-placed : (c d : ContentsView) (es fs : Entries) (k : TestId) (m : MarkedView) → fs ≡ insert_record same_test es k m → m.numbers ≡ numbers_in c m.record_of.reads
    → HoldsMore c es m.record_of.reads → IsNumbered c es → KeepsHeldNumbers c d
    → ((text : List ℕ) → holders_of d text ≡ holders_of c text - given_at text (lookup (same_test k) es)) → IsNumbered d fs
is_numbered-placed c d es fs k m is numbers more h keeps fewer =
    subst (IsNumbered d) (sym is) (record {
      numbered = numbered-kept c d (insert_record same_test es k m) keeps (λ t. omega (arith, given-inserted t es k m, more t)) left (numbered-inserted c es k m numbers h.numbered);
      held = left;
    })
  where
    left : (t : List ℕ) → given_in t (insert_record same_test es k m) ≤ holders_of d t
    left t = omega (arith, given-inserted t es k m, more t, fewer t)

-- what a file has that was put
module _ (w : WorldView) (name bytes : List ℕ) where
  bytes_ordered : (a : List ℕ) → is_eq (slice_cmp nat_cmp a a) ≡ true
  bytes_ordered a = sym (texts_ties a a) ∙ (bytes_decides a a).1 refl

  found-put : (fs : List (List ℕ × List ℕ)) → lookup (is_at (slice_cmp nat_cmp name)) (insert_entry (slice_cmp nat_cmp) fs name bytes) ≡ Some bytes
  found-put [] = ap (λ b. cond b (Some bytes) None) (bytes_ordered name)
  found-put (f ∷ fs) = step (slice_cmp nat_cmp name f.0) refl (found-put fs)
    where
      step : (o : Ordering) → slice_cmp nat_cmp name f.0 ≡ o → lookup (is_at (slice_cmp nat_cmp name)) (insert_entry (slice_cmp nat_cmp) fs name bytes) ≡ Some bytes
          → lookup (is_at (slice_cmp nat_cmp name)) (match_ordering o ((name, bytes) ∷ f ∷ fs) ((f.0, bytes) ∷ fs) (f ∷ insert_entry (slice_cmp nat_cmp) fs name bytes)) ≡ Some bytes
      step Less e ih = ap (λ b. cond b (Some bytes) (lookup (is_at (slice_cmp nat_cmp name)) (f ∷ fs))) (bytes_ordered name)
      step Equal e ih = ap (λ o. cond (is_eq o) (Some bytes) (lookup (is_at (slice_cmp nat_cmp name)) fs)) e
      step Greater e ih = ap (λ o. cond (is_eq o) (Some f.1) (lookup (is_at (slice_cmp nat_cmp name)) (insert_entry (slice_cmp nat_cmp) fs name bytes))) e ∙ ih

  look-put : look (with_file w name bytes) (File name) ≡ Some (Content bytes)
  look-put = ap (λ o. Some (answer_of o)) (found-put w.files)

  put-made : (v : WorldView) → edited w (PutFile name bytes) ≡ Ok v → with_file w name bytes ≡ v
  put-made v h =
      let done : Ok (with_file w name bytes) ≡ Ok v =
      made (not (is_some (content_of w name)) && nat_le 4096 (length w.files)) TooMany _ v
      (made (not (nat_le (length bytes) 1048576)) TooLong _ v (made (not (is_name name)) BadName _ v h)) in
      cc

on-file : (name : List ℕ) (q : Question) → is_on (topic.File name) q ≡ true → q ≡ File name
on-file name (File n) on = ap File (sym ((bytes_decides name n).0 on))
on-file name Tool on = cc
on-file name (Triplet machine) on = cc
on-file name (Variable n) on = cc
on-file name (Entry place) on = cc
on-file name (Pattern text) on = cc

pub put-tells : (c : ContentsView) (w v : WorldView) (name bytes : List ℕ) (now : Now) → IsNumbering c → now ≡ Numbered (number_of c bytes)
    → edited w (PutFile name bytes) ≡ Ok v → TellsOn c v (topic.File name) now
put-tells c w v name bytes now single is h q on =
    subst (Tells c v q) (sym is) (
      name,
      bytes,
      on-file name q on,
      ap (look v) (on-file name q on) ∙ ap (λ x. look x (File name)) (sym (put-made w name bytes v h)) ∙ look-put w name bytes,
      refl,
      single,
    )
