-- Numbers of the contents that records were given: equal contents have equal numbers as long as a record has them.
use Rattle.std.specs.Prelude.{◌≡◌, ◌≤◌, ℕ, ◌+◌, true, Option, None, Some, List, [], ◌∷◌, map, option_and_then}
use Rattle.dg_contents.specs.Contents.{ContentsView, number_of, holders_of, one_at, IsNumbering}
use Rattle.dg_world.specs.World.{WorldView, look}
use Rattle.dg_world.specs.declared.edit.Edit.{Edit}
use Rattle.dg_world.specs.declared.edit.Edit.TheVariants.{PutFile}
use Rattle.dg_world.specs.declared.question.Answer.{Answer}
use Rattle.dg_world.specs.declared.question.Answer.TheVariants.{Content}
use Rattle.dg_world.specs.declared.question.Question.{Question}
use Rattle.dg_world.specs.declared.question.Question.TheVariants.{File}
use Rattle.dg_world.specs.declared.question.Read.{Read}
use Rattle.dg_world.specs.declared.test_id.TestId.{TestId}
use Rattle.dg_index.specs.Marks.{MarkedView}
use Rattle.dg_index.specs.Topic.{is_on}
use Rattle.dg_index.specs.declared.numbers.Now.{Now}
use Rattle.dg_index.specs.declared.numbers.Now.TheVariants.{Numbered, Elsewhere}
use Rattle.dg_index.specs.declared.topic.Topic.{Topic}

-- the content that a question about a file was answered with
abbrev pub content_given : Question → Answer → Option (List ℕ)
content_given (File name) (Content text) = Some text
content_given _ _ = None

-- the content that a read was given, if it was given one
abbrev pub content_read : Read → Option (List ℕ)
content_read r = content_given r.question r.answer

-- one where it is this content
abbrev pub given_once : List ℕ → Option (List ℕ) → ℕ
given_once text None = 0
given_once text (Some given) = one_at given text

-- how many of some reads were given a content
abbrev pub given_by : List ℕ → List Read → ℕ
given_by text [] = 0
given_by text (r ∷ rs) = given_once text (content_read r) + given_by text rs

-- how many reads of all records were
abbrev pub given_in : List ℕ → List (TestId × MarkedView) → ℕ
given_in text [] = 0
given_in text (e ∷ es) = given_by text e.1.record_of.reads + given_in text es

-- how many reads of a record were, if there is one
abbrev pub given_at : List ℕ → Option MarkedView → ℕ
given_at text None = 0
given_at text (Some m) = given_by text m.record_of.reads

-- the number of the content that a read was given
abbrev pub number_in : ContentsView → Read → Option ℕ
number_in c r = option_and_then (number_of c) (content_read r)

-- the numbers of some reads
abbrev pub numbers_in : ContentsView → List Read → List (Option ℕ)
numbers_in c reads = map (number_in c) reads

-- a content, where there is one, has a number
abbrev pub HasNumber : ContentsView → Option (List ℕ) → Type 0
HasNumber c None = Unit {0}
HasNumber c (Some text) = (n : ℕ) × (number_of c text ≡ Some n)

-- the content of each read has
abbrev pub AllHaveNumbers : ContentsView → List Read → Type 0
AllHaveNumbers c [] = Unit {0}
AllHaveNumbers c (r ∷ rs) = HasNumber c (content_read r) × AllHaveNumbers c rs

-- beside each record stand the numbers of what it was given
abbrev pub AllNumbered : ContentsView → List (TestId × MarkedView) → Type 0
AllNumbered c [] = Unit {0}
AllNumbered c (e ∷ es) = (e.1.numbers ≡ numbers_in c e.1.record_of.reads) × AllNumbered c es

-- and each content is held at least once for each read that was given it
pub record IsNumbered (c : ContentsView) (es : List (TestId × MarkedView)) : Type 0 where
  pub numbered : AllNumbered c es
  pub held : (text : List ℕ) → given_in text es ≤ holders_of c text

-- besides, it is held once more for each of some reads that was given it
abbrev pub HoldsMore : ContentsView → List (TestId × MarkedView) → List Read → Type 0
HoldsMore c es reads = (text : List ℕ) → given_in text es + given_by text reads ≤ holders_of c text

-- what is known of a question's answer now, if it is known by a number
abbrev pub Tells : ContentsView → WorldView → Question → Now → Type 0
Tells c w q Elsewhere = Unit {0}
Tells c w q (Numbered n) = (name : List ℕ) × (text : List ℕ) × (q ≡ File name) × (look w q ≡ Some (Content text)) × (n ≡ number_of c text) × IsNumbering c

-- what is known of all questions on a topic
abbrev pub TellsOn : ContentsView → WorldView → Topic → Now → Type 0
TellsOn c w t now = (q : Question) → is_on t q ≡ true → Tells c w q now

-- a file that is put has a content whose number is known, if it has one
abbrev pub now_after : ContentsView → Edit → Now
now_after c (PutFile name bytes) = Numbered (number_of c bytes)
now_after c _ = Elsewhere
