-- Libraries.
use Rattle.std.proofs.Common.{◌≡◌, ℕ, Bool, true, false, List, [], ap, sym, ◌∙◌, refl}
use Rattle.std.specs.Prelude.{Option, Some, codes}
use Rattle.std.specs.FinMap as map
use Rattle.dg_world.specs.Name.{is_name}
use Rattle.dg_world.specs.declared.question.Question.{Question}
use Rattle.dg_world.specs.declared.question.Question.TheVariants.{File}
use Rattle.dg_world.specs.declared.question.Answer.{Answer}
use Rattle.dg_language.specs.declared.code.Code.TheVariants.{Done}
use Rattle.dg_language.specs.Play.{Play, Asks, plain}
use Rattle.dg_language.specs.State.{State, learn, in_library}
use Rattle.dg_language.specs.Evaluation.{Ending, Then, Nested, ask, fail, wrong_count}
use Rattle.dg_language.specs.Arguments.{on, only}
use Rattle.dg_language.specs.Boards.{content_of, do_load_lib, found, library_file, load, load_named}
use Rattle.dg_machine.specs.declared.frame.FileText.TheVariants.{Unanswered, Known}
use Rattle.dg_machine.specs.declared.frame.Control.{Control}
use Rattle.dg_machine.specs.declared.frame.Frame.{Frame}
use Rattle.dg_machine.specs.Meaning.{weight}
use Rattle.dg_machine.specs.Opening.{Holds}

libraries-learned : (q : Question) (a : Answer) (s : State) → (learn q a s).libraries ≡ s.libraries
unfolding learn
libraries-learned q a s = refl

-- a library
module _ (nested : Nested) (f : List ℕ) where
  pub load-begun : (s : State) (k : Then) → map.contains_key s.libraries (library_file f) ≡ true → load nested f s k ≡ k Done [] s
  unfolding load
  load-begun s k e =
      ap (λ b. elim b as (λ _. Play Ending) [ true ↦ k Done [] s | false ↦ ask (File (library_file f)) s (λ a t. found nested f (content_of a) t k) ]) e

  load-new : (s : State) (k : Then) → map.contains_key s.libraries (library_file f) ≡ false
      → load nested f s k ≡ ask (File (library_file f)) s (λ a t. found nested f (content_of a) t k)
  unfolding load
  load-new s k e =
      ap (λ b. elim b as (λ _. Play Ending) [ true ↦ k Done [] s | false ↦ ask (File (library_file f)) s (λ a t. found nested f (content_of a) t k) ]) e

  pub load-asks : (q : Question) (s : State) (k : Then) → map.contains_key s.libraries (library_file f) ≡ false
      → Holds (library_file f) s (Unanswered q) → load nested f s k ≡ Asks (plain q) (λ a. load nested f (learn q a s) k)
  load-asks q s k e h =
      load-new s k e ∙ h.0 (λ o t. found nested f o t k)
      ∙ ap (Asks (plain q)) (λ i a. sym (load-new (learn q a s) k (ap (λ ls. map.contains_key ls (library_file f)) (libraries-learned q a s) ∙ e)) i)

  pub load-known : (text : Option (List ℕ)) (s : State) (k : Then) → map.contains_key s.libraries (library_file f) ≡ false
      → Holds (library_file f) s (Known text) → load nested f s k ≡ found nested f text s k
  load-known text s k e h = load-new s k e ∙ h (λ o t. found nested f o t k)

pub load_lib-of : (nested : Nested) (args : List (List ℕ)) (f : List ℕ) (b : Bool) → Some f ≡ only args → b ≡ is_name (library_file f)
    → do_load_lib nested args ≡ (λ s k. load_named nested b f s k)
unfolding do_load_lib
load_lib-of nested args f b e h =
    ap (λ o. λ s k. on o (fail (wrong_count (codes "load_lib")) s k) (λ x. load_named nested (is_name (library_file x)) x s k)) (sym e)
    ∙ ap (λ c. λ s k. load_named nested c f s k) (sym h)

pub known-in_library : (name : List ℕ) (s : State) → (in_library name s).known ≡ s.known
unfolding in_library
known-in_library name s = refl

pub weight-in_library : (c : Control) (name : List ℕ) (s : State) (fs : List Frame) → weight c (in_library name s) fs ≡ weight c s fs
unfolding in_library weight
weight-in_library c name s fs = refl
