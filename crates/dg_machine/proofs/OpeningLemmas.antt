-- The files that are opened for a test, one after another.
use Rattle.std.proofs.Common.{◌≡◌, ℕ, true, false, ◌+◌, ◌<◌, ◌≤◌, List, ◌∷◌, ap, sym, ◌∙◌, refl, subst, arith}
use Rattle.std.specs.Prelude.{Option, Some, None}
use Rattle.dg_world.specs.Name.{is_name}
use Rattle.dg_world.specs.declared.question.Question.{Question}
use Rattle.dg_world.specs.declared.question.Question.TheVariants.{File, Tool as ToolOf}
use Rattle.dg_world.specs.declared.question.Answer.{Answer}
use Rattle.dg_world.specs.declared.question.Read.{Read}
use Rattle.dg_language.specs.Play.{Play, Asks, plain, lookup}
use Rattle.dg_language.specs.State.{State, learn, marked, with_begun}
use Rattle.dg_language.specs.Evaluation.{Ending, Then, ask}
use Rattle.dg_language.specs.Boards.{content_of}
use Rattle.dg_language.specs.Judge.{board_file, first_file, leave_board, open_board, open_library, open_script, open_tool, opened, opened_first, tool_library, tool_of}
use Rattle.dg_language.proofs.Asking.{ask-known, ask-asks}
use Rattle.dg_machine.specs.declared.frame.Control.{Control}
use Rattle.dg_machine.specs.declared.frame.Frame.{Frame}
use Rattle.dg_machine.specs.declared.frame.FileText.TheVariants.{Unanswered, Known}
use Rattle.dg_machine.specs.declared.frame.Pace.{Pace}
use Rattle.dg_machine.specs.declared.frame.Pace.TheVariants.{Moved, Stands, Over, Lost}
use Rattle.dg_machine.specs.declared.machine.Machine.{Machine}
use Rattle.dg_machine.specs.Lost.{HasReadPattern}
use Rattle.dg_machine.specs.Meaning.{all_back, weight, weight_of, stack_weight, frame_weight, Goes, RunsAs}
use Rattle.dg_machine.specs.Opening.{Holds}
use Rattle.dg_machine.proofs.StepLemmas.{Tries-along}

-- what is known of a file
module _ (n : List ℕ) (s : State) where
  pub file-unanswered : (m : List ℕ) → m ≡ n → lookup (File m) s.known ≡ None → Holds n s (Unanswered (File m))
  file-unanswered m g e =
      let none : lookup (File n) s.known ≡ None = rw g at e in
      rw g ((λ f. ask-asks (File n) s (λ a t. f (content_of a) t) none), none)

  pub file-known : (m : List ℕ) (a : Answer) (text : Option (List ℕ)) → m ≡ n → lookup (File m) s.known ≡ Some a → text ≡ content_of a → Holds n s (Known text)
  file-known m a text g e h f =
      let some : lookup (File n) s.known ≡ Some a = rw g at e in
      ask-known (File n) a s (λ b t. f (content_of b) t) some ∙ ap (λ o. f o s) (sym h)

-- what asks nothing has opened
pub Goes-opens : (p : Pace) (f : State → Then → Play Ending) (w v : ℕ) (play : Play Ending) (known : List Read) (old new : Machine) → Goes play known v new p
    → f old.state (all_back old.stack) ≡ play → known ≡ old.state.known → v ≤ weight_of old + w → RunsAs f w old new p
Goes-opens Moved f w v play known old new h e g l = (h.0 ∙ sym e, h.1 ∙ g, (let m : weight_of new < v = h.2 in omega arith))
Goes-opens (Stands q) f w v play known old new h e g l = absurd h
Goes-opens (Over x) f w v play known old new h e g l = (e ∙ h.0, h.1 ∙ g)
Goes-opens Lost f w v play known old new h e g l = subst HasReadPattern g h

-- what has opened here has opened from an equal meaning, now and at another try
pub Runs-along : (p : Pace) (f g : State → Then → Play Ending) (w v : ℕ) (old new : Machine) → RunsAs g v old new p
    → f old.state (all_back old.stack) ≡ g old.state (all_back old.stack)
    → ((q : Question) (a : Answer) (s : State)
    → f (learn q a (with_begun old.state s)) (all_back old.stack) ≡ g (learn q a (with_begun old.state s)) (all_back old.stack))
    → v ≤ w → RunsAs f w old new p
Runs-along p f g w v old new h e again l =
    Tries-along p (g old.state (all_back old.stack)) (f old.state (all_back old.stack)) (λ s. g s (all_back old.stack)) (λ s. f s (all_back old.stack)) v w old new
    h e again l

-- a file that need not be there
module _ (name : List ℕ) (next : State → Then → Play Ending) where
  pub first-unnamed : is_name name ≡ false → (s : State) (k : Then) → first_file name next s k ≡ next s k
  unfolding first_file
  first-unnamed e s k =
      ap (λ b. elim b as (λ _. Play Ending) [ true ↦ ask (File name) s (λ a t. opened_first (content_of a) next t k) | false ↦ next s k ]) e

  first-named : is_name name ≡ true → (s : State) (k : Then) → first_file name next s k ≡ ask (File name) s (λ a t. opened_first (content_of a) next t k)
  unfolding first_file
  first-named e s k =
      ap (λ b. elim b as (λ _. Play Ending) [ true ↦ ask (File name) s (λ a t. opened_first (content_of a) next t k) | false ↦ next s k ]) e

  pub first-asks : is_name name ≡ true → (q : Question) (s : State) (k : Then) → Holds name s (Unanswered q)
      → first_file name next s k ≡ Asks (plain q) (λ a. first_file name next (learn q a s) k)
  first-asks e q s k h =
      first-named e s k ∙ h.0 (λ o t. opened_first o next t k) ∙ ap (Asks (plain q)) (λ i a. sym (first-named e (learn q a s) k) i)

  pub first-known : is_name name ≡ true → (text : Option (List ℕ)) (s : State) (k : Then) → Holds name s (Known text)
      → first_file name next s k ≡ opened_first text next s k
  first-known e text s k h = first-named e s k ∙ h (λ o t. opened_first o next t k)

-- the script
module _ (s : State) (k : Then) where
  pub script-asks : (q : Question) → Holds s.test.script s (Unanswered q) → open_script s k ≡ Asks (plain q) (λ a. open_script (learn q a s) k)
  unfolding open_script learn
  script-asks q h = h.0 (λ o t. opened o t k)

  pub script-known : (text : Option (List ℕ)) → Holds s.test.script s (Known text) → open_script s k ≡ opened text s k
  unfolding open_script
  script-known text h = h (λ o t. opened o t k)

  -- the tool
  pub tool-asks : lookup ToolOf s.known ≡ None → open_tool s k ≡ Asks (plain ToolOf) (λ a. open_tool (learn ToolOf a s) k)
  unfolding open_tool
  tool-asks e = ask-asks ToolOf s (λ a t. open_library (tool_library (tool_of a)) t k) e

  pub tool-known : (a : Answer) (name : List ℕ) → lookup ToolOf s.known ≡ Some a → name ≡ tool_library (tool_of a)
      → open_tool s k ≡ first_file name open_script (marked name s) k
  unfolding open_tool open_library
  tool-known a name e g =
      ask-known ToolOf a s (λ b t. open_library (tool_library (tool_of b)) t k) e
      ∙ ap (λ n. first_file n open_script (marked n s) k) (sym g)

  -- the board's file
  pub board-opens : (name : List ℕ) → name ≡ board_file s.test.board → open_board s k ≡ first_file name leave_board s k
  unfolding open_board
  board-opens name e = rw e refl

board-learned : (q : Question) (a : Answer) (s t : State) → (learn q a (with_begun s t)).test.board ≡ s.test.board
unfolding learn
board-learned q a s t = refl

pub board-again : (name : List ℕ) (q : Question) (a : Answer) (s t : State) (k : Then) → name ≡ board_file s.test.board
    → open_board (learn q a (with_begun s t)) k ≡ first_file name leave_board (learn q a (with_begun s t)) k
board-again name q a s t k e = board-opens (learn q a (with_begun s t)) k name (e ∙ ap board_file (sym (board-learned q a s t)))

-- a frame more
pub weight-pushed : (c : Control) (s : State) (f : Frame) (fs : List Frame) → weight c s (f ∷ fs) ≡ weight c s fs + frame_weight f
unfolding weight stack_weight
weight-pushed c s f fs = omega arith

pub known-marked : (name : List ℕ) (s : State) → (marked name s).known ≡ s.known
unfolding marked
known-marked name s = refl

pub weight-marked : (name : List ℕ) (c : Control) (s : State) (fs : List Frame) → weight c (marked name s) fs ≡ weight c s fs
unfolding weight marked
weight-marked name c s fs = refl
