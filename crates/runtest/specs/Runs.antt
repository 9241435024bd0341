-- What a run over folders comes to.
use Rattle.std.specs.Prelude.{◌≡◌, ℕ, true, List, [], ◌∷◌, ◌++◌, Some}
use Rattle.dg_world.specs.declared.selection.Selection.{Selection}
use Rattle.dg_world.specs.declared.edit.Edit.{Edit}
use Rattle.dg_world.specs.declared.edit.Edit.TheVariants.{Select}
use Rattle.dg_core.specs.Core.{CoreView, new_core}
use Rattle.dg_core.specs.Scratch.{scratch}
use Rattle.dg_core.specs.declared.reply.Reply.TheVariants.{Sum}
use Rattle.dg_bench.specs.declared.call.Call.{Call}
use Rattle.dg_bench.specs.declared.call.Call.TheVariants.{Edit as edited, Report}
use Rattle.dg_bench.specs.History.{IsLegal, Makes}
use Rattle.dg_bench.specs.Seen.{Seen, Told}
use Rattle.dg_bench.specs.Made.{IsMade}

-- the pass has since seen a legal list of calls, which begins with what it had seen and ends with this edit
abbrev pub Adds : Edit → Seen → Seen → Type 0
Adds edit pass later = (told : Told) × IsMade pass later told (edited edit)

-- one of the calls makes this selection
abbrev pub Selects : Selection → List Call → Type 0
Selects selection calls = (before : List Call) × ((after : List Call) × (calls ≡ before ++ edited (Select selection) ∷ after))

-- a pass of this bench that has seen this selection made
abbrev pub HasSelected : Selection → Seen → Type 0
HasSelected selection pass = (pass.ours ≡ true) × Selects selection pass.calls

-- a pass that has later still seen each selection that it had seen
abbrev pub KeepsSelected : Seen → Seen → Type 0
KeepsSelected pass later = (selection : Selection) → HasSelected selection pass → HasSelected selection later

-- The report ends a legal list of calls, of which one makes this selection. It has the bytes and the status of judging every selected test from scratch, on the world that the calls before it make.
pub record IsRun (selection : Selection) (bytes : List ℕ) (status : ℕ) : Type 0 where
  pub calls : List Call
  pub selects : Selects selection calls
  pub legal : IsLegal (calls ++ Report (Sum bytes status) ∷ [])
  pub core : CoreView
  pub makes : Makes new_core calls core
  pub from_scratch : scratch core.world ≡ Some (bytes, status)
