use Rattle.std.proofs.Common.{◌∙◌, sym, ap, arith}
use Rattle.std.proofs.lemmas.Result.{IfOk-weaker}
use Rattle.dg_world.specs.Name.{is_name}
use Rattle.dg_language.specs.Boards.{library_file, no_library}
use Rattle.dg_machine.proofs.StepLemmas.{runs-as}
use Rattle.dg_machine.proofs.SessionLemmas.{fault-runs}
use Rattle.dg_machine.proofs.LibraryLemmas.{load_lib-of}
use Rattle.dg_machine.proofs.machine.Machine.load_lib.Goals as goal

pub returns-then-not-is_name : goal.returns-then-not-is_name
returns-then-not-is_name c =
    let file = c.as_slice-2.ensures ∙ c.in_ok-file.ensures ∙ ap library_file c.as_slice.ensures in
    let named = sym c.if-not-is_name.true ∙ c.is_name.ensures ∙ ap is_name file in
    let went = rw c.as_slice-then-not-is_name.ensures at c.miss_library.ensures in
    IfOk-weaker c.miss_library.result _ _
    (λ p h. fault-runs _ (no_library c.in-Some.library.now) _ _ p _ h (load_lib-of _ _ _ _ c.in-Some.ensures named) (omega arith))
    went

pub returns : goal.returns
returns c =
    let file = c.as_slice-2.ensures ∙ c.in_ok-file.ensures ∙ ap library_file c.as_slice.ensures in
    let named = sym c.if-not-is_name.false ∙ c.is_name.ensures ∙ ap is_name file in
    let went = rw c.as_slice-3.ensures at c.load_library.ensures in
    IfOk-weaker c.load_library.result _ _ (λ p h. runs-as _ _ _ _ p h (load_lib-of _ _ _ _ c.in-Some.ensures named)) went
