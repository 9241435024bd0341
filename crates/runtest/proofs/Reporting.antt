-- What a run's pass has seen, from its first selection to its report.
use Rattle.std.proofs.Common.{ℕ, List, [], ◌∷◌, ◌++◌, refl, sym, ap, ◌∙◌, subst}
use mathlib.Core.List.{IsPrefix, append_assoc}
use Rattle.dg_world.specs.declared.selection.Selection.{Selection}
use Rattle.dg_world.specs.declared.edit.Edit.{Edit}
use Rattle.dg_world.specs.declared.edit.Edit.TheVariants.{Select}
use Rattle.dg_core.specs.declared.reply.Reply.TheVariants.{Sum}
use Rattle.dg_bench.specs.declared.call.Call.{Call}
use Rattle.dg_bench.specs.declared.call.Call.TheVariants.{Edit as edited}
use Rattle.dg_bench.specs.History.{SumsAreFromScratch}
use Rattle.dg_bench.specs.Seen.{Seen, Told}
use Rattle.dg_bench.specs.Made.{IsMade}
use Rattle.dg_bench.specs.Refusals.{SeesMore}
use Rattle.dg_bench.specs.Work.{IsReported}
use Rattle.runtest.specs.Runs.{Adds, Selects, HasSelected, KeepsSelected, IsRun}

-- what begins with calls of which one selects has one that selects
selects_on : (s : Selection) (xs ys : List Call) → IsPrefix xs ys → Selects s xs → Selects s ys
selects_on s xs ys p h =
    (h.0, (h.1.0 ++ p.0, sym p.1 ∙ ap (λ zs. zs ++ p.0) h.1.1 ∙ append_assoc h.0 (edited (Select s) ∷ h.1.0) p.0))

-- the selection that is made last
pub selected : (s : Selection) (pass later : Seen) → Adds (Select s) pass later → HasSelected s later
selected s pass later h =
    let made = h.1 in
    subst (HasSelected s) (sym made.back) (refl, (made.before, ([], refl)))

-- a call that is made keeps what was selected
made_keeps : (pass later : Seen) (told : Told) (call : Call) → IsMade pass later told call → KeepsSelected pass later
made_keeps pass later told call made s h =
    let before : Selects s made.before = selects_on s pass.calls made.before (made.begins h.0) h.1 in
    subst (HasSelected s) (sym made.back) (refl, selects_on s made.before (made.before ++ call ∷ []) (call ∷ [], refl) before)

pub added_keeps : (edit : Edit) (pass later : Seen) → Adds edit pass later → KeepsSelected pass later
added_keeps edit pass later h = made_keeps pass later h.0 (edited edit) h.1

-- so does a look
pub seen_keeps : (pass later : Seen) → SeesMore pass later → KeepsSelected pass later
seen_keeps pass later m s h = (m.0, selects_on s pass.calls later.calls (m.4 h.0) h.1)

pub keeps_on : (pass mid later : Seen) → KeepsSelected pass mid → KeepsSelected mid later → KeepsSelected pass later
keeps_on pass mid later a b s h = b s (a s h)

-- what the report of workers is to a run
pub reported : (s : Selection) (pass later : Seen) (bytes : List ℕ) (status : ℕ) → HasSelected s pass → SumsAreFromScratch → IsReported pass later (Sum bytes status) → IsRun s bytes status
reported s pass later bytes status h law r =
    let made = r.1 in
    let found = law made.before [] bytes status made.legal in
    record {
      calls = made.before;
      selects = selects_on s pass.calls made.before (made.begins h.0) h.1;
      legal = made.legal;
      core = found.0;
      makes = found.1;
      from_scratch = found.2;
    }
