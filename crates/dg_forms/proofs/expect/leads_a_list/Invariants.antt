use Rattle.std.proofs.Common.{◌≡◌, length, false}
use Rattle.dg_language.specs.ExpectWords.{leads_a_list}
use Rattle.dg_forms.proofs.expect.leads_a_list.Given as goal

abbrev pub invariant-bytes : goal.invariant-bytes
invariant-bytes l = leads_a_list l.below l.left ≡ leads_a_list false l.fn.text

abbrev pub decreases-bytes : goal.decreases-bytes
decreases-bytes l = length l.left
