use Rattle.dg_lists.proofs.ListRuns.{braced_on, run_on}
use Rattle.dg_lists.proofs.list.Listing.pass.Goals as goal

pub returns-in_ok-extend-in-Braced : goal.returns-in_ok-extend-in-Braced
returns-in_ok-extend-in-Braced c =
    run_on c.args.text.now c.args.from _ c.args.self.now _ _ _ _ _ _ _ _ c.in-Braced.is c.self.view_is c.in_ok-extend-in-Braced.ensures.ok (braced_on c.args.text.now c.args.from _ _ _ c.braced_run-run.ensures.onward c.braced_run-run.ensures.within c.braced_run-run.ensures.run c.self.inside.elements c.self.inside.text)

pub returns-in_ok-extend-in-In : goal.returns-in_ok-extend-in-In
returns-in_ok-extend-in-In c =
    run_on c.args.text.now c.args.from _ c.args.self.now _ _ _ _ _ _ _ _ c.in-In.is c.self.view_is c.in_ok-extend-in-In.ensures.ok (c.element_run-end.ensures.run c.self.inside.depth c.self.inside.elements c.self.inside.text)
