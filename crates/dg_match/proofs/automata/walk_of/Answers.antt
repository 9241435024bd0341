use Rattle.dg_match.proofs.AutomataLemmas.{told_forwards, told_backwards}
use Rattle.dg_match.proofs.automata.walk_of.Goals as goal

pub returns-in-Ok : goal.returns-in-Ok
returns-in-Ok c = λ text names reads.
    (c.in-Ok.ensures.own, told_backwards text c.args.hir.now names c.args.dfa.now.nfa reads c.requires.paths (c.is_anchored_end.ensures.anchored c.if-is_anchored_end.true))

pub returns-in-Ok-with_budget : goal.returns-in-Ok-with_budget
returns-in-Ok-with_budget c = λ text names reads.
    (c.in-Ok-with_budget.ensures.own, told_forwards text c.args.hir.now names c.args.dfa.now.nfa reads c.requires.implements)
