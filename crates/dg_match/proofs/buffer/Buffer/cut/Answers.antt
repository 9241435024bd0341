use Rattle.std.proofs.Common.{◌≤◌, length, drop, arith, ap}
use Rattle.std.proofs.lemmas.List.{drop-drop, length-drop}
use Rattle.dg_match.proofs.buffer.Buffer.cut.Goals as goal

pub invariant_of-self : goal.invariant_of-self
invariant_of-self c =
    let rest = length-drop c.self.inside.front c.self.inside.bytes.items in
    let within = c.self.invariant.0 in
    let low : c.args.count ≤ length (drop c.self.inside.front c.self.inside.bytes.items) = rw (ap (λ h. length h.bytes) c.self.view_is) c.requires in
    (omega arith, rw (← drop-drop c.args.count c.self.inside.front c.self.inside.bytes.items) (c.cut.ensures.passed _ low c.self.invariant.1), rw (← drop-drop c.args.count c.self.inside.front c.self.inside.bytes.items) (c.cut-2.ensures _ low c.self.invariant.2), let size = length-drop c.args.count (drop c.self.inside.front c.self.inside.bytes.items) in let most = c.self.invariant.3 in rw (← drop-drop c.args.count c.self.inside.front c.self.inside.bytes.items) (omega arith))
