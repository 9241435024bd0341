use Rattle.std.proofs.Common.{◌≡◌, ◌-◌, ◌∙◌, rules, arith, ap, map, option_map}
use Rattle.std.specs.List.{range_with_len}
use Rattle.regex.specs.Locations.{location}
use Rattle.dg_match.specs.Groups.{span_of}
use Rattle.dg_match.proofs.GroupLemmas.{groups_more}
use Rattle.dg_match.proofs.found.read_groups.Goals as goal

pub loop-n-preserved : goal.loop-n-preserved
loop-n-preserved c = rw (groups_more _ c.loop-n.n (omega arith)) (search rules)

pub returns : goal.returns
returns c =
    let same : c.loop-n.n - 1 ≡ c.len.result - 1 = omega (arith, c.loop-n-test.false, c.loop-n.auto.n, c.loop-n.auto.n-end, c.max-n-end.ensures) in
    c.from_vec.ensures ∙ c.loop-n.invariant ∙ ap (λ k. map (λ n. option_map span_of (location c.args.locations.now n)) (range_with_len 1 k)) same
    ∙ ap (λ k. map (λ n. option_map span_of (location c.args.locations.now n)) (range_with_len 1 (k - 1))) c.len.ensures
