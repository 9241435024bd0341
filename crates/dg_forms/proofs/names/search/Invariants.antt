use Rattle.std.proofs.Common.{◌≡◌, drop, map}
use Rattle.dg_language.specs.Builtins.{with_name}
use Rattle.dg_forms.proofs.names.search.Given as goal

abbrev pub invariant-loop-named : goal.invariant-loop-named
invariant-loop-named l =
    with_name l.name (map (λ r. (r.0.now, r.1, r.2)) (drop l.named-index l.rows)) ≡ with_name l.name (map (λ r. (r.0.now, r.1, r.2)) l.rows)
