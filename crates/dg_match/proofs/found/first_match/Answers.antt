use Rattle.std.proofs.lemmas.List.{length-map}
use Rattle.std.proofs.Common.{◌≡◌, ℕ, length, sym, ◌∙◌, ap}
use Rattle.regex.specs.Bytes.{regex_names}
use Rattle.regex.specs.Locations.{location_count}
use Rattle.dg_match.proofs.GroupLemmas.{no_hit, hit_found}
use Rattle.dg_match.proofs.found.first_match.Goals as goal

pub returns-in-None : goal.returns-in-None
returns-in-None c =
    let regex = c.regex-regex.ensures in
    rw (sym regex.text)
    (no_hit c.regex-regex.result.now _ (λ k. (c.type_inv.bytes k).fits) regex.built (rw c.in_ok-matcher.ensures.pattern at c.in-None.ensures.found))

pub returns : goal.returns
returns c =
    let regex = c.regex-regex.ensures in
    let found = rw c.in_ok-matcher.ensures.pattern at c.in-Some.ensures.found in
    let count : location_count c.captures_read.new.locations ≡ length (regex_names c.regex-regex.result.now) =
    c.captures_read.ensures.count ∙ c.in_ok-locations.ensures.value ∙ c.regex-regex.result.now.pattern.names.ok.0 ∙ sym (length-map _ _) in
    rw (sym regex.text)
    (hit_found c.regex-regex.result.now _ (λ k. (c.type_inv.bytes k).fits) regex.built found.0 found.1 c.captures_read.new.locations count found.2.1 _ _ _
    (c.start.ensures ∙ ap (λ (s : ℕ × ℕ). s.0) found.2.0) (c.end.ensures ∙ ap (λ (s : ℕ × ℕ). s.1) found.2.0) c.in_ok-read_groups-in-Some.ensures)
