use Rattle.std.proofs.Common.{◌≡◌, ◌+◌, not, ◌∙◌, option_map, rules, tests}
use Rattle.std.proofs.lemmas.Iterator.{YieldsList-from_slice}
use Rattle.std.proofs.lemmas.Iterator.Search.{position_from_yields_List}
use Rattle.std.proofs.lemmas.Iterator.Adapters.{position_from-zero}
use Rattle.chains.specs.Refusals.{in_scale}
use Rattle.chains.proofs.Searching.{failing_from_position}
use Rattle.chains.proofs.checks.first_outside.Goals as goal

pub returns : goal.returns
returns c =
    let numbers = c.args.numbers.now in
    let found = position_from_yields_List (λ x. not (in_scale c.args.scale x)) _ _ c.position.result c.position.ensures.ran (YieldsList-from_slice numbers cc) (λ x b q k. search (rules, tests)) ∙ position_from-zero (λ x. not (in_scale c.args.scale x)) numbers in
    let mapped : c.map.result ≡ option_map (λ p. p + 1) c.position.result = search rules in
    mapped ∙ failing_from_position (in_scale c.args.scale) numbers found
