use Rattle.std.proofs.Common.{◌≡◌, ◌+◌, ◌<◌, ap, subst, ◌∙◌, arith, option_map, rules, tests}
use Rattle.std.specs.Slice.Iter.{chunks_exact_rest, chunks_exact_size}
use Rattle.std.specs.Iterator.Runs.{IsChunksExactRun}
use Rattle.chains.proofs.Rows.{first_uneven_found}
use Rattle.chains.proofs.checks.first_uneven.Goals as goal

pub returns : goal.returns
returns c = λ m long.
    let run = c.position.ensures.runs in
    let size : chunks_exact_size run.0.from ≡ c.args.width = ap chunks_exact_size run.1 ∙ c.chunks_exact.ensures.size in
    let rest : chunks_exact_rest run.0.from ≡ c.args.numbers.now = ap chunks_exact_rest run.1 ∙ c.chunks_exact.ensures.rest in
    let some : 0 < chunks_exact_size run.0.from = omega (arith, c.requires, size) in
    let rows : IsChunksExactRun run.0 c.args.width c.args.numbers.now = subst (λ xs. IsChunksExactRun run.0 c.args.width xs) rest (subst (λ m. IsChunksExactRun run.0 m (chunks_exact_rest run.0.from)) size (c.chunks_exact.ensures.runs run.0 run.0.seen some)) in
    let mapped : c.map.result ≡ option_map (λ p. p + 1) c.position.result = search rules in
    mapped ∙ first_uneven_found c.args.width m c.args.numbers.now c.args.scale c.requires long run.0 rows _ _ (λ a r f h. search rules) (λ x b h. search (rules, tests)) c.position.result run.2
