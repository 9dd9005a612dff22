use Rattle.std.proofs.Common.{◌≡◌, ℕ, ◌<◌}
use Rattle.kinds.specs.Count.{counts}
use Rattle.tables.specs.Layout.{number_at}
use Rattle.chains.specs.Chains.{chain_run}
use Rattle.chains.proofs.steps.LabeledChain.write.Given as goal

-- each place below has the table's number
abbrev pub invariant-loop-place : goal.invariant-loop-place
invariant-loop-place l =
    let chain = l.self in
    (p : ℕ) → p < l.place → number_at counts l.output p ≡ number_at counts (chain_run chain.states.count chain.letters.now chain.numbers.now chain.events.count) p
