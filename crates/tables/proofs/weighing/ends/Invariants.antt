use Rattle.std.proofs.Common.{◌≡◌, ℕ, ◌<◌}
use Rattle.tables.specs.Layout.{end_at, number_at}
use Rattle.tables.proofs.weighing.ends.Given as goal

abbrev pub invariant-loop-i : goal.invariant-loop-i
invariant-loop-i g l =
    let N = g.K.Kind.numbers in
    (j : ℕ) → j < l.i → number_at N l.vector j ≡ number_at N l.run (end_at l.states j)
