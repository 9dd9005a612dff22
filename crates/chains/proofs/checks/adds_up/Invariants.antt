use Rattle.std.proofs.Common.{◌≡◌, ◌*◌, ◌≤◌, ◌^◌, nat_abs}
use Rattle.chains.specs.Refusals.{sum_from}
use Rattle.chains.proofs.checks.adds_up.Given as goal

-- the sum so far, which is small
abbrev pub invariant-loop-x : goal.invariant-loop-x
invariant-loop-x l = (l.sum ≡ sum_from l.row 0 l.x-index) × (nat_abs l.sum ≤ l.x-index * 2 ^ 63)
