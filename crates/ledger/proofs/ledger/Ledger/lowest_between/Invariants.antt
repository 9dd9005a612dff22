use Rattle.std.proofs.Common.{◌≡◌, ◌+◌, not, drop}
use Rattle.tables.specs.Firsts.{first_failing}
use Rattle.ledger.specs.Ask.{between, lowest_between}
use Rattle.ledger.specs.View.{view}
use Rattle.ledger.proofs.ledger.Ledger.lowest_between.Given as goal

-- what the rest of the parts gives is what all give
abbrev pub invariant-loop-i : goal.invariant-loop-i
invariant-loop-i l =
    first_failing (λ p. not (between (view l.self).lines l.x l.y p)) (l.i + 1) (drop l.i (view l.self).parts) ≡ lowest_between (view l.self).lines (view l.self).parts l.x l.y
