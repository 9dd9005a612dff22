use Rattle.std.proofs.Common.{◌≡◌, ◌++◌, map, take, drop}
use Rattle.ledger.specs.Classes.{relabelled}
use Rattle.ledger.proofs.lines.Lines.relabel.Given as goal

-- the lines before the place are relabelled
abbrev pub invariant-loop-line : goal.invariant-loop-line
invariant-loop-line l = l.line-items ≡ map (relabelled l.from l.to) (take l.line-index l.initial.line-items) ++ drop l.line-index l.initial.line-items
