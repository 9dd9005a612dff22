use Rattle.std.proofs.Common.{◌≡◌, ◌+◌, drop}
use Rattle.tables.specs.Entries.{first_other}
use Rattle.tables.proofs.entries.first_other.Given as goal

-- what the rest of the run gives is what the whole run gives
abbrev pub invariant-loop-i : goal.invariant-loop-i
invariant-loop-i g l = first_other g.K.Kind.numbers (l.i + 1) (drop l.i l.run) ≡ first_other g.K.Kind.numbers 1 l.run
