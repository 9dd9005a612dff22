use Rattle.std.proofs.Common.{ℕ, ◌+◌, ◌*◌, ◌<◌, length}
use Rattle.tables.specs.Layout.{number_at, AllStored}
use Rattle.tables.specs.Strip.{dotted}
use Rattle.tables.proofs.Strips.{Filled}
use Rattle.tables.proofs.weighing.fill.Given as goal

-- the rows so far stand there
abbrev pub invariant-loop-i : goal.invariant-loop-i
invariant-loop-i g l =
    let N = g.K.Kind.numbers in
    let n = length l.vector in
    ((i : ℕ) → i < n → AllStored N n (λ j. number_at N l.run (l.at + i * n + j)))
    → AllStored N n (number_at N l.vector)
    → Filled N (λ i. dotted N l.run (l.at + i * n) l.vector) l.rows l.i
