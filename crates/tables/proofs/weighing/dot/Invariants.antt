use Rattle.std.proofs.Common.{◌≡◌, ◌+◌, true, length, Ok}
use Rattle.tables.specs.Layout.{number_at, value, AllStored}
use Rattle.tables.specs.Path.{sums}
use Rattle.tables.proofs.weighing.dot.Given as goal

abbrev pub invariant-loop-j : goal.invariant-loop-j
invariant-loop-j g l =
    let N = g.K.Kind.numbers in
    AllStored N (length l.vector) (λ j. number_at N l.run (l.at + j))
    → AllStored N (length l.vector) (number_at N l.vector)
    → (sums N l.j (λ j. value N l.run (l.at + j)) (value N l.vector) ≡ Ok (N.read l.sum)) × (N.stored l.sum ≡ true)
