use Rattle.std.proofs.Common.{◌≡◌, ◌-◌, length, drop, Ok}
use Rattle.tables.specs.Words.{events_of}
use Rattle.tables.specs.Layout.{number_at, value, AllStored, Stored}
use Rattle.tables.specs.Path.{listed, backward}
use Rattle.tables.proofs.weighing.path.Given as goal

-- the vector is that of the word's last events, as many as were taken
abbrev pub invariant-loop-byte : goal.invariant-loop-byte
invariant-loop-byte g l =
    let N = g.K.Kind.numbers in
    let n = length l.fn.vector in
    Stored N n l.run (events_of l.word)
    → (backward N n (value N l.run) (events_of (drop (length l.word - length l.yielded) l.word)) ≡ Ok (listed n (value N l.vector))) × AllStored N n (number_at N l.vector)
