use Rattle.std.proofs.Common.{◌≡◌, ◌++◌, map, take, drop}
use Rattle.tables.specs.Words.{letter_of}
use Rattle.ledger.proofs.part.Part.spell.Given as goal

-- the events before the place have become letters
abbrev pub invariant-loop-letter : goal.invariant-loop-letter
invariant-loop-letter l = l.letters ≡ map letter_of (take l.letter-index l.initial.letters) ++ drop l.letter-index l.initial.letters
