use Rattle.std.proofs.Common.{◌≡◌, ◌+◌, drop}
use Rattle.tables.specs.Words.{first_stray}
use Rattle.tables.proofs.words.first_stray.Given as goal

-- what the rest of the word gives is what the whole word gives
abbrev pub invariant-loop-i : goal.invariant-loop-i
invariant-loop-i l = first_stray l.events.count (l.i + 1) (drop l.i l.word) ≡ first_stray l.events.count 1 l.word
