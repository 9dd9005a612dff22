-- A list of events in the 64 bytes that store it.
use Rattle.std.specs.Prelude.{ℕ, List, ◌++◌, length, drop, replicate}
use Rattle.tables.specs.Words.{longest_word}

-- the events, with zeros behind them
abbrev pub padded : List ℕ → List ℕ
padded w = w ++ drop (length w) (replicate longest_word 0)
