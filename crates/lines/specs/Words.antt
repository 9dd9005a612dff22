-- The letters of a word that an answer shows.
use Rattle.std.specs.Prelude.{ℕ, List, take}
use Rattle.lines.specs.declared.words.Word.{Word}

-- the bytes that count
abbrev pub letters : Word → List ℕ
letters w = take w.count w.bytes
