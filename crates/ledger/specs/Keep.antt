-- What keeping a part answers and leaves.
use Rattle.std.specs.Prelude.{ℕ, ◌+◌, List, length, None, Option, Result}
use Rattle.kinds.specs.declared.fault.Fault.{Fault}
use Rattle.kinds.specs.Faults.{or_refused, or_kept}
use Rattle.tables.specs.Words.{events_of, unless_word}
use Rattle.ledger.specs.declared.line.Line.{Line}
use Rattle.ledger.specs.Parts.{Kept, with_part, unless_full}
use Rattle.ledger.specs.Standing.{unless_two_tables}

-- two tables and a word, by its bytes, in a book with k events, these lines and these parts
module _ (k : ℕ) (ls : List Line) (ps : List Kept) (a b : ℕ) (word : List ℕ) where
  -- why the ledger does not keep the word
  abbrev pub keep_fault : Option Fault
  keep_fault = unless_two_tables ls a b (unless_word k word (unless_full ps None))

  -- the part's number, and the parts afterwards
  abbrev pub keep_answer : Result ℕ Fault
  keep_answer = or_refused keep_fault (length ps + 1)

  abbrev pub keep_parts : List Kept
  keep_parts = or_kept keep_fault ps (with_part ps a b (events_of word))
