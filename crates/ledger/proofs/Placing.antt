-- What is answered and held where a new table has a place, and that it then has room.
use Rattle.std.proofs.Common.{◌≡◌, ℕ, ◌+◌, ◌≤◌, ltb, List, length, None}
use Rattle.std.proofs.lemmas.Bool.{leb-true}
use Rattle.kinds.specs.declared.fault.Refusal.TheVariants.{TooManyTables, ShelfFull}
use Rattle.kinds.specs.Faults.{fault}
use Rattle.tables.specs.Shape.{table_size}
use Rattle.ledger.specs.declared.line.Line.{Line}
use Rattle.ledger.specs.Lines.{most_tables, used}
use Rattle.kinds.proofs.Refusing.{passed_test}
use Rattle.ledger.specs.Model.{no_place}

module _ (k : ℕ) (ls : List Line) (n shelf : ℕ) where
  -- a place is given only where there is room
  pub room_left : no_place k ls n shelf ≡ None → used k ls + table_size n k ≤ shelf
  room_left h = leb-true (used k ls + table_size n k) shelf (passed_test _ (fault ShelfFull) None (passed_test (ltb (length ls) most_tables) (fault TooManyTables) _ h).1).0
