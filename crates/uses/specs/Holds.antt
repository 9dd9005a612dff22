-- What a book's ledger and shelf hold.
use Rattle.std.specs.Prelude.{ℕ, ◌+◌, ◌-◌, ◌≤◌, List, ◌++◌, length, take, drop}
use Rattle.kinds.specs.Numbers.{Numbers}
use Rattle.tables.specs.Shape.{table_size}
use Rattle.tables.specs.Entries.{AllEntries}
use Rattle.ledger.specs.Lines.{line_of, used}
use Rattle.ledger.specs.Model.{Model}

-- A table: its states and its numbers.
pub record Table (K : Type 0) : Type 0 where
  pub states : ℕ
  pub run : List K

-- the numbers on the shelf from a place on, counted from 0
abbrev pub part : {K : Type 0} → List K → ℕ → ℕ → List K
part shelf at size = take size (drop at shelf)

-- table i, counted from 1, as ledger and shelf hold it
abbrev pub table_at : {K : Type 0} → Model → List K → ℕ → Table K
table_at m shelf i =
    let l = line_of m.lines i in
    record { states = l.states; run = part shelf (l.place - 1) (table_size l.states m.events) }

-- a run laid on the shelf from a place on, counted from 0
abbrev pub laid : {K : Type 0} → List K → ℕ → List K → List K
laid shelf at run = take at shelf ++ (run ++ drop (at + length run) shelf)

-- the tables lie within the shelf, and all their numbers are entries
pub record Entered {K : Type 0} (N : Numbers K) (m : Model) (shelf : List K) : Type 0 where
  pub within : used m.events m.lines ≤ length shelf
  pub entries : (i : ℕ) → 1 ≤ i → i ≤ length m.lines → AllEntries N (table_at m shelf i).run
