-- What a ledger says.
use Rattle.std.specs.Prelude.{ℕ, ◌+◌, List, [], ◌∷◌, ◌++◌, length, None, Option, Result, nat_le, nat_lt}
use Rattle.kinds.specs.declared.fault.Fault.{Fault}
use Rattle.kinds.specs.declared.fault.Refusal.TheVariants.{TooManyTables, ShelfFull}
use Rattle.kinds.specs.Faults.{fault, unless, or_refused, or_kept}
use Rattle.tables.specs.Shape.{table_size}
use Rattle.ledger.specs.declared.line.Line.{Line}
use Rattle.ledger.specs.declared.ledger.Placed.{Placed}
use Rattle.ledger.specs.Lines.{most_tables, used}
use Rattle.ledger.specs.Parts.{Kept}

-- The events of a book, a line for each of its tables in order of entry, and the parts that it keeps, in their order.
pub record Model : Type 0 where
  pub events : ℕ
  pub lines : List Line
  pub parts : List Kept

-- a book without tables or parts
abbrev pub opened : ℕ → Model
opened k = record { events = k; lines = []; parts = [] }

-- the line of a new table with n states: right behind the others, and in a class of its own
abbrev pub new_line : ℕ → List Line → ℕ → Line
new_line k ls n = record { states = n; place = 1 + used k ls; class = length ls + 1 }

-- the lines with that of a new table
abbrev pub with_line : ℕ → List Line → ℕ → List Line
with_line k ls n = ls ++ (new_line k ls n ∷ [])

-- one table more
abbrev pub with_table : Model → ℕ → Model
with_table m n = record { events = m.events; lines = with_line m.events m.lines n; parts = m.parts }

-- why a table with n states has no place in a book with k events and these lines, on a shelf of so many numbers
abbrev pub no_place : ℕ → List Line → ℕ → ℕ → Option Fault
no_place k ls n shelf =
    unless (nat_lt (length ls) most_tables) (fault TooManyTables)
    (unless (nat_le (used k ls + table_size n k) shelf) (fault ShelfFull) None)

module _ (k : ℕ) (ls : List Line) (n shelf : ℕ) where
  -- where a table with n states is placed, and the lines afterwards
  abbrev pub append_answer : Result Placed Fault
  append_answer = or_refused (no_place k ls n shelf) (record { table = length ls + 1; place = (new_line k ls n).place })

  abbrev pub append_lines : List Line
  append_lines = or_kept (no_place k ls n shelf) ls (with_line k ls n)
