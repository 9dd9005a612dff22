-- Where a table of the book stands on the shelf.
use Rattle.std.specs.Prelude.{◌≡◌, ℕ, ◌-◌, true, false, not, List, length, Some, None, Ok, Err, Option, Result, ◌==◌, ◌≢◌}
use Rattle.kinds.specs.declared.fault.Fault.{Fault}
use Rattle.kinds.specs.declared.fault.Refusal.TheVariants.{NoSuchTable, SameTable}
use Rattle.kinds.specs.Faults.{fault, fault_at, unless}
use Rattle.tables.specs.Shape.{one_to, table_size}
use Rattle.ledger.specs.declared.line.Line.{Line}
use Rattle.ledger.specs.declared.ledger.Standing.{Standing}
use Rattle.ledger.specs.declared.ledger.Pair.{Pair}
use Rattle.ledger.specs.Lines.{line_of}

-- a table number that the book has not refuses, at a place; else the rest is asked
abbrev pub unless_table : List Line → ℕ → ℕ → Option Fault → Option Fault
unless_table ls i p rest = unless (one_to (length ls) i) (fault_at NoSuchTable p) rest

-- r is the line of table i, if there is one
abbrev pub LineFound : List Line → ℕ → Option Line → Type 0
LineFound ls i (Some l) = (one_to (length ls) i ≡ true) × (l ≡ line_of ls i)
LineFound ls i None = one_to (length ls) i ≡ false

-- two different tables of the book
pub record TwoTables (ls : List Line) (a b : ℕ) : Type 0 where
  pub first : one_to (length ls) a ≡ true
  pub second : one_to (length ls) b ≡ true
  pub apart : a ≡ b → ⊥

-- table numbers that are not two different tables of the book refuse; else the rest is asked
abbrev pub unless_two_tables : List Line → ℕ → ℕ → Option Fault → Option Fault
unless_two_tables ls a b rest = unless_table ls a 1 (unless_table ls b 2 (unless (not (a == b)) (fault SameTable) rest))

-- a standing says what the line of table i says
pub record StandsAt (k : ℕ) (ls : List Line) (i : ℕ) (s : Standing) : Type 0 where
  pub there : one_to (length ls) i ≡ true
  pub states : s.states.count ≡ (line_of ls i).states
  pub at : s.at ≡ (line_of ls i).place - 1
  pub size : s.size ≡ table_size (line_of ls i).states k

-- r is where table i stands, or its refusal at place p
abbrev pub Stands : ℕ → List Line → ℕ → ℕ → Result Standing Fault → Type 0
Stands k ls i p (Ok s) = StandsAt k ls i s
Stands k ls i p (Err f) = (one_to (length ls) i ≡ false) × (f ≡ fault_at NoSuchTable p)

-- r is where two different tables stand, or why they are not two tables of the book
abbrev pub Pairs : ℕ → List Line → ℕ → ℕ → Result Pair Fault → Type 0
Pairs k ls a b (Ok s) = StandsAt k ls a s.first × StandsAt k ls b s.second × (a ≢ b)
Pairs k ls a b (Err f) = unless_two_tables ls a b None ≡ Some f
