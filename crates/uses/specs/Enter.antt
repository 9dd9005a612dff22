-- What entering a table answers and leaves.
use Rattle.std.specs.Prelude.{◌≡◌, ℕ, ◌+◌, ◌≤◌, List, length, Option, Result, ◌==◌}
use Rattle.kinds.specs.declared.fault.Fault.{Fault}
use Rattle.kinds.specs.declared.fault.Refusal.TheVariants.{StateCount, NumberCount, NotAnEntry}
use Rattle.kinds.specs.Faults.{fault, unless, unless_found, or_refused, or_kept}
use Rattle.kinds.specs.Numbers.{Numbers}
use Rattle.tables.specs.Shape.{most_states, one_to, table_size}
use Rattle.tables.specs.Entries.{first_other}
use Rattle.ledger.specs.Lines.{used}
use Rattle.ledger.specs.Model.{Model, with_table, no_place}
use Rattle.uses.specs.Holds.{table_at, laid}

-- a run that is not so many entries refuses; else the rest is asked
abbrev pub unless_entries : {K : Type 0} → Numbers K → List K → ℕ → Option Fault → Option Fault
unless_entries N run size rest = unless (length run == size) (fault NumberCount) (unless_found (first_other N 1 run) NotAnEntry rest)

-- the first of enter's refusals that holds, in their order, where the shelf has so many numbers
abbrev pub enter_fault : {K : Type 0} → Numbers K → Model → ℕ → ℕ → List K → Option Fault
enter_fault N m room states run =
    unless (one_to most_states states) (fault StateCount)
    (unless_entries N run (table_size states m.events)
    (no_place m.events m.lines states room))

module _ {K : Type 0} (N : Numbers K) (m : Model) (shelf : List K) (states : ℕ) (run : List K) where
  -- the new table's number, the ledger and the shelf afterwards
  abbrev pub enter_answer : Result ℕ Fault
  enter_answer = or_refused (enter_fault N m (length shelf) states run) (length m.lines + 1)

  abbrev pub enter_ledger : Model
  enter_ledger = or_kept (enter_fault N m (length shelf) states run) m (with_table m states)

  abbrev pub enter_shelf : List K
  enter_shelf = or_kept (enter_fault N m (length shelf) states run) shelf (laid shelf (used m.events m.lines) run)

-- the new table is what was given, and each earlier one is as it was
pub record TableEntered {K : Type 0} (m m' : Model) (shelf shelf' : List K) (states : ℕ) (run : List K) (i : ℕ) : Type 0 where
  pub given : table_at m' shelf' i ≡ record { states = states; run = run }
  pub earlier : (j : ℕ) → 1 ≤ j → j ≤ length m.lines → table_at m' shelf' j ≡ table_at m shelf j
