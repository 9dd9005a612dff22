-- How chains become tables, for any kind: why one is refused, the run of its table, and the room for it.
use Rattle.std.specs.Prelude.{ℕ, min, cond, List, ◌++◌, drop, Option}
use Rattle.kinds.specs.declared.fault.Fault.{Fault}
use Rattle.kinds.specs.Faults.{or_kept}
use Rattle.tables.specs.Shape.{most_states, one_to, table_size}

-- how many numbers of a run of so many are for a table of n states and k events
abbrev pub room_for : ℕ → ℕ → ℕ → ℕ
room_for n k most = cond (one_to most_states n) (min (table_size n k) most) 0

pub record Converting (K : Type 0) : Type 0 where
  -- why a chain is refused, given events, states, scale, letters, numbers and the length of the run for its table
  pub refuses : ℕ → ℕ → ℕ → List ℕ → List K → ℕ → Option Fault
  -- the run of its table, given events, states, letters and numbers
  pub converted : ℕ → ℕ → List ℕ → List K → List K

-- what a run holds at whose front a chain's table was to be written
abbrev pub front_after : {K : Type 0} → Option Fault → ℕ → List K → List K → List K
front_after refused room table run = or_kept refused table (run ++ drop room table)
