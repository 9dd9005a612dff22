-- How many events and states a table may have, and how many numbers that makes.
use Rattle.std.specs.Prelude.{ℕ, ◌+◌, ◌*◌, Bool, cond, ◌&&◌, Ok, Err, Result, nat_le}
use Rattle.kinds.specs.declared.fault.Fault.{Fault}
use Rattle.kinds.specs.declared.fault.Refusal.{Refusal}
use Rattle.kinds.specs.declared.fault.Refusal.TheVariants.{EventCount, StateCount}
use Rattle.kinds.specs.Faults.{fault}

-- a book has 1 to 6 events
abbrev pub most_events : ℕ
most_events = 6

-- a table has 1 to 8 states
abbrev pub most_states : ℕ
most_states = 8

-- whether n is 1 to a limit
abbrev pub one_to : ℕ → ℕ → Bool
one_to most n = nat_le 1 n && nat_le n most

-- n where it is 1 to a limit, else a refusal
abbrev pub passed_to : ℕ → Refusal → ℕ → Result ℕ Fault
passed_to most r n = cond (one_to most n) (Ok n) (Err (fault r))

-- what is answered to so many events, and to so many states
abbrev pub events_answer : ℕ → Result ℕ Fault
events_answer = passed_to most_events EventCount

abbrev pub states_answer : ℕ → Result ℕ Fault
states_answer = passed_to most_states StateCount

-- n starts, n ends, and for each of k events n × n steps
abbrev pub table_size : ℕ → ℕ → ℕ
table_size n k = 2 * n + k * n * n
