-- Runs of numbers, and the first of them that is no entry.
use Rattle.std.specs.Prelude.{ℕ, List, Option}
use Rattle.kinds.specs.Numbers.{Numbers, is_entry, zero_of}
use Rattle.tables.specs.Firsts.{AllPass, first_failing, FirstFailing}

module _ {K : Type 0} (N : Numbers K) where
  -- each number of a run is an entry
  abbrev pub AllEntries : List K → Type 0
  AllEntries = AllPass (is_entry N)

  -- the place of the first number that is no entry, where the first number of all has place p
  abbrev pub first_other : ℕ → List K → Option ℕ
  first_other = first_failing (is_entry N)

  -- p, counted from 1, is the place of a number that is no entry, and all lower places have entries
  abbrev pub FirstOther : List K → ℕ → Type 0
  FirstOther = FirstFailing (is_entry N) (zero_of N)
