-- What stands where in the run of a table of n states: its starts, its ends, and event by event the steps in rows.
use Rattle.std.specs.Prelude.{◌≡◌, ℕ, ◌+◌, ◌-◌, ◌*◌, ◌<◌, true, List, length, slice_index, slice_index_or}
use Rattle.kinds.specs.Numbers.{Numbers, zero_of}

-- the place of the start of state i, states and places counted from 0
abbrev pub start_at : ℕ → ℕ
start_at i = i

-- the place of the end of state i
abbrev pub end_at : ℕ → ℕ → ℕ
end_at n i = n + i

-- the place of the step of event e, counted from 1, from state i to state j
abbrev pub step_at : ℕ → ℕ → ℕ → ℕ → ℕ
step_at n e i j = 2 * n + (e - 1) * n * n + i * n + j

module _ {K : Type 0} (N : Numbers K) where
  -- the number at a place of a run, and zero's past its end
  abbrev pub number_at : List K → ℕ → K
  number_at run p = slice_index_or run p (zero_of N)

  -- the exact value at a place of a run
  abbrev pub value : List K → ℕ → N.exact.Value
  value run p = N.read (number_at run p)

  -- the first m of some numbers are stored
  abbrev pub AllStored : ℕ → (ℕ → K) → Type 0
  AllStored m x = (i : ℕ) → i < m → N.stored (x i) ≡ true

  -- every number that is read where a word is weighed in a run is stored: the starts, the ends, and the steps of the word's events
  pub record Stored (n : ℕ) (run : List K) (w : List ℕ) : Type 0 where
    pub starts : AllStored n (λ i. number_at run (start_at i))
    pub ends : AllStored n (λ i. number_at run (end_at n i))
    pub steps : (p : ℕ) → p < length w → (i : ℕ) → i < n → AllStored n (λ j. number_at run (step_at n (slice_index w p) i j))
