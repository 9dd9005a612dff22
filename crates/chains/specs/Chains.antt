-- Labeled Markov chains, after Doyen, Henzinger and Raskin, "Equivalence of Labeled Markov Chains", without a sink state.
use Rattle.std.specs.Prelude.{ℕ, ◌+◌, ◌*◌, Bool, true, false, cond, ◌&&◌, List, [], ◌∷◌, ◌++◌, length, ℤ, filter, ◌==◌, slice_index}
use Rattle.kinds.specs.declared.count.Count.{Count}
use Rattle.kinds.specs.Numbers.{zero_of, one_of}
use Rattle.kinds.specs.Whole.{whole}
use Rattle.kinds.specs.Count.{counts}
use Rattle.tables.specs.Words.{letter_of}
use Rattle.tables.specs.Layout.{number_at, value}
use Rattle.tables.specs.Path.{listed}
use Rattle.tables.specs.Weight.{joined, sequences, over}
use Rattle.chains.specs.Gates.{along_states}

-- ---- a chain of n states, counted from 0: a letter for each, and its numbers over a scale, n starts and then n rows of n
-- whether state i has the letter of event e
abbrev pub bears_event : List ℕ → ℕ → ℕ → Bool
bears_event letters i e = slice_index letters i == letter_of e

-- whether a sequence of states bears the letters of a word in turn
abbrev pub bears : List ℕ → List ℕ → List ℕ → Bool
bears letters [] [] = true
bears letters [] (i ∷ rest) = false
bears letters (e ∷ w) [] = false
bears letters (e ∷ w) (i ∷ rest) = bears_event letters i e && bears letters w rest

-- the place of the number from state i to state j; the start of state i stands at place i
abbrev pub row_at : ℕ → ℕ → ℕ → ℕ
row_at n i j = n + i * n + j

-- the number from state i to state j
abbrev pub row : ℕ → List Count → ℕ → ℕ → ℤ
row n numbers i j = value counts numbers (row_at n i j)

module _ (n : ℕ) (letters : List ℕ) (numbers : List Count) where
  -- the numerator of a word's probability: over all sequences of states whose letters spell the word, the products of the start and the rows between neighbours, added up
  abbrev pub numerator : List ℕ → ℤ
  numerator w = over whole (filter (bears letters w) (sequences n (length w))) (along_states whole (value counts numbers) (row n numbers))

  -- a step in the chain's table: the row's number at the event whose letter the state bears, zero at every other event
  abbrev pub step_number : ℕ → ℕ → ℕ → Count
  step_number e i j = cond (bears_event letters i e) (number_at counts numbers (row_at n i j)) (zero_of counts)

  -- the run of the chain's table in a book of k events: the starts, ends of one, and for each event its steps, row by row
  abbrev pub chain_run : ℕ → List Count
  chain_run k =
      listed n (number_at counts numbers)
      ++ (listed n (λ i. one_of counts)
      ++ joined k (λ e. joined n (λ i. listed n (step_number (e + 1) i))))
