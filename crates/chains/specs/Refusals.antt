-- What is no chain, and in which order that is refused.
use Rattle.std.specs.Prelude.{ℕ, ◌+◌, ◌*◌, ◌≤◌, Bool, ◌&&◌, List, length, ℤ, pos, None, Option, ◌==◌, int_le, unsigned_abs}
use Rattle.kinds.specs.declared.count.Count.{Count}
use Rattle.kinds.specs.declared.fault.Fault.{Fault}
use Rattle.kinds.specs.declared.fault.Refusal.TheVariants.{EventCount, StateCount, NumberCount, ScaleRange, Letters, ProbabilityRange, RowSum, OutputLength}
use Rattle.kinds.specs.Faults.{fault, unless, unless_found}
use Rattle.kinds.specs.Semiring.{total}
use Rattle.kinds.specs.Whole.{whole}
use Rattle.kinds.specs.Count.{counts, equal_whole}
use Rattle.tables.specs.Shape.{most_events, most_states, one_to, table_size}
use Rattle.tables.specs.Firsts.{first_failing}
use Rattle.tables.specs.Words.{first_stray}
use Rattle.tables.specs.Layout.{value}
use Rattle.tables.specs.Path.{listed}

-- a scale is 1 to this
abbrev pub largest_scale : ℕ
largest_scale = 100000

-- whether a number is 0 to the scale
abbrev pub in_scale : ℕ → Count → Bool
in_scale scale x = int_le (pos 0) x.0 && int_le x.0 (pos scale)

-- the place, counted from 1, of the first number that is not 0 to the scale
abbrev pub first_outside : ℕ → List Count → Option ℕ
first_outside scale = first_failing (in_scale scale) 1

-- no number is farther from 0 than the largest scale
abbrev pub Bounded : List Count → Type 0
Bounded numbers = (p : ℕ) → unsigned_abs (value counts numbers p) ≤ largest_scale

-- the sum of m numbers from a place on
abbrev pub sum_from : List Count → ℕ → ℕ → ℤ
sum_from numbers at m = total whole m (λ j. value counts numbers (at + j))

-- the place, counted from 1, of the first of so many rows of a width that does not add up to the scale
abbrev pub first_uneven : ℕ → ℕ → ℕ → List Count → Option ℕ
first_uneven width rows scale numbers = first_failing (λ s. equal_whole s (pos scale)) 1 (listed rows (λ b. sum_from numbers (b * width) width))

-- the first refusal of a chain in a book of k events; the starts are the first row that has to add up
abbrev pub chain_fault : ℕ → ℕ → ℕ → List ℕ → List Count → ℕ → Option Fault
chain_fault k n scale letters numbers room =
    unless (one_to most_events k) (fault EventCount)
    (unless (one_to most_states n) (fault StateCount)
    (unless (one_to largest_scale scale) (fault ScaleRange)
    (unless (length letters == n) (fault Letters)
    (unless_found (first_stray k 1 letters) Letters
    (unless (length numbers == n + n * n) (fault NumberCount)
    (unless_found (first_outside scale numbers) ProbabilityRange
    (unless_found (first_uneven n (n + 1) scale numbers) RowSum
    (unless (room == table_size n k) (fault OutputLength) None))))))))
