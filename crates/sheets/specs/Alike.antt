-- What a sheet shows: two tables weigh every word alike.
use Rattle.std.specs.Prelude.{◌≡◌, ℕ, List}
use Rattle.kinds.specs.Semiring.{Semiring, total, Cancels}
use Rattle.tables.specs.Firsts.{AllPass}
use Rattle.tables.specs.Shape.{one_to}
use Rattle.tables.specs.Layout.{start_at, end_at, step_at}
use Rattle.tables.specs.Weight.{weight}
use Rattle.tables.specs.Backward.{vector}
use Rattle.sheets.specs.Rules.{Coefficients, Half, Kept}

-- each event of a word is 1 to k
abbrev pub WordOver : ℕ → List ℕ → Type 0
WordOver k = AllPass (one_to k)

-- the half of a table of n states, by what it has at each place, and of the vectors' numbers for it
abbrev pub half : {V : Type 0} → ℕ → (ℕ → V) → (ℕ → ℕ → V) → Half V
half n t numbers = record { states = n; steps = λ e i j. t (step_at n e i j); ends = λ i. t (end_at n i); numbers = numbers }

module _ (S : Semiring) where
  -- what a word weighs in a table whose starts are replaced
  abbrev pub weight_from : ℕ → (ℕ → S.Value) → (ℕ → S.Value) → List ℕ → S.Value
  weight_from n starts t w = total S n (λ i. S.times (starts i) (vector S n t w i))

  module _ (k n : ℕ) (a : ℕ → S.Value) (m : ℕ) (b : ℕ → S.Value) where
    -- every word over k events weighs the same in two tables
    abbrev pub EveryWordAlike : Type 0
    EveryWordAlike = (w : List ℕ) → WordOver k w → weight S n a w ≡ weight S m b w

    -- the same with other starts
    abbrev pub EveryWordAlikeFrom : (ℕ → S.Value) → (ℕ → S.Value) → Type 0
    EveryWordAlikeFrom starts-a starts-b = (w : List ℕ) → WordOver k w → weight_from n starts-a a w ≡ weight_from m starts-b b w

  -- a sheet whose scale cancels and that keeps the rules, for whatever starts, shows that every word weighs the same from them
  abbrev pub KeptSheetWeighsEveryWordAlikeFromStarts : Type 0
  KeptSheetWeighsEveryWordAlikeFromStarts =
      (k n : ℕ) (a : ℕ → S.Value) (m : ℕ) (b : ℕ → S.Value) (c : Coefficients S.Value) (left right : ℕ → ℕ → S.Value) (starts-a starts-b : ℕ → S.Value)
      → Cancels S c.scale
      → Kept S c (half n a left) (half m b right) k starts-a starts-b
      → EveryWordAlikeFrom k n a m b starts-a starts-b

  -- the same of the tables' own starts, and so of the weights
  abbrev pub KeptSheetWeighsEveryWordAlike : Type 0
  KeptSheetWeighsEveryWordAlike =
      (k n : ℕ) (a : ℕ → S.Value) (m : ℕ) (b : ℕ → S.Value) (c : Coefficients S.Value) (left right : ℕ → ℕ → S.Value)
      → Cancels S c.scale
      → Kept S c (half n a left) (half m b right) k (λ i. a (start_at i)) (λ i. b (start_at i))
      → EveryWordAlike k n a m b
