-- Sums over all sequences of states, through gates, over any semiring, and what a table made of them weighs.
use Rattle.std.specs.Prelude.{◌≡◌, ℕ, zero, suc, ◌<◌, true, List, [], ◌∷◌, length}
use Rattle.kinds.specs.Semiring.{Semiring, total}
use Rattle.tables.specs.Shape.{one_to}
use Rattle.tables.specs.Firsts.{AllPass}
use Rattle.tables.specs.Layout.{start_at, end_at, step_at}
use Rattle.tables.specs.Weight.{sequences, over, weight}

-- x to the power m
abbrev pub power : (S : Semiring) → S.Value → ℕ → S.Value
power S x zero = S.one
power S x (suc m) = S.times x (power S x m)

-- first i: the start of state i; row i j: the step from state i to state j; gate i e: the factor that state i gives to event e
module _ (S : Semiring) where
  -- the rows from state i to the next state, and so on to the last
  abbrev pub rows_from : (ℕ → ℕ → S.Value) → ℕ → List ℕ → S.Value
  rows_from row i [] = S.one
  rows_from row i (j ∷ rest) = S.times (row i j) (rows_from row j rest)

  -- start × rows along a sequence of states
  abbrev pub along_states : (ℕ → S.Value) → (ℕ → ℕ → S.Value) → List ℕ → S.Value
  along_states first row [] = S.one
  along_states first row (i ∷ rest) = S.times (first i) (rows_from row i rest)

  -- the product of the gates of a word's events, each at the state in its turn
  abbrev pub gates : (ℕ → ℕ → S.Value) → List ℕ → List ℕ → S.Value
  gates gate [] [] = S.one
  gates gate [] (i ∷ rest) = S.zero
  gates gate (e ∷ w) [] = S.zero
  gates gate (e ∷ w) (i ∷ rest) = S.times (gate i e) (gates gate w rest)

  -- the starts of n states add up to the scale, and so does each row
  pub record AddUp (n : ℕ) (scale : S.Value) (first : ℕ → S.Value) (row : ℕ → ℕ → S.Value) : Type 0 where
    pub starts : total S n first ≡ scale
    pub rows : (i : ℕ) → i < n → total S n (row i) ≡ scale

  module _ (n : ℕ) (first : ℕ → S.Value) (row gate : ℕ → ℕ → S.Value) where
    -- the sum, over all sequences of states below n as long as the word, of gates × start × rows
    abbrev pub gated_numerator : List ℕ → S.Value
    gated_numerator w = over S (sequences n (length w)) (λ q. S.times (gates gate w q) (along_states first row q))

    -- a table by what it has at each place: the same starts, ends of one, and for each of k events the rows through its gates
    pub record GatedTable (k : ℕ) (t : ℕ → S.Value) : Type 0 where
      pub starts : (i : ℕ) → i < n → t (start_at i) ≡ first i
      pub ends : (i : ℕ) → i < n → t (end_at n i) ≡ S.one
      pub steps : (e i j : ℕ) → one_to k e ≡ true → i < n → j < n → t (step_at n e i j) ≡ S.times (gate i e) (row i j)

-- a word of m events, m at least 1, weighs scale to the power m + 1 times its probability, numerator / scale to the power m; cross-multiplied
-- the empty word weighs the scale
abbrev pub Weighs : (S : Semiring) → ℕ → (ℕ → S.Value) → S.Value → (List ℕ → S.Value) → List ℕ → Type 0
Weighs S n t scale numerator [] = weight S n t [] ≡ scale
Weighs S n t scale numerator (e ∷ w) =
    let m = length (e ∷ w) in
    S.times (weight S n t (e ∷ w)) (power S scale m) ≡ S.times (power S scale (suc m)) (numerator (e ∷ w))

-- what a table of rows through gates weighs, for every word of its events
abbrev pub GatedTableWeighs : Semiring → Type 0
GatedTableWeighs S =
    (n k : ℕ) (scale : S.Value) (first : ℕ → S.Value) (row gate : ℕ → ℕ → S.Value) (t : ℕ → S.Value)
    → AddUp S n scale first row
    → GatedTable S n first row gate k t
    → (w : List ℕ)
    → AllPass (one_to k) w
    → Weighs S n t scale (gated_numerator S n first row gate) w
