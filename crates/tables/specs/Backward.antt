-- What a word weighs in a table, from its last event to its first, over any semiring: exact values, and no test.
use Rattle.std.specs.Prelude.{◌≡◌, ℕ, List, [], ◌∷◌}
use Rattle.kinds.specs.Semiring.{Semiring, total}
use Rattle.tables.specs.Layout.{start_at, end_at, step_at}
use Rattle.tables.specs.Weight.{weight}

module _ (S : Semiring) where
  module _ (n : ℕ) (t : ℕ → S.Value) where
    -- at each state: its end, or the sum of the first event's steps from it × what the rest of the word has at their ends
    abbrev pub vector : List ℕ → ℕ → S.Value
    vector [] i = t (end_at n i)
    vector (e ∷ w) i = total S n (λ j. S.times (t (step_at n e i j)) (vector w j))

    -- the sum of the starts × the word's vector
    abbrev pub backward_sum : List ℕ → S.Value
    backward_sum w = total S n (λ i. S.times (t (start_at i)) (vector w i))

  -- the sum from the end is the weight
  abbrev pub BackwardSumIsWeight : Type 0
  BackwardSumIsWeight = (n : ℕ) (t : ℕ → S.Value) (w : List ℕ) → backward_sum n t w ≡ weight S n t w
