-- What a word weighs in a table, over any semiring: start × steps × end along a sequence of states that has one state more than the word has events, added up over all such sequences.
use Rattle.std.specs.Prelude.{ℕ, zero, suc, List, [], ◌∷◌, ◌++◌, map, length}
use Rattle.kinds.specs.Semiring.{Semiring}
use Rattle.tables.specs.Layout.{start_at, end_at, step_at}

-- the lists f 0, f 1, .., m in all, one behind the other
abbrev pub joined : {A : Type 0} → ℕ → (ℕ → List A) → List A
joined zero f = []
joined (suc m) f = joined m f ++ f m

-- all lists of m states below n
abbrev pub sequences : ℕ → ℕ → List (List ℕ)
sequences n zero = [] ∷ []
sequences n (suc m) = joined n (λ i. map (λ rest. i ∷ rest) (sequences n m))

module _ (S : Semiring) where
  -- the sum of f over a list
  abbrev pub over : {A : Type 0} → List A → (A → S.Value) → S.Value
  over [] f = S.zero
  over (x ∷ xs) f = S.plus (f x) (over xs f)

  -- a table of n states, by what it has at each place
  module _ (n : ℕ) (t : ℕ → S.Value) where
    -- the steps of a word from state i along the states that follow, times the end of the last
    abbrev pub onward : List ℕ → ℕ → List ℕ → S.Value
    onward [] i rest = t (end_at n i)
    onward (e ∷ w) i [] = S.zero
    onward (e ∷ w) i (j ∷ rest) = S.times (t (step_at n e i j)) (onward w j rest)

    -- start × steps × end along a sequence of states one longer than the word
    abbrev pub along : List ℕ → List ℕ → S.Value
    along w [] = S.zero
    along w (i ∷ rest) = S.times (t (start_at i)) (onward w i rest)

    -- the sum over all sequences of states one longer than the word
    abbrev pub weight : List ℕ → S.Value
    weight w = over (sequences n (suc (length w))) (along w)
