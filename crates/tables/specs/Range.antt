-- What has to fit where a word is weighed.
use Rattle.std.specs.Prelude.{◌≡◌, ℕ, suc, ◌<◌, true, List, ◌∷◌, ◌++◌, Result, MatchResult}
use Rattle.kinds.specs.declared.fault.Fault.{Fault}
use Rattle.kinds.specs.declared.fault.Refusal.TheVariants.{OutOfRange}
use Rattle.kinds.specs.Faults.{fault}
use Rattle.kinds.specs.Semiring.{total}
use Rattle.kinds.specs.Numbers.{Numbers}
use Rattle.tables.specs.Layout.{start_at, step_at}
use Rattle.tables.specs.Backward.{vector}
use Rattle.tables.specs.Path.{path_answer}

module _ {K : Type 0} (N : Numbers K) where
  -- each of m exact products fits, and so does the exact sum of it and those before it
  abbrev pub SumFits : ℕ → (ℕ → N.exact.Value) → (ℕ → N.exact.Value) → Type 0
  SumFits m f g =
      (j : ℕ)
      → j < m
      → (N.fits (N.exact.times (f j) (g j)) ≡ true) × (N.fits (total N.exact (suc j) (λ i. N.exact.times (f i) (g i))) ≡ true)

  module _ (n : ℕ) (t : ℕ → N.exact.Value) where
    -- the row of every state fits, for every end piece of the word: the steps of its first event × the exact vector after it
    abbrev pub RowsFit : List ℕ → Type 0
    RowsFit w = (u : List ℕ) (e : ℕ) (v : List ℕ) → w ≡ u ++ (e ∷ v) → (i : ℕ) → i < n → SumFits n (λ j. t (step_at n e i j)) (vector N.exact n t v)

    -- all rows fit, and the sum of the starts × the vector of the whole word does
    abbrev pub PathFits : List ℕ → Type 0
    PathFits w = RowsFit w × SumFits n (λ i. t (start_at i)) (vector N.exact n t w)

    -- there is an answer exactly if all fits, and else it is out of range
    abbrev pub Ranged : {A : Type 0} → List ℕ → Result A Fault → Type 0
    Ranged w r = MatchResult r (λ x. PathFits w) (λ f. (PathFits w → ⊥) × (f ≡ fault OutOfRange))

  -- the path gives a value exactly if all fits, and else is out of range
  abbrev pub PathRefusesExactlyWhereItDoesNotFit : Type 0
  PathRefusesExactlyWhereItDoesNotFit = (n : ℕ) (t : ℕ → N.exact.Value) (w : List ℕ) → Ranged n t w (path_answer N n t w)
