-- The first element of a list that fails a test.
use Rattle.std.specs.Prelude.{◌≡◌, ℕ, ◌+◌, ◌-◌, ◌<◌, ◌≤◌, Bool, true, false, cond, List, [], ◌∷◌, length, Some, None, Option, slice_index_or}
use Rattle.std.specs.List.{AllByRecursion}

module _ {A : Type 0} (test : A → Bool) where
  -- each element passes the test
  abbrev pub AllPass : List A → Type 0
  AllPass xs = AllByRecursion (λ x. test x ≡ true) xs

  -- the place of the first element that fails the test, where the first element of all has place p
  abbrev pub first_failing : ℕ → List A → Option ℕ
  first_failing p [] = None
  first_failing p (x ∷ xs) = cond (test x) (first_failing (p + 1) xs) (Some p)

  -- p, counted from 1, is the place of an element that fails the test, and at all lower places it passes
  pub record FirstFailing (d : A) (xs : List A) (p : ℕ) : Type 0 where
    pub some : 1 ≤ p
    pub inside : p ≤ length xs
    pub fails : test (slice_index_or xs (p - 1) d) ≡ false
    pub before : (q : ℕ) → 1 ≤ q → q < p → test (slice_index_or xs (q - 1) d) ≡ true
