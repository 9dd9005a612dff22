-- The first element that fails a test, as a search by position gives it.
use Rattle.std.proofs.Common.{◌≡◌, ℕ, zero, suc, ◌+◌, ◌<◌, ◌≤◌, Bool, true, false, not, List, [], ◌∷◌, Option, Some, None, refl, sym, ◌∙◌, ap, add-one, option_map, drop, MatchOption, arith}
use Rattle.std.specs.List.{position_from}
use Rattle.std.proofs.lemmas.List.{at_drop_all}
use Rattle.tables.specs.Firsts.{first_failing}
use Rattle.tables.specs.Path.{listed}
use Rattle.tables.proofs.Firsts.{first_later, first_here}
use Rattle.tables.proofs.Sums.{length_listed}
use Rattle.chains.proofs.Places.{listed_stands}

module _ {A : Type 0} (test : A → Bool) where
  pub failing_is_position : (i : ℕ) (xs : List A) → first_failing test i xs ≡ position_from (λ x. not (test x)) i xs
  failing_is_position i [] = refl
  failing_is_position i (x ∷ xs) = let e = failing_is_position (i + 1) xs in grind arith

  -- counted from 1
  pub failing_after : (i : ℕ) (xs : List A) → first_failing test (i + 1) xs ≡ option_map (λ p. p + 1) (first_failing test i xs)
  failing_after i [] = refl
  failing_after i (x ∷ xs) = let e = failing_after (i + 1) xs in grind arith

  pub failing_from_position : (xs : List A) {r : Option ℕ} → r ≡ position_from (λ x. not (test x)) 0 xs → option_map (λ p. p + 1) r ≡ first_failing test 1 xs
  failing_from_position xs e = ap (option_map (λ p. p + 1)) (e ∙ sym (failing_is_position 0 xs)) ∙ sym (failing_after 0 xs)

-- the same where the elements are known by their places
module _ {A : Type 0} (test : A → Bool) (m : ℕ) (f : ℕ → A) where
  abbrev xs : List A
  xs = listed m f

  passed : (i : ℕ) → i ≤ m → ((k : ℕ) → k < i → test (f k) ≡ true) → first_failing test (i + 1) (drop i xs) ≡ first_failing test 1 xs
  passed zero h all = refl
  passed (suc i) h all =
      let stands = listed_stands m f i (omega arith) in
      ap (λ j. first_failing test (j + 1) (drop j xs)) (sym (add-one i))
      ∙ first_later test xs i (f i) stands.0 stands.1 (all i (omega arith))
      ∙ passed i (omega arith) (λ k l. all k (omega arith))

  -- r is the first place that fails, counted from 0
  abbrev pub FirstOf : Option ℕ → Type 0
  FirstOf r = MatchOption r ((k : ℕ) → k < m → test (f k) ≡ true) (λ i. (i < m) × (test (f i) ≡ false) × ((k : ℕ) → k < i → test (f k) ≡ true))

  pub failing_from_places : (r : Option ℕ) → FirstOf r → option_map (λ p. p + 1) r ≡ first_failing test 1 xs
  failing_from_places None all = sym (at_drop_all (first_failing test (m + 1)) xs m (omega (arith, length_listed m f))) ∙ passed m (omega arith) all
  failing_from_places (Some i) h =
      let stands = listed_stands m f i h.0 in
      sym (first_here test xs i (f i) stands.0 stands.1 h.1) ∙ passed i (let l = h.0 in omega arith) h.2
