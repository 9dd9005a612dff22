-- Rows of sizes that pass the test keep the rule, and a table's size is bounded.
use Rattle.std.proofs.Common.{◌≡◌, ℕ, zero, suc, ◌+◌, ◌-◌, ◌*◌, ◌<◌, ◌≤◌, Bool, true, eqb, List, [], ◌∷◌, length, get_or, sym, ap, ◌∙◌, subst, le_of_suc-le-suc, not-suc-le-zero, add-zero, add-suc, mul-le-mul, suc-add, zero-add, arith}
use Rattle.std.proofs.lemmas.Bool.{and_parts, eqb-true}
use Rattle.tables.specs.Shape.{most_events, most_states, table_size}
use Rattle.tables.specs.Sizes.{every, right, row_right, rows_right}

every_from : {X : Type 0} (f : ℕ → X → Bool) (d : X) (xs : List X) (i : ℕ) → every f i xs ≡ true → (k : ℕ) → k < length xs → f (i + k) (get_or xs k d) ≡ true
every_from f d [] i t k h = absurd (not-suc-le-zero h)
every_from f d (x ∷ xs) i t zero h = ap (λ m. f m x) (add-zero i) ∙ (and_parts (f i x) (every f (suc i) xs) t).0
every_from f d (x ∷ xs) i t (suc k) h =
    ap (λ m. f m (get_or xs k d)) (add-suc i k ∙ sym (suc-add i k))
    ∙ every_from f d xs (suc i) (and_parts (f i x) (every f (suc i) xs) t).1 k (le_of_suc-le-suc h)

every_at : {X : Type 0} (f : ℕ → X → Bool) (d : X) (xs : List X) → every f 0 xs ≡ true → (k : ℕ) → k < length xs → f k (get_or xs k d) ≡ true
every_at f d xs t k h = ap (λ m. f m (get_or xs k d)) (sym (zero-add k)) ∙ every_from f d xs 0 t k h

-- no table has more numbers than one with the most states and events
pub size_small : (n k : ℕ) → n ≤ most_states → k ≤ most_events → table_size n k ≤ table_size most_states most_events
size_small n k hn hk =
    let steps : k * n * n ≤ most_events * most_states * most_states = mul-le-mul (mul-le-mul hk hn) hn in
    omega arith

module _ (rows : List (List ℕ)) (passes : rows_right rows ≡ true) (n k : ℕ) (n-low : 1 ≤ n) (n-high : n ≤ most_states) (k-low : 1 ≤ k) (k-high : k ≤ most_events) where
  -- what rows that pass the test have at each place
  pub size_at : get_or (get_or rows (n - 1) []) (k - 1) 0 ≡ table_size n k
  size_at =
      let all = and_parts (eqb (length rows) most_states) (every row_right 0 rows) passes in
      let high : length rows ≡ most_states = eqb-true (length rows) most_states all.0 in
      let row = get_or rows (n - 1) [] in
      let fit = and_parts (eqb (length row) most_events) (every (right (n - 1)) 0 row) (every_at row_right [] rows all.1 (n - 1) (omega arith)) in
      let wide : length row ≡ most_events = eqb-true (length row) most_events fit.0 in
      let here = eqb-true (get_or row (k - 1) 0) _ (every_at (right (n - 1)) 0 row fit.1 (k - 1) (omega arith)) in
      let up : suc (n - 1) ≡ n = omega arith in
      let on : suc (k - 1) ≡ k = omega arith in
      here ∙ ap (λ m. table_size m (suc (k - 1))) up ∙ ap (table_size n) on

  pub size_at_small : get_or (get_or rows (n - 1) []) (k - 1) 0 ≤ table_size most_states most_events
  size_at_small = subst (λ x. x ≤ table_size most_states most_events) (sym size_at) (size_small n k n-high k-high)
