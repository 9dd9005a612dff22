-- Sums of at most sixteen products of at most three entries of Count fit.
use Rattle.std.proofs.Common.{◌≡◌, ℕ, suc, ◌*◌, ◌^◌, ◌<◌, ◌≤◌, true, List, length, ℤ, ◌+ℤ◌, ◌*ℤ◌, nat_abs, le_trans, mul-le-mul_right, suc-mul, mul-le-mul, arith, lit<, lit≤, le-leb, leb-true}
use native.Mathlib.Nat.{pow-zero, pow-succ', pow-le-pow_right}
use Rattle.std.specs.List.{AllByRecursion}
use Rattle.kinds.specs.Semiring.{total, product}
use Rattle.kinds.specs.Whole.{whole}
use Rattle.kinds.specs.Numbers.{SumsOfEntryProductsFit}
use Rattle.kinds.specs.Limits.{largest_fit, largest_entry}
use Rattle.kinds.specs.Count.{within, counts}
use Rattle.kinds.proofs.Sums.{product_keeps, total_keeps}
use Rattle.kinds.proofs.Wholes.{size_times, size_plus}

-- for any limits e of the entries and l of what fits
module _ (e l : ℕ) (some : 0 < e) (room : 16 * e ^ 3 ≤ l) where
  product_size : (p : List ℤ) → AllByRecursion (λ v. within e v ≡ true) p → nat_abs (product whole p) ≤ e ^ length p
  product_size = product_keeps whole (λ v. within e v ≡ true) (λ n v. nat_abs v ≤ e ^ n) (omega (arith, pow-zero e)) more
    where
      more : (n : ℕ) (x y : ℤ) → within e x ≡ true → nat_abs y ≤ e ^ n → nat_abs (x *ℤ y) ≤ e ^ suc n
      more n x y p q = rw (size_times x y, pow-succ' e n) (mul-le-mul (leb-true (nat_abs x) e p) q)

  total_size : (m : ℕ) (f : ℕ → ℤ) → ((i : ℕ) → i < m → nat_abs (f i) ≤ e ^ 3) → nat_abs (total whole m f) ≤ m * e ^ 3
  total_size = total_keeps whole (λ v. nat_abs v ≤ e ^ 3) (λ n v. nat_abs v ≤ n * e ^ 3) (omega arith) more
    where
      more : (n : ℕ) (x y : ℤ) → nat_abs x ≤ n * e ^ 3 → nat_abs y ≤ e ^ 3 → nat_abs (x +ℤ y) ≤ suc n * e ^ 3
      more n x y p q = omega (arith, size_plus x y, suc-mul n (e ^ 3))

  pub count_sums_within : (m : ℕ) (factors : ℕ → List ℤ) → m ≤ 16 → ((i : ℕ) → i < m → (length (factors i) ≤ 3) × AllByRecursion (λ v. within e v ≡ true) (factors i)) → within l (total whole m (λ i. product whole (factors i))) ≡ true
  count_sums_within m factors few h =
      let each : (i : ℕ) → i < m → nat_abs (product whole (factors i)) ≤ e ^ 3 = λ i b. le_trans (product_size (factors i) (h i b).1) (pow-le-pow_right {n = e} some (h i b).0) in
      le-leb (nat_abs (total whole m (λ i. product whole (factors i)))) l (le_trans (total_size m (λ i. product whole (factors i)) each) (le_trans (mul-le-mul_right (e ^ 3) few) room))

pub count_sums_fit : SumsOfEntryProductsFit counts
count_sums_fit = count_sums_within largest_entry largest_fit (lit< tt) (lit≤ tt)
