-- Which values of Best cancel, and that sums of at most sixteen products of at most three entries of it fit.
use Rattle.std.proofs.Common.{◌≡◌, ℕ, suc, ◌+◌, ◌*◌, ◌<◌, ◌≤◌, true, List, length, ℤ, pos, ◌+ℤ◌, nat_abs, is_some, Some, None, Decides, Option, refl, ap, le_trans, mul-le-mul_right, suc-mul, arith, lit≤, le-leb, leb-true}
use borrow.Author.Differences.{ints}
use Rattle.std.specs.Int.{int_min}
use Rattle.std.specs.List.{AllByRecursion}
use Rattle.std.proofs.lemmas.Int.{clamps}
use Rattle.kinds.specs.Semiring.{Cancels, total, product}
use Rattle.kinds.specs.Numbers.{SumsOfEntryProductsFit}
use Rattle.kinds.specs.Limits.{largest_fit, largest_entry}
use Rattle.kinds.specs.Best.{smaller, together, least, none_or_within, none_or_within_larger, bests}
use Rattle.kinds.proofs.Sums.{product_keeps, total_keeps}
use Rattle.kinds.proofs.Wholes.{size_plus}

-- ---- cancelling
some_cancels : (d : ℤ) → Cancels least (Some d)
some_cancels d None None e = refl
some_cancels d None (Some b) e = cc
some_cancels d (Some a) None e = cc
some_cancels d (Some a) (Some b) e = let h : d +ℤ a ≡ d +ℤ b = cc in ap Some (plus_cancels d a b h)
  where
    plus_cancels : (d a b : ℤ) → d +ℤ a ≡ d +ℤ b → a ≡ b
    plus_cancels d a b h = omega (arith, ints)

pub is_some_decides_cancels : (d : Option ℤ) → Decides (is_some d) (Cancels least d)
is_some_decides_cancels None = (λ e. let q : ◌≡◌ {A = ℕ} 0 1 = cc in absurd (omega arith), λ h. let n : None ≡ Some (pos 0) = h None (Some (pos 0)) refl in cc)
is_some_decides_cancels (Some d) = (λ e. some_cancels d, λ h. refl)

-- ---- sums of products of entries
within_together : (l m : ℕ) (a b : Option ℤ) → none_or_within l a ≡ true → none_or_within m b ≡ true → none_or_within (l + m) (together a b) ≡ true
within_together l m None b p q = refl
within_together l m (Some a) None p q = refl
within_together l m (Some a) (Some b) p q = le-leb (nat_abs (a +ℤ b)) (l + m) (omega (arith, size_plus a b, leb-true (nat_abs a) l p, leb-true (nat_abs b) m q))

within_smaller : (l : ℕ) (a b : Option ℤ) → none_or_within l a ≡ true → none_or_within l b ≡ true → none_or_within l (smaller a b) ≡ true
within_smaller l None b p q = q
within_smaller l (Some a) None p q = p
within_smaller l (Some a) (Some b) p q = le-leb (nat_abs (int_min a b)) l (size_min a b (leb-true (nat_abs a) l p) (leb-true (nat_abs b) l q))
  where
    size_min : (a b : ℤ) → nat_abs a ≤ l → nat_abs b ≤ l → nat_abs (int_min a b) ≤ l
    size_min a b p q = omega (arith, ints, clamps)

-- for any limits e of the entries and l of what fits
module _ (e l : ℕ) (room : 3 * e ≤ l) where
  product_within : (p : List (Option ℤ)) → AllByRecursion (λ v. none_or_within e v ≡ true) p → none_or_within (length p * e) (product least p) ≡ true
  product_within = product_keeps least (λ v. none_or_within e v ≡ true) (λ n v. none_or_within (n * e) v ≡ true) (le-leb 0 (0 * e) (omega arith)) more
    where
      more : (n : ℕ) (x y : Option ℤ) → none_or_within e x ≡ true → none_or_within (n * e) y ≡ true → none_or_within (suc n * e) (together x y) ≡ true
      more n x y p q = none_or_within_larger (e + n * e) (suc n * e) (omega (arith, suc-mul n e)) (together x y) (within_together e (n * e) x y p q)

  pub best_sums_within : (m : ℕ) (factors : ℕ → List (Option ℤ)) → ((i : ℕ) → i < m → (length (factors i) ≤ 3) × AllByRecursion (λ v. none_or_within e v ≡ true) (factors i)) → none_or_within l (total least m (λ i. product least (factors i))) ≡ true
  best_sums_within m factors h = total_keeps least (λ v. none_or_within l v ≡ true) (λ n v. none_or_within l v ≡ true) refl (λ n. within_smaller l) m (λ i. product least (factors i)) each
    where
      each : (i : ℕ) → i < m → none_or_within l (product least (factors i)) ≡ true
      each i b = none_or_within_larger (length (factors i) * e) l (le_trans (mul-le-mul_right e (h i b).0) room) (product least (factors i)) (product_within (factors i) (h i b).1)

pub best_sums_fit : SumsOfEntryProductsFit bests
best_sums_fit m factors few h = best_sums_within largest_entry largest_fit (lit≤ tt) m factors h
