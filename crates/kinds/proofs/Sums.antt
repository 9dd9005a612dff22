-- What holds of every sum of products of entries, from what one factor more and one term more do.
use Rattle.std.proofs.Common.{ℕ, zero, suc, ◌<◌, List, [], ◌∷◌, length, arith}
use Rattle.std.specs.List.{AllByRecursion}
use Rattle.kinds.specs.Semiring.{Semiring, total, product}

module _ (s : Semiring) where
  -- P n v holds of a product v of n values that all keep Q, if it holds of one and of one factor more
  pub product_keeps : (Q : s.Value → Type 0) (P : ℕ → s.Value → Type 0) → P 0 s.one → ((n : ℕ) (x y : s.Value) → Q x → P n y → P (suc n) (s.times x y)) → (p : List s.Value) → AllByRecursion Q p → P (length p) (product s p)
  product_keeps Q P none more [] h = none
  product_keeps Q P none more (x ∷ p) h = more (length p) x (product s p) h.0 (product_keeps Q P none more p h.1)

  -- P n v holds of a sum v of n values that all keep Q, if it holds of zero and of one term more
  pub total_keeps : (Q : s.Value → Type 0) (P : ℕ → s.Value → Type 0) → P 0 s.zero → ((n : ℕ) (x y : s.Value) → P n x → Q y → P (suc n) (s.plus x y)) → (m : ℕ) (f : ℕ → s.Value) → ((i : ℕ) → i < m → Q (f i)) → P m (total s m f)
  total_keeps Q P none more zero f h = none
  total_keeps Q P none more (suc m) f h = more m (total s m f) (f m) (total_keeps Q P none more m f (λ i b. h i (omega arith))) (h m (omega arith))
