-- Sums over places, in any semiring.
use Rattle.std.proofs.Common.{◌≡◌, ℕ, zero, suc, ◌+◌, sym, refl, ap, ◌∙◌, add-one}
use Rattle.kinds.specs.Semiring.{Semiring, total}
use Rattle.tables.proofs.Sequences.{total_cong}

module _ (S : Semiring) where
  plus_left : (a b c : S.Value) → S.plus a (S.plus b c) ≡ S.plus b (S.plus a c)
  plus_left a b c = sym (S.plus_assoc a b c) ∙ ap (λ x. S.plus x c) (S.plus_comm a b) ∙ S.plus_assoc b a c

  pub times_left : (a b c : S.Value) → S.times a (S.times b c) ≡ S.times b (S.times a c)
  times_left a b c = sym (S.times_assoc a b c) ∙ ap (λ x. S.times x c) (S.times_comm a b) ∙ S.times_assoc b a c

  plus_plus : (a b c d : S.Value) → S.plus (S.plus a b) (S.plus c d) ≡ S.plus (S.plus a c) (S.plus b d)
  plus_plus a b c d = simp (S.plus_assoc, plus_left)

  total_zero : (n : ℕ) → total S n (λ i. S.zero) ≡ S.zero
  total_zero zero = refl
  total_zero (suc n) = ap (λ x. S.plus x S.zero) (total_zero n) ∙ S.plus_zero S.zero

  total_plus : (n : ℕ) (f g : ℕ → S.Value) → total S n (λ i. S.plus (f i) (g i)) ≡ S.plus (total S n f) (total S n g)
  total_plus zero f g = sym (S.plus_zero S.zero)
  total_plus (suc n) f g = ap (λ x. S.plus x (S.plus (f n) (g n))) (total_plus n f g) ∙ plus_plus _ _ _ _

  -- a factor goes into a sum
  pub times_total : (c : S.Value) (n : ℕ) (f : ℕ → S.Value) → S.times c (total S n f) ≡ total S n (λ i. S.times c (f i))
  times_total c zero f = S.times_comm c S.zero ∙ S.times_zero c
  times_total c (suc n) f = S.times_plus _ _ _ ∙ ap (λ x. S.plus x (S.times c (f n))) (times_total c n f)

  total_times : (n : ℕ) (f : ℕ → S.Value) (c : S.Value) → S.times (total S n f) c ≡ total S n (λ i. S.times (f i) c)
  total_times n f c = S.times_comm _ _ ∙ times_total c n f ∙ total_cong S n _ _ (λ i h. S.times_comm _ _)

  total_swap : (n m : ℕ) (f : ℕ → ℕ → S.Value) → total S n (λ i. total S m (f i)) ≡ total S m (λ j. total S n (λ i. f i j))
  total_swap zero m f = sym (total_zero m)
  total_swap (suc n) m f = ap (λ x. S.plus x (total S m (f n))) (total_swap n m f) ∙ sym (total_plus m _ (f n))

  -- a row times a matrix times a vector, either way
  pub regroup : (n m : ℕ) (a : ℕ → S.Value) (s : ℕ → ℕ → S.Value) (v : ℕ → S.Value) → total S n (λ i. S.times (a i) (total S m (λ j. S.times (s i j) (v j)))) ≡ total S m (λ j. S.times (total S n (λ i. S.times (a i) (s i j))) (v j))
  regroup n m a s v =
      total_cong S n _ _ (λ i h. times_total (a i) m _)
      ∙ total_swap n m _
      ∙ total_cong S m _ _ (λ j h. total_cong S n _ _ (λ i l. sym (S.times_assoc _ _ _)) ∙ sym (total_times n _ (v j)))

  -- one term more
  pub total_next : (n : ℕ) (f : ℕ → S.Value) → total S (n + 1) f ≡ S.plus (total S n f) (f n)
  total_next n f = ap (λ k. total S k f) (add-one n)
