-- The sum from the end is the sum over all sequences of states.
use Rattle.std.proofs.Common.{◌≡◌, ℕ, zero, suc, ◌<◌, List, [], ◌∷◌, ◌++◌, map, length, sym, refl, ap, ◌∙◌, ap₂, arith}
use Rattle.kinds.specs.Semiring.{Semiring, total}
use Rattle.tables.specs.Layout.{start_at, step_at}
use Rattle.tables.specs.Weight.{joined, sequences, over, onward, along}
use Rattle.tables.specs.Backward.{vector, BackwardSumIsWeight}

module _ (S : Semiring) where
  plus_zero_right : (a : S.Value) → S.plus a S.zero ≡ a
  plus_zero_right a = S.plus_comm a S.zero ∙ S.plus_zero a

  times_zero_right : (a : S.Value) → S.times a S.zero ≡ S.zero
  times_zero_right a = S.times_comm a S.zero ∙ S.times_zero a

  -- sums of equal terms are equal
  pub total_cong : (m : ℕ) (f g : ℕ → S.Value) → ((i : ℕ) → i < m → f i ≡ g i) → total S m f ≡ total S m g
  total_cong zero f g e = refl
  total_cong (suc m) f g e = ap₂ S.plus (total_cong m f g (λ i h. e i (omega arith))) (e m (omega arith))

  module _ {A : Type 0} where
    over_append : (xs ys : List A) (f : A → S.Value) → over S (xs ++ ys) f ≡ S.plus (over S xs f) (over S ys f)
    over_append [] ys f = sym (S.plus_zero _)
    over_append (x ∷ xs) ys f = ap (S.plus (f x)) (over_append xs ys f) ∙ sym (S.plus_assoc _ _ _)

    over_joined : (m : ℕ) (g : ℕ → List A) (f : A → S.Value) → over S (joined m g) f ≡ total S m (λ i. over S (g i) f)
    over_joined zero g f = refl
    over_joined (suc m) g f = over_append (joined m g) (g m) f ∙ ap (λ x. S.plus x (over S (g m) f)) (over_joined m g f)

    over_map : {B : Type 0} (h : B → A) (xs : List B) (f : A → S.Value) → over S (map h xs) f ≡ over S xs (λ x. f (h x))
    over_map h [] f = refl
    over_map h (x ∷ xs) f = ap (S.plus (f (h x))) (over_map h xs f)

    pub times_over : (a : S.Value) (xs : List A) (f : A → S.Value) → S.times a (over S xs f) ≡ over S xs (λ x. S.times a (f x))
    times_over a [] f = times_zero_right a
    times_over a (x ∷ xs) f = S.times_plus _ _ _ ∙ ap (S.plus (S.times a (f x))) (times_over a xs f)

  -- the sequences by their first state
  pub by_first : (n m : ℕ) (f : List ℕ → S.Value) → over S (sequences n (suc m)) f ≡ total S n (λ i. over S (sequences n m) (λ rest. f (i ∷ rest)))
  by_first n m f = over_joined n _ f ∙ total_cong n _ _ (λ i h. over_map _ (sequences n m) f)

  -- the vector at a state is the sum over the sequences that follow it
  vector_is_sum : (n : ℕ) (t : ℕ → S.Value) (w : List ℕ) (i : ℕ) → over S (sequences n (length w)) (onward S n t w i) ≡ vector S n t w i
  vector_is_sum n t [] i = plus_zero_right _
  vector_is_sum n t (e ∷ w) i =
      by_first n (length w) _
      ∙ total_cong n _ _ (λ j h. sym (times_over (t (step_at n e i j)) _ (onward S n t w j)) ∙ ap (S.times (t (step_at n e i j))) (vector_is_sum n t w j))

  pub backward_sum_is_weight : BackwardSumIsWeight S
  backward_sum_is_weight n t w =
      total_cong n _ _ (λ i h. ap (S.times (t (start_at i))) (sym (vector_is_sum n t w i)) ∙ times_over (t (start_at i)) _ (onward S n t w i))
      ∙ sym (by_first n (length w) (along S n t w))
