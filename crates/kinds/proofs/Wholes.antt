-- The sizes of sums and products of whole numbers, and which whole numbers cancel.
use Rattle.std.proofs.Common.{◌≡◌, ℕ, zero, suc, ◌+◌, ◌*◌, ◌<◌, ◌≤◌, Bool, true, false, not, eqb, ℤ, pos, negsuc, ◌+ℤ◌, ◌-ℤ◌, ◌*ℤ◌, neg_ℤ, nat_abs, Decides, sym, refl, ap, ◌∙◌, subst, mul-zero, arith, w64, SFits, of_z}
use native.Mathlib.Nat.{le_of_mul-le-mul_left}
use borrow.Author.Differences.{ints}
use lib.IntN.{zero-*ℤ}
use Rattle.std.proofs.lemmas.Bool.Decides.{Decides-eqb}
use Rattle.kinds.specs.Semiring.{Cancels}
use Rattle.kinds.specs.Whole.{whole, times_plus}

-- ---- sizes
size_neg : (n : ℕ) → nat_abs (neg_ℤ (pos n)) ≡ n
size_neg zero = refl
size_neg (suc n) = refl

pub size_times : (a b : ℤ) → nat_abs (a *ℤ b) ≡ nat_abs a * nat_abs b
size_times (pos a) (pos b) = refl
size_times (pos a) (negsuc b) = size_neg (a * suc b)
size_times (negsuc a) (pos b) = size_neg (suc a * b)
size_times (negsuc a) (negsuc b) = refl

pub size_plus : (a b : ℤ) → nat_abs (a +ℤ b) ≤ nat_abs a + nat_abs b
size_plus a b = omega (arith, ints)

-- ---- cancelling
times_is_zero : (d z : ℤ) → (d ≡ pos 0 → ⊥) → d *ℤ z ≡ pos 0 → z ≡ pos 0
times_is_zero d z some e =
    let sizes : nat_abs d * nat_abs z ≡ 0 = sym (size_times d z) ∙ ap nat_abs e in
    let positive : 0 < nat_abs d = size_positive d some in
    let none : nat_abs z ≤ 0 = le_of_mul-le-mul_left {k = nat_abs d} (omega (arith, sizes, mul-zero (nat_abs d))) positive in
    omega (arith, ints)
  where
    size_positive : (d : ℤ) → (d ≡ pos 0 → ⊥) → 0 < nat_abs d
    size_positive d some = omega (arith, ints)

pub all_but_zero_cancel : (d : ℤ) → (d ≡ pos 0 → ⊥) → Cancels whole d
all_but_zero_cancel d some a b e =
    let split : d *ℤ ((a -ℤ b) +ℤ b) ≡ d *ℤ (a -ℤ b) +ℤ d *ℤ b = times_plus d (a -ℤ b) b in
    let back : (a -ℤ b) +ℤ b ≡ a = omega (arith, ints) in
    let gone : d *ℤ (a -ℤ b) ≡ pos 0 = plus_is_second (d *ℤ (a -ℤ b)) (d *ℤ b) (sym split ∙ ap (λ z. d *ℤ z) back ∙ e) in
    minus_is_zero a b (times_is_zero d (a -ℤ b) some gone)
  where
    plus_is_second : (x y : ℤ) → x +ℤ y ≡ y → x ≡ pos 0
    plus_is_second x y h = omega (arith, ints)

    minus_is_zero : (a b : ℤ) → a -ℤ b ≡ pos 0 → a ≡ b
    minus_is_zero a b h = omega (arith, ints)

pub zero_does_not_cancel : Cancels whole (pos 0) → ⊥
zero_does_not_cancel h = let e : pos 0 ≡ pos 1 = h (pos 0) (pos 1) (zero-*ℤ (pos 0) ∙ sym (zero-*ℤ (pos 1))) in omega (arith, ap nat_abs e)

-- the test `z != 0` of an i64, which compares the bits
pub not_zero_decides_cancels : (z : ℤ) → SFits w64 z → Decides (not (eqb (of_z w64 z) 0)) (Cancels whole z)
not_zero_decides_cancels z f = by_case (eqb (of_z w64 z) 0) (Decides-eqb (of_z w64 z) 0)
  where
    by_case : (b : Bool) → Decides b (of_z w64 z ≡ 0) → Decides (not b) (Cancels whole z)
    by_case true d =
        let bits : of_z w64 z ≡ 0 = d.0 refl in
        let none : z ≡ pos 0 = omega (arith, ints) in
        (λ e. let q : ◌≡◌ {A = ℕ} 0 1 = cc in absurd (omega arith), λ h. absurd (zero_does_not_cancel (subst (Cancels whole) none h)))
    by_case false d = (λ e. all_but_zero_cancel z (λ n. let t : false ≡ true = d.1 (ap (of_z w64) n) in let q : ◌≡◌ {A = ℕ} 0 1 = cc in omega arith), λ h. refl)
