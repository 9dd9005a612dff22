-- The whole numbers with their ordinary sum and product.
use Rattle.std.specs.Prelude.{◌≡◌, ◌*◌, ℤ, pos, ◌+ℤ◌, ◌*ℤ◌}
use Rattle.std.proofs.Common.{ap, arith}
use borrow.Author.Differences.{up, down, ints, sum_is_lem, product_is}
use Rattle.std.proofs.Math.IntN.{+ℤ_idl, +ℤ_comm, +ℤ_assoc, *ℤ_comm, zero-*ℤ}
use Rattle.kinds.specs.Semiring.{Semiring}

-- the laws that the library lacks, over the two natural numbers whose difference a whole number is
pub one_times : (a : ℤ) → pos 1 *ℤ a ≡ a
one_times a = omega (arith, ints)

pub times_assoc : (a b c : ℤ) → (a *ℤ b) *ℤ c ≡ a *ℤ (b *ℤ c)
times_assoc a b c =
    let p = product_is a b in
    let q = product_is b c in
    omega (arith, ints, ap (λ x. x * up c) p.0, ap (λ x. x * up c) p.1, ap (λ x. x * down c) p.0, ap (λ x. x * down c) p.1, ap (λ x. up a * x) q.0, ap (λ x. up a * x) q.1, ap (λ x. down a * x) q.0, ap (λ x. down a * x) q.1)

pub times_plus : (a b c : ℤ) → a *ℤ (b +ℤ c) ≡ a *ℤ b +ℤ a *ℤ c
times_plus a b c = omega (arith, ints, ap (λ x. up a * x) (sum_is_lem b c), ap (λ x. down a * x) (sum_is_lem b c))

-- the semiring of the whole numbers
abbrev pub whole : Semiring
whole = record {
  Value = ℤ;
  zero = pos 0;
  one = pos 1;
  plus = ◌+ℤ◌;
  times = ◌*ℤ◌;
  plus_zero = +ℤ_idl;
  plus_comm = +ℤ_comm;
  plus_assoc = +ℤ_assoc;
  times_one = one_times;
  times_comm = *ℤ_comm;
  times_assoc = times_assoc;
  times_zero = zero-*ℤ;
  times_plus = times_plus;
}
