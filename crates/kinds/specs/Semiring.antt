-- A commutative semiring of exact values, its sums and products, and what it is to cancel.
use Rattle.std.specs.Prelude.{◌≡◌, ℕ, zero, suc, List, [], ◌∷◌}

-- Values with a sum and a product, and the laws that they keep.
pub record Semiring : Type 1 where
  pub Value : Type 0
  pub zero : Value
  pub one : Value
  pub plus : Value → Value → Value
  pub times : Value → Value → Value
  pub plus_zero : (x : Value) → plus zero x ≡ x
  pub plus_comm : (x y : Value) → plus x y ≡ plus y x
  pub plus_assoc : (x y z : Value) → plus (plus x y) z ≡ plus x (plus y z)
  pub times_one : (x : Value) → times one x ≡ x
  pub times_comm : (x y : Value) → times x y ≡ times y x
  pub times_assoc : (x y z : Value) → times (times x y) z ≡ times x (times y z)
  pub times_zero : (x : Value) → times zero x ≡ zero
  pub times_plus : (x y z : Value) → times x (plus y z) ≡ plus (times x y) (times x z)

-- the sum of f at the places below n, from zero and adding upward
abbrev pub total : (s : Semiring) → ℕ → (ℕ → s.Value) → s.Value
total s zero f = s.zero
total s (suc n) f = s.plus (total s n f) (f n)

-- the product of a list's values
abbrev pub product : (s : Semiring) → List s.Value → s.Value
product s [] = s.one
product s (x ∷ xs) = s.times x (product s xs)

-- d × a = d × b only for a = b
abbrev pub Cancels : (s : Semiring) → s.Value → Type 0
Cancels s d = (a b : s.Value) → s.times d a ≡ s.times d b → a ≡ b
