-- How numbers are written: up to six digits that begin with no needless zero, and before a number other than 0 a minus sign at will.
use Rattle.std.specs.Prelude.{◌≡◌, ℕ, ◌+◌, ◌-◌, ◌*◌, ◌<◌, cond, List, [], ◌∷◌, length, ℤ, pos, neg_ℤ, Some, None, Ok, Err, decimal, Option, Result, ◌==◌, nat_le, unsigned_abs}
use Rattle.std.specs.Fmt.{signed_decimal}
use Rattle.std.specs.Option.{option_map, option_and_then}
use Rattle.kinds.specs.declared.fault.Fault.{Fault}
use Rattle.kinds.specs.declared.fault.Refusal.TheVariants.{FieldForm}
use Rattle.kinds.specs.Faults.{fault_at}
use Rattle.text.specs.declared.numbers.Mark.{Mark}
use Rattle.text.specs.declared.numbers.Mark.TheVariants as mark
use Rattle.text.specs.declared.numbers.Reading.{Reading}
use Rattle.text.specs.declared.numbers.Reading.TheVariants as reading

-- a number of at most six digits is below a million
abbrev pub most_magnitude : ℕ
most_magnitude = 1000000

-- a hyphen (45), a zero (48), another digit, or none of them
abbrev pub mark_of : ℕ → Mark
mark_of b = cond (b == 45) mark.Hyphen (cond (b == 48) mark.Zero (cond (nat_le 49 b) (cond (nat_le b 57) (mark.Digit (b - 48)) mark.Other) mark.Other))

-- what one more mark makes of a number n, and go of that
abbrev pub step : Mark → ℕ → (ℕ → Option ℕ) → Option ℕ
step mark.Hyphen n go = None
step mark.Zero n go = go (10 * n)
step (mark.Digit d) n go = go (10 * n + d)
step mark.Other n go = None

-- the number that further digits make of n, if all are digits
abbrev pub further : ℕ → List ℕ → Option ℕ
further n [] = Some n
further n (b ∷ bs) = step (mark_of b) n (λ k. further k bs)

-- zero alone, or one to six digits of which the first is not zero
abbrev pub magnitude_of : List ℕ → Option ℕ
magnitude_of [] = None
magnitude_of (b ∷ []) = further 0 (b ∷ [])
magnitude_of (b ∷ c ∷ bs) = cond (b == 48) None (cond (nat_le (length bs) 4) (further 0 (b ∷ c ∷ bs)) None)

-- a number without a sign
abbrev pub unsigned : ℕ → Reading
unsigned n = reading.Number (pos n)

-- a number behind a minus sign, unless it is zero
abbrev pub negative : ℕ → Option Reading
negative n = cond (n == 0) None (Some (reading.Number (neg_ℤ (pos n))))

-- a hyphen alone, a minus sign with a number other than zero, or a number
abbrev pub reading_of : List ℕ → Option Reading
reading_of [] = None
reading_of (b ∷ []) = cond (b == 45) (Some reading.Hyphen) (option_map unsigned (magnitude_of (b ∷ [])))
reading_of (b ∷ c ∷ bs) = cond (b == 45) (option_and_then negative (magnitude_of (c ∷ bs))) (option_map unsigned (magnitude_of (b ∷ c ∷ bs)))

-- what a field at a place means, unless it has not the form for it
abbrev pub or_other_form : {A : Type 0} → Option A → ℕ → Result A Fault
or_other_form (Some a) p = Ok a
or_other_form None p = Err (fault_at FieldForm p)

-- the number without a sign in the field at a place
abbrev pub plain_at : List ℕ → ℕ → Result ℕ Fault
plain_at s p = or_other_form (magnitude_of s) p

-- a text reads as n exactly when it is what n prints as, of at most six digits
pub record IsNumeral (s : List ℕ) (r : Option ℕ) : Type 0 where
  pub prints : (n : ℕ) → r ≡ Some n → (s ≡ decimal n) × (n < most_magnitude)
  pub reads : (n : ℕ) → s ≡ decimal n → n < most_magnitude → r ≡ Some n

-- a field reads as the whole number v exactly when it is what v prints as, of at most six digits; and as a hyphen exactly when it is one
pub record IsReading (s : List ℕ) (r : Option Reading) : Type 0 where
  pub prints : (v : ℤ) → r ≡ Some (reading.Number v) → (s ≡ signed_decimal v) × (unsigned_abs v < most_magnitude)
  pub reads : (v : ℤ) → s ≡ signed_decimal v → unsigned_abs v < most_magnitude → r ≡ Some (reading.Number v)
  pub hyphen : r ≡ Some reading.Hyphen → s ≡ 45 ∷ []
  pub hyphen_reads : s ≡ 45 ∷ [] → r ≡ Some reading.Hyphen
