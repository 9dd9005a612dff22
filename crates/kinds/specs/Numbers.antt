-- What a kind's numbers stand for.
use Rattle.std.specs.Prelude.{◌≡◌, ℕ, ◌<◌, ◌≤◌, Bool, true, false, cond, List, length, Ok, Err, Decides, Result}
use Rattle.std.specs.List.{AllByRecursion}
use Rattle.kinds.specs.declared.fault.Fault.{Fault}
use Rattle.kinds.specs.declared.fault.Refusal.TheVariants.{OutOfRange}
use Rattle.kinds.specs.Faults.{fault, then}
use Rattle.kinds.specs.Semiring.{Semiring, total, product}

-- How the tests on values, the reading of numbers and the writing of values hang together.
pub record Ties (K : Type 0) (s : Semiring) (fits entry : s.Value → Bool) (same : s.Value → s.Value → Bool) (stored : K → Bool) (read : K → s.Value) (write : s.Value → K) : Type 0 where
  -- entries fit, and zero and one are entries
  pub entry_fits : (v : s.Value) → entry v ≡ true → fits v ≡ true
  pub zero_entry : entry s.zero ≡ true
  pub one_entry : entry s.one ≡ true
  -- same decides whether two fitting values are one
  pub same_is : (a b : s.Value) → fits a ≡ true → fits b ≡ true → Decides (same a b) (a ≡ b)
  -- the number of a fitting value is stored, and stands for it
  pub write_stored : (v : s.Value) → fits v ≡ true → stored (write v) ≡ true
  pub read_write : (v : s.Value) → fits v ≡ true → read (write v) ≡ v
  -- a stored number stands for a fitting value, and is the only one that does
  pub stored_fits : (x : K) → stored x ≡ true → fits (read x) ≡ true
  pub write_read : (x : K) → stored x ≡ true → write (read x) ≡ x

-- The exact values of a kind, which of them fit and are entries, and which number stands for which.
-- A number that is not stored stands for nothing: no rule speaks of what read gives there.
pub record Numbers (K : Type 0) : Type 1 where
  pub exact : Semiring
  pub fits : exact.Value → Bool
  pub entry : exact.Value → Bool
  pub same : exact.Value → exact.Value → Bool
  pub stored : K → Bool
  pub read : K → exact.Value
  pub write : exact.Value → K
  pub ties : Ties K exact fits entry same stored read write

module _ {K : Type 0} (n : Numbers K) where
  -- the numbers of zero and one
  abbrev pub zero_of : K
  zero_of = n.write n.exact.zero

  abbrev pub one_of : K
  one_of = n.write n.exact.one

  -- whether a number stands for an entry
  abbrev pub is_entry : K → Bool
  is_entry x = cond (n.stored x) (n.entry (n.read x)) false

  -- what an operation answers whose exact result is v
  abbrev pub answer : n.exact.Value → Result K Fault
  answer v = cond (n.fits v) (Ok (n.write v)) (Err (fault OutOfRange))

  -- an exact value, or a refusal where it does not fit
  abbrev pub checked : n.exact.Value → Result n.exact.Value Fault
  checked v = cond (n.fits v) (Ok v) (Err (fault OutOfRange))

  -- the number of a value that is not refused
  abbrev pub said : Result n.exact.Value Fault → Result K Fault
  said c = then c (λ v. Ok (n.write v))

  -- r says what c does: a stored number that stands for c's value, or c's refusal
  abbrev pub Says : Result n.exact.Value Fault → Result K Fault → Type 0
  Says c (Ok x) = (c ≡ Ok (n.read x)) × (n.stored x ≡ true)
  Says c (Err e) = c ≡ Err e

  -- up to sixteen products with up to three entries each add up to a value that fits
  abbrev pub SumsOfEntryProductsFit : Type 0
  SumsOfEntryProductsFit =
      (m : ℕ) (factors : ℕ → List n.exact.Value)
      → m ≤ 16
      → ((i : ℕ) → i < m → (length (factors i) ≤ 3) × AllByRecursion (λ v. n.entry v ≡ true) (factors i))
      → n.fits (total n.exact m (λ i. product n.exact (factors i))) ≡ true
