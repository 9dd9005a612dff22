-- The kind Count: the whole numbers, with the ordinary sum and product.
use Rattle.std.specs.Prelude.{◌≡◌, ℕ, ◌≤◌, Bool, true, false, ℤ, pos, negsuc, Decides, ◌==◌, nat_le, unsigned_abs, refl}
use Rattle.std.proofs.Common.{ap, le_trans, leb-true, le-leb, lit≤}
use Rattle.std.proofs.lemmas.Bool.Decides.{Decides-eqb}
use Rattle.kinds.specs.declared.count.Count.{Count}
use Rattle.kinds.specs.Numbers.{Numbers, Ties}
use Rattle.kinds.specs.Limits.{largest_fit, largest_entry}
use Rattle.kinds.specs.Whole.{whole}

-- whether a whole number is from minus the limit to the limit
abbrev pub within : ℕ → ℤ → Bool
within limit z = nat_le (unsigned_abs z) limit

pub within_larger : (l m : ℕ) → l ≤ m → (z : ℤ) → within l z ≡ true → within m z ≡ true
within_larger l m h z e = le-leb (unsigned_abs z) m (le_trans (leb-true (unsigned_abs z) l e) h)

-- whether two whole numbers are one
abbrev pub equal_whole : ℤ → ℤ → Bool
equal_whole (pos a) (pos b) = a == b
equal_whole (pos a) (negsuc b) = false
equal_whole (negsuc a) (pos b) = false
equal_whole (negsuc a) (negsuc b) = a == b

pub equal_whole_decides : (a b : ℤ) → Decides (equal_whole a b) (a ≡ b)
equal_whole_decides (pos a) (pos b) = let d = Decides-eqb a b in (λ e. ap pos (d.0 e), λ e. d.1 (ap unsigned_abs e))
equal_whole_decides (pos a) (negsuc b) = (λ e. cc, λ e. cc)
equal_whole_decides (negsuc a) (pos b) = (λ e. cc, λ e. cc)
equal_whole_decides (negsuc a) (negsuc b) = let d = Decides-eqb a b in (λ e. ap negsuc (d.0 e), λ e. d.1 (cc))

-- the number of a whole number
abbrev pub count_of : ℤ → Count
count_of z = record { 0 = z }

pub count_ties : Ties Count whole (within largest_fit) (within largest_entry) equal_whole (λ c. within largest_fit c.0) (λ c. c.0) count_of
count_ties = record {
  entry_fits = within_larger largest_entry largest_fit (lit≤ tt);
  zero_entry = refl;
  one_entry = refl;
  same_is = λ a b p q. equal_whole_decides a b;
  write_stored = λ v e. e;
  read_write = λ v e. refl;
  stored_fits = λ x e. e;
  write_read = λ x e. refl;
}

-- what a Count stands for
abbrev pub counts : Numbers Count
counts = record {
  exact = whole;
  fits = within largest_fit;
  entry = within largest_entry;
  same = equal_whole;
  stored = λ c. within largest_fit c.0;
  read = λ c. c.0;
  write = count_of;
  ties = count_ties;
}
