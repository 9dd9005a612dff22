-- The kind Best: none and the whole numbers, with the smaller as the sum and the ordinary sum as the product.
use Rattle.std.specs.Prelude.{◌≡◌, ℕ, ◌≤◌, Bool, true, false, ℤ, pos, ◌+ℤ◌, Some, None, Decides, Option, refl}
use Rattle.std.proofs.Common.{ap, arith, lit≤}
use Rattle.std.proofs.Math.IntN.{+ℤ_idl, +ℤ_comm, +ℤ_assoc}
use Rattle.std.specs.Int.{int_min}
use Rattle.std.proofs.lemmas.Int.{clamps, ints}
use Rattle.kinds.specs.declared.best.Best.{Best}
use Rattle.kinds.specs.Semiring.{Semiring}
use Rattle.kinds.specs.Numbers.{Numbers, Ties}
use Rattle.kinds.specs.Limits.{largest_fit, largest_entry}
use Rattle.kinds.specs.Count.{within, within_larger, equal_whole, equal_whole_decides}

-- the smaller of two; none gives way to the other
abbrev pub smaller : Option ℤ → Option ℤ → Option ℤ
smaller None b = b
smaller (Some a) None = Some a
smaller (Some a) (Some b) = Some (int_min a b)

-- two amounts added up; with none it is none
abbrev pub together : Option ℤ → Option ℤ → Option ℤ
together None b = None
together (Some a) None = None
together (Some a) (Some b) = Some (a +ℤ b)

pub smaller_comm : (a b : Option ℤ) → smaller a b ≡ smaller b a
smaller_comm None None = refl
smaller_comm None (Some b) = refl
smaller_comm (Some a) None = refl
smaller_comm (Some a) (Some b) = ap Some (omega (arith, ints, clamps))

pub smaller_assoc : (a b c : Option ℤ) → smaller (smaller a b) c ≡ smaller a (smaller b c)
smaller_assoc None b c = refl
smaller_assoc (Some a) None c = refl
smaller_assoc (Some a) (Some b) None = refl
smaller_assoc (Some a) (Some b) (Some c) = ap Some (omega (arith, ints, clamps))

pub together_one : (a : Option ℤ) → together (Some (pos 0)) a ≡ a
together_one None = refl
together_one (Some a) = ap Some (+ℤ_idl a)

pub together_comm : (a b : Option ℤ) → together a b ≡ together b a
together_comm None None = refl
together_comm None (Some b) = refl
together_comm (Some a) None = refl
together_comm (Some a) (Some b) = ap Some (+ℤ_comm a b)

pub together_assoc : (a b c : Option ℤ) → together (together a b) c ≡ together a (together b c)
together_assoc None b c = refl
together_assoc (Some a) None c = refl
together_assoc (Some a) (Some b) None = refl
together_assoc (Some a) (Some b) (Some c) = ap Some (+ℤ_assoc a b c)

pub together_smaller : (a b c : Option ℤ) → together a (smaller b c) ≡ smaller (together a b) (together a c)
together_smaller None b c = refl
together_smaller (Some a) None c = refl
together_smaller (Some a) (Some b) None = refl
together_smaller (Some a) (Some b) (Some c) = ap Some (omega (arith, ints, clamps))

-- the semiring of none and the whole numbers: zero is none, one is 0
abbrev pub least : Semiring
least = record {
  Value = Option ℤ;
  zero = None;
  one = Some (pos 0);
  plus = smaller;
  times = together;
  plus_zero = λ x. refl;
  plus_comm = smaller_comm;
  plus_assoc = smaller_assoc;
  times_one = together_one;
  times_comm = together_comm;
  times_assoc = together_assoc;
  times_zero = λ x. refl;
  times_plus = together_smaller;
}

-- whether a value is none or from minus the limit to the limit
abbrev pub none_or_within : ℕ → Option ℤ → Bool
none_or_within limit None = true
none_or_within limit (Some z) = within limit z

pub none_or_within_larger : (l m : ℕ) → l ≤ m → (v : Option ℤ) → none_or_within l v ≡ true → none_or_within m v ≡ true
none_or_within_larger l m h None e = refl
none_or_within_larger l m h (Some z) e = within_larger l m h z e

-- whether two values are one
abbrev pub equal_least : Option ℤ → Option ℤ → Bool
equal_least None None = true
equal_least None (Some b) = false
equal_least (Some a) None = false
equal_least (Some a) (Some b) = equal_whole a b

equal_least_decides : (a b : Option ℤ) → Decides (equal_least a b) (a ≡ b)
equal_least_decides None None = (λ e. refl, λ e. refl)
equal_least_decides None (Some b) = (λ e. cc, λ e. cc)
equal_least_decides (Some a) None = (λ e. cc, λ e. cc)
equal_least_decides (Some a) (Some b) = let d = equal_whole_decides a b in (λ e. ap Some (d.0 e), λ e. d.1 (cc))

-- the number of a value
abbrev pub best_of : Option ℤ → Best
best_of v = record { 0 = v }

pub best_ties : Ties Best least (none_or_within largest_fit) (none_or_within largest_entry) equal_least (λ b. none_or_within largest_fit b.0) (λ b. b.0) best_of
best_ties = record {
  entry_fits = none_or_within_larger largest_entry largest_fit (lit≤ tt);
  zero_entry = refl;
  one_entry = refl;
  same_is = λ a b p q. equal_least_decides a b;
  write_stored = λ v e. e;
  read_write = λ v e. refl;
  stored_fits = λ x e. e;
  write_read = λ x e. refl;
}

-- what a Best stands for
abbrev pub bests : Numbers Best
bests = record {
  exact = least;
  fits = none_or_within largest_fit;
  entry = none_or_within largest_entry;
  same = equal_least;
  stored = λ b. none_or_within largest_fit b.0;
  read = λ b. b.0;
  write = best_of;
  ties = best_ties;
}
