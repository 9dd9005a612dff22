-- What it is to be 1 to a limit.
use Rattle.std.proofs.Common.{◌≡◌, ℕ, ◌≤◌, true, leb}
use Rattle.std.proofs.lemmas.Bool.{le-leb, leb-true, and_from, and_parts}
use Rattle.tables.specs.Shape.{one_to}

pub one_to_from : (most n : ℕ) → 1 ≤ n → n ≤ most → one_to most n ≡ true
one_to_from most n low high = and_from (leb 1 n) (leb n most) (le-leb 1 n low) (le-leb n most high)

pub one_to_parts : (most n : ℕ) → one_to most n ≡ true → (1 ≤ n) × (n ≤ most)
one_to_parts most n e = let t = and_parts (leb 1 n) (leb n most) e in (leb-true 1 n t.0, leb-true n most t.1)
