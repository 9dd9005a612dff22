-- Numbers of 0 to the scale are bounded.
use Rattle.std.proofs.Common.{◌≡◌, ℕ, ◌≤◌, true, List, length, ℤ, pos, nat_abs, sym, subst, inl, inr, le_trans, arith}
use borrow.Author.Differences.{ints}
use lib.Signed.{le_z}
use Rattle.std.proofs.ByRecursion.{All-get_or}
use Rattle.std.proofs.lemmas.List.{get_or_past}
use Rattle.std.proofs.lemmas.Bool.{cases_lt, and_parts}
use Rattle.kinds.specs.declared.count.Count.{Count}
use Rattle.kinds.specs.Numbers.{zero_of}
use Rattle.kinds.specs.Count.{counts}
use Rattle.tables.specs.Firsts.{AllPass}
use Rattle.tables.specs.Layout.{number_at}
use Rattle.chains.specs.Refusals.{largest_scale, in_scale, Bounded}

in_scale_size : (scale : ℕ) (x : Count) → in_scale scale x ≡ true → nat_abs x.0 ≤ scale
in_scale_size scale x e = let t = and_parts (le_z (pos 0) x.0) (le_z x.0 (pos scale)) e in sized x.0 t.0 t.1
  where
    sized : (z : ℤ) → le_z (pos 0) z ≡ true → le_z z (pos scale) ≡ true → nat_abs z ≤ scale
    sized z low high = omega (arith, ints)

-- numbers of 0 to a scale are bounded
pub in_scale_bounded : (scale : ℕ) (numbers : List Count) → scale ≤ largest_scale → AllPass (in_scale scale) numbers → Bounded numbers
in_scale_bounded scale numbers few all p =
    elim (cases_lt p (length numbers)) [
      | inl inside ↦ le_trans (in_scale_size scale (number_at counts numbers p) (All-get_or (λ x. in_scale scale x ≡ true) numbers p (zero_of counts) inside all)) few
      | inr past ↦ subst (λ (x : Count). nat_abs x.0 ≤ largest_scale) (sym (get_or_past numbers p (zero_of counts) past)) (omega arith)
    ]
