-- What is known of the numbers of each kind: which scales cancel, and that sums of products of entries fit.
use Rattle.std.proofs.Common.{Bool, not, ℤ, pos, is_some, Decides, subst}
use Rattle.std.proofs.lemmas.Bool.Decides.{Decides-like, Decides-not}
use Rattle.kinds.specs.Semiring.{Cancels}
use Rattle.kinds.specs.Whole.{whole}
use Rattle.kinds.specs.Numbers.{Numbers, SumsOfEntryProductsFit}
use Rattle.kinds.specs.Count.{equal_whole, equal_whole_decides}
use Rattle.kinds.proofs.Wholes.{all_but_zero_cancel, zero_does_not_cancel}
use Rattle.kinds.proofs.CountReach.{count_sums_fit}
use Rattle.kinds.proofs.BestReach.{is_some_decides_cancels, best_sums_fit}
use Rattle.trials.specs.Examples.{Kind, count, best, numbers}

-- A test that tells which values cancel, and the law on sums of products of entries.
pub record Known {K : Type 0} (N : Numbers K) : Type 0 where
  pub cancels : N.exact.Value → Bool
  pub decides : (d : N.exact.Value) → Decides (cancels d) (Cancels N.exact d)
  pub reach : SumsOfEntryProductsFit N

-- every whole number but 0 cancels
abbrev pub not_zero : ℤ → Bool
not_zero d = not (equal_whole d (pos 0))

pub not_zero_decides : (d : ℤ) → Decides (not_zero d) (Cancels whole d)
not_zero_decides d = Decides-like (not_zero d) (all_but_zero_cancel d) (λ h e. zero_does_not_cancel (subst (Cancels whole) e h)) (Decides-not _ (equal_whole_decides d (pos 0)))

-- what is known of each kind
abbrev pub known : (k : Kind) → Known (numbers k)
known count = record { cancels = not_zero; decides = not_zero_decides; reach = count_sums_fit }
known best = record { cancels = is_some; decides = is_some_decides_cancels; reach = best_sums_fit }
