use Rattle.kinds.proofs.CountReach.{count_sums_fit}
use Rattle.kinds.proofs.count.CountKind.sums_of_entry_products_fit.Goals as goal

pub returns : goal.returns
returns c = count_sums_fit
