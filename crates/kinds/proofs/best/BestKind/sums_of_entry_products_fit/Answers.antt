use Rattle.kinds.proofs.BestReach.{best_sums_fit}
use Rattle.kinds.proofs.best.BestKind.sums_of_entry_products_fit.Goals as goal

pub returns : goal.returns
returns c = best_sums_fit
