use Rattle.std.proofs.lemmas.Bool.Decides.{Decides-at}
use Rattle.kinds.proofs.BestReach.{is_some_decides_cancels}
use Rattle.kinds.proofs.best.BestKind.cancels.Goals as goal

pub returns : goal.returns
returns c stored = Decides-at c.is_some.result _ c.is_some.ensures (is_some_decides_cancels c.args.self.0)
