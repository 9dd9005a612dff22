use Rattle.std.proofs.Common.{w64, SFits, rules}
use Rattle.kinds.proofs.Wholes.{not_zero_decides_cancels}
use Rattle.kinds.proofs.count.CountKind.cancels.Goals as goal

pub returns : goal.returns
returns c stored = let f : SFits w64 c.args.self.0 = search rules in not_zero_decides_cancels c.args.self.0 f
