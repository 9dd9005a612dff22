use Rattle.std.proofs.Common.{arith}
use Rattle.ledger.proofs.Held.{last_ends}
use Rattle.ledger.proofs.ledger.Ledger.used.Goals as goal

pub overflow_add-result : goal.overflow_add-result
overflow_add-result c = let small = (last_ends c.args.self.now c.in-Ok.last c.in-Ok.ensures).1 in omega arith

pub returns-in-Ok : goal.returns-in-Ok
returns-in-Ok c = let h = last_ends c.args.self.now c.in-Ok.last c.in-Ok.ensures in record { is = h.0; small = h.1 }
