use Rattle.ledger.proofs.Lowest.{first_there, found_here, goes_on, second_there}
use Rattle.ledger.proofs.ledger.Ledger.lowest_between.Goals as goal

pub class-u-requires : goal.class-u-requires
class-u-requires c = let h = first_there c.args.self.now c.loop-i.i c.part-item.result c.loop-i-test.true c.part-item.is c.first.result c.first.ensures in record { some = h.0; there = h.1 }

pub class-v-requires : goal.class-v-requires
class-v-requires c = let h = second_there c.args.self.now c.loop-i.i c.part-item.result c.loop-i-test.true c.part-item.is c.second.result c.second.ensures in record { some = h.0; there = h.1 }

pub returns-then-pairs : goal.returns-then-pairs
returns-then-pairs c =
    found_here c.args.self.now c.loop-i.i c.part-item.result c.loop-i-test.true c.part-item.is c.args.x c.args.y _ _ c.class-u.result c.class-v.result c.first.ensures c.second.ensures c.class-u.ensures c.class-v.ensures c.pairs.result c.pairs.ensures c.loop-i.invariant c.if-pairs.true

pub loop-i-preserved : goal.loop-i-preserved
loop-i-preserved c =
    goes_on c.args.self.now c.loop-i.i c.part-item.result c.loop-i-test.true c.part-item.is c.args.x c.args.y _ _ c.class-u.result c.class-v.result c.first.ensures c.second.ensures c.class-u.ensures c.class-v.ensures c.pairs.result c.pairs.ensures c.loop-i.invariant c.if-pairs.false
