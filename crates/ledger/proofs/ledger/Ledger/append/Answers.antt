use Rattle.std.proofs.Common.{◌+◌, ◌<◌, length, take, ◌∙◌, arith}
use Rattle.ledger.proofs.Appending.{held_all, held_sound}
use Rattle.ledger.specs.Lines.{Sound}
use Rattle.ledger.specs.Stored.{meanings}
use Rattle.ledger.proofs.Keeping.{parted_more}
use Rattle.ledger.proofs.ledger.Ledger.append.Goals as goal

pub invariant_of-self : goal.invariant_of-self
invariant_of-self c =
    let l = c.args.self.now in
    let k = l.events.count in
    let n = l.tables in
    let all = l.lines.all in
    let s = c.args.states in
    let after = c.write.new.self.all in
    let room : n < length all = omega arith in
    let sound : Sound k (take (n + 1) after) = held_sound k n all room s.count c.count.result c.count.ensures c.used-used.result c.used-used.ensures.is after c.write.ensures s.some s.few l.sound in
    let whole = held_all k n all room s.count c.count.result c.count.ensures c.used-used.result c.used-used.ensures.is after c.write.ensures in
    record {
      few = omega arith;
      full = whole ∙ l.full;
      sound = sound;
      spare = l.spare;
      records = l.records;
      parted = parted_more k n (meanings l.kept l.parts.all) l.parted;
    }
