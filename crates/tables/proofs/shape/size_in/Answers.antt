use Rattle.tables.proofs.Sizes.{size_at, size_at_small}
use Rattle.tables.proofs.shape.size_in.Goals as goal

pub returns : goal.returns
returns c =
    let s = c.args.states in
    let e = c.args.events in
    record {
      is = size_at c.args.rows.now c.requires s.count e.count s.some s.few e.some e.few;
      small = size_at_small c.args.rows.now c.requires s.count e.count s.some s.few e.some e.few;
    }
