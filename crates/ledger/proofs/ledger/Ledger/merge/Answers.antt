use Rattle.std.proofs.Common.{◌++◌, map, take, drop, ap₂, ◌∙◌}
use Rattle.ledger.specs.Classes.{relabelled}
use Rattle.ledger.proofs.Merging.{merged_sound, merged_whole}
use Rattle.ledger.proofs.ledger.Ledger.merge.Goals as goal

pub invariant_of-self : goal.invariant_of-self
invariant_of-self c =
    let l = c.args.self.now in
    let is = c.relabel.ensures ∙ ap₂ (λ x y. map (relabelled x y) (take l.tables l.lines.all) ++ drop l.tables l.lines.all) c.max.ensures c.min.ensures in
    record {
      few = l.few;
      full = merged_whole l c.args.a c.args.b _ _ c.in-Some-Some.ensures c.in-Some-Some.ensures' c.relabel.new.self.all is;
      sound = merged_sound l c.args.a c.args.b _ _ c.in-Some-Some.ensures c.in-Some-Some.ensures' c.relabel.new.self.all is;
      spare = l.spare;
      records = l.records;
      parted = l.parted;
    }
