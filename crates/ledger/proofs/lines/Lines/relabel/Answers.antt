use Rattle.std.proofs.Common.{rules}
use Rattle.std.proofs.lemmas.List.Edits.{map_over_more}
use Rattle.ledger.specs.Classes.{relabelled}
use Rattle.ledger.proofs.lines.Lines.relabel.Goals as goal

pub loop-line-preserved : goal.loop-line-preserved
loop-line-preserved c = search (rules, map_over_more (relabelled c.args.from c.args.to))
