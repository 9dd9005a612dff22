use Rattle.text.proofs.Cuts.{split_are_fields}
use Rattle.text.proofs.fields.Fields.new.Goals as goal

pub returns-clause-joined_by_commas : goal.returns-clause-joined_by_commas
returns-clause-joined_by_commas c = split_are_fields c.args.line.now
