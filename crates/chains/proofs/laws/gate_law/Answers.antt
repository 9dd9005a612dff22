use Rattle.chains.proofs.Weighing.{gated_table_weighs}
use Rattle.chains.proofs.laws.gate_law.Goals as goal

pub returns : goal.returns
returns g c = gated_table_weighs g.K.Kind.numbers.exact
