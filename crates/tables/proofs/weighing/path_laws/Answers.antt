use Rattle.tables.proofs.Sequences.{backward_sum_is_weight}
use Rattle.tables.proofs.Ranges.{path_is_weight, path_refuses_exactly_where_it_does_not_fit}
use Rattle.tables.proofs.weighing.path_laws.Goals as goal

pub returns : goal.returns
returns g c =
    let N = g.K.Kind.numbers in
    record {
      backward = backward_sum_is_weight N.exact;
      weight = path_is_weight N;
      range = path_refuses_exactly_where_it_does_not_fit N;
    }
