use Rattle.std.proofs.Common.{Ok, ap}
use Rattle.sheets.proofs.Standing.{compared}
use Rattle.sheets.proofs.Placing.{start_sum_stands}
use Rattle.sheets.proofs.sides.Comparison.start_holds.Goals as goal

pub returns : goal.returns
returns g c = λ entered.
    let N = g.K.Kind.numbers in
    let law = c.sums_of_entry_products_fit.ensures in
    let all = c.args.self.now in
    let left = start_sum_stands N law all.page all.a c.args.a_starts.now entered.0 entered.1 c.args.vector (c.in_ok-left.ensures entered.1 entered.0) in
    let right = start_sum_stands N law all.page all.b c.args.b_starts.now entered.0 entered.2 c.args.vector (c.in_ok-right.ensures entered.2 entered.0) in
    ap Ok (compared N left right c.equal.ensures)
