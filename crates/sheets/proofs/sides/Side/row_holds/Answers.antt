use Rattle.std.proofs.Common.{Ok, ap, rules}
use Rattle.sheets.specs.Layout.{stepping_at}
use Rattle.sheets.proofs.Standing.{never}
use Rattle.sheets.proofs.Placing.{step_row_is}
use Rattle.sheets.proofs.sides.Side.row_holds.Goals as goal

pub returns-in_err-mixed : goal.returns-in_err-mixed
returns-in_err-mixed g c = λ entered.
    let page = c.args.page.now in
    absurd (never (c.in_err-mixed.ensures (stepping_at page.width page.vectors c.args.event c.args.vector) (λ p r h post. search rules) entered))

pub returns : goal.returns
returns g c = λ entered.
    let N = g.K.Kind.numbers in
    let page = c.args.page.now in
    let mixed = c.in_ok-mixed.ensures (stepping_at page.width page.vectors c.args.event c.args.vector) (λ p r h post. search rules) entered in
    ap Ok (step_row_is N c.sums_of_entry_products_fit.ensures page c.args.self.now entered c.args.event c.args.vector c.args.row (c.in_ok-scaled.ensures entered) mixed c.equal.ensures)
