use Rattle.std.proofs.Common.{Ok, ap, rules}
use Rattle.sheets.specs.Layout.{ending_at}
use Rattle.sheets.proofs.Standing.{never}
use Rattle.sheets.proofs.Placing.{scaled_end_ok, end_row_is}
use Rattle.sheets.proofs.sides.Side.end_holds.Goals as goal

pub returns-in_err-scaled : goal.returns-in_err-scaled
returns-in_err-scaled g c = λ entered.
    absurd (never (scaled_end_ok g.K.Kind.numbers c.sums_of_entry_products_fit.ensures c.args.page.now c.args.self.now entered c.args.row c.scale.ensures c.end.ensures c.in_err-scaled.ensures))

pub returns-in_err-mixed : goal.returns-in_err-mixed
returns-in_err-mixed g c = λ entered.
    let page = c.args.page.now in
    absurd (never (c.in_err-mixed.ensures (ending_at page.width page.vectors page.events) (λ p r h post. search rules) entered))

pub returns : goal.returns
returns g c = λ entered.
    let N = g.K.Kind.numbers in
    let law = c.sums_of_entry_products_fit.ensures in
    let page = c.args.page.now in
    let side = c.args.self.now in
    let scaled = scaled_end_ok N law page side entered c.args.row c.scale.ensures c.end.ensures c.in_ok-scaled.ensures in
    let mixed = c.in_ok-mixed.ensures (ending_at page.width page.vectors page.events) (λ p r h post. search rules) entered in
    ap Ok (end_row_is N law page side entered c.args.row scaled mixed c.equal.ensures)
