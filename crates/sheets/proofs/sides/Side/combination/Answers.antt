use Rattle.std.proofs.Common.{◌+◌, rules}
use Rattle.sheets.specs.Layout.{vector_at}
use Rattle.sheets.proofs.sides.Side.combination.Goals as goal

pub returns : goal.returns
returns g c = λ at gives entered.
    let page = c.args.page.now in
    c.sum_of_products.ensures page.run.now page.run.now at (λ q. vector_at page.width q (c.args.self.now.shift + c.args.row)) entered.0 entered.0 gives (λ p r h post. search rules)
