use Rattle.std.proofs.Common.{◌+◌, rules}
use Rattle.tables.specs.Layout.{start_at}
use Rattle.sheets.specs.Layout.{vector_at}
use Rattle.sheets.proofs.sides.Side.sum_of_starts.Goals as goal

pub returns : goal.returns
returns g c = λ starts entered.
    let page = c.args.page.now in
    c.sum_of_products.ensures c.args.starts.now page.run.now start_at (λ p. vector_at page.width c.args.vector (c.args.self.now.shift + p)) starts entered (λ p r h post. search rules) (λ p r h post. search rules)
