use Rattle.std.proofs.Common.{◌+◌, rules}
use Rattle.tables.specs.Layout.{step_at}
use Rattle.sheets.specs.Layout.{vector_at}
use Rattle.sheets.proofs.Standing.{never}
use Rattle.sheets.proofs.Placing.{scaled_step_ok}
use Rattle.sheets.proofs.sides.Side.scaled_step.Goals as goal

pub returns-in_err-image : goal.returns-in_err-image
returns-in_err-image g c = λ entered.
    let side = c.args.self.now in
    let page = c.args.page.now in
    absurd (never (c.in_err-image.ensures side.run.now page.run.now (step_at side.states c.args.event c.args.row) (λ p. vector_at page.width c.args.vector (side.shift + p)) entered.1 entered.0 (λ p r h post. search rules) (λ p r h post. search rules)))

pub returns : goal.returns
returns g c = λ entered.
    let side = c.args.self.now in
    let page = c.args.page.now in
    let image = c.in_ok-image.ensures side.run.now page.run.now (step_at side.states c.args.event c.args.row) (λ p. vector_at page.width c.args.vector (side.shift + p)) entered.1 entered.0 (λ p r h post. search rules) (λ p r h post. search rules) in
    scaled_step_ok g.K.Kind.numbers c.sums_of_entry_products_fit.ensures page side entered c.args.event c.args.vector c.args.row c.scale.ensures image c.multiply.ensures
