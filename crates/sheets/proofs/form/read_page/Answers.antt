use Rattle.std.proofs.Common.{sym, ◌∙◌, ap₂, ◌+◌, arith}
use Rattle.sheets.proofs.Shaping.{shaped, scale_refused}
use Rattle.sheets.proofs.form.read_page.Goals as goal

pub returns-else-cancels : goal.returns-else-cancels
returns-else-cancels g c =
    let N = g.K.Kind.numbers in
    let run = c.args.sheet.run.now in
    let right = shaped N run c.args.events.count _ c.args.sheet.vectors c.count-events.ensures (ap₂ ◌+◌ c.count.ensures c.count-2.ensures) (omega arith) (omega arith) c.if-run-size.false (sym c.first_other.ensures.value ∙ c.in_default.is) in
    scale_refused N run _ _ _ right c.number.ensures c.if-cancels.ensures _ c.of-else-cancels.ensures
