use Rattle.std.proofs.Common.{Ok, ap, rules}
use Rattle.sheets.specs.Tests.{end_row_kept}
use Rattle.sheets.specs.Views.{on_side}
use Rattle.sheets.proofs.Standing.{never}
use Rattle.sheets.proofs.Trying.{tells_every}
use Rattle.sheets.proofs.sides.Side.ends_hold.Goals as goal

pub returns-in_err-failing : goal.returns-in_err-failing
returns-in_err-failing g c = λ entered.
    let N = g.K.Kind.numbers in
    absurd (never (c.in_err-failing.ensures (on_side N (end_row_kept N) c.args.page.now c.args.self.now) (λ p r h post. search rules)))

pub returns : goal.returns
returns g c = λ entered.
    let N = g.K.Kind.numbers in
    let f = on_side N (end_row_kept N) c.args.page.now c.args.self.now in
    let found = c.in_ok-failing.ensures f (λ p r h post. search rules) in
    ap Ok (tells_every f c.args.self.now.states _ _ found c.is_none.ensures)
