use Rattle.std.proofs.Common.{sym, ◌∙◌, subst}
use Rattle.ledger.specs.View.{view}
use Rattle.uses.specs.Holds.{Table, table_at}
use Rattle.ledger.specs.Standing.{TwoTables}
use Rattle.uses.proofs.Weighings.{as_stood, standing_is}
use Rattle.uses.specs.Join.{JoinSays}
use Rattle.uses.proofs.Joinings.{SheetSays, checked_in_book, refused_in_book}
use Rattle.book.proofs.Passing.{handed_on}
use Rattle.book.proofs.reading.Reader.check_join.Goals as goal

pub returns : goal.returns
returns g c =
    let n = g.K.Kind.numbers in
    let m = view c.args.self.now.ledger.now in
    let shelf = c.args.self.now.shelf.now in
    let sheet = c.args.sheet.now in
    let r = c.check_sheet.result in
    let left = c.in_ok-two.two.first in
    let right = c.in_ok-two.two.second in
    let told = c.in_ok-two.ensures in
    let at_a = told.0 in
    let at_b = told.1 in
    let two : TwoTables m.lines c.args.a c.args.b = record { first = at_a.there; second = at_b.there; apart = told.2 } in
    let s : Table g.row.K.Denot = record { states = c.table.result.states.count; run = c.table.result.run.now } in
    let t : Table g.row.K.Denot = record { states = c.table-2.result.states.count; run = c.table-2.result.run.now } in
    let e = as_stood shelf left _ _ c.table.ensures.states c.table.ensures.run ∙ standing_is n m shelf c.args.a left at_a in
    let f = as_stood shelf right _ _ c.table-2.ensures.states c.table-2.ensures.run ∙ standing_is n m shelf c.args.b right at_b in
    let kernel = c.check_sheet.ensures in
    let raw : SheetSays n c.events.result.count s t c.args.vectors sheet r = record { early = kernel.early; answer = kernel.answer; exactly = kernel.accepts_exactly; alike = kernel.alike } in
    let here : SheetSays n m.events (table_at m shelf c.args.a) (table_at m shelf c.args.b) c.args.vectors sheet r =
    subst (λ x. SheetSays n m.events x (table_at m shelf c.args.b) c.args.vectors sheet r) e
    (subst (λ x. SheetSays n m.events s x c.args.vectors sheet r) f
    (subst (λ e. SheetSays n e.count s t c.args.vectors sheet r) c.events.ensures raw)) in
    checked_in_book n m shelf c.args.a c.args.b c.args.vectors sheet two r here

pub returns-in_err-two : goal.returns-in_err-two
returns-in_err-two g c =
    let m = view c.args.self.now.ledger.now in
    let f = c.in_err-two.field-0.0 in
    subst (JoinSays g.K.Kind.numbers m c.args.self.now.shelf.now c.args.a c.args.b c.args.vectors c.args.sheet.now) (sym (handed_on c.from_residual.result f c.from_residual.ensures.1))
    (refused_in_book g.K.Kind.numbers m c.args.self.now.shelf.now c.args.a c.args.b c.args.vectors c.args.sheet.now f c.in_err-two.ensures)
