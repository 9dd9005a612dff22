use Rattle.std.proofs.Common.{length, subst}
use Rattle.ledger.specs.View.{view}
use Rattle.uses.specs.Holds.{Table}
use Rattle.uses.specs.Weigh.{WeighedAt}
use Rattle.uses.proofs.Weighings.{as_stood, weighed_at}
use Rattle.book.proofs.reading.Reader.weigh_at.Goals as goal

pub returns-clause-answer : goal.returns-clause-answer
returns-clause-answer g c =
    let n = g.K.Kind.numbers in
    let kernel = c.weigh.ensures in
    let r = c.at_table.result in
    let strip = length c.args.strip.now in
    let t : Table g.row.K.Denot = record { states = c.table-table.result.states.count; run = c.table-table.result.run.now } in
    let there = weighed_at n t c.events.result.count c.args.place c.args.word.now strip c.weigh.result r c.at_table.ensures.range c.at_table.ensures.other kernel.early kernel.answer kernel.weight kernel.range in
    subst (λ t. WeighedAt n t (view c.args.self.now.ledger.now).events c.args.place c.args.word.now strip r) (as_stood c.args.self.now.shelf.now c.args.standing _ _ c.table-table.ensures.states c.table-table.ensures.run)
    (subst (λ e. WeighedAt n t e.count c.args.place c.args.word.now strip r) c.events.ensures there)
