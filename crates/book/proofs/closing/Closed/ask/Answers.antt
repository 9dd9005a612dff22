use Rattle.std.proofs.Common.{sym, subst}
use Rattle.ledger.specs.View.{view}
use Rattle.uses.specs.Calls.{at}
use Rattle.uses.specs.Law.{LawAt}
use Rattle.uses.proofs.Law.{law_at}
use Rattle.book.proofs.closing.Closed.ask.Goals as goal

pub returns-clause-law : goal.returns-clause-law
returns-clause-law g c =
    let s = at (view c.args.self.now.ledger) c.args.self.now.shelf.now in
    subst (LawAt g.K.Kind.numbers s c.args.a c.args.b) (sym c.ask.ensures) (law_at g.K.Kind.numbers s c.args.a c.args.b)
