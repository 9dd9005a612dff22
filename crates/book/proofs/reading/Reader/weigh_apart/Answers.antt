use Rattle.std.proofs.Common.{length, Err, sym, ◌∙◌, subst}
use Rattle.ledger.specs.View.{view}
use Rattle.uses.specs.Part.{Apart}
use Rattle.uses.proofs.Partings.{equal_weights, first_refused, second_refused, weights_differ}
use Rattle.book.proofs.Passing.{handed_on}
use Rattle.book.proofs.reading.Reader.weigh_apart.Goals as goal

pub returns-in_err-first-clause-answer : goal.returns-in_err-first-clause-answer
returns-in_err-first-clause-answer g c =
    rw (handed_on c.from_residual-in_err-first.result c.in_err-first.field-0.0 c.from_residual-in_err-first.ensures.1)
    (first_refused _ _ _ _ _ _ _ c.in_ok-two.two c.in_ok-two.ensures _ c.clear.auto.strip _ c.in_err-first.ensures.answer)

pub returns-in_err-second-clause-answer : goal.returns-in_err-second-clause-answer
returns-in_err-second-clause-answer g c =
    rw (handed_on c.from_residual-in_err-second.result c.in_err-second.field-0.0 c.from_residual-in_err-second.ensures.1)
    (second_refused _ _ _ _ _ _ _ c.in_ok-two.two c.in_ok-two.ensures _ c.clear.auto.strip _ c.in_ok-first.ensures.answer _ (c.weigh_at.auto.strip ∙ c.clear.auto.strip) _ c.in_err-second.ensures.answer)

pub returns-then-equal-clause-answer : goal.returns-then-equal-clause-answer
returns-then-equal-clause-answer g c =
    subst (λ f. Apart g.K.Kind.numbers (view c.args.self.now.ledger.now) c.args.self.now.shelf.now c.args.a c.args.b c.args.word.now (length c.args.strip.now) (Err f)) (sym c.of.ensures)
    (equal_weights _ _ _ _ _ _ _ c.in_ok-two.two c.in_ok-two.ensures _ c.clear.auto.strip _ c.in_ok-first.ensures.answer _ (c.weigh_at.auto.strip ∙ c.clear.auto.strip) _ c.in_ok-second.ensures.answer c.equal.result c.equal.ensures c.if-equal.true)

pub returns-clause-answer : goal.returns-clause-answer
returns-clause-answer g c =
    weights_differ _ _ _ _ _ _ _ c.in_ok-two.two c.in_ok-two.ensures _ c.clear.auto.strip _ c.in_ok-first.ensures.answer _ (c.weigh_at.auto.strip ∙ c.clear.auto.strip) _ c.in_ok-second.ensures.answer c.equal.result c.equal.ensures c.if-equal.false
