use Rattle.std.proofs.Common.{◌≡◌, ◌+◌, ◌-◌, ◌*◌, ◌/◌, ◌%◌, ◌≢◌, get_or, sym, ap, ◌∙◌, arith}
use Rattle.std.proofs.lemmas.Bool.{eq-eqb, ne_eqb, cond-true, cond-false}
use Rattle.kinds.specs.Count.{counts}
use Rattle.tables.specs.Layout.{number_at}
use Rattle.chains.specs.Chains.{chain_run}
use Rattle.chains.proofs.ChainRuns.{start_stands, end_stands, step_stands_at}
use Rattle.chains.proofs.steps.LabeledChain.table_number.Goals as goal

pub returns-then-place-n : goal.returns-then-place-n
returns-then-place-n c =
    let chain = c.args.self.now in
    c.number.ensures ∙ sym (start_stands chain.states.count chain.letters.now chain.numbers.now chain.events.count c.args.place (omega arith))

pub returns-then-place-n-2 : goal.returns-then-place-n-2
returns-then-place-n-2 c =
    let chain = c.args.self.now in
    let n = chain.states.count in
    let at : c.args.place ≡ n + (c.args.place - n) = omega arith in
    sym (ap (number_at counts (chain_run n chain.letters.now chain.numbers.now chain.events.count)) at ∙ end_stands n chain.letters.now chain.numbers.now chain.events.count (c.args.place - n) (omega arith))

pub returns-then-event_of-event : goal.returns-then-event_of-event
returns-then-event_of-event c =
    let chain = c.args.self.now in
    let n = c.count-n.result in
    let step = c.args.place - 2 * n in
    let letter = get_or chain.letters.now (step % (n * n) / n) 0 in
    let spelled : letter ≡ step / (n * n) + 1 + 96 = omega (arith, c.event_of.ensures, c.if-event_of-event.true) in
    step_stands_at chain.letters.now chain.numbers.now chain.events.count c.args.place _ c.count-n.ensures chain.states.some c.if-place-n-2.false c.requires (c.number-then-event_of-event.ensures ∙ sym (cond-true _ _ _ (eq-eqb letter (step / (n * n) + 1 + 96) spelled)))

pub returns-else-event_of-event : goal.returns-else-event_of-event
returns-else-event_of-event c =
    let chain = c.args.self.now in
    let n = c.count-n.result in
    let step = c.args.place - 2 * n in
    let letter = get_or chain.letters.now (step % (n * n) / n) 0 in
    let other : letter ≢ step / (n * n) + 1 + 96 = λ e. c.if-event_of-event.false (omega (arith, c.event_of.ensures, e)) in
    step_stands_at chain.letters.now chain.numbers.now chain.events.count c.args.place _ c.count-n.ensures chain.states.some c.if-place-n-2.false c.requires (sym (cond-false _ _ _ (ne_eqb letter (step / (n * n) + 1 + 96) other)))
