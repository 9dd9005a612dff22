use Rattle.std.proofs.Common.{◌+◌, length, Ok, sym, ap, ◌∙◌}
use Rattle.kinds.specs.Faults.{or_kept, or_refused}
use Rattle.kinds.proofs.Refusing.{refusal_refuses}
use Rattle.ledger.specs.Lines.{used}
use Rattle.ledger.specs.View.{view}
use Rattle.uses.specs.Enter.{enter_fault}
use Rattle.uses.specs.Holds.{laid}
use Rattle.uses.proofs.Entering.{Accepted, accepted}
use Rattle.uses.proofs.Leading.{enter_leads}
use Rattle.book.proofs.Passing.{handed_on}
use Rattle.book.proofs.book.Book.enter.Goals as goal

pub returns : goal.returns
returns g c =
    let l = c.args.self.now.ledger in
    let shelf = c.args.self.now.shelf.now in
    let run = c.args.run.now in
    let p = c.in_ok-placed.placed in
    let all : Accepted g.K.Kind.numbers (view l) (view c.place.new.ledger) shelf c.lay.new.shelf c.args.states run p.table =
    accepted g.K.Kind.numbers (view l) shelf c.args.states run p c.in_ok-placed.ensures.answer l.sound.packed (view c.place.new.ledger) c.lay.new.shelf c.place.ensures.after c.lay.ensures in
    record { answer = all.answer; ledger = all.ledger; shelf = all.laid_so; refused = tt; table = all.table; entries = all.entries; leads = enter_leads g.K.Kind.numbers (view l) shelf c.args.states run (Ok p.table) _ _ all.answer all.ledger all.laid_so }

pub returns-in_err-placed-clause-leads : goal.returns-in_err-placed-clause-leads
returns-in_err-placed-clause-leads g c =
    let n = g.K.Kind.numbers in
    let m = view c.args.self.now.ledger in
    let shelf = c.args.self.now.shelf.now in
    let run = c.args.run.now in
    let told = c.in_err-placed.ensures in
    let some = refusal_refuses (enter_fault n m (length shelf) c.args.states run) _ c.in_err-placed.field-0.0 told.answer in
    enter_leads n m shelf c.args.states run c.from_residual.result _ _
    (handed_on c.from_residual.result _ c.from_residual.ensures.1 ∙ sym (ap (λ o. or_refused o (length m.lines + 1)) some))
    told.after
    (sym (ap (λ o. or_kept o shelf (laid shelf (used m.events m.lines) run)) some))
