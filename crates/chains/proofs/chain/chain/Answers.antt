use Rattle.std.proofs.Common.{◌≡◌, length, pos, sym, ap, ◌∙◌, ap₂, subst}
use Rattle.kinds.specs.Faults.{or_kept}
use Rattle.kinds.specs.Whole.{whole}
use Rattle.kinds.specs.Count.{counts}
use Rattle.kinds.proofs.Refusing.{answer_passes, refusal_refuses}
use Rattle.tables.specs.Entries.{AllEntries}
use Rattle.tables.specs.Layout.{value}
use Rattle.chains.specs.Gates.{Weighs}
use Rattle.chains.specs.Chains.{numerator, chain_run}
use Rattle.chains.proofs.Admission.{admitted, passed_events, passed_states, same_fault}
use Rattle.chains.proofs.Plain.{chain_weighs}
use Rattle.chains.proofs.chain.chain.Goals as goal

pub returns-in_err-admit-clause-output : goal.returns-in_err-admit-clause-output
returns-in_err-admit-clause-output c =
    let letters = c.args.given.letters.now in
    let numbers = c.args.given.numbers.now in
    let was = c.args.output.now in
    let same = same_fault c.args.events c.in_ok-events.events.count c.args.given.states c.in_ok-states.states.count c.args.given.scale letters numbers (length was) c.in_ok-events.ensures c.in_ok-states.ensures in
    let refused = sym same ∙ refusal_refuses _ tt c.in_err-admit.field-0.0 c.in_err-admit.ensures in
    sym (ap (λ o. or_kept o was (chain_run c.args.given.states letters numbers c.args.events)) refused)

pub returns-clause-weighs : goal.returns-clause-weighs
returns-clause-weighs c = λ w all.
    let k = c.args.events in
    let n = c.args.given.states in
    let letters = c.args.given.letters.now in
    let numbers = c.args.given.numbers.now in
    let room = length c.args.output.now in
    let same = same_fault k c.in_ok-events.events.count n c.in_ok-states.states.count c.args.given.scale letters numbers room c.in_ok-events.ensures c.in_ok-states.ensures in
    let none = sym same ∙ (answer_passes _ tt tt c.in_ok-admit.ensures).0 in
    let written : c.write.new.output ≡ chain_run n letters numbers k = c.write.ensures ∙ ap₂ (λ m j. chain_run m letters numbers j) (passed_states n _ c.in_ok-states.ensures) (passed_events k _ c.in_ok-events.ensures) in
    subst (λ run. Weighs whole n (value counts run) (pos c.args.given.scale) (numerator n letters numbers) w) (sym written) (chain_weighs letters n numbers k c.args.given.scale (admitted k n c.args.given.scale letters numbers room none).add_up w all)

pub returns-clause-entries : goal.returns-clause-entries
returns-clause-entries c =
    let none = (answer_passes _ tt tt c.in_ok-admit.ensures).0 in
    subst (AllEntries counts) (sym c.write.ensures) (admitted c.in_ok-events.events.count c.in_ok-states.states.count c.args.given.scale c.args.given.letters.now c.args.given.numbers.now (length c.args.output.now) none).entries
