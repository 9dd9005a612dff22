use Rattle.std.proofs.Common.{Err, ap, ◌∙◌}
use Rattle.std.proofs.lemmas.Result.{err_from_is_err_and}
use Rattle.sheets.specs.Answer.{starts_in, start_fault, step_and_end_fault}
use Rattle.sheets.proofs.Weighing.{kept_sheet_weighs_every_word_alike_from_starts}
use Rattle.sheets.proofs.Telling.{says_of, form_refused, starts_refused, starts_passed}
use Rattle.sheets.proofs.check_sheet.Goals as goal

pub returns-in_err-page : goal.returns-in_err-page
returns-in_err-page g c =
    let N = g.K.Kind.numbers in
    let a = c.args.a in
    let b = c.args.b in
    let e = err_from_is_err_and c.from_residual.result c.from_residual.ensures.1 in
    let t = form_refused N c.sums_of_entry_products_fit.ensures c.args.events.count a.states.count a.run.now b.states.count b.run.now c.args.sheet.vectors c.args.sheet.run.now a.states.few b.states.few c.from_residual.result _ c.in_err-page.ensures (e.1 ∙ ap Err e.2) in
    record { early = t.early; answer = t.answer; accepts_exactly = t.accepts_exactly; alike = t.alike; theorem = kept_sheet_weighs_every_word_alike_from_starts N.exact }

pub returns-in_err-check_starts : goal.returns-in_err-check_starts
returns-in_err-check_starts g c =
    let N = g.K.Kind.numbers in
    let a = c.args.a in
    let b = c.args.b in
    let law = c.sums_of_entry_products_fit.ensures in
    let k = c.args.events.count in
    let R = c.args.sheet.vectors in
    let sheet = c.args.sheet.run.now in
    let e = err_from_is_err_and c.from_residual-in_err-check_starts.result c.from_residual-in_err-check_starts.ensures.1 in
    let form = c.in_ok-page.ensures in
    let starts = says_of N law k a.states.count a.run.now b.states.count b.run.now R sheet c.in_ok-page.page form.2.0 c.count-states.ensures c.count.ensures (λ x l u v. start_fault N l u v (starts_in N a.run.now) (starts_in N b.run.now)) (λ hp ha hb. c.in_err-check_starts.ensures (hp, ha, hb)) in
    let t = starts_refused N law k a.states.count a.run.now b.states.count b.run.now R sheet a.states.few b.states.few (form.0, form.1, form.2.1) c.from_residual-in_err-check_starts.result _ starts (e.1 ∙ ap Err e.2) in
    record { early = t.early; answer = t.answer; accepts_exactly = t.accepts_exactly; alike = t.alike; theorem = kept_sheet_weighs_every_word_alike_from_starts N.exact }

pub returns : goal.returns
returns g c =
    let N = g.K.Kind.numbers in
    let a = c.args.a in
    let b = c.args.b in
    let law = c.sums_of_entry_products_fit.ensures in
    let k = c.args.events.count in
    let R = c.args.sheet.vectors in
    let sheet = c.args.sheet.run.now in
    let form = c.in_ok-page.ensures in
    let page = c.in_ok-page.page in
    let starts = says_of N law k a.states.count a.run.now b.states.count b.run.now R sheet page form.2.0 c.count-states.ensures c.count.ensures (λ x l u v. start_fault N l u v (starts_in N a.run.now) (starts_in N b.run.now)) (λ hp ha hb. c.in_ok-check_starts.ensures (hp, ha, hb)) in
    let rest = says_of N law k a.states.count a.run.now b.states.count b.run.now R sheet page form.2.0 c.count-states.ensures c.count.ensures (λ x l u v. step_and_end_fault N l u v x) (λ hp ha hb. c.check_steps_and_ends.ensures ((hp, ha), (hp, hb))) in
    let t = starts_passed N law k a.states.count a.run.now b.states.count b.run.now R sheet a.states.few b.states.few (form.0, form.1, form.2.1) c.check_steps_and_ends.result starts rest in
    record { early = t.early; answer = t.answer; accepts_exactly = t.accepts_exactly; alike = t.alike; theorem = kept_sheet_weighs_every_word_alike_from_starts N.exact }
