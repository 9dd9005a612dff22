use Rattle.std.proofs.Common.{◌≡◌, Err, ap, ◌∙◌}
use Rattle.std.proofs.lemmas.Result.{err_from_is_err_and}
use Rattle.lines.specs.declared.replies.Reply.TheVariants.{Joined}
use Rattle.serving.specs.Serving.{replied}
use Rattle.serving.proofs.serving.join.Goals as goal

pub returns-in_err-join : goal.returns-in_err-join
returns-in_err-join g c =
    let told = c.in_err-join.ensures in
    let p = err_from_is_err_and c.from_residual.result c.from_residual.ensures.1 in
    let is : c.from_residual.result ≡ Err c.in_err-join.field-0.0 = p.1 ∙ ap Err p.2 in
    record { served = λ h. let s = told.answer h in (s.0, s.1, (is ∙ ap (replied (λ _. Joined)) s.2.0, s.2.1)); shelf = told.shelf; entries = told.entries }

pub returns : goal.returns
returns g c =
    let told = c.in_ok-join.ensures in
    record { served = λ h. let s = told.answer h in (s.0, s.1, (ap (replied (λ _. Joined)) s.2.0, s.2.1)); shelf = told.shelf; entries = told.entries }
