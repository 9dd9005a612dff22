use Rattle.std.proofs.Common.{ℕ, ◌+◌, ◌*◌, ◌<◌, length, arith}
use Rattle.std.proofs.lemmas.Result.{err_from_is_err_and}
use Rattle.kinds.proofs.Answers.{says_err}
use Rattle.tables.specs.Layout.{number_at}
use Rattle.tables.specs.Strip.{dotted}
use Rattle.tables.proofs.Sums.{rows_listed, rows_stop}
use Rattle.tables.proofs.weighing.fill.Goals as goal

pub returns-in_err-x : goal.returns-in_err-x
returns-in_err-x g c rows held =
    let N = g.K.Kind.numbers in
    let p = err_from_is_err_and c.from_residual.result c.from_residual.ensures.1 in
    let v = c.args.vector.now in
    let n = length v in
    let i = c.loop-i.i in
    let near : i < n = omega arith in
    let q = says_err N _ (c.dot.ensures (rows i near) held) c.in_err-x.was in
    let so_far = c.loop-i.invariant rows held in
    rw (p.1, p.2) (rows_stop N i n (λ (i : ℕ). dotted N c.args.run.now (c.args.at + i * n) v) (λ j. N.read (number_at N c.loop-i.rows j)) _ near (λ j h. (so_far j h).0) q)

pub returns : goal.returns
returns g c rows held =
    let N = g.K.Kind.numbers in
    let v = c.args.vector.now in
    let n = length v in
    let so_far = c.loop-i.invariant rows held in
    (rows_listed N n (λ (i : ℕ). dotted N c.args.run.now (c.args.at + i * n) v) (λ j. N.read (number_at N c.loop-i.rows j)) (λ j h. (so_far j (omega arith)).0), λ j h. (so_far j (omega arith)).1)
