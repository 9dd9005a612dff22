use Rattle.std.proofs.Common.{ℕ, ◌+◌, ◌<◌, ◌≤◌, length, arith}
use Rattle.std.proofs.lemmas.List.{get_or_read}
use Rattle.std.proofs.lemmas.Result.{err_from_is_err_and}
use Rattle.kinds.specs.Numbers.{zero_of}
use Rattle.kinds.proofs.Answers.{answer_says, says_ok, says_err}
use Rattle.tables.specs.Layout.{value}
use Rattle.tables.proofs.Sums.{sums_up, sums_more, sums_no_product, sums_no_sum}
use Rattle.tables.proofs.Strips.{product_says}
use Rattle.tables.proofs.weighing.dot.Goals as goal

pub returns-in_err-product : goal.returns-in_err-product
returns-in_err-product g c row held =
    let N = g.K.Kind.numbers in
    let v = c.args.vector.now in
    let j = c.loop-j.j in
    let near : j < length v = omega arith in
    let p = err_from_is_err_and c.from_residual.result c.from_residual.ensures.1 in
    let so_far = c.loop-j.invariant row held in
    let f = λ (j : ℕ). value N c.args.run.now (c.args.at + j) in
    let y = get_or_read v j c.index-vector-j.result near c.index-vector-j.is (zero_of N) in
    let e = says_err N _ (product_says N _ _ _ _ _ c.number-x.ensures y (row j near) (held j near) c.multiply.ensures) c.in_err-product.was in
    let under : j + 1 ≤ length v = omega arith in
    rw (p.1, p.2) (sums_up N (j + 1) (length v) f (value N v) _ under (sums_no_product N f (value N v) j _ so_far.0 _ e))

pub returns-in_err-sum : goal.returns-in_err-sum
returns-in_err-sum g c row held =
    let N = g.K.Kind.numbers in
    let v = c.args.vector.now in
    let j = c.loop-j.j in
    let near : j < length v = omega arith in
    let p = err_from_is_err_and c.from_residual-in_err-sum.result c.from_residual-in_err-sum.ensures.1 in
    let so_far = c.loop-j.invariant row held in
    let f = λ (j : ℕ). value N c.args.run.now (c.args.at + j) in
    let y = get_or_read v j c.index-vector-j.result near c.index-vector-j.is (zero_of N) in
    let q = says_ok N _ (product_says N _ _ _ _ _ c.number-x.ensures y (row j near) (held j near) c.multiply.ensures) c.in_ok-product.was in
    let e = says_err N _ (answer_says N _ _ (c.add.ensures so_far.1 q.1)) c.in_err-sum.was in
    let under : j + 1 ≤ length v = omega arith in
    rw (p.1, p.2) (sums_up N (j + 1) (length v) f (value N v) _ under (sums_no_sum N f (value N v) j _ so_far.0 _ _ q.0 e))

pub loop-j-preserved : goal.loop-j-preserved
loop-j-preserved g c row held =
    let N = g.K.Kind.numbers in
    let v = c.args.vector.now in
    let j = c.loop-j.j in
    let near : j < length v = omega arith in
    let so_far = c.loop-j.invariant row held in
    let f = λ (j : ℕ). value N c.args.run.now (c.args.at + j) in
    let y = get_or_read v j c.index-vector-j.result near c.index-vector-j.is (zero_of N) in
    let q = says_ok N _ (product_says N _ _ _ _ _ c.number-x.ensures y (row j near) (held j near) c.multiply.ensures) c.in_ok-product.was in
    let t = says_ok N _ (answer_says N _ _ (c.add.ensures so_far.1 q.1)) c.in_ok-sum.was in
    (sums_more N f (value N v) j _ so_far.0 _ _ q.0 t.0, t.1)
