use Rattle.std.proofs.Common.{◌≡◌, Ok, ap, ◌∙◌, arith}
use Rattle.sheets.specs.Views.{dotted}
use Rattle.sheets.proofs.Standing.{never, same_ok}
use Rattle.sheets.proofs.Dotting.{product_ok, sum_ok}
use Rattle.sheets.proofs.sums.sum_of_products.Goals as goal

pub loop-place-init : goal.loop-place-init
loop-place-init g c = λ xs ys at by hx hy left right. c.zero-sum.ensures

pub returns-in_err-multiply : goal.returns-in_err-multiply
returns-in_err-multiply g c = λ xs ys at by hx hy left right.
    let inside = c.loop-place-test.true in
    absurd (never (product_ok g.K.Kind.numbers c.sums_of_entry_products_fit.ensures xs ys hx hy at by c.loop-place.place (left _ _ inside c.left.ensures) (right _ _ inside c.right.ensures) c.in_err-multiply.ensures))

pub returns-in_err-sum : goal.returns-in_err-sum
returns-in_err-sum g c = λ xs ys at by hx hy left right.
    let N = g.K.Kind.numbers in
    let law = c.sums_of_entry_products_fit.ensures in
    let inside = c.loop-place-test.true in
    let p = product_ok N law xs ys hx hy at by c.loop-place.place (left _ _ inside c.left.ensures) (right _ _ inside c.right.ensures) c.in_ok-multiply.ensures in
    absurd (never (sum_ok N law xs ys hx hy at by c.loop-place.place (omega arith) (c.loop-place.invariant xs ys at by hx hy left right) p c.in_err-sum.ensures))

pub loop-place-preserved : goal.loop-place-preserved
loop-place-preserved g c = λ xs ys at by hx hy left right.
    let N = g.K.Kind.numbers in
    let law = c.sums_of_entry_products_fit.ensures in
    let inside = c.loop-place-test.true in
    let p = product_ok N law xs ys hx hy at by c.loop-place.place (left _ _ inside c.left.ensures) (right _ _ inside c.right.ensures) c.in_ok-multiply.ensures in
    same_ok (sum_ok N law xs ys hx hy at by c.loop-place.place (omega arith) (c.loop-place.invariant xs ys at by hx hy left right) p c.in_ok-sum.ensures)

pub returns : goal.returns
returns g c = λ xs ys at by hx hy left right.
    let N = g.K.Kind.numbers in
    let last : c.loop-place.place ≡ c.args.count = omega arith in
    ap Ok (c.loop-place.invariant xs ys at by hx hy left right ∙ ap (λ n. N.write (dotted N n xs at ys by)) last)
