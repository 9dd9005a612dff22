use Rattle.std.proofs.Common.{◌≡◌, false, Ok, sym, ap}
use Rattle.sheets.proofs.Trying.{first_found}
use Rattle.sheets.proofs.firsts.first_failing.Goals as goal

pub returns-then-not-branch : goal.returns-then-not-branch
returns-then-not-branch g c = λ f says.
    let told = says _ _ c.loop-place-test.true c.in_ok-test.ensures in
    let fails : f c.loop-place.place ≡ false = cc in
    ap Ok (sym (first_found f c.args.count c.loop-place.place c.loop-place-test.true (c.loop-place.invariant f says) fails))
