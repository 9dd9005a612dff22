use Rattle.std.proofs.Common.{◌≡◌, ◌-◌, ◌≤◌, [], ◌∷◌, ◌++◌, length, drop, sym, ap, ◌∙◌, subst, arith}
use Rattle.std.proofs.lemmas.Iterator.Adapters.{YieldsList-from_rev_slice}
use Rattle.std.proofs.lemmas.Iterator.Consumers.{YieldsList-turn, YieldsList-end}
use Rattle.std.proofs.lemmas.List.{drop_all, length-reverse, length_push}
use Rattle.std.proofs.lemmas.Result.{err_from_is_err_and}
use Rattle.kinds.specs.Numbers.{Says}
use Rattle.tables.specs.Words.{events_of}
use Rattle.tables.specs.Layout.{end_at, number_at, value}
use Rattle.tables.specs.Path.{backward}
use Rattle.tables.proofs.Strips.{stands_ok, stands_err, stands_more, starts_say, moved}
use Rattle.tables.proofs.Paths.{backward_up, path_ok, path_err}
use Rattle.tables.proofs.weighing.path.Goals as goal

pub loop-byte-init : goal.loop-byte-init
loop-byte-init g c stored =
    let N = g.K.Kind.numbers in
    let n = length c.args.vector.now in
    let run = c.args.run.now in
    let word = c.args.word.now in
    let all : length word ≤ length word - 0 = omega arith in
    moved N n (backward N n (value N run) (events_of (drop (length word - 0) word))) (λ j. number_at N run (end_at n j)) (number_at N c.ends.new.vector) c.ends.ensures
    (ap (λ l. backward N n (value N run) (events_of l)) (drop_all (length word - 0) word all), stored.ends)

pub loop-byte-preserved : goal.loop-byte-preserved
loop-byte-preserved g c stored =
    let N = g.K.Kind.numbers in
    let n = length c.args.vector.now in
    let word = c.args.word.now in
    let k = length c.loop-byte.yielded in
    let y = YieldsList-turn (YieldsList-from_rev_slice word cc) c.loop-byte.yielded _ c.loop-byte.yielded_by _ _ c.in-Some.byte c.in-Some.is c.next.ensures.steps in
    let long : n ≡ length c.loop-byte.vector = omega arith in
    let more : length word - length (c.loop-byte.yielded ++ c.in-Some.byte ∷ []) ≡ length word - k - 1 = omega (arith, length_push c.loop-byte.yielded c.in-Some.byte) in
    rw more (stands_ok N n (number_at N c.apply.new.vector) (stands_more N n c.args.run.now word k _ _ c.loop-byte.vector c.apply.new.vector _ y c.event_of.ensures long stored (c.loop-byte.invariant stored) c.apply.ensures) c.in_ok-apply.was)

pub returns-in_err-apply : goal.returns-in_err-apply
returns-in_err-apply g c stored =
    let N = g.K.Kind.numbers in
    let p = err_from_is_err_and c.from_residual.result c.from_residual.ensures.1 in
    let n = length c.args.vector.now in
    let t = value N c.args.run.now in
    let word = c.args.word.now in
    let k = length c.loop-byte.yielded in
    let y = YieldsList-turn (YieldsList-from_rev_slice word cc) c.loop-byte.yielded _ c.loop-byte.yielded_by _ _ c.in-Some.byte c.in-Some.is c.next.ensures.steps in
    let long : n ≡ length c.loop-byte.vector = omega arith in
    rw (p.1, p.2) (path_err N n t (events_of word) _ (backward_up N n t word (length word - k - 1) _ (stands_err N n (number_at N c.apply.new.vector) (stands_more N n c.args.run.now word k _ _ c.loop-byte.vector c.apply.new.vector _ y c.event_of.ensures long stored (c.loop-byte.invariant stored) c.apply.ensures) c.in_err-apply.was)))

pub returns : goal.returns
returns g c stored =
    let N = g.K.Kind.numbers in
    let n = length c.args.vector.now in
    let t = value N c.args.run.now in
    let word = c.args.word.now in
    let x = value N c.loop-byte.vector in
    let so_far = c.loop-byte.invariant stored in
    let y = YieldsList-end (YieldsList-from_rev_slice word cc) c.loop-byte.yielded _ c.loop-byte.yielded_by _ _ c.in-None.is c.next.ensures.steps in
    let none : length word - length c.loop-byte.yielded ≡ 0 = omega (arith, length-reverse word, y.1) in
    let whole = ap (λ i. backward N n t (events_of (drop i word))) (sym none) in
    let long : n ≡ length c.loop-byte.vector = omega arith in
    subst (λ v. Says N v c.dot.result) (sym (path_ok N n t (events_of word) x (whole ∙ so_far.0))) (starts_say N n c.args.run.now c.loop-byte.vector _ long c.dot.ensures stored.starts so_far.1)
