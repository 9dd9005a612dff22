use Rattle.std.proofs.Common.{◌≡◌, ◌≤◌, length, None, ◌∙◌, sym, arith}
use Rattle.std.proofs.lemmas.List.{length-take-le}
use Rattle.tables.specs.Shape.{most_states}
use Rattle.tables.specs.Strip.{strip_size}
use Rattle.tables.specs.Weighing.{weigh_fault}
use Rattle.tables.proofs.Admitted.{not_refused, spelled, admitted_events, admitted_strip}
use Rattle.tables.proofs.shape.Table.weighed.Goals as goal

pub path-requires : goal.path-requires
path-requires g c =
    let k = c.args.events.count in
    let word = c.args.word.now in
    let m = length c.args.strip.now in
    let none : weigh_fault k word m ≡ None = not_refused (weigh_fault k word m) tt tt c.in_ok-admit.ensures in
    let sixteen : m ≡ strip_size = admitted_strip k word m none in
    let n = c.count-states.result in
    let few : n ≤ most_states = omega (arith, c.count-states.ensures, c.args.self.states.few) in
    let front : n ≤ length c.split_at_mut-vector.result.0.now = omega (arith, c.split_at_mut-vector.ensures.front_len) in
    let back : n ≤ length c.split_at_mut-vector.result.1.now = omega (arith, c.split_at_mut-vector.ensures.back_len) in
    let vector = length-take-le n c.split_at_mut-vector.result.0.now front in
    record {
      spelled = spelled k word c.args.events.few (admitted_events k word m none);
      few = omega (arith, vector);
      square = length-take-le n c.split_at_mut-vector.result.1.now back ∙ sym vector;
    }
