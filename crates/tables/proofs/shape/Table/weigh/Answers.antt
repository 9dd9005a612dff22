use Rattle.std.proofs.Common.{◌≡◌, length, ◌∙◌, arith}
use Rattle.tables.specs.Weighing.{weigh_fault}
use Rattle.tables.proofs.Strips.{cleared_after}
use Rattle.tables.proofs.Weighed.{weighed_answer, weighed_weight, weighed_ranged}
use Rattle.tables.proofs.shape.Table.weigh.Goals as goal

pub returns : goal.returns
returns g c =
    let N = g.K.Kind.numbers in
    let n = c.args.self.states.count in
    let run = c.args.self.run.now in
    let word = c.args.word.now in
    let was = c.args.strip.now in
    let used = c.weighed-weight.new.strip in
    let o = weigh_fault c.args.events.count word (length was) in
    let r = c.weighed-weight.result in
    let early = c.weighed-weight.ensures.early in
    let says = c.weighed-weight.ensures.says in
    let long : length used ≡ length was = omega arith in
    record {
      early = early;
      answer = weighed_answer N n run word r o early says;
      weight = weighed_weight N n run word r o early says;
      range = weighed_ranged N n run word r o says;
      strip = c.clear.ensures ∙ cleared_after N used was long c.weighed-weight.ensures.kept;
    }
