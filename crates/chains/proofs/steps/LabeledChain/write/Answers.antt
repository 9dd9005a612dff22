use Rattle.std.proofs.Common.{◌<◌, length, arith}
use Rattle.std.proofs.lemmas.List.{ext_get_or}
use Rattle.kinds.specs.Numbers.{zero_of}
use Rattle.kinds.specs.Count.{counts}
use Rattle.tables.specs.Layout.{number_at}
use Rattle.tables.proofs.Strips.{laid_more}
use Rattle.chains.specs.Chains.{chain_run}
use Rattle.chains.proofs.ChainRuns.{length_chain_run}
use Rattle.chains.proofs.steps.LabeledChain.write.Goals as goal

pub loop-place-preserved : goal.loop-place-preserved
loop-place-preserved c =
    let chain = c.args.self.now in
    let run = chain_run chain.states.count chain.letters.now chain.numbers.now chain.events.count in
    let room : c.loop-place.place < length c.loop-place.output = omega arith in
    laid_more counts c.loop-place.output c.loop-place.place c.table_number.result (number_at counts run) room c.loop-place.invariant c.table_number.ensures

pub returns : goal.returns
returns c =
    let chain = c.args.self.now in
    let run = chain_run chain.states.count chain.letters.now chain.numbers.now chain.events.count in
    let long = length_chain_run chain.states.count chain.letters.now chain.numbers.now chain.events.count in
    ext_get_or (zero_of counts) c.loop-place.output run (omega arith) (λ p h. c.loop-place.invariant p (omega arith))
