use Rattle.trials.proofs.Tests.{worked_examples_hold}
use Rattle.trials.proofs.examples.worked_examples_hold.Goals as goal

pub returns : goal.returns
returns c = worked_examples_hold
