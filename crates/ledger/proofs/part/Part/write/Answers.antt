use Rattle.ledger.proofs.Spelling.{stored_whole, stored_few}
use Rattle.ledger.proofs.part.Part.write.Goals as goal

pub invariant_of-self : goal.invariant_of-self
invariant_of-self c =
    let word = c.args.word.now in
    let stored = c.stored-self.result in
    let is = c.stored-self.ensures in
    record { short = c.requires.short; whole = stored_whole word stored c.requires.short is; few = stored_few word stored c.requires.short is c.requires.spelled }
