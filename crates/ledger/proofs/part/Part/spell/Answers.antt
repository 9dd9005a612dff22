use Rattle.std.proofs.Common.{arith}
use Rattle.ledger.proofs.Spelling.{letters_more}
use Rattle.ledger.proofs.part.Part.spell.Goals as goal

pub loop-letter-preserved : goal.loop-letter-preserved
loop-letter-preserved c =
    let p = c.args.self.now in
    letters_more p.size p.events c.copy_from_slice.new.self c.loop-letter.letters c.loop-letter.letter-index c.letter_of.result c.copy_from_slice.ensures.after p.few (omega arith) c.loop-letter.invariant c.letter_of.ensures
