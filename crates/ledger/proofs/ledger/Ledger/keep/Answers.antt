use Rattle.std.proofs.Common.{Err, refl, ap, ◌∙◌, arith}
use Rattle.ledger.proofs.Held.{after_parted, after_whole, ledger_is_full, word_is_kept, writes}
use Rattle.ledger.proofs.ledger.Ledger.keep.Goals as goal

pub returns-then-kept-ge-MOST_PARTS : goal.returns-then-kept-ge-MOST_PARTS
returns-then-kept-ge-MOST_PARTS c =
    let says = ledger_is_full c.args.self.now c.args.a c.args.b c.args.word.now _ c.in_ok-two_tables.ensures c.in_ok-admit_word.ensures c.if-kept-ge-MOST_PARTS.true in
    record { answer = ap Err c.of.ensures ∙ says.answer; parts = says.parts; lines = refl; events = refl; refused = refl }

pub write-requires : goal.write-requires
write-requires c = writes c.args.self.now c.args.a c.args.b c.args.word.now _ c.in_ok-two_tables.ensures c.in_ok-admit_word.ensures c.if-kept-ge-MOST_PARTS.false

pub invariant_of-self : goal.invariant_of-self
invariant_of-self c =
    let l = c.args.self.now in
    let whole = after_whole l c.args.a c.args.b c.args.word.now _ c.in_ok-two_tables.ensures c.in_ok-admit_word.ensures c.if-kept-ge-MOST_PARTS.false c.write.new.self.all c.write.ensures in
    let parted = after_parted l c.args.a c.args.b c.args.word.now _ c.in_ok-two_tables.ensures c.in_ok-admit_word.ensures c.if-kept-ge-MOST_PARTS.false c.write.new.self.all c.write.ensures in
    record {
      few = l.few;
      full = l.full;
      sound = l.sound;
      spare = omega arith;
      records = whole;
      parted = parted;
    }

pub returns : goal.returns
returns c =
    let says = word_is_kept c.args.self.now c.args.a c.args.b c.args.word.now _ c.in_ok-two_tables.ensures c.in_ok-admit_word.ensures c.if-kept-ge-MOST_PARTS.false c.write.new.self.all c.write.ensures in
    record { answer = says.answer; parts = says.parts; lines = refl; events = refl; refused = tt }
