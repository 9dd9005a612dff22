use Rattle.std.proofs.Common.{replicate, refl}
use Rattle.ledger.specs.View.{view}
use Rattle.lines.specs.Words.{letters}
use Rattle.tables.specs.Words.{longest_word}
use Rattle.serving.proofs.Lettered.{letters_shown}
use Rattle.serving.proofs.asking.word_of.Goals as goal

pub returns : goal.returns
returns g c =
    let ledger = c.args.book.now.ledger in
    let told = c.in_ok-count.ensures in
    λ has. letters_shown ledger.events.count ledger.tables ledger.events.few (view ledger).parts ledger.parted c.args.part has (replicate longest_word 0) refl
    c.in_ok-count.count
    c.word.new.run
    (letters c.new.result)
    told.answer
    told.run
    c.new.ensures.letters
