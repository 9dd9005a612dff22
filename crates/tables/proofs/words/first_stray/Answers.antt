use Rattle.std.proofs.Common.{◌≡◌, ◌+◌, get_or, Some, None, sym, ◌∙◌}
use Rattle.std.proofs.lemmas.List.{at_drop_all, get_or_default}
use Rattle.tables.specs.Words.{is_event, first_stray}
use Rattle.tables.proofs.Firsts.{first_here, first_is_first}
use Rattle.tables.proofs.words.first_stray.Goals as goal

pub returns-then-not-is_event : goal.returns-then-not-is_event
returns-then-not-is_event c =
    let k = c.args.events.count in
    let word = c.args.word.now in
    let i = c.loop-i.i in
    let byte = get_or word i 0 in
    let value : Some (i + 1) ≡ first_stray k 1 word = sym (first_here (is_event k) word i byte c.loop-i-test.true (get_or_default word i 0 byte c.loop-i-test.true) (sym c.if-not-is_event.ensures)) ∙ c.loop-i.invariant in
    record { value = value; first = first_is_first (is_event k) 0 word (Some (i + 1)) value }

pub returns : goal.returns
returns c =
    let k = c.args.events.count in
    let word = c.args.word.now in
    let i = c.loop-i.i in
    let value : None ≡ first_stray k 1 word = sym (at_drop_all (first_stray k (i + 1)) word i c.loop-i-test.false) ∙ c.loop-i.invariant in
    record { value = value; first = first_is_first (is_event k) 0 word None value }
