use Rattle.std.proofs.Common.{◌≡◌, ◌+◌, drop, Some, None, sym, ◌∙◌}
use Rattle.std.proofs.lemmas.List.{at_drop_all}
use Rattle.kinds.specs.Numbers.{is_entry, zero_of}
use Rattle.tables.specs.Entries.{first_other}
use Rattle.tables.proofs.Firsts.{first_here, first_is_first}
use Rattle.tables.proofs.entries.first_other.Goals as goal

pub returns-then-not-is_entry : goal.returns-then-not-is_entry
returns-then-not-is_entry g c =
    let N = g.K.Kind.numbers in
    let run = c.args.run.now in
    let i = c.loop-i.i in
    let here : first_other N (i + 1) (drop i run) ≡ Some (i + 1) = first_here (is_entry N) run i c.index-run-i.result c.loop-i-test.true c.index-run-i.is (sym c.if-not-is_entry.ensures) in
    let value : Some (i + 1) ≡ first_other N 1 run = sym here ∙ c.loop-i.invariant in
    record { value = value; first = first_is_first (is_entry N) (zero_of N) run (Some (i + 1)) value }

pub returns : goal.returns
returns g c =
    let N = g.K.Kind.numbers in
    let run = c.args.run.now in
    let i = c.loop-i.i in
    let value : None ≡ first_other N 1 run = sym (at_drop_all (first_other N (i + 1)) run i c.loop-i-test.false) ∙ c.loop-i.invariant in
    record { value = value; first = first_is_first (is_entry N) (zero_of N) run None value }
