use Rattle.std.proofs.Common.{◌≡◌, ◌-◌, length, take, Ok, sym, refl, ap, ◌∙◌, subst}
use native.Mathlib.Nat.{sub-zero}
use Rattle.ledger.specs.View.{view}
use Rattle.statements.specs.Statements.{asked_by, enter, join, weigh}
use Rattle.serving.specs.Serving.{Served, shelf_after, strip_after}
use Rattle.serving.proofs.serving.perform.Goals as goal

pub returns-in-Table : goal.returns-in-Table
returns-in-Table g c =
    let n = g.K.Kind.numbers in
    let m = view c.args.book.now.ledger in
    let shelf = c.args.book.now.shelf.now in
    let run = c.args.run.now in
    let strip = c.args.strip.now in
    let states = c.in-Table.states in
    let told : enter states (take (c.in-Table.count - 0) run) ≡ asked_by c.args.statement run = ap (λ k. enter states (take k run)) (sub-zero c.in-Table.count) ∙ ap (λ s. asked_by s run) (sym c.in-Table.is) in
    record {
      served = λ h. subst (λ a. Served n g.K.Written.shown m shelf (length strip) (Ok a) c.enter.result (view c.enter.new.book.ledger)) told (c.enter.ensures.reply, c.enter.ensures.ledger);
      shelf = c.enter.ensures.shelf ∙ ap (λ a. shelf_after n m shelf (Ok a)) told;
      strip = ap (λ a. strip_after n strip (Ok a)) told;
      entries = c.enter.ensures.entries;
    }

pub returns-in-Join : goal.returns-in-Join
returns-in-Join g c =
    let n = g.K.Kind.numbers in
    let m = view c.args.book.now.ledger in
    let shelf = c.args.book.now.shelf.now in
    let run = c.args.run.now in
    let strip = c.args.strip.now in
    let told : join c.in-Join.a c.in-Join.b c.in-Join.vectors (take (c.in-Join.count - 0) run) ≡ asked_by c.args.statement run = ap (λ k. join c.in-Join.a c.in-Join.b c.in-Join.vectors (take k run)) (sub-zero c.in-Join.count) ∙ ap (λ s. asked_by s run) (sym c.in-Join.is) in
    record {
      served = λ h. subst (λ a. Served n g.K.Written.shown m shelf (length strip) (Ok a) c.join.result (view c.join.new.book.ledger)) told (c.join.ensures.served h);
      shelf = c.join.ensures.shelf ∙ ap (λ a. shelf_after n m shelf (Ok a)) told;
      strip = ap (λ a. strip_after n strip (Ok a)) told;
      entries = c.join.ensures.entries;
    }

pub returns-in-Weigh : goal.returns-in-Weigh
returns-in-Weigh g c =
    let n = g.K.Kind.numbers in
    let m = view c.args.book.now.ledger in
    let shelf = c.args.book.now.shelf.now in
    let run = c.args.run.now in
    let strip = c.args.strip.now in
    let told : weigh c.in-Weigh.table c.in-Weigh.word.now ≡ asked_by c.args.statement run = ap (λ s. asked_by s run) (sym c.in-Weigh.is) in
    record {
      served = λ h. subst (λ a. Served n g.K.Written.shown m shelf (length strip) (Ok a) c.weigh.result m) told (c.weigh.ensures.reply h, refl);
      shelf = ap (λ a. shelf_after n m shelf (Ok a)) told;
      strip = c.weigh.ensures.strip ∙ ap (λ a. strip_after n strip (Ok a)) told;
      entries = λ h. h;
    }
