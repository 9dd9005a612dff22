use Rattle.std.proofs.Common.{Ok, Err, sym, refl, ap, ◌∙◌, subst}
use Rattle.ledger.specs.View.{view}
use Rattle.uses.specs.Join.{JoinSays, with_merged}
use Rattle.uses.specs.Holds.{Entered}
use Rattle.uses.proofs.Joinings.{accepted_joined, entered_merged, merged_there, refused_joined}
use Rattle.uses.proofs.Leading.{join_leads}
use Rattle.book.proofs.Passing.{handed_on, model_is, to_book}
use Rattle.book.proofs.book.Book.join.Goals as goal

pub returns-in_err-check_join : goal.returns-in_err-check_join
returns-in_err-check_join g c =
    let f = c.in_err-check_join.field-0.0 in
    let told = to_book (λ l shelf. JoinSays g.K.Kind.numbers (view l) shelf c.args.a c.args.b c.args.vectors c.args.sheet.now (Err f)) c.reader.ensures.ledger c.reader.ensures.shelf c.in_err-check_join.ensures in
    rw (handed_on c.from_residual.result f c.from_residual.ensures.1) (record {
      early = told.early;
      answer = λ e. refused_joined g.K.Kind.numbers (view c.args.self.now.ledger) c.args.self.now.shelf.now c.args.a c.args.b c.args.vectors c.args.sheet.now f (told.answer e);
      exactly = told.exactly;
      alike = told.alike;
      ledger = refl;
      shelf = refl;
      entries = λ e. e;
      leads = join_leads _ _ _ _ _ _ _ _ _ told.exactly refl;
    })

pub returns : goal.returns
returns g c =
    let n = g.K.Kind.numbers in
    let m = view c.args.self.now.ledger in
    let shelf = c.args.self.now.shelf.now in
    let a = c.args.a in
    let b = c.args.b in
    let told = to_book (λ l x. JoinSays n (view l) x a b c.args.vectors c.args.sheet.now (Ok tt)) c.reader.ensures.ledger c.reader.ensures.shelf c.in_ok-check_join.ensures in
    let after = model_is (view c.merge.new.self) (with_merged m a b) (ap (λ e. e.count) c.merge.ensures.events) (c.merge.ensures.lines ∙ merged_there m a b (told.two refl)) c.merge.ensures.parts in
    record {
      early = told.early;
      answer = λ e. accepted_joined n m shelf a b c.args.vectors c.args.sheet.now _ after (told.answer e);
      exactly = told.exactly;
      alike = told.alike;
      ledger = after;
      shelf = refl;
      entries = λ e. subst (λ x. Entered n x shelf) (sym after) (entered_merged n m shelf a b e);
      leads = join_leads _ _ _ _ _ _ _ _ _ told.exactly after;
    }
