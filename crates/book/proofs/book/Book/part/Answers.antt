use Rattle.std.proofs.Common.{◌≡◌, length, Ok, Err, sym, refl, ap, ◌∙◌, subst}
use Rattle.ledger.specs.View.{view}
use Rattle.ledger.specs.Keep.{keep_fault}
use Rattle.kinds.proofs.Refusing.{answer_passes, renewed}
use Rattle.uses.specs.Holds.{Entered}
use Rattle.uses.specs.Part.{Apart, PartAnswers, with_kept}
use Rattle.uses.proofs.Partings.{entered_kept, part_full, part_kept, part_refused}
use Rattle.uses.proofs.Leading.{part_leads}
use Rattle.book.proofs.Passing.{handed_on, model_is, to_book}
use Rattle.book.proofs.book.Book.part.Goals as goal

pub returns-in_err-weights : goal.returns-in_err-weights
returns-in_err-weights g c =
    let f = c.in_err-weights.field-0.0 in
    let told = to_book (λ l shelf. Apart g.K.Kind.numbers (view l) shelf c.args.a c.args.b c.args.word.now (length c.args.strip.now) (Err f)) c.reader.ensures.ledger c.reader.ensures.shelf c.in_err-weights.ensures.answer in
    let answers = part_refused _ _ _ _ _ _ _ f told in
    rw (handed_on c.from_residual.result f c.from_residual.ensures.1) (record {
      answers = answers;
      ledger = refl;
      shelf = refl;
      strip = c.weigh_apart.ensures.strip;
      entries = λ e. e;
      leads = part_leads _ _ _ _ _ _ _ _ _ answers refl;
    })

pub returns-in_err-part : goal.returns-in_err-part
returns-in_err-part g c =
    let n = g.K.Kind.numbers in
    let shelf = c.args.self.now.shelf.now in
    let word = c.args.word.now in
    let strip = length c.args.strip.now in
    let f = c.in_err-part.field-0.0 in
    let same : c.keep.new.self ≡ c.args.self.now.ledger = c.in_err-part.ensures.refused in
    let told = to_book (λ l s. Apart n (view l) s c.args.a c.args.b word strip (Ok c.in_ok-weights.weights)) c.reader.ensures.ledger c.reader.ensures.shelf c.in_ok-weights.ensures.answer in
    let answers : PartAnswers n (view c.args.self.now.ledger) shelf c.args.a c.args.b word strip (Err f) (view c.keep.new.self) =
    subst (λ l. PartAnswers n (view c.args.self.now.ledger) shelf c.args.a c.args.b word strip (Err f) (view l)) (sym same) (part_full _ _ _ _ _ _ _ _ told f c.in_err-part.ensures.answer) in
    rw (handed_on c.from_residual-in_err-part.result f c.from_residual-in_err-part.ensures.1) (record {
      answers = answers;
      ledger = same;
      shelf = refl;
      strip = c.weigh_apart.ensures.strip;
      entries = λ e. subst (λ l. Entered n (view l) shelf) (sym same) e;
      leads = part_leads _ _ _ _ _ _ _ _ _ answers (ap view same);
    })

pub returns : goal.returns
returns g c =
    let n = g.K.Kind.numbers in
    let m = view c.args.self.now.ledger in
    let shelf = c.args.self.now.shelf.now in
    let word = c.args.word.now in
    let kept = c.in_ok-part.ensures in
    let none = (answer_passes (keep_fault m.events m.lines m.parts c.args.a c.args.b word) _ _ kept.answer).0 in
    let is = model_is (view c.keep.new.self) (with_kept m c.args.a c.args.b word) (ap (λ e. e.count) kept.events) kept.lines (kept.parts ∙ renewed _ m.parts _ none) in
    let told = to_book (λ l s. Apart n (view l) s c.args.a c.args.b word (length c.args.strip.now) (Ok c.in_ok-weights.weights)) c.reader.ensures.ledger c.reader.ensures.shelf c.in_ok-weights.ensures.answer in
    let answers = part_kept _ _ _ _ _ _ _ _ told c.in_ok-part.part _ kept.answer is in
    record {
      answers = answers;
      ledger = is;
      shelf = refl;
      strip = c.weigh_apart.ensures.strip;
      entries = λ e. subst (λ x. Entered n x shelf) (sym is) (entered_kept _ _ _ _ _ word (length c.args.strip.now) e);
      leads = part_leads _ _ _ _ _ _ _ _ _ answers is;
    }
