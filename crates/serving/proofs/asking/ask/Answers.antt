use Rattle.std.proofs.Common.{◌≡◌, map, Ok, sym, refl, ap, ◌∙◌, subst}
use Rattle.tables.specs.Words.{letter_of}
use Rattle.ledger.specs.Ask.{ask_answer}
use Rattle.ledger.specs.Parts.{HasPart, part_of}
use Rattle.ledger.specs.View.{view}
use Rattle.ledger.specs.declared.asking.Comparison.TheVariants as comparison
use Rattle.lines.specs.declared.replies.Reply.TheVariants.{Different}
use Rattle.lines.specs.Words.{letters}
use Rattle.serving.specs.Answering.{Tells}
use Rattle.serving.proofs.Lettered.{different_by_part}
use Rattle.serving.proofs.asking.ask.Goals as goal

-- the part that was named is there, so its word is not refused
pub returns-in_err-word-in-Different : goal.returns-in_err-word-in-Different
returns-in_err-word-in-Different g c =
    let old = view c.args.book.now.ledger in
    let p = c.in-Different.part in
    let told = ap Ok (sym c.in-Different.is) ∙ c.in_ok-ask.ensures.answer in
    let has = different_by_part old.lines old.parts c.args.a c.args.b p told in
    absurd (c.in_err-word-in-Different.ensures (subst (λ l. HasPart (view l).parts p) (sym c.in_ok-ask.ensures.ledger) has))

pub returns-in_ok-word-in-Different : goal.returns-in_ok-word-in-Different
returns-in_ok-word-in-Different g c =
    let old = view c.args.book.now.ledger in
    let p = c.in-Different.part in
    let w = c.in_ok-word-in-Different.word in
    let asked = c.in_ok-ask.ensures in
    let told : Ok (comparison.Different p) ≡ ask_answer old.lines old.parts c.args.a c.args.b = ap Ok (sym c.in-Different.is) ∙ asked.answer in
    let has = different_by_part old.lines old.parts c.args.a c.args.b p told in
    let spelled = c.in_ok-word-in-Different.ensures (subst (λ l. HasPart (view l).parts p) (sym asked.ledger) has) in
    record {
      tells = subst (λ t. Tells old.parts t (Ok (Different p w))) told (w, (refl, subst (λ l. letters w ≡ map letter_of (part_of (view l).parts p).word) asked.ledger spelled));
      ledger = asked.ledger;
      shelf = asked.shelf;
    }
