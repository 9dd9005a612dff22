use Rattle.std.proofs.Common.{length, rules}
use Rattle.ledger.specs.View.{view}
use Rattle.uses.proofs.Leading.{weigh_leads}
use Rattle.uses.proofs.Weighings.{weighed_there}
use Rattle.book.proofs.reading.Reader.weigh.Goals as goal

pub returns : goal.returns
returns g c =
    let n = g.K.Kind.numbers in
    let m = view c.args.self.now.ledger.now in
    let shelf = c.args.self.now.shelf.now in
    let strip = c.args.strip.now in
    let answer = weighed_there n m shelf c.args.table c.in_ok-standing.standing c.in_ok-standing.ensures c.args.word.now (length c.clear.new.strip) (length strip) c.clear.auto.strip c.weigh_at.result c.weigh_at.ensures.answer in
    record {
      answer = answer;
      strip = search rules;
      leads = weigh_leads n m shelf c.args.table c.args.word.now strip c.weigh_at.result answer;
    }
