use Rattle.std.proofs.Common.{◌≡◌, length, refl, ap, ◌∙◌}
use Rattle.ledger.specs.View.{view}
use Rattle.serving.specs.Chaining.{room_for}
use Rattle.serving.specs.Answering.{chain_answer, chain_ledger, chain_shelf}
use Rattle.serving.proofs.Written.{front_long, front_written}
use Rattle.serving.proofs.answering.chain.Goals as goal

pub returns : goal.returns
returns g c =
    let n = g.K.Kind.numbers in
    let by = g.K.Listed.chains in
    let m = view c.args.book.now.ledger in
    let shelf = c.args.book.now.shelf.now in
    let table = c.args.table.now in
    let states = c.args.given.states in
    let scale = c.args.given.scale in
    let letters = c.args.given.letters.now in
    let numbers = c.args.given.numbers.now in
    let size = c.room-size.result in
    let room = room_for states m.events (length table) in
    let is : size ≡ room = c.room-size.ensures.value ∙ ap (λ e. room_for states e.count (length table)) c.events.ensures in
    let long = front_long table size room is c.room-size.ensures.within in
    record {
      reply = c.enter_chain.ensures.reply ∙ ap (λ s. chain_answer n by m shelf s states scale letters numbers) long;
      ledger = c.enter_chain.ensures.ledger ∙ ap (λ s. chain_ledger n by m shelf s states scale letters numbers) long;
      shelf = c.enter_chain.ensures.shelf ∙ ap (λ s. chain_shelf n by m shelf s states scale letters numbers) long;
      table = front_written table size room is c.room-size.ensures.within (λ s. by.refuses m.events states scale letters numbers s) (by.converted m.events states letters numbers) c.enter_chain.new.table _ c.enter_chain.ensures.table refl;
      entries = c.enter_chain.ensures.entries;
    }
