use Rattle.std.proofs.Common.{rules}
use Rattle.std.proofs.lemmas.List.Edits.{map_over_more}
use Rattle.tables.specs.Words.{event_of}
use Rattle.ledger.proofs.part.stored.Goals as goal

pub loop-event-preserved : goal.loop-event-preserved
loop-event-preserved c = rw c.event_of.ensures (search (rules, map_over_more event_of))
