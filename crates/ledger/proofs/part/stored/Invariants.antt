use Rattle.std.proofs.Common.{◌≡◌, ◌++◌, map, take, drop}
use Rattle.tables.specs.Words.{event_of}
use Rattle.ledger.proofs.part.stored.Given as goal

-- the letters before the place have become events
abbrev pub invariant-loop-event : goal.invariant-loop-event
invariant-loop-event l = l.spelled ≡ map event_of (take l.event-index l.initial.spelled) ++ drop l.event-index l.initial.spelled
