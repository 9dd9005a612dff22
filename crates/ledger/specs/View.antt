-- What a ledger's fields say; the lines and records behind its counts say nothing.
use Rattle.std.specs.Prelude.{take}
use Rattle.ledger.specs.declared.ledger.Ledger.{Ledger}
use Rattle.ledger.specs.Model.{Model}
use Rattle.ledger.specs.Stored.{meanings}

-- the events, the lines of the tables that there are, and the parts that are kept
abbrev pub view : Ledger → Model
view l = record { events = l.events.count; lines = take l.tables l.lines.all; parts = meanings l.kept l.parts.all }
