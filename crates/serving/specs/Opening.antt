-- What a line opens while no book is open.
use Rattle.std.specs.Prelude.{ℕ, List, Ok, Option, Result}
use Rattle.kinds.specs.declared.fault.Fault.{Fault}
use Rattle.kinds.specs.Faults.{then}
use Rattle.tables.specs.Shape.{events_answer}
use Rattle.lines.specs.declared.openings.KindName.{KindName}
use Rattle.lines.specs.Openings.{opening_of}

-- the kind and the events of the book that a line opens, or why it is refused: first for its form, then for its events
abbrev pub opened_by : Option (List ℕ) → Result (KindName × ℕ) Fault
opened_by line = then (opening_of line) (λ o. then (events_answer o.events) (λ k. Ok (o.kind, k)))
