-- How the ledger stores its parts. Only this definition and the part's own functions know it.
use Rattle.std.specs.Prelude.{ℕ, List, map, take}
use Rattle.ledger.specs.declared.part.Part.{Part}
use Rattle.ledger.specs.Parts.{Kept}

-- what a record means: its tables, and as many of its events as it counts
abbrev pub meaning : Part → Kept
meaning p = record { first = p.first; second = p.second; word = take p.size p.events }

-- what the first of some records mean
abbrev pub meanings : ℕ → List Part → List Kept
meanings n ps = map meaning (take n ps)
