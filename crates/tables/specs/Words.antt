-- Words: lists of events, the first event being 1, spelled by bytes.
use Rattle.std.specs.Prelude.{ℕ, ◌+◌, ◌-◌, ◌<◌, ◌≤◌, Bool, List, map, length, Option, nat_le, slice_index}
use Rattle.kinds.specs.declared.fault.Fault.{Fault}
use Rattle.kinds.specs.declared.fault.Refusal.TheVariants.{WordLength, NotAnEvent}
use Rattle.kinds.specs.Faults.{fault, unless, unless_found}
use Rattle.tables.specs.Shape.{most_events, one_to}
use Rattle.tables.specs.Firsts.{AllPass, first_failing, FirstFailing}

-- byte 97 is event 1, byte 98 event 2, and so on
abbrev pub event_of : ℕ → ℕ
event_of byte = byte - 96

-- the byte of an event
abbrev pub letter_of : ℕ → ℕ
letter_of e = e + 96

-- the events that bytes spell
abbrev pub events_of : List ℕ → List ℕ
events_of = map event_of

-- whether a byte is one of k events
abbrev pub is_event : ℕ → ℕ → Bool
is_event k byte = one_to k (event_of byte)

-- each byte is one of k events
abbrev pub AllEvents : ℕ → List ℕ → Type 0
AllEvents k = AllPass (is_event k)

-- each byte is one of the most events, place by place
abbrev pub Spelled : List ℕ → Type 0
Spelled word = (i : ℕ) → i < length word → (1 ≤ event_of (slice_index word i)) × (event_of (slice_index word i) ≤ most_events)

-- the place of the first byte that is none of k events, where the first byte of all has place p
abbrev pub first_stray : ℕ → ℕ → List ℕ → Option ℕ
first_stray k = first_failing (is_event k)

-- p, counted from 1, is the place of a byte that is none of k events, and all lower places have events
abbrev pub FirstStray : ℕ → List ℕ → ℕ → Type 0
FirstStray k = FirstFailing (is_event k) 0

-- the most events of a word that is weighed
abbrev pub longest_word : ℕ
longest_word = 64

-- a word that is too long, or has a byte that is none of k events, refuses; else the rest is asked
abbrev pub unless_word : ℕ → List ℕ → Option Fault → Option Fault
unless_word k word rest = unless (nat_le (length word) longest_word) (fault WordLength) (unless_found (first_stray k 1 word) NotAnEvent rest)
