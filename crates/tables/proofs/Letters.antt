-- Events to letters and back.
use Rattle.std.proofs.Common.{◌≡◌, ℕ, ◌≤◌, arith}
use Rattle.tables.specs.Words.{event_of, letter_of}

-- an event's letter spells it
pub event_of_letter : (e : ℕ) → event_of (letter_of e) ≡ e
event_of_letter e = omega arith

-- a byte that spells an event is its letter
pub letter_of_event : (b : ℕ) → 1 ≤ event_of b → letter_of (event_of b) ≡ b
letter_of_event b h = omega arith
