-- The parts of a ledger: words that are kept because they weigh differently in two tables.
use Rattle.std.specs.Prelude.{◌≡◌, ℕ, ◌-◌, ◌≤◌, Bool, true, false, not, ◌&&◌, List, [], ◌∷◌, ◌++◌, map, length, replicate, Some, None, Option, Result, ◌==◌, nat_le, nat_lt, slice_index_or}
use Rattle.kinds.specs.declared.fault.Fault.{Fault}
use Rattle.kinds.specs.declared.fault.Refusal.TheVariants.{TooManyParts, NoSuchPart, WordRunLength}
use Rattle.kinds.specs.Faults.{fault, unless, or_refused, or_kept}
use Rattle.tables.specs.Shape.{one_to}
use Rattle.tables.specs.Words.{letter_of, longest_word}

-- A part: two tables, and a word as the list of its events.
pub record Kept : Type 0 where
  pub first : ℕ
  pub second : ℕ
  pub word : List ℕ

-- a book keeps at most 32 parts
abbrev pub most_parts : ℕ
most_parts = 32

-- what stands where no part does
abbrev pub no_part : Kept
no_part = record { first = 0; second = 0; word = [] }

-- there is a part p, counted from 1
abbrev pub HasPart : List Kept → ℕ → Type 0
HasPart ps p = (1 ≤ p) × (p ≤ length ps)

-- part p
abbrev pub part_of : List Kept → ℕ → Kept
part_of ps p = slice_index_or ps (p - 1) no_part

-- r is part p, if there is one
abbrev pub PartFound : List Kept → ℕ → Option Kept → Type 0
PartFound ps p (Some q) = (one_to (length ps) p ≡ true) × (q ≡ part_of ps p)
PartFound ps p None = one_to (length ps) p ≡ false

-- whether each event of a word is 1 to k
abbrev pub all_events : ℕ → List ℕ → Bool
all_events k [] = true
all_events k (e ∷ w) = one_to k e && all_events k w

-- whether a part names two different ones of n tables, and a word of at most 64 of k events
abbrev pub is_part : ℕ → ℕ → Kept → Bool
is_part k n p = one_to n p.first && (one_to n p.second && (not (p.first == p.second) && (nat_le (length p.word) longest_word && all_events k p.word)))

-- each part is one of n tables and k events
abbrev pub Parted : ℕ → ℕ → List Kept → Type 0
Parted k n ps = (p : ℕ) → HasPart ps p → is_part k n (part_of ps p) ≡ true

-- the letters of a word in a run of 64 bytes, with zeros behind them
abbrev pub spelled : List ℕ → List ℕ
spelled w = map letter_of w ++ replicate (longest_word - length w) 0

-- why a word is not copied: there is no part p, or the run has not 64 bytes
abbrev pub word_fault : List Kept → ℕ → ℕ → Option Fault
word_fault ps p run = unless (one_to (length ps) p) (fault NoSuchPart) (unless (run == longest_word) (fault WordRunLength) None)

module _ (ps : List Kept) (p : ℕ) (run : List ℕ) where
  -- the length of the word of part p, and the run afterwards
  abbrev pub word_answer : Result ℕ Fault
  word_answer = or_refused (word_fault ps p (length run)) (length (part_of ps p).word)

  abbrev pub word_run : List ℕ
  word_run = or_kept (word_fault ps p (length run)) run (spelled (part_of ps p).word)

-- the parts with one more
abbrev pub with_part : List Kept → ℕ → ℕ → List ℕ → List Kept
with_part ps a b w = ps ++ (record { first = a; second = b; word = w } ∷ [])

-- a ledger with as many parts as it may keep refuses; else the rest is asked
abbrev pub unless_full : List Kept → Option Fault → Option Fault
unless_full ps rest = unless (nat_lt (length ps) most_parts) (fault TooManyParts) rest
