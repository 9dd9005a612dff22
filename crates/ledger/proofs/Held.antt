-- What the fields of a ledger hold, and what keeping a word with two of its tables answers and leaves.
use Rattle.std.proofs.Common.{◌≡◌, ℕ, ◌+◌, ◌*◌, ◌<◌, ◌≤◌, List, map, length, take, set, Some, None, Ok, Err, Result, sym, ap, ap₂, ◌∙◌, subst, arith}
use Rattle.std.proofs.lemmas.List.{length-take-le}
use Rattle.std.proofs.lemmas.Bool.{le-ltb, lt-ltb}
use Rattle.kinds.specs.declared.fault.Fault.{Fault}
use Rattle.kinds.specs.declared.fault.Refusal.TheVariants.{TooManyParts}
use Rattle.kinds.specs.Faults.{fault, or_refused, unless}
use Rattle.kinds.proofs.Refusing.{answer_passes, test_passed}
use Rattle.tables.specs.Words.{Spelled, events_of, longest_word, unless_word}
use Rattle.tables.proofs.Admitted.{spelled, word_admitted}
use Rattle.ledger.specs.declared.ledger.Ledger.{Ledger}
use Rattle.ledger.specs.declared.ledger.Pair.{Pair}
use Rattle.ledger.specs.declared.ledger.Standing.{Standing}
use Rattle.ledger.specs.declared.line.Line.{Line}
use Rattle.ledger.specs.declared.part.Part.{Part}
use Rattle.ledger.specs.Keep.{keep_fault}
use Rattle.ledger.specs.Lines.{most_tables, used}
use Rattle.tables.specs.Shape.{most_events, most_states, table_size}
use Rattle.tables.proofs.Limits.{one_to_parts}
use Rattle.ledger.proofs.Appending.{used_by_last, used_small}
use Rattle.ledger.specs.Parts.{Kept, Parted, most_parts, unless_full, with_part}
use Rattle.ledger.specs.Standing.{Pairs, StandsAt, TwoTables}
use Rattle.ledger.specs.Stored.{meaning, meanings}
use Rattle.ledger.proofs.Keeping.{KeepSays, keep_passes, keep_refuses, keep_room, meanings_count, pair_two, parted_push, records_held, records_whole}

module _ (l : Ledger) where
  -- the lines of its tables, and its parts
  abbrev pub lines_in : List Line
  lines_in = take l.tables l.lines.all

  abbrev pub parts_in : List Kept
  parts_in = meanings l.kept l.parts.all

  -- there are as many as it counts
  pub lines_held : length lines_in ≡ l.tables
  lines_held = length-take-le l.tables l.lines.all (let few = l.few in let full = l.full in omega arith)

  pub parts_fit : l.kept ≤ length l.parts.all
  parts_fit = let few = l.spare in let full = l.records in omega arith

  pub parts_held : length parts_in ≡ l.kept
  parts_held = meanings_count l.kept l.parts.all parts_fit

  -- the used numbers end where the last table ends
  pub last_ends : (s : Standing) → StandsAt l.events.count lines_in l.tables s → (s.at + s.size ≡ used l.events.count lines_in) × (s.at + s.size ≤ table_size most_states most_events * most_tables)
  last_ends s stands =
      let ends : s.at + s.size ≡ used l.events.count lines_in = ap₂ ◌+◌ stands.at stands.size ∙ sym (used_by_last l.events.count lines_in l.sound.packed l.tables lines_held (one_to_parts (length lines_in) l.tables stands.there).0) in
      let few = l.few in
      let small = used_small l.events.count lines_in l.sound.sized l.events.few (let n = lines_held in omega arith) in
      (ends, omega arith)

-- a word, by its bytes, and two tables that stand in the ledger
module _ (l : Ledger) (a b : ℕ) (word : List ℕ) (s : Pair) (stand : Pairs l.events.count (lines_in l) a b (Ok s)) where
  abbrev k : ℕ
  k = l.events.count

  two : TwoTables (lines_in l) a b
  two = pair_two k (lines_in l) a b s stand

  -- what keeping it says
  abbrev pub Says : Result ℕ Fault → List Kept → Type 0
  Says = KeepSays k (lines_in l) (parts_in l) a b word

  module _ (passed : Ok (tt {0}) ≡ or_refused (unless_word k word None) (tt {0})) where
    none : unless_word k word None ≡ None
    none = (answer_passes (unless_word k word None) (tt {0}) (tt {0}) passed).0

    asks_room : keep_fault k (lines_in l) (parts_in l) a b word ≡ unless_full (parts_in l) None
    asks_room = keep_room k l.tables (lines_in l) (parts_in l) a b word (lines_held l) two none

    -- the ledger is full
    pub ledger_is_full : most_parts ≤ l.kept → Says (Err (fault TooManyParts)) (parts_in l)
    ledger_is_full h =
        let full : unless_full (parts_in l) None ≡ Some (fault TooManyParts) = ap (λ t. unless t (fault TooManyParts) None) (le-ltb (length (parts_in l)) most_parts (let n = parts_held l in omega arith)) in
        keep_refuses k (lines_in l) (parts_in l) a b word (fault TooManyParts) (asks_room ∙ full)

    -- it has room
    module _ (room : l.kept < most_parts) where
      pub writes : (l.kept < most_parts) × ((length word ≤ longest_word) × Spelled word)
      writes = let fine = word_admitted k word None none in (room, (fine.0, spelled k word l.events.few fine.1))

      module _ (after : List Part) (is : map meaning after ≡ set (map meaning l.parts.all) l.kept (record { first = a; second = b; word = events_of word })) where
        fits : l.kept < length l.parts.all
        fits = let full = l.records in omega arith

        held : meanings (l.kept + 1) after ≡ with_part (parts_in l) a b (events_of word)
        held = records_held l.kept l.parts.all after _ fits is

        pub after_whole : length after ≡ most_parts
        after_whole = records_whole l.kept l.parts.all after _ fits is ∙ l.records

        pub after_parted : Parted k l.tables (meanings (l.kept + 1) after)
        after_parted = let fine = word_admitted k word None none in subst (Parted k l.tables) (sym held) (parted_push k l.tables (lines_in l) (parts_in l) a b word (lines_held l) two fine.0 fine.1 l.parted)

        pub word_is_kept : Says (Ok (l.kept + 1)) (meanings (l.kept + 1) after)
        word_is_kept =
            let left : unless_full (parts_in l) None ≡ None = test_passed _ (fault TooManyParts) None (lt-ltb (length (parts_in l)) most_parts (let n = parts_held l in omega arith)) in
            keep_passes k (lines_in l) (parts_in l) a b word l.kept (meanings (l.kept + 1) after) (asks_room ∙ left) (parts_held l) held
