-- What weighing a word in a table of the book answers.
use Rattle.std.specs.Prelude.{◌≡◌, ℕ, true, List, IfOk, None, Ok, Err, Option, Result, MatchResult}
use Rattle.kinds.specs.declared.fault.Fault.{Fault}
use Rattle.kinds.specs.declared.fault.Refusal.TheVariants.{OutOfRange}
use Rattle.kinds.specs.Faults.{fault_at}
use Rattle.kinds.specs.Numbers.{Numbers}
use Rattle.tables.specs.Entries.{AllEntries}
use Rattle.tables.specs.Layout.{value}
use Rattle.tables.specs.Range.{PathFits}
use Rattle.tables.specs.Words.{events_of}
use Rattle.tables.specs.Weighing.{weigh_fault, answered, path_number, word_weight, Refused, IsWeight}
use Rattle.ledger.specs.Model.{Model}
use Rattle.ledger.specs.Standing.{unless_table}
use Rattle.uses.specs.Holds.{Table, table_at, Entered}

-- a refusal gets a place
abbrev pub at_place : {A : Type 0} → ℕ → Result A Fault → Result A Fault
at_place p (Ok x) = Ok x
at_place p (Err f) = Err (fault_at f.refusal p)

-- r is the answer for a word in a table, where k events, a strip of so many numbers, and place p for what is out of range are given:
-- early refusals hold whatever the table's numbers are, and all else where they are entries
pub record WeighedAt {K : Type 0} (N : Numbers K) (t : Table K) (k p : ℕ) (word : List ℕ) (strip : ℕ) (r : Result K Fault) : Type 0 where
  pub early : Refused (weigh_fault k word strip) r
  pub answer : AllEntries N t.run → r ≡ answered (weigh_fault k word strip) (at_place p (path_number N t.states t.run word))
  -- an accepted answer is the number of the weight, the sum over all sequences of states
  pub weight : AllEntries N t.run → IsWeight N t.states t.run word r
  -- it is accepted exactly if all that is computed on the way fits
  pub ranged :
      AllEntries N t.run
      → weigh_fault k word strip ≡ None
      → MatchResult r
      (λ x. PathFits N t.states (value N t.run) (events_of word))
      (λ f. (PathFits N t.states (value N t.run) (events_of word) → ⊥) × (f ≡ fault_at OutOfRange p))

-- the refusals of weigh that hang on no number, in order; the strip has so many numbers
abbrev pub weigh_refusal : Model → ℕ → List ℕ → ℕ → Option Fault
weigh_refusal m i word strip = unless_table m.lines i 1 (weigh_fault m.events word strip)

module _ {K : Type 0} (N : Numbers K) (m : Model) (shelf : List K) where
  -- the exact weight of a word in table i, as ledger and shelf hold it
  abbrev pub weight_in : ℕ → List ℕ → N.exact.Value
  weight_in i word = word_weight N (table_at m shelf i).states (table_at m shelf i).run word

  -- what weigh answers
  abbrev pub weigh_answer : ℕ → List ℕ → ℕ → Result K Fault
  weigh_answer i word strip = answered (weigh_refusal m i word strip) (at_place 1 (path_number N (table_at m shelf i).states (table_at m shelf i).run word))

  -- what weigh promises: its early refusals, and where the book's numbers are entries the answer, the weight and the range
  pub record Weighed (i : ℕ) (word : List ℕ) (strip : ℕ) (r : Result K Fault) : Type 0 where
    pub early : Refused (weigh_refusal m i word strip) r
    pub answer : Entered N m shelf → r ≡ weigh_answer i word strip
    pub weight : Entered N m shelf → IfOk r (λ x. (x ≡ N.write (weight_in i word)) × (N.fits (weight_in i word) ≡ true))
    pub ranged :
        Entered N m shelf
        → weigh_refusal m i word strip ≡ None
        → MatchResult r
        (λ _. PathFits N (table_at m shelf i).states (value N (table_at m shelf i).run) (events_of word))
        (λ f. (PathFits N (table_at m shelf i).states (value N (table_at m shelf i).run) (events_of word) → ⊥) × (f ≡ fault_at OutOfRange 1))
