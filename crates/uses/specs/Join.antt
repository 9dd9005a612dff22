-- What joining two tables by a sheet answers and leaves.
use Rattle.std.specs.Prelude.{◌≡◌, ℕ, ◌+◌, Bool, not, List, Some, None, Ok, Err, Decides, Option, Result, ◌==◌}
use Rattle.kinds.specs.declared.fault.Fault.{Fault}
use Rattle.kinds.specs.declared.fault.Refusal.TheVariants.{SameTable}
use Rattle.kinds.specs.Faults.{fault, unless, or_refused, or_kept}
use Rattle.kinds.specs.Numbers.{Numbers}
use Rattle.sheets.specs.Answer.{shape_fault, form_fault, sheet_fault}
use Rattle.sheets.specs.Promises.{ScaleCancels, AcceptsExactly, Alike}
use Rattle.ledger.specs.Classes.{merged}
use Rattle.ledger.specs.Model.{Model}
use Rattle.ledger.specs.Standing.{unless_table}
use Rattle.ledger.specs.Standing as standing
use Rattle.uses.specs.Holds.{Entered, table_at}

-- the classes of two tables as one
abbrev pub with_merged : Model → ℕ → ℕ → Model
with_merged m a b = record { events = m.events; lines = merged a b m.lines; parts = m.parts }

-- two different tables of the book
abbrev pub TwoTables : Model → ℕ → ℕ → Type 0
TwoTables m a b = standing.TwoTables m.lines a b

-- table numbers that are not two different tables of the book refuse; else the rest is asked
abbrev pub unless_two_tables : Model → ℕ → ℕ → Option Fault → Option Fault
unless_two_tables m a b rest = unless_table m.lines a 1 (unless_table m.lines b 2 (unless (not (a == b)) (fault SameTable) rest))

module _ {K : Type 0} (N : Numbers K) (m : Model) (shelf : List K) (a b R : ℕ) (sheet : List K) where
  -- the two tables' states together
  abbrev pub width : ℕ
  width = (table_at m shelf a).states + (table_at m shelf b).states

  -- the refusals of join that hang on no number of the tables, and all of them, in order; a Boolean tells whether the scale cancels
  abbrev pub early_join_fault : Bool → Option Fault
  early_join_fault cancels = unless_two_tables m a b (form_fault N m.events width R sheet cancels)

  abbrev pub join_fault : Bool → Option Fault
  join_fault cancels =
      unless_two_tables m a b
      (sheet_fault N m.events (table_at m shelf a).states (table_at m shelf a).run (table_at m shelf b).states (table_at m shelf b).run R sheet cancels)

  -- the answer, and the ledger afterwards
  abbrev pub join_answer : Bool → Result (Unit {0}) Fault
  join_answer cancels = or_refused (join_fault cancels) tt

  abbrev pub join_ledger : Bool → Model
  join_ledger cancels = or_kept (join_fault cancels) m (with_merged m a b)

  -- some Boolean, which tells whether the scale cancels where nothing refuses before that is asked, keeps Q
  abbrev pub AtScale : (Bool → Type 0) → Type 0
  AtScale Q = (c : Bool) × (unless_two_tables m a b (shape_fault N m.events width R sheet None) ≡ None → Decides c (ScaleCancels N sheet)) × Q c

  -- the early refusals, whatever the tables hold
  abbrev pub EarlyJoin : Result (Unit {0}) Fault → Type 0
  EarlyJoin r = AtScale (λ c. (f : Fault) → early_join_fault c ≡ Some f → r ≡ Err f)

  -- the answer, in order
  abbrev pub Answered : Result (Unit {0}) Fault → Type 0
  Answered r = AtScale (λ c. r ≡ join_answer c)

  -- the answer and the ledger afterwards
  abbrev pub Joined : Result (Unit {0}) Fault → Model → Type 0
  Joined r after = AtScale (λ c. (r ≡ join_answer c) × (after ≡ join_ledger c))

  -- accepted exactly for two different tables and a sheet that is formed and keeps the rules; each refused place is the first that fails
  pub record JoinsExactly (r : Result (Unit {0}) Fault) : Type 0 where
    pub two : r ≡ Ok tt → TwoTables m a b
    pub exactly : TwoTables m a b → AcceptsExactly N m.events (table_at m shelf a).states (table_at m shelf a).run (table_at m shelf b).states (table_at m shelf b).run R sheet r

  -- every word over the events weighs the same in the two tables that ledger and shelf hold
  abbrev pub AlikeInBook : Type 0
  AlikeInBook = Alike N m.events (table_at m shelf a).states (table_at m shelf a).run (table_at m shelf b).states (table_at m shelf b).run R sheet

  -- what the check of a join says: whatever the tables hold, and where the book's numbers are entries
  pub record JoinSays (r : Result (Unit {0}) Fault) : Type 0 where
    pub early : EarlyJoin r
    pub answer : Entered N m shelf → Answered r
    pub exactly : Entered N m shelf → JoinsExactly r
    pub alike : Entered N m shelf → r ≡ Ok tt → AlikeInBook
    pub two : r ≡ Ok tt → TwoTables m a b
