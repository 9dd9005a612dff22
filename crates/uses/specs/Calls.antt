-- The calls on a book with all their arguments, and when each is accepted.
use Rattle.std.specs.Prelude.{◌≡◌, ℕ, ◌+◌, ◌<◌, ◌≤◌, true, List, length, Some, None, Option}
use Rattle.kinds.specs.Numbers.{Numbers}
use Rattle.tables.specs.Entries.{AllEntries}
use Rattle.tables.specs.Layout.{value}
use Rattle.tables.specs.Range.{PathFits}
use Rattle.tables.specs.Shape.{most_states, one_to, table_size}
use Rattle.tables.specs.Strip.{strip_size}
use Rattle.tables.specs.Words.{AllEvents, events_of, longest_word}
use Rattle.sheets.specs.Promises.{Formed, Keeps}
use Rattle.ledger.specs.Lines.{most_tables, used}
use Rattle.ledger.specs.Model.{Model, with_table}
use Rattle.ledger.specs.Standing.{TwoTables}
use Rattle.uses.specs.Holds.{laid, table_at}
use Rattle.uses.specs.Join.{with_merged}
use Rattle.uses.specs.Part.{Parts, with_kept}

-- The state of a book: what its ledger says, and what its shelf holds.
pub record State (K : Type 0) : Type 0 where
  pub ledger : Model
  pub shelf : List K

-- the state of this ledger and this shelf
abbrev pub at : {K : Type 0} → Model → List K → State K
at m shelf = record { ledger = m; shelf = shelf }

-- A call with its arguments; strips and runs are given by what they hold.
pub data Call (K : Type 0) : Type 0 where
  -- states and numbers of a table
  enter : ℕ → List K → Call K
  -- two tables, the vectors of a sheet and its numbers
  join : ℕ → ℕ → ℕ → List K → Call K
  -- two tables, a word by its bytes, and a strip
  part : ℕ → ℕ → List ℕ → List K → Call K
  -- a table, a word by its bytes, and a strip
  weigh : ℕ → List ℕ → List K → Call K
  -- a part, and a run of bytes
  word : ℕ → List ℕ → Call K
  -- two tables
  ask : ℕ → ℕ → Call K

-- What an accepted call changes in a book.
pub data Effect (K : Type 0) : Type 0 where
  -- a table with these states and numbers was entered
  entered : ℕ → List K → Effect K
  -- two tables were joined
  joined : ℕ → ℕ → Effect K
  -- a word, spelled by these bytes, was kept with two tables
  kept : ℕ → ℕ → List ℕ → Effect K

-- weigh, word and ask change nothing
abbrev pub effect_of : {K : Type 0} → Call K → Option (Effect K)
effect_of (enter n run) = Some (entered n run)
effect_of (join a b R sheet) = Some (joined a b)
effect_of (part a b w strip) = Some (kept a b w)
effect_of (weigh i w strip) = None
effect_of (word p run) = None
effect_of (ask a b) = None

-- the state after an effect
abbrev pub done : {K : Type 0} → State K → Effect K → State K
done s (entered n run) = record { ledger = with_table s.ledger n; shelf = laid s.shelf (used s.ledger.events s.ledger.lines) run }
done s (joined a b) = record { ledger = with_merged s.ledger a b; shelf = s.shelf }
done s (kept a b w) = record { ledger = with_kept s.ledger a b w; shelf = s.shelf }

-- ---- none of a call's refusals holds
module _ {K : Type 0} (N : Numbers K) (m : Model) (shelf : List K) where
  -- a table that can be entered
  pub record Enters (n : ℕ) (run : List K) : Type 0 where
    pub states : one_to most_states n ≡ true
    pub count : length run ≡ table_size n m.events
    pub entries : AllEntries N run
    pub few_tables : length m.lines < most_tables
    pub room : used m.events m.lines + table_size n m.events ≤ length shelf

  -- a sheet that shows that two tables weigh every word alike: in form, with a scale that cancels, and keeping the three rules
  pub record Joins (a b R : ℕ) (sheet : List K) : Type 0 where
    pub two : TwoTables m.lines a b
    pub formed : Formed N m.events (table_at m shelf a).states (table_at m shelf a).run (table_at m shelf b).states (table_at m shelf b).run R sheet
    pub keeps : Keeps N m.events (table_at m shelf a).states (table_at m shelf a).run (table_at m shelf b).states (table_at m shelf b).run R sheet

  -- a word that can be weighed in table i
  pub record Weighs (i : ℕ) (word : List ℕ) (strip : ℕ) : Type 0 where
    pub there : one_to (length m.lines) i ≡ true
    pub short : length word ≤ longest_word
    pub events : AllEvents m.events word
    pub strip_of_sixteen : strip ≡ strip_size
    pub in_range : PathFits N (table_at m shelf i).states (value N (table_at m shelf i).run) (events_of word)

-- a call is accepted
abbrev pub Accepts : {K : Type 0} → Numbers K → State K → Call K → Type 0
Accepts N s (enter n run) = Enters N s.ledger s.shelf n run
Accepts N s (join a b R sheet) = Joins N s.ledger s.shelf a b R sheet
Accepts N s (part a b w strip) = Parts N s.ledger s.shelf a b w (length strip)
Accepts N s (weigh i w strip) = Weighs N s.ledger s.shelf i w (length strip)
Accepts N s (word p run) = (one_to (length s.ledger.parts) p ≡ true) × (length run ≡ longest_word)
Accepts N s (ask a b) = (one_to (length s.ledger.lines) a ≡ true) × (one_to (length s.ledger.lines) b ≡ true)
