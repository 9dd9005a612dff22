-- Worked examples: each is a row of data, and what a row says is said by the rules alone.
use Rattle.std.specs.Prelude.{◌≡◌, ℕ, List, [], ◌∷◌, ℤ, pos, Some, None, Ok, Err, codes, Result, ◌≢◌}
use Rattle.std.specs.List.{AllByRecursion}
use Rattle.kinds.specs.declared.best.Best.{Best}
use Rattle.kinds.specs.declared.count.Count.{Count}
use Rattle.kinds.specs.declared.fault.Fault.{Fault}
use Rattle.kinds.specs.Faults.{number_of}
use Rattle.kinds.specs.Numbers.{Numbers}
use Rattle.kinds.specs.Count.{counts, count_of}
use Rattle.kinds.specs.Best.{bests, best_of}
use Rattle.tables.specs.Shape.{table_size}
use Rattle.tables.specs.Entries.{AllEntries}
use Rattle.tables.specs.Weighing.{path_number, word_weight}
use Rattle.sheets.specs.Promises.{Formed, Keeps, Answers}
use Rattle.chains.specs.Chains.{chain_run}
use Rattle.chains.specs.Refusals.{chain_fault}
use Rattle.uses.specs.Holds.{Table}

-- ---- what examples are made of
-- the two kinds
pub data Kind : Type 0 where
  count : Kind
  best : Kind

-- the numbers of a kind, what they stand for, and their exact values
abbrev pub Number : Kind → Type 0
Number count = Count
Number best = Best

abbrev pub numbers : (k : Kind) → Numbers (Number k)
numbers count = counts
numbers best = bests

abbrev pub Exact : Kind → Type 0
Exact k = (numbers k).exact.Value

-- A sheet for two tables: over how many events, the tables, how many vectors, and its run.
pub record Sheet (k : Kind) : Type 0 where
  pub events : ℕ
  pub left : Table (Number k)
  pub right : Table (Number k)
  pub vectors : ℕ
  pub run : List (Number k)

-- A chain: over how many events, its states, its scale, a letter for each state, and its numbers.
pub record Chain : Type 0 where
  pub events : ℕ
  pub states : ℕ
  pub scale : ℕ
  pub letters : List ℕ
  pub run : List Count

-- What an example shows; words are given by their bytes.
pub data Example : Type 0 where
  -- a word weighs this in a table
  weighs : (k : Kind) → Table (Number k) → List ℕ → Exact k → Example
  -- weighing a word in a table is refused, with this number and this place
  weighing_refused : (k : Kind) → Table (Number k) → List ℕ → ℕ → ℕ → Example
  -- a sheet is formed and keeps the rules
  sheet_kept : (k : Kind) → Sheet k → Example
  -- a sheet is refused, with this number and this place
  sheet_refused : (k : Kind) → Sheet k → ℕ → ℕ → Example
  -- a sheet keeps the three rules and is refused 12, and its tables weigh this word differently
  scale_refused : (k : Kind) → Sheet k → List ℕ → Example
  -- a chain is admitted, and a word weighs this in its table
  chain_weighs : Chain → List ℕ → ℤ → Example

-- ---- what an example says
-- an answer is a refusal with this number and this place
abbrev pub RefusedWith : {A : Type 0} → ℕ → ℕ → Result A Fault → Type 0
RefusedWith number place (Ok x) = ⊥
RefusedWith number place (Err f) = (number_of f.refusal ≡ number) × (f.place ≡ place)

module _ (k : Kind) where
  -- what a word weighs in a table: the sum over all sequences of states
  abbrev pub weight_in : Table (Number k) → List ℕ → Exact k
  weight_in t word = word_weight (numbers k) t.states t.run word

  -- what the weighing path answers
  abbrev pub path_in : Table (Number k) → List ℕ → Result (Number k) Fault
  path_in t word = path_number (numbers k) t.states t.run word

  module _ (s : Sheet k) where
    -- all numbers of both tables are entries
    abbrev pub TablesOfEntries : Type 0
    TablesOfEntries = AllEntries (numbers k) s.left.run × AllEntries (numbers k) s.right.run

    -- the sheet is formed, and keeps the three rules
    abbrev pub SheetFormed : Type 0
    SheetFormed = Formed (numbers k) s.events s.left.states s.left.run s.right.states s.right.run s.vectors s.run

    abbrev pub SheetKeeps : Type 0
    SheetKeeps = Keeps (numbers k) s.events s.left.states s.left.run s.right.states s.right.run s.vectors s.run

    -- whatever keeps what is promised of the check's answer is a refusal with this number and this place
    abbrev pub SheetRefused : ℕ → ℕ → Type 0
    SheetRefused number place =
        (r : Result (Unit {0}) Fault)
        → Answers (numbers k) s.events s.left.states s.left.run s.right.states s.right.run s.vectors s.run r
        → RefusedWith number place r

-- the table of a chain
abbrev pub table_of : Chain → Table Count
table_of c = record { states = c.states; run = chain_run c.states c.letters c.run c.events }

-- a chain is not refused, if there is room for just its table
abbrev pub Admitted : Chain → Type 0
Admitted c = chain_fault c.events c.states c.scale c.letters c.run (table_size c.states c.events) ≡ None

-- what each example says
abbrev pub Holds : Example → Type 0
Holds (weighs k t word v) = weight_in k t word ≡ v
Holds (weighing_refused k t word number place) = RefusedWith number place (path_in k t word)
Holds (sheet_kept k s) = TablesOfEntries k s × SheetFormed k s × SheetKeeps k s
Holds (sheet_refused k s number place) = TablesOfEntries k s × SheetRefused k s number place
Holds (scale_refused k s word) = TablesOfEntries k s × SheetKeeps k s × SheetRefused k s 12 0 × (weight_in k s.left word ≢ weight_in k s.right word)
Holds (chain_weighs c word v) = Admitted c × (weight_in count (table_of c) word ≡ v)

-- ---- numbers, tables and sheets as they are written
-- a number of a count book
abbrev whole : ℕ → Count
whole n = count_of (pos n)

-- a number of a best book, and none
abbrev some : ℕ → Best
some n = best_of (Some (pos n))

abbrev none : Best
none = best_of None

-- a table of n states
abbrev table : {K : Type 0} → ℕ → List K → Table K
table n run = record { states = n; run = run }

-- best tables over one event
abbrev table_1 : Table Best
table_1 = table 1 (some 0 ∷ some 0 ∷ some 5 ∷ [])

abbrev table_2 : Table Best
table_2 = table 2 (some 0 ∷ some 0 ∷ some 0 ∷ some 0 ∷ some 5 ∷ none ∷ none ∷ some 7 ∷ [])

abbrev table_3 : Table Best
table_3 = table 2 (some 0 ∷ some 3 ∷ some 0 ∷ some 0 ∷ some 5 ∷ none ∷ none ∷ some 4 ∷ [])

-- a sheet of two vectors for tables 1 and 2, of which one step coefficient is given
abbrev sheet_with : ℕ → Sheet best
sheet_with c = record {
  events = 1;
  left = table_1;
  right = table_2;
  vectors = 2;
  run = some 0 ∷ some 0 ∷ some 0 ∷ some 0 ∷ some 0 ∷ some 0 ∷ none ∷ some c ∷ some 5 ∷ none ∷ some 5 ∷ some 0 ∷ none ∷ [];
}

-- sheets of one vector, all of whose numbers are zero, for two tables of one state whose steps are 1 and 2
abbrev count_zeros : Sheet count
count_zeros = record {
  events = 1;
  left = table 1 (whole 1 ∷ whole 1 ∷ whole 1 ∷ []);
  right = table 1 (whole 1 ∷ whole 1 ∷ whole 2 ∷ []);
  vectors = 1;
  run = whole 0 ∷ whole 0 ∷ whole 0 ∷ whole 0 ∷ whole 0 ∷ [];
}

abbrev best_zeros : Sheet best
best_zeros = record {
  events = 1;
  left = table 1 (some 1 ∷ some 1 ∷ some 1 ∷ []);
  right = table 1 (some 1 ∷ some 1 ∷ some 2 ∷ []);
  vectors = 1;
  run = none ∷ none ∷ none ∷ none ∷ none ∷ [];
}

-- two chains over two events, of scale 2: starts first, then rows
abbrev chain_p : Chain
chain_p = record {
  events = 2;
  states = 2;
  scale = 2;
  letters = codes "ab";
  run = whole 2 ∷ whole 0 ∷ whole 1 ∷ whole 1 ∷ whole 0 ∷ whole 2 ∷ [];
}

abbrev chain_q : Chain
chain_q = record {
  events = 2;
  states = 3;
  scale = 2;
  letters = codes "aab";
  run = whole 1 ∷ whole 1 ∷ whole 0 ∷ whole 1 ∷ whole 0 ∷ whole 1 ∷ whole 0 ∷ whole 1 ∷ whole 1 ∷ whole 0 ∷ whole 0 ∷ whole 2 ∷ [];
}

-- a count table of one state over one event, whose step is the largest entry
abbrev large_step : Table Count
large_step = table 1 (whole 1 ∷ whole 1 ∷ whole 100000 ∷ [])

-- ---- the examples
-- A row: what is shown, in words, and the example.
pub record Row : Type 0 where
  pub shown : List ℕ
  pub example : Example

-- the row of a text and an example
abbrev row : List ℕ → Example → Row
row shown example = record { shown = shown; example = example }

-- a new example is one more line here
abbrev pub worked_examples : List Row
worked_examples =
    row (codes "best: the empty word weighs 0 in table 1") (weighs best table_1 (codes "") (Some (pos 0)))
    ∷ row (codes "best: the empty word weighs 0 in table 3") (weighs best table_3 (codes "") (Some (pos 0)))
    ∷ row (codes "best: aaa weighs 15 in table 1") (weighs best table_1 (codes "aaa") (Some (pos 15)))
    ∷ row (codes "best: aaa weighs 15 in table 3 too") (weighs best table_3 (codes "aaa") (Some (pos 15)))
    ∷ row (codes "best: aaaa weighs 20 in table 1") (weighs best table_1 (codes "aaaa") (Some (pos 20)))
    ∷ row (codes "best: aaaa weighs 19 in table 3") (weighs best table_3 (codes "aaaa") (Some (pos 19)))
    ∷ row (codes "best: a sheet for tables 1 and 2 keeps the rules") (sheet_kept best (sheet_with 7))
    ∷ row (codes "best: with 6 for its 7 the step rule fails at the first event and vector") (sheet_refused best (sheet_with 6) 14 1)
    ∷ row (codes "count: only its scale, 0, stops a sheet for tables that weigh a differently") (scale_refused count count_zeros (codes "a"))
    ∷ row (codes "best: only its scale, none, stops a sheet for tables that weigh a differently") (scale_refused best best_zeros (codes "a"))
    ∷ row (codes "chains: ab weighs 4 in the table of P") (chain_weighs chain_p (codes "ab") (pos 4))
    ∷ row (codes "chains: ab weighs 4 in the table of Q too") (chain_weighs chain_q (codes "ab") (pos 4))
    ∷ row (codes "chains: aab weighs 4 in the table of P") (chain_weighs chain_p (codes "aab") (pos 4))
    ∷ row (codes "chains: aab weighs 4 in the table of Q too") (chain_weighs chain_q (codes "aab") (pos 4))
    ∷ row (codes "count: aaa weighs 10 to the power 15 where each step is 100000") (weighs count large_step (codes "aaa") (pos 1000000000000000))
    ∷ row (codes "count: aaaa is out of range there") (weighing_refused count large_step (codes "aaaa") 19 0)
    ∷ []

-- every row holds
abbrev pub WorkedExamplesHold : Type 0
WorkedExamplesHold = AllByRecursion (λ r. Holds r.example) worked_examples
