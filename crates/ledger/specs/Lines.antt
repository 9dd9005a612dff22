-- The lines of a ledger: how classes are named, and where tables lie on the shelf.
use Rattle.std.specs.Prelude.{◌≡◌, ℕ, ◌+◌, ◌-◌, ◌≤◌, true, List, [], ◌∷◌, length, take, slice_index_or}
use Rattle.tables.specs.Shape.{most_states, one_to, table_size}
use Rattle.ledger.specs.declared.line.Line.{Line}

-- a book has at most 32 tables
abbrev pub most_tables : ℕ
most_tables = 32

-- what stands where no line does
abbrev pub blank : Line
blank = record { states = 0; place = 0; class = 0 }

-- there is a table i, counted from 1
abbrev pub Has : List Line → ℕ → Type 0
Has ls i = (1 ≤ i) × (i ≤ length ls)

-- the line of table i
abbrev pub line_of : List Line → ℕ → Line
line_of ls i = slice_index_or ls (i - 1) blank

-- the name of the class of table i
abbrev pub class_of : List Line → ℕ → ℕ
class_of ls i = (line_of ls i).class

-- a class is named by the smallest table in it: the name is 1 to the table, and a table of the class, so that no table of the class is smaller
abbrev pub Named : List Line → Type 0
Named ls = (i : ℕ) → Has ls i → (one_to i (class_of ls i) ≡ true) × (class_of ls (class_of ls i) ≡ class_of ls i)

-- how many numbers the tables take on the shelf, with k events
abbrev pub used : ℕ → List Line → ℕ
used k [] = 0
used k (l ∷ ls) = table_size l.states k + used k ls

-- each table has 1 to 8 states
abbrev pub Sized : List Line → Type 0
Sized ls = (i : ℕ) → Has ls i → (1 ≤ (line_of ls i).states) × ((line_of ls i).states ≤ most_states)

-- each table begins right behind the ones before it; places count from 1
abbrev pub Packed : ℕ → List Line → Type 0
Packed k ls = (i : ℕ) → Has ls i → (line_of ls i).place ≡ 1 + used k (take (i - 1) ls)

-- the lines of a book with k events: the classes are named, the tables have their states and lie behind one another
pub record Sound (k : ℕ) (ls : List Line) : Type 0 where
  pub named : Named ls
  pub sized : Sized ls
  pub packed : Packed k ls
