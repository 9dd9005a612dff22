-- How two classes become one.
use Rattle.std.specs.Prelude.{ℕ, min, max, cond, List, map, length, ◌==◌}
use Rattle.tables.specs.Shape.{one_to}
use Rattle.ledger.specs.declared.line.Line.{Line}
use Rattle.ledger.specs.Lines.{class_of}

-- the line in another class
abbrev pub with_class : Line → ℕ → Line
with_class l to = record { states = l.states; place = l.place; class = to }

-- a line of one class is moved to another, any other stays
abbrev pub relabelled : ℕ → ℕ → Line → Line
relabelled from to l = cond (l.class == from) (with_class l to) l

-- the classes of two tables under the smaller name
abbrev pub merged : ℕ → ℕ → List Line → List Line
merged a b ls = map (relabelled (max (class_of ls a) (class_of ls b)) (min (class_of ls a) (class_of ls b))) ls

-- the same where both tables are in the book; else nothing changes
abbrev pub merged_if_there : ℕ → ℕ → List Line → List Line
merged_if_there a b ls = cond (one_to (length ls) a) (cond (one_to (length ls) b) (merged a b ls) ls) ls
