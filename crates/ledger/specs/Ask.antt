-- What asking about two tables answers.
use Rattle.std.specs.Prelude.{ℕ, Bool, cond, not, ◌&&◌, ◌||◌, List, Some, None, Option, Result, ◌==◌}
use Rattle.kinds.specs.declared.fault.Fault.{Fault}
use Rattle.kinds.specs.Faults.{or_refused}
use Rattle.tables.specs.Firsts.{first_failing}
use Rattle.ledger.specs.declared.asking.Comparison.{Comparison}
use Rattle.ledger.specs.declared.asking.Comparison.TheVariants.{Same, Different, Unknown}
use Rattle.ledger.specs.declared.line.Line.{Line}
use Rattle.ledger.specs.Lines.{class_of}
use Rattle.ledger.specs.Parts.{Kept}
use Rattle.ledger.specs.Standing.{unless_table}

-- u and v are x and y, either way round
abbrev pub pairs : ℕ → ℕ → ℕ → ℕ → Bool
pairs u v x y = (u == x && v == y) || (u == y && v == x)

-- the two tables of a part lie in the classes x and y, one in each
abbrev pub between : List Line → ℕ → ℕ → Kept → Bool
between ls x y p = pairs (class_of ls p.first) (class_of ls p.second) x y

-- the lowest part between two classes
abbrev pub lowest_between : List Line → List Kept → ℕ → ℕ → Option ℕ
lowest_between ls ps x y = first_failing (λ p. not (between ls x y p)) 1 ps

-- different by a part, if there is one
abbrev pub by_part : Option ℕ → Comparison
by_part (Some p) = Different p
by_part None = Unknown

-- what is said of two tables: same in one class, different by the lowest part between their classes, or unknown
abbrev pub compared : List Line → List Kept → ℕ → ℕ → Comparison
compared ls ps a b = cond (class_of ls a == class_of ls b) Same (by_part (lowest_between ls ps (class_of ls a) (class_of ls b)))

-- what is answered: 7 for a table that the book has not, and nothing else is refused
abbrev pub ask_answer : List Line → List Kept → ℕ → ℕ → Result Comparison Fault
ask_answer ls ps a b = or_refused (unless_table ls a 1 (unless_table ls b 2 None)) (compared ls ps a b)
