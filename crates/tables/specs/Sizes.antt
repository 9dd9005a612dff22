-- A test on rows of sizes: a row for each count of states, and in it the size for each count of events.
use Rattle.std.specs.Prelude.{ℕ, suc, Bool, true, ◌&&◌, List, [], ◌∷◌, length, ◌==◌}
use Rattle.tables.specs.Shape.{most_events, most_states, table_size}

-- a test passes at each element of a list and its place, counted from i
abbrev pub every : {X : Type 0} → (ℕ → X → Bool) → ℕ → List X → Bool
every f i [] = true
every f i (x ∷ xs) = f i x && every f (suc i) xs

-- an element is the size of its row and place, both counted from 1
abbrev pub right : ℕ → ℕ → ℕ → Bool
right n k x = x == table_size (suc n) (suc k)

-- a row has an element for each count of events, each right
abbrev pub row_right : ℕ → List ℕ → Bool
row_right n row = length row == most_events && every (right n) 0 row

-- there is a row for each count of states, each right
abbrev pub rows_right : List (List ℕ) → Bool
rows_right rows = length rows == most_states && every row_right 0 rows
