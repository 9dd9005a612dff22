-- A strip: scratch for two vectors, each with a number for each of the most states.
use Rattle.std.specs.Prelude.{◌≡◌, ℕ, ◌+◌, ◌*◌, ◌<◌, cond, List, length, replicate, Ok, Err, Result, ◌==◌}
use Rattle.kinds.specs.declared.fault.Fault.{Fault}
use Rattle.kinds.specs.Numbers.{Numbers, Says, zero_of}
use Rattle.tables.specs.Layout.{step_at, number_at, value, AllStored, Stored}
use Rattle.tables.specs.Path.{listed, sums, rows, stepped, path_answer}

-- how many numbers a strip has
abbrev pub strip_size : ℕ
strip_size = 16

module _ {K : Type 0} (N : Numbers K) where
  -- a strip of the right size is all zero, any other as it was
  abbrev pub cleared : List K → List K
  cleared strip = cond (length strip == strip_size) (replicate strip_size (zero_of N)) strip

  -- r answers that the numbers x are the vector c of n states, or is c's refusal
  abbrev pub Stands : ℕ → Result (List N.exact.Value) Fault → (ℕ → K) → Result (Unit {0}) Fault → Type 0
  Stands n c x (Ok _) = (c ≡ Ok (listed n (λ j. N.read (x j)))) × AllStored N n x
  Stands n c x (Err e) = c ≡ Err e

  -- the sum of products of a vector's numbers and a run's from a place on
  abbrev pub dotted : List K → ℕ → List K → Result N.exact.Value Fault
  dotted run at vector = sums N (length vector) (λ j. value N run (at + j)) (value N vector)

  -- r is that sum, if all its numbers are stored
  abbrev pub DotSays : List K → ℕ → List K → Result K Fault → Type 0
  DotSays run at vector r =
      AllStored N (length vector) (λ j. number_at N run (at + j))
      → AllStored N (length vector) (number_at N vector)
      → Says N (dotted run at vector) r

  -- as many rows of a run from a place on as the vector has numbers stand there, each times the vector, if all their numbers are stored
  abbrev pub RowsStand : List K → ℕ → List K → List K → Result (Unit {0}) Fault → Type 0
  RowsStand run at vector there r =
      ((i : ℕ) → i < length vector → AllStored N (length vector) (λ j. number_at N run (at + i * length vector + j)))
      → AllStored N (length vector) (number_at N vector)
      → Stands (length vector) (rows N (length vector) (λ i. dotted run (at + i * length vector) vector)) (number_at N there) r

  -- a vector is the steps of an event times the vector that it was, if all their numbers are stored
  abbrev pub StepsStand : List K → ℕ → List K → List K → Result (Unit {0}) Fault → Type 0
  StepsStand run e was new r =
      ((i : ℕ) → i < length was → AllStored N (length was) (λ j. number_at N run (step_at (length was) e i j)))
      → AllStored N (length was) (number_at N was)
      → Stands (length was) (stepped N (length was) (value N run) e (value N was)) (number_at N new) r

  -- r is what the path of a word gives, if all numbers that it reads are stored
  abbrev pub PathSays : ℕ → List K → List ℕ → Result K Fault → Type 0
  PathSays n run w r = Stored N n run w → Says N (path_answer N n (value N run) w) r
