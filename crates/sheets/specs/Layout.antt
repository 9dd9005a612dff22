-- What stands where in the run of a sheet with R vectors of so many numbers (width), places counted from 0:
-- the scale, the vectors, the step coefficients (R for each pair of an event and a vector), and the R end coefficients.
use Rattle.std.specs.Prelude.{ℕ, ◌+◌, ◌-◌, ◌*◌}
use Rattle.sheets.specs.Rules.{Coefficients}

-- a sheet has 1 to 16 vectors
abbrev pub most_vectors : ℕ
most_vectors = 16

-- the two tables of a sheet have so many states at most
abbrev pub most_width : ℕ
most_width = 16

-- the place of the scale
abbrev pub scale_at : ℕ
scale_at = 0

-- the place of number i of vector r: the left numbers, then the right ones
abbrev pub vector_at : ℕ → ℕ → ℕ → ℕ
vector_at width r i = 1 + r * width + i

-- the place of the step coefficient of event e, counted from 1, and vector r for vector q
abbrev pub stepping_at : ℕ → ℕ → ℕ → ℕ → ℕ → ℕ
stepping_at width R e r q = 1 + R * width + (e - 1) * R * R + r * R + q

-- the place of the end coefficient for vector q, behind the k events
abbrev pub ending_at : ℕ → ℕ → ℕ → ℕ → ℕ
ending_at width R k q = 1 + R * width + k * R * R + q

-- how many numbers a sheet has
abbrev pub sheet_size : ℕ → ℕ → ℕ → ℕ
sheet_size width R k = 1 + R * width + k * R * R + R

module _ {V : Type 0} (width : ℕ) (sheet : ℕ → V) where
  -- the numbers that a sheet's vectors have for a table, behind so many others (shift)
  abbrev pub numbers_from : ℕ → ℕ → ℕ → V
  numbers_from shift r i = sheet (vector_at width r (shift + i))

  -- the scale and the coefficients of a sheet for k events
  abbrev pub coefficients : ℕ → ℕ → Coefficients V
  coefficients k R = record { vectors = R; scale = sheet scale_at; stepping = λ e r q. sheet (stepping_at width R e r q); ending = λ q. sheet (ending_at width R k q) }
