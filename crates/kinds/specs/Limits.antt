-- The limits of the numbers that fit and of those that are entries.
use Rattle.std.specs.Prelude.{ℕ}

-- a whole number fits from minus this to this
abbrev pub largest_fit : ℕ
largest_fit = 4000000000000000000

-- a whole number is an entry from minus this to this
abbrev pub largest_entry : ℕ
largest_entry = 100000
