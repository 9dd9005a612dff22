-- The rules of a sheet as tests on exact values.
use Rattle.std.specs.Prelude.{ℕ, ◌+◌, ◌/◌, ◌%◌, Bool, ◌&&◌}
use Rattle.kinds.specs.Numbers.{Numbers}
use Rattle.sheets.specs.Rules.{Coefficients, Half, start_sum, scaled_step, scaled_end, combined}
use Rattle.sheets.specs.Firsts.{every}

-- the event, counted from 1, and the vector of a place: (event - 1) × vectors + vector
abbrev pub event_of : ℕ → ℕ → ℕ
event_of R p = p / R + 1

abbrev pub vector_of : ℕ → ℕ → ℕ
vector_of R p = p % R

module _ {K : Type 0} (N : Numbers K) where
  module _ (c : Coefficients N.exact.Value) (h : Half N.exact.Value) where
    -- the step rule of one half at event e and vector r, in row i and in every row
    abbrev pub step_row_kept : ℕ → ℕ → ℕ → Bool
    step_row_kept e r i = N.same (scaled_step N.exact c h e r i) (combined N.exact c h (c.stepping e r) i)

    abbrev pub step_rows_kept : ℕ → ℕ → Bool
    step_rows_kept e r = every h.states (step_row_kept e r)

    -- the end rule of one half, in row i and in every row
    abbrev pub end_row_kept : ℕ → Bool
    end_row_kept i = N.same (scaled_end N.exact c h i) (combined N.exact c h c.ending i)

    abbrev pub end_rows_kept : Bool
    end_rows_kept = every h.states end_row_kept

  module _ (c : Coefficients N.exact.Value) (a b : Half N.exact.Value) where
    -- the start rule at vector r
    abbrev pub start_kept : (ℕ → N.exact.Value) → (ℕ → N.exact.Value) → ℕ → Bool
    start_kept starts-a starts-b r = N.same (start_sum N.exact starts-a a r) (start_sum N.exact starts-b b r)

    -- the step rule at event e and vector r, and at a place
    abbrev pub step_kept : ℕ → ℕ → Bool
    step_kept e r = step_rows_kept c a e r && step_rows_kept c b e r

    abbrev pub step_kept_at : ℕ → Bool
    step_kept_at p = step_kept (event_of c.vectors p) (vector_of c.vectors p)

    -- the end rule
    abbrev pub ends_kept : Bool
    ends_kept = end_rows_kept c a && end_rows_kept c b
