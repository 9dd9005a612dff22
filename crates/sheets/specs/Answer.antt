-- What the check of a sheet answers: its refusals in order.
use Rattle.std.specs.Prelude.{ℕ, ◌+◌, ◌*◌, Bool, List, length, Some, None, Option, ◌==◌}
use Rattle.kinds.specs.declared.fault.Fault.{Fault}
use Rattle.kinds.specs.declared.fault.Refusal.TheVariants.{VectorCount, SheetCount, NotASheetEntry, ScaleDoesNotCancel, StartRuleFails, StepRuleFails, EndRuleFails}
use Rattle.kinds.specs.Faults.{fault, unless, unless_found}
use Rattle.kinds.specs.Numbers.{Numbers}
use Rattle.tables.specs.Shape.{one_to}
use Rattle.tables.specs.Layout.{start_at, value}
use Rattle.tables.specs.Entries.{first_other}
use Rattle.sheets.specs.Rules.{Coefficients, Half}
use Rattle.sheets.specs.Alike.{half}
use Rattle.sheets.specs.Layout.{most_vectors, sheet_size, numbers_from, coefficients}
use Rattle.sheets.specs.Firsts.{first_place}
use Rattle.sheets.specs.Tests.{start_kept, step_kept_at, ends_kept}

-- what one part refuses, or else what the next part does
abbrev pub or_next : Option Fault → Option Fault → Option Fault
or_next None next = next
or_next (Some f) next = Some f

module _ {K : Type 0} (N : Numbers K) (k width R : ℕ) (sheet : List K) where
  -- 9, 10, 11, and then the rest
  abbrev pub shape_fault : Option Fault → Option Fault
  shape_fault rest =
      unless (one_to most_vectors R) (fault VectorCount)
      (unless (length sheet == sheet_size width R k) (fault SheetCount)
      (unless_found (first_other N 1 sheet) NotASheetEntry rest))

  -- 9, 10, 11 and 12, where a Boolean tells whether the scale cancels
  abbrev pub form_fault : Bool → Option Fault
  form_fault cancels = shape_fault (unless cancels (fault ScaleDoesNotCancel) None)

module _ {K : Type 0} (N : Numbers K) (c : Coefficients N.exact.Value) (a b : Half N.exact.Value) where
  -- 13
  abbrev pub start_fault : (ℕ → N.exact.Value) → (ℕ → N.exact.Value) → Option Fault
  start_fault starts-a starts-b = unless_found (first_place c.vectors (start_kept N c a b starts-a starts-b)) StartRuleFails None

  -- 14, over k events
  abbrev pub step_fault : ℕ → Option Fault
  step_fault k = unless_found (first_place (k * c.vectors) (step_kept_at N c a b)) StepRuleFails None

  -- 15
  abbrev pub end_fault : Option Fault
  end_fault = unless (ends_kept N c a b) (fault EndRuleFails) None

  -- 14 and 15
  abbrev pub step_and_end_fault : ℕ → Option Fault
  step_and_end_fault k = or_next (step_fault k) end_fault

-- the starts of a table in a run
abbrev pub starts_in : {K : Type 0} (N : Numbers K) → List K → ℕ → N.exact.Value
starts_in N run i = value N run (start_at i)

-- a sheet of R vectors for a table of n states and one of m, over k events, as runs of numbers
module _ {K : Type 0} (N : Numbers K) (k n : ℕ) (a-run : List K) (m : ℕ) (b-run : List K) (R : ℕ) (sheet : List K) where
  -- its coefficients, its left half and its right half
  abbrev pub coefficients_of : Coefficients N.exact.Value
  coefficients_of = coefficients (n + m) (value N sheet) k R

  abbrev pub left_of : Half N.exact.Value
  left_of = half n (value N a-run) (numbers_from (n + m) (value N sheet) 0)

  abbrev pub right_of : Half N.exact.Value
  right_of = half m (value N b-run) (numbers_from (n + m) (value N sheet) n)

  -- 9 to 15
  abbrev pub sheet_fault : Bool → Option Fault
  sheet_fault cancels =
      or_next (form_fault N k (n + m) R sheet cancels)
      (or_next (start_fault N coefficients_of left_of right_of (starts_in N a-run) (starts_in N b-run))
      (step_and_end_fault N coefficients_of left_of right_of k))
