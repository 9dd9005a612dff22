-- What the answer of the check says, in the words of the rules.
use Rattle.std.specs.Prelude.{◌≡◌, ℕ, ◌+◌, ◌-◌, ◌*◌, ◌<◌, ◌≤◌, Bool, List, length, Some, None, Ok, Err, Decides, Result, ◌≢◌}
use Rattle.kinds.specs.declared.fault.Fault.{Fault}
use Rattle.kinds.specs.declared.fault.Refusal.TheVariants.{NotASheetEntry, ScaleDoesNotCancel, StartRuleFails, StepRuleFails, EndRuleFails, OutOfRange}
use Rattle.kinds.specs.Faults.{fault, fault_at, or_refused}
use Rattle.kinds.specs.Semiring.{Cancels}
use Rattle.kinds.specs.Numbers.{Numbers}
use Rattle.tables.specs.Layout.{value}
use Rattle.tables.specs.Entries.{AllEntries, FirstOther}
use Rattle.sheets.specs.Rules.{Coefficients, Half, StartAt, StepAt, EndRule, Kept}
use Rattle.sheets.specs.Alike.{EveryWordAlike}
use Rattle.sheets.specs.Layout.{most_vectors, scale_at, sheet_size}
use Rattle.sheets.specs.Answer.{starts_in, shape_fault, form_fault, sheet_fault, coefficients_of, left_of, right_of}

-- the scale of a sheet cancels
abbrev pub ScaleCancels : {K : Type 0} (N : Numbers K) → List K → Type 0
ScaleCancels N sheet = Cancels N.exact (value N sheet scale_at)

-- some Boolean, which tells whether the scale cancels where refusals 9, 10 and 11 are not given, keeps Q
abbrev pub AtScaleTest : {K : Type 0} (N : Numbers K) → ℕ → ℕ → ℕ → List K → (Bool → Type 0) → Type 0
AtScaleTest N k width R sheet Q = (b : Bool) × (shape_fault N k width R sheet None ≡ None → Decides b (ScaleCancels N sheet)) × Q b

-- the refusals 9 to 12 are given, whatever the tables hold
abbrev pub Early : {K : Type 0} (N : Numbers K) → ℕ → ℕ → ℕ → List K → Result (Unit {0}) Fault → Type 0
Early N k width R sheet r = AtScaleTest N k width R sheet (λ b. (f : Fault) → form_fault N k width R sheet b ≡ Some f → r ≡ Err f)

module _ {K : Type 0} (N : Numbers K) (k n : ℕ) (a-run : List K) (m : ℕ) (b-run : List K) (R : ℕ) (sheet : List K) where
  -- this sheet's coefficients and halves
  abbrev C : Coefficients N.exact.Value
  C = coefficients_of N k n a-run m b-run R sheet

  abbrev A : Half N.exact.Value
  A = left_of N k n a-run m b-run R sheet

  abbrev B : Half N.exact.Value
  B = right_of N k n a-run m b-run R sheet

  -- the start rule at a vector, and the step rule at an event and a vector
  abbrev pub StartHolds : ℕ → Type 0
  StartHolds = StartAt N.exact C A B (starts_in N a-run) (starts_in N b-run)

  abbrev pub StepHolds : ℕ → ℕ → Type 0
  StepHolds = StepAt N.exact C A B

  -- the shape is right, all numbers are entries, and the scale cancels
  pub record Formed : Type 0 where
    pub some_vector : 1 ≤ R
    pub few_vectors : R ≤ most_vectors
    pub as_many : length sheet ≡ sheet_size (n + m) R k
    pub entries : AllEntries N sheet
    pub cancels : ScaleCancels N sheet

  -- the three rules hold, for the tables' own starts
  abbrev pub Keeps : Type 0
  Keeps = Kept N.exact C A B k (starts_in N a-run) (starts_in N b-run)

  -- vector r, counted from 0, is the first at which the start rule fails
  pub record StartFails (r : ℕ) : Type 0 where
    pub vector : r < R
    pub fails : StartHolds r → ⊥
    pub before : (q : ℕ) → q < r → StartHolds q

  -- event e, counted from 1, and vector r are the first at which the step rule fails
  pub record StepFails (e r : ℕ) : Type 0 where
    pub some_event : 1 ≤ e
    pub event : e ≤ k
    pub vector : r < R
    pub fails : StepHolds e r → ⊥
    pub before : (d q : ℕ) → 1 ≤ d → q < R → (d - 1) * R + q < (e - 1) * R + r → StepHolds d q

  -- the refusals 9 to 15 are given in order
  abbrev pub Answers : Result (Unit {0}) Fault → Type 0
  Answers r = AtScaleTest N k (n + m) R sheet (λ b. r ≡ or_refused (sheet_fault N k n a-run m b-run R sheet b) tt)

  pub record AcceptsExactly (r : Result (Unit {0}) Fault) : Type 0 where
    -- accepted exactly if the sheet is formed and keeps the rules
    pub accepted : r ≡ Ok tt → Formed × Keeps
    pub accepts : Formed → Keeps → r ≡ Ok tt
    -- refused where the number, the scale or the rule fails, and, where the refusal names a place, at no lower place
    pub entry_fails : (p : ℕ) → r ≡ Err (fault_at NotASheetEntry p) → FirstOther N sheet p
    pub scale_fails : r ≡ Err (fault ScaleDoesNotCancel) → ScaleCancels N sheet → ⊥
    pub start_fails : (p : ℕ) → r ≡ Err (fault_at StartRuleFails p) → (q : ℕ) × (p ≡ q + 1) × StartFails q
    pub step_fails : (p : ℕ) → r ≡ Err (fault_at StepRuleFails p) → (e : ℕ) × (q : ℕ) × (p ≡ (e - 1) * R + (q + 1)) × StepFails e q
    pub end_fails : r ≡ Err (fault EndRuleFails) → EndRule N.exact C A B → ⊥
    -- never out of range
    pub in_range : (p : ℕ) → r ≢ Err (fault_at OutOfRange p)

  -- every word over the events weighs the same in both tables
  abbrev pub Alike : Type 0
  Alike = EveryWordAlike N.exact k n (value N a-run) m (value N b-run)
