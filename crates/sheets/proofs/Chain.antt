-- The refusals of a sheet in order: what is known where one of them is given, and where none is.
use Rattle.std.proofs.Common.{◌≡◌, ℕ, Bool, true, false, Some, None, Option, arith}
use Rattle.kinds.specs.declared.fault.Fault.{Fault}
use Rattle.kinds.specs.declared.fault.Refusal.TheVariants.{VectorCount, SheetCount, NotASheetEntry, ScaleDoesNotCancel, StartRuleFails, StepRuleFails, EndRuleFails, OutOfRange}
use Rattle.kinds.specs.Faults.{fault, fault_at, unless, unless_found}
use Rattle.sheets.specs.Answer.{or_next}

-- the refusals 9 to 15 of what each test answers
abbrev pub chain : Bool → Bool → Option ℕ → Bool → Option ℕ → Option ℕ → Bool → Option Fault
chain b9 b10 o11 b12 o13 o14 b15 =
    or_next (unless b9 (fault VectorCount) (unless b10 (fault SheetCount) (unless_found o11 NotASheetEntry (unless b12 (fault ScaleDoesNotCancel) None))))
    (or_next (unless_found o13 StartRuleFails None) (or_next (unless_found o14 StepRuleFails None) (unless b15 (fault EndRuleFails) None)))

-- the tests of 9 to 12 pass
pub record Passes (b9 b10 : Bool) (o11 : Option ℕ) (b12 : Bool) : Type 0 where
  pub vectors : b9 ≡ true
  pub count : b10 ≡ true
  pub entries : o11 ≡ None
  pub scale : b12 ≡ true

-- the number that 11 names was found
pub chain_11 : (b9 b10 : Bool) (o11 : Option ℕ) (b12 : Bool) (o13 o14 : Option ℕ) (b15 : Bool) (p : ℕ) → chain b9 b10 o11 b12 o13 o14 b15 ≡ Some (fault_at NotASheetEntry p) → o11 ≡ Some p
chain_11 b9 b10 o11 b12 o13 o14 b15 p e = grind arith

-- the scale does not cancel, and the shape is right
pub chain_12 : (b9 b10 : Bool) (o11 : Option ℕ) (b12 : Bool) (o13 o14 : Option ℕ) (b15 : Bool) → chain b9 b10 o11 b12 o13 o14 b15 ≡ Some (fault ScaleDoesNotCancel) → (b9 ≡ true) × (b10 ≡ true) × (o11 ≡ None) × (b12 ≡ false)
chain_12 b9 b10 o11 b12 o13 o14 b15 e = grind arith

-- the vector that 13 names was found
pub chain_13 : (b9 b10 : Bool) (o11 : Option ℕ) (b12 : Bool) (o13 o14 : Option ℕ) (b15 : Bool) (p : ℕ) → chain b9 b10 o11 b12 o13 o14 b15 ≡ Some (fault_at StartRuleFails p) → Passes b9 b10 o11 b12 × (o13 ≡ Some p)
chain_13 b9 b10 o11 b12 o13 o14 b15 p e = grind arith

-- the event and vector that 14 names were found
pub chain_14 : (b9 b10 : Bool) (o11 : Option ℕ) (b12 : Bool) (o13 o14 : Option ℕ) (b15 : Bool) (p : ℕ) → chain b9 b10 o11 b12 o13 o14 b15 ≡ Some (fault_at StepRuleFails p) → Passes b9 b10 o11 b12 × (o14 ≡ Some p)
chain_14 b9 b10 o11 b12 o13 o14 b15 p e = grind arith

-- the end rule failed
pub chain_15 : (b9 b10 : Bool) (o11 : Option ℕ) (b12 : Bool) (o13 o14 : Option ℕ) (b15 : Bool) → chain b9 b10 o11 b12 o13 o14 b15 ≡ Some (fault EndRuleFails) → Passes b9 b10 o11 b12 × (b15 ≡ false)
chain_15 b9 b10 o11 b12 o13 o14 b15 e = grind arith

-- out of range is none of them
pub chain_19 : (b9 b10 : Bool) (o11 : Option ℕ) (b12 : Bool) (o13 o14 : Option ℕ) (b15 : Bool) (p : ℕ) → chain b9 b10 o11 b12 o13 o14 b15 ≡ Some (fault_at OutOfRange p) → ⊥
chain_19 b9 b10 o11 b12 o13 o14 b15 p e = grind arith

-- nothing is refused
pub chain_none : (b9 b10 : Bool) (o11 : Option ℕ) (b12 : Bool) (o13 o14 : Option ℕ) (b15 : Bool) → chain b9 b10 o11 b12 o13 o14 b15 ≡ None → Passes b9 b10 o11 b12 × (o13 ≡ None) × (o14 ≡ None) × (b15 ≡ true)
chain_none b9 b10 o11 b12 o13 o14 b15 e = grind arith

-- where all tests pass nothing is refused
pub chain_passes : (b9 b10 : Bool) (o11 : Option ℕ) (b12 : Bool) (o13 o14 : Option ℕ) (b15 : Bool) → Passes b9 b10 o11 b12 → o13 ≡ None → o14 ≡ None → b15 ≡ true → chain b9 b10 o11 b12 o13 o14 b15 ≡ None
chain_passes b9 b10 o11 b12 o13 o14 b15 p e13 e14 e15 = simp (p.vectors, p.count, p.entries, p.scale, e13, e14, e15)
