-- Refusals: the number of each, and a fault with or without a place.
use Rattle.std.specs.Prelude.{ℕ, Bool, true, false, Some, None, Ok, Err, Option, Result}
use Rattle.kinds.specs.declared.fault.Refusal.{Refusal}
use Rattle.kinds.specs.declared.fault.Refusal.TheVariants.{EventCount, StateCount, NumberCount, NotAnEntry, TooManyTables, ShelfFull, NoSuchTable, SameTable, VectorCount, SheetCount, NotASheetEntry, ScaleDoesNotCancel, StartRuleFails, StepRuleFails, EndRuleFails, WordLength, NotAnEvent, StripLength, OutOfRange, EqualWeights, TooManyParts, ScaleRange, Letters, ProbabilityRange, RowSum, OutputLength, NoSuchPart, WordRunLength, LineBounds, VerbNotServed, FieldCount, FieldForm}
use Rattle.kinds.specs.declared.fault.Fault.{Fault}

-- the number of each refusal
abbrev pub number_of : Refusal → ℕ
number_of EventCount = 1
number_of StateCount = 2
number_of NumberCount = 3
number_of NotAnEntry = 4
number_of TooManyTables = 5
number_of ShelfFull = 6
number_of NoSuchTable = 7
number_of SameTable = 8
number_of VectorCount = 9
number_of SheetCount = 10
number_of NotASheetEntry = 11
number_of ScaleDoesNotCancel = 12
number_of StartRuleFails = 13
number_of StepRuleFails = 14
number_of EndRuleFails = 15
number_of WordLength = 16
number_of NotAnEvent = 17
number_of StripLength = 18
number_of OutOfRange = 19
number_of EqualWeights = 20
number_of TooManyParts = 21
number_of ScaleRange = 22
number_of Letters = 23
number_of ProbabilityRange = 24
number_of RowSum = 25
number_of OutputLength = 26
number_of NoSuchPart = 27
number_of WordRunLength = 28
number_of LineBounds = 29
number_of VerbNotServed = 30
number_of FieldCount = 31
number_of FieldForm = 32

-- a refusal at a place
abbrev pub fault_at : Refusal → ℕ → Fault
fault_at r p = record { refusal = r; place = p }

-- a refusal that names no place
abbrev pub fault : Refusal → Fault
fault r = fault_at r 0

-- a step that may be refused, and what follows where it is not
abbrev pub then : {A B : Type 0} → Result A Fault → (A → Result B Fault) → Result B Fault
then (Ok a) f = f a
then (Err e) f = Err e

-- ---- refusals in order
-- a test refuses where it fails; else the rest is asked
abbrev pub unless : Bool → Fault → Option Fault → Option Fault
unless true f rest = rest
unless false f rest = Some f

-- a place that is found refuses; else the rest is asked
abbrev pub unless_found : Option ℕ → Refusal → Option Fault → Option Fault
unless_found (Some p) r rest = Some (fault_at r p)
unless_found None r rest = rest

-- an answer where nothing refuses
abbrev pub or_refused : {X : Type 0} → Option Fault → X → Result X Fault
or_refused None x = Ok x
or_refused (Some f) x = Err f

-- what there was, unless nothing refuses
abbrev pub or_kept : {X : Type 0} → Option Fault → X → X → X
or_kept None old new = new
or_kept (Some f) old new = old
