-- A test for each kind of example, and that an example holds if it passes.
use Rattle.std.proofs.Common.{◌≡◌, ℕ, ◌+◌, ◌*◌, ◌≤◌, Bool, true, false, not, ◌&&◌, eqb, leb, List, [], ◌∷◌, length, Some, None, Ok, Err, Decides, Option, Result, sym, refl, ap, ◌∙◌, subst, arith}
use Rattle.std.specs.List.{AllByRecursion}
use Rattle.std.proofs.lemmas.Bool.{and_parts, eqb-true, leb-true}
use Rattle.std.proofs.lemmas.Bool.Decides.{Decides-not}
use Rattle.kinds.specs.declared.fault.Fault.{Fault}
use Rattle.kinds.specs.declared.fault.Refusal.TheVariants.{VectorCount, SheetCount, NotASheetEntry}
use Rattle.kinds.specs.Faults.{number_of, fault, unless, unless_found, or_refused}
use Rattle.kinds.specs.Numbers.{Numbers}
use Rattle.kinds.proofs.Refusing.{answered}
use Rattle.tables.specs.Shape.{one_to, most_states, table_size}
use Rattle.tables.specs.Layout.{value}
use Rattle.tables.specs.Entries.{AllEntries, first_other}
use Rattle.tables.proofs.Limits.{one_to_parts}
use Rattle.sheets.specs.Rules.{Coefficients, Half}
use Rattle.sheets.specs.Layout.{most_vectors, scale_at, sheet_size}
use Rattle.sheets.specs.Firsts.{first_place}
use Rattle.sheets.specs.Tests.{start_kept, step_kept_at, ends_kept}
use Rattle.sheets.specs.Answer.{starts_in, shape_fault, sheet_fault, coefficients_of, left_of, right_of}
use Rattle.sheets.specs.Promises.{ScaleCancels}
use Rattle.sheets.proofs.Shaping.{none_other}
use Rattle.sheets.proofs.Chain.{chain, chain_none}
use Rattle.sheets.proofs.Meaning.{kept_from, accepts_exactly}
use Rattle.chains.specs.Refusals.{chain_fault}
use Rattle.uses.specs.Holds.{Table}
use Rattle.trials.specs.Examples.{Kind, count, Number, numbers, Exact, Sheet, Chain, Example, weighs, weighing_refused, sheet_kept, sheet_refused, scale_refused, chain_weighs, RefusedWith, weight_in, path_in, SheetFormed, SheetKeeps, SheetRefused, table_of, Holds, Row, worked_examples, WorkedExamplesHold}
use Rattle.trials.proofs.Scales.{known}

-- ---- options, answers and values
-- whether there is nothing
abbrev is_none : {A : Type 0} → Option A → Bool
is_none None = true
is_none (Some x) = false

none_if : {A : Type 0} (o : Option A) → is_none o ≡ true → o ≡ None
none_if None e = refl
none_if (Some x) e = let z : ◌≡◌ {A = ℕ} 0 1 = cc in absurd (omega arith)

-- whether an answer is a refusal with this number and this place
abbrev refused_with : {A : Type 0} → ℕ → ℕ → Result A Fault → Bool
refused_with number place (Ok x) = false
refused_with number place (Err f) = eqb (number_of f.refusal) number && eqb f.place place

refused_if : {A : Type 0} (number place : ℕ) (r : Result A Fault) → refused_with number place r ≡ true → RefusedWith number place r
refused_if number place (Ok x) e = let z : ◌≡◌ {A = ℕ} 0 1 = cc in omega arith
refused_if number place (Err f) e = let p = and_parts _ _ e in (eqb-true _ _ p.0, eqb-true _ _ p.1)

module _ {K : Type 0} (N : Numbers K) (a b : N.exact.Value) where
  -- whether both fit and are one value
  abbrev equal : Bool
  equal = N.fits a && (N.fits b && N.same a b)

  equal_if : equal ≡ true → a ≡ b
  equal_if e =
      let p = and_parts _ _ e in
      let q = and_parts _ _ p.1 in
      (N.ties.same_is a b p.0 q.0).0 q.1

  -- whether both fit and are two values
  abbrev unequal : Bool
  unequal = N.fits a && (N.fits b && not (N.same a b))

  unequal_if : unequal ≡ true → a ≡ b → ⊥
  unequal_if e =
      let p = and_parts _ _ e in
      let q = and_parts _ _ p.1 in
      (Decides-not _ (N.ties.same_is a b p.0 q.0)).0 q.1

-- ---- tables
module _ (k : Kind) (t : Table (Number k)) where
  -- a table has no more than the most states, and all its numbers are entries
  abbrev Enterable : Type 0
  Enterable = (t.states ≤ most_states) × AllEntries (numbers k) t.run

  abbrev enterable : Bool
  enterable = leb t.states most_states && is_none (first_other (numbers k) 1 t.run)

  enterable_if : enterable ≡ true → Enterable
  enterable_if e =
      let p = and_parts _ _ e in
      (leb-true _ _ p.0, none_other (numbers k) t.run (none_if _ p.1))

-- ---- sheets
-- both tables of a sheet are so
abbrev both_enterable : (k : Kind) → Sheet k → Bool
both_enterable k s = enterable k s.left && enterable k s.right

both_if : (k : Kind) (s : Sheet k) → both_enterable k s ≡ true → Enterable k s.left × Enterable k s.right
both_if k s e = let p = and_parts _ _ e in (enterable_if k s.left p.0, enterable_if k s.right p.1)

-- two Booleans that decide the same are one
decide_alike : {P : Type 0} (b c : Bool) → Decides b P → Decides c P → b ≡ c
decide_alike true c d f = sym (f.1 (d.0 refl))
decide_alike false true d f = d.1 (f.0 refl)
decide_alike false false d f = refl

-- whether the scale cancels is asked only where the shape is right
asked_in_shape : (b9 b10 : Bool) (o11 : Option ℕ) (b c : Bool) (o13 o14 : Option ℕ) (b15 : Bool) → (unless b9 (fault VectorCount) (unless b10 (fault SheetCount) (unless_found o11 NotASheetEntry None)) ≡ None → b ≡ c) → chain b9 b10 o11 b o13 o14 b15 ≡ chain b9 b10 o11 c o13 o14 b15
asked_in_shape false b10 o11 b c o13 o14 b15 same = refl
asked_in_shape true false o11 b c o13 o14 b15 same = refl
asked_in_shape true true (Some p) b c o13 o14 b15 same = refl
asked_in_shape true true None b c o13 o14 b15 same = ap (λ t. chain true true None t o13 o14 b15) (same refl)

-- a sheet: what its numbers stand for, the states of its tables, its coefficients and its halves
module _ (k : Kind) (s : Sheet k) where
  abbrev N : Numbers (Number k)
  N = numbers k

  abbrev n : ℕ
  n = s.left.states

  abbrev m : ℕ
  m = s.right.states

  abbrev C : Coefficients (Exact k)
  C = coefficients_of N s.events n s.left.run m s.right.run s.vectors s.run

  abbrev A : Half (Exact k)
  A = left_of N s.events n s.left.run m s.right.run s.vectors s.run

  abbrev B : Half (Exact k)
  B = right_of N s.events n s.left.run m s.right.run s.vectors s.run

  -- what the tests of 9 to 15 answer, but for 12
  abbrev b9 : Bool
  b9 = one_to most_vectors s.vectors

  abbrev b10 : Bool
  b10 = eqb (length s.run) (sheet_size (n + m) s.vectors s.events)

  abbrev o11 : Option ℕ
  o11 = first_other N 1 s.run

  abbrev o13 : Option ℕ
  o13 = first_place s.vectors (start_kept N C A B (starts_in N s.left.run) (starts_in N s.right.run))

  abbrev o14 : Option ℕ
  o14 = first_place (s.events * s.vectors) (step_kept_at N C A B)

  abbrev b15 : Bool
  b15 = ends_kept N C A B

  -- the first refusal, where a Boolean tells whether the scale cancels
  abbrev fault_by : Bool → Option Fault
  fault_by b = sheet_fault N s.events n s.left.run m s.right.run s.vectors s.run b

  -- the answer that goes with it
  abbrev answer_by : Bool → Result (Unit {0}) Fault
  answer_by b = or_refused (fault_by b) tt

  -- whether the scale cancels
  abbrev cancels : Bool
  cancels = (known k).cancels (value N s.run scale_at)

  module _ (left : Enterable k s.left) (right : Enterable k s.right) where
    -- where nothing is refused the sheet is formed and keeps the rules
    kept_if : fault_by cancels ≡ None → SheetFormed k s × SheetKeeps k s
    kept_if none = (accepts_exactly N (known k).reach s.events n s.left.run m s.right.run s.vectors s.run left.0 right.0 left.1 right.1 cancels (λ shaped. (known k).decides (value N s.run scale_at)) (Ok tt) (sym (answered _ tt none))).accepted refl

    -- where nothing but 12 can be refused the sheet keeps the rules
    keeps_if : fault_by true ≡ None → SheetKeeps k s
    keeps_if none =
        let p = chain_none b9 b10 o11 true o13 o14 b15 none in
        kept_from N (known k).reach s.events n s.left.run m s.right.run s.vectors s.run left.0 right.0 left.1 right.1 (one_to_parts most_vectors s.vectors p.0.vectors).1 (none_other N s.run p.0.entries) p.1 p.2 p.3

  -- whatever Boolean tells whether the scale cancels, the first refusal is the same
  fault_is : (b : Bool) → (shape_fault N s.events (n + m) s.vectors s.run None ≡ None → Decides b (ScaleCancels N s.run)) → fault_by cancels ≡ fault_by b
  fault_is b decides = asked_in_shape b9 b10 o11 cancels b o13 o14 b15 (λ shaped. decide_alike cancels b ((known k).decides (value N s.run scale_at)) (decides shaped))

  -- a refusal by the test of the scale is one whatever Boolean tells whether it cancels
  sheet_refused_if : (number place : ℕ) → refused_with number place (answer_by cancels) ≡ true → SheetRefused k s number place
  sheet_refused_if number place e r (b, decides, is) =
      subst (RefusedWith number place) (ap (λ o. or_refused o tt) (fault_is b decides) ∙ sym is) (refused_if number place (answer_by cancels) e)

-- ---- examples
-- whether a chain is admitted
abbrev chain_admitted : Chain → Bool
chain_admitted c = is_none (chain_fault c.events c.states c.scale c.letters c.run (table_size c.states c.events))

-- the test of an example
abbrev passes : Example → Bool
passes (weighs k t word v) = equal (numbers k) (weight_in k t word) v
passes (weighing_refused k t word number place) = refused_with number place (path_in k t word)
passes (sheet_kept k s) = both_enterable k s && is_none (fault_by k s (cancels k s))
passes (sheet_refused k s number place) = both_enterable k s && refused_with number place (answer_by k s (cancels k s))
passes (scale_refused k s word) = both_enterable k s && (is_none (fault_by k s true) && (refused_with 12 0 (answer_by k s (cancels k s)) && unequal (numbers k) (weight_in k s.left word) (weight_in k s.right word)))
passes (chain_weighs c word v) = chain_admitted c && equal (numbers count) (weight_in count (table_of c) word) v

-- an example that passes holds
holds_if : (x : Example) → passes x ≡ true → Holds x
holds_if (weighs k t word v) e = equal_if (numbers k) (weight_in k t word) v e
holds_if (weighing_refused k t word number place) e = refused_if number place (path_in k t word) e
holds_if (sheet_kept k s) e =
    let p = and_parts _ _ e in
    let t = both_if k s p.0 in
    let h = kept_if k s t.0 t.1 (none_if _ p.1) in
    ((t.0.1, t.1.1), h.0, h.1)
holds_if (sheet_refused k s number place) e =
    let p = and_parts _ _ e in
    let t = both_if k s p.0 in
    ((t.0.1, t.1.1), sheet_refused_if k s number place p.1)
holds_if (scale_refused k s word) e =
    let p = and_parts _ _ e in
    let t = both_if k s p.0 in
    let q = and_parts _ _ p.1 in
    let u = and_parts _ _ q.1 in
    ((t.0.1, t.1.1), keeps_if k s t.0 t.1 (none_if _ q.0), sheet_refused_if k s 12 0 u.0, unequal_if (numbers k) (weight_in k s.left word) (weight_in k s.right word) u.1)
holds_if (chain_weighs c word v) e =
    let p = and_parts _ _ e in
    (none_if _ p.0, equal_if (numbers count) (weight_in count (table_of c) word) v p.1)

-- ---- all rows
-- the test of all rows
abbrev all_pass : List Row → Bool
all_pass [] = true
all_pass (r ∷ rows) = passes r.example && all_pass rows

all_hold_if : (rows : List Row) → all_pass rows ≡ true → AllByRecursion (λ r. Holds r.example) rows
all_hold_if [] e = tt
all_hold_if (r ∷ rows) e = let p = and_parts _ _ e in (holds_if r.example p.0, all_hold_if rows p.1)

-- the test is computed here
pub worked_examples_hold : WorkedExamplesHold
worked_examples_hold = all_hold_if worked_examples refl
