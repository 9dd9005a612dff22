-- What the answer of the check says, in the words of the rules.
use Rattle.std.proofs.Common.{◌≡◌, ℕ, ◌+◌, ◌-◌, ◌*◌, ◌≤◌, Bool, true, eqb, List, length, Some, None, Ok, Err, Decides, Option, Result, sym, ◌∙◌, arith}
use Rattle.std.proofs.lemmas.Bool.{eqb-true, eq-eqb, both_ways}
use Rattle.kinds.specs.declared.fault.Fault.{Fault}
use Rattle.kinds.specs.Faults.{or_refused}
use Rattle.kinds.specs.Numbers.{Numbers, SumsOfEntryProductsFit}
use Rattle.kinds.proofs.Refusing.{answer_passes, refusal_refuses, answered}
use Rattle.tables.specs.Shape.{one_to, most_states}
use Rattle.tables.specs.Layout.{value}
use Rattle.tables.specs.Entries.{AllEntries, first_other}
use Rattle.tables.proofs.Limits.{one_to_parts, one_to_from}
use Rattle.sheets.specs.Rules.{Coefficients, Half, EndRule}
use Rattle.sheets.specs.Layout.{most_vectors, sheet_size, numbers_from}
use Rattle.sheets.specs.Firsts.{first_place}
use Rattle.sheets.specs.Tests.{event_of, vector_of, start_kept, step_kept_at, ends_kept}
use Rattle.sheets.specs.Answer.{starts_in, shape_fault, sheet_fault, coefficients_of, left_of, right_of}
use Rattle.sheets.specs.Promises.{ScaleCancels, StartHolds, StepHolds, Formed, Keeps, StartFails, StepFails, AcceptsExactly, Alike}
use Rattle.sheets.proofs.Weighing.{kept_sheet_weighs_every_word_alike}
use Rattle.sheets.proofs.Trying.{Found, none_passes, none_from, some_fails}
use Rattle.sheets.proofs.Fitting.{HalfEntries, CoefficientEntries}
use Rattle.sheets.proofs.Standing.{entry_value}
use Rattle.sheets.proofs.Placing.{coefficient_entries, half_entries}
use Rattle.sheets.proofs.Grid.{event_inside, vector_inside, place_is}
use Rattle.sheets.proofs.Shaping.{none_other, some_other, entries_none_other, shape_passed}
use Rattle.sheets.proofs.Chain.{chain, Passes, chain_11, chain_12, chain_13, chain_14, chain_15, chain_19, chain_none, chain_passes}
use Rattle.sheets.proofs.Deciding.{start_decides, step_decides, ends_decide, step_back, steps_from, steps_at}

module _ {K : Type 0} (N : Numbers K) (law : SumsOfEntryProductsFit N) (k n : ℕ) (a-run : List K) (m : ℕ) (b-run : List K) (R : ℕ) (sheet : List K) (few-n : n ≤ most_states) (few-m : m ≤ most_states) (ha : AllEntries N a-run) (hb : AllEntries N b-run) where
  abbrev C : Coefficients N.exact.Value
  C = coefficients_of N k n a-run m b-run R sheet

  abbrev A : Half N.exact.Value
  A = left_of N k n a-run m b-run R sheet

  abbrev B : Half N.exact.Value
  B = right_of N k n a-run m b-run R sheet

  -- what each test answers
  abbrev b9 : Bool
  b9 = one_to most_vectors R

  abbrev b10 : Bool
  b10 = eqb (length sheet) (sheet_size (n + m) R k)

  abbrev o11 : Option ℕ
  o11 = first_other N 1 sheet

  abbrev o13 : Option ℕ
  o13 = first_place R (start_kept N C A B (starts_in N a-run) (starts_in N b-run))

  abbrev o14 : Option ℕ
  o14 = first_place (k * R) (step_kept_at N C A B)

  abbrev b15 : Bool
  b15 = ends_kept N C A B

  -- few vectors of entries: the tests decide the rules
  module _ (few : R ≤ most_vectors) (hs : AllEntries N sheet) where
    ce : CoefficientEntries N C
    ce = coefficient_entries N sheet (n + m) k R hs few

    ea : HalfEntries N A
    ea = half_entries N sheet (n + m) k R a-run n 0 ha hs (omega arith)

    eb : HalfEntries N B
    eb = half_entries N sheet (n + m) k R b-run m n hb hs (omega arith)

    starts : (r : ℕ) → Decides (start_kept N C A B (starts_in N a-run) (starts_in N b-run) r) (StartHolds N k n a-run m b-run R sheet r)
    starts r = start_decides N law C ce A B ea eb (starts_in N a-run) (starts_in N b-run) (entry_value N a-run ha) (entry_value N b-run hb) r

    steps : (p : ℕ) → Decides (step_kept_at N C A B p) (StepHolds N k n a-run m b-run R sheet (event_of R p) (vector_of R p))
    steps p = step_decides N law C ce A B ea eb (event_of R p) (vector_of R p)

    ends : Decides b15 (EndRule N.exact C A B)
    ends = ends_decide N law C ce A B ea eb

    pub kept_from : o13 ≡ None → o14 ≡ None → b15 ≡ true → Keeps N k n a-run m b-run R sheet
    kept_from e13 e14 e15 =
        record {
          starts = λ r h. (starts r).0 (none_passes _ R e13 r h);
          steps = steps_from N law C ce A B ea eb k (λ p h. (steps p).0 (none_passes _ (k * R) e14 p h));
          ends = ends.0 e15;
        }

    start_fails_from : (p : ℕ) (f : Found (start_kept N C A B (starts_in N a-run) (starts_in N b-run)) R p) → StartFails N k n a-run m b-run R sheet f.at
    start_fails_from p f = record { vector = f.inside; fails = λ rule. both_ways _ f.fails ((starts f.at).1 rule); before = λ q h. (starts q).0 (f.before q h) }

    step_fails_from : (p : ℕ) (f : Found (step_kept_at N C A B) (k * R) p) → StepFails N k n a-run m b-run R sheet (event_of R f.at) (vector_of R f.at)
    step_fails_from p f =
        let is = place_is f.at R in
        record {
          some_event = omega arith;
          event = event_inside f.at k R f.inside;
          vector = vector_inside f.at k R f.inside;
          fails = λ rule. both_ways _ f.fails ((steps f.at).1 rule);
          before = λ d q some h l. step_back N law C ce A B ea eb d q some h ((steps ((d - 1) * R + q)).0 (f.before ((d - 1) * R + q) (omega (arith, is))));
        }

  -- the answer at a Boolean that tells whether the scale cancels
  module _ (b : Bool) (decides : shape_fault N k (n + m) R sheet None ≡ None → Decides b (ScaleCancels N sheet)) (r : Result (Unit {0}) Fault) (is : r ≡ or_refused (sheet_fault N k n a-run m b-run R sheet b) tt) where
    at_shape : b9 ≡ true → b10 ≡ true → o11 ≡ None → Decides b (ScaleCancels N sheet)
    at_shape e9 e10 e11 = decides (shape_passed N sheet k (n + m) R (record { vectors = e9; count = e10; entries = e11 }) None)

    few_from : b9 ≡ true → R ≤ most_vectors
    few_from e = (one_to_parts most_vectors R e).1

    formed_from : Passes b9 b10 o11 b → Formed N k n a-run m b-run R sheet
    formed_from p =
        let v = one_to_parts most_vectors R p.vectors in
        record {
          some_vector = v.0;
          few_vectors = v.1;
          as_many = eqb-true _ _ p.count;
          entries = none_other N sheet p.entries;
          cancels = (at_shape p.vectors p.count p.entries).0 p.scale;
        }

    nothing : r ≡ Ok tt → chain b9 b10 o11 b o13 o14 b15 ≡ None
    nothing e = (answer_passes _ tt tt (sym e ∙ is)).0

    something : (f : Fault) → r ≡ Err f → chain b9 b10 o11 b o13 o14 b15 ≡ Some f
    something f e = refusal_refuses _ tt f (sym e ∙ is)

    passes_from : Formed N k n a-run m b-run R sheet → Passes b9 b10 o11 b
    passes_from f =
        let e9 = one_to_from most_vectors R f.some_vector f.few_vectors in
        let e10 = eq-eqb _ _ f.as_many in
        let e11 = entries_none_other N sheet f.entries in
        record { vectors = e9; count = e10; entries = e11; scale = (at_shape e9 e10 e11).1 f.cancels }

    kept_passes : Formed N k n a-run m b-run R sheet → Keeps N k n a-run m b-run R sheet → r ≡ Ok tt
    kept_passes f h =
        let few = f.few_vectors in
        let hs = f.entries in
        is
        ∙ answered _ tt
        (chain_passes b9 b10 o11 b o13 o14 b15 (passes_from f)
        (none_from _ R (λ q l. (starts few hs q).1 (h.starts q l)))
        (none_from _ (k * R) (λ p l. (steps few hs p).1 (steps_at N law C (ce few hs) A B (ea few hs) (eb few hs) k h.steps p l)))
        ((ends few hs).1 h.ends))

    accepted_from : r ≡ Ok tt → Formed N k n a-run m b-run R sheet × Keeps N k n a-run m b-run R sheet
    accepted_from e =
        let p = chain_none b9 b10 o11 b o13 o14 b15 (nothing e) in
        (formed_from p.0, kept_from (few_from p.0.vectors) (none_other N sheet p.0.entries) p.1 p.2 p.3)

    pub accepts_exactly : AcceptsExactly N k n a-run m b-run R sheet r
    accepts_exactly =
        record {
          accepted = accepted_from;
          accepts = kept_passes;
          entry_fails = λ p e. some_other N sheet p (chain_11 b9 b10 o11 b o13 o14 b15 p (something _ e));
          scale_fails = λ e cancels. let p = chain_12 b9 b10 o11 b o13 o14 b15 (something _ e) in both_ways _ p.3 ((at_shape p.0 p.1 p.2).1 cancels);
          start_fails = λ p e.
              let q = chain_13 b9 b10 o11 b o13 o14 b15 p (something _ e) in
              let f = some_fails _ R p q.1 in
              (f.at, f.is, start_fails_from (few_from q.0.vectors) (none_other N sheet q.0.entries) p f);
          step_fails = λ p e.
              let q = chain_14 b9 b10 o11 b o13 o14 b15 p (something _ e) in
              let f = some_fails _ (k * R) p q.1 in
              let place = place_is f.at R in
              let at = f.is in
              (event_of R f.at, vector_of R f.at, omega (arith, place, at), step_fails_from (few_from q.0.vectors) (none_other N sheet q.0.entries) p f);
          end_fails = λ e rule.
              let q = chain_15 b9 b10 o11 b o13 o14 b15 (something _ e) in
              both_ways _ q.1 ((ends (few_from q.0.vectors) (none_other N sheet q.0.entries)).1 rule);
          in_range = λ p e. chain_19 b9 b10 o11 b o13 o14 b15 p (something _ e);
        }

    pub accepted_weighs_alike : r ≡ Ok tt → Alike N k n a-run m b-run R sheet
    accepted_weighs_alike e =
        let p = accepted_from e in
        kept_sheet_weighs_every_word_alike N.exact k n (value N a-run) m (value N b-run) C (numbers_from (n + m) (value N sheet) 0) (numbers_from (n + m) (value N sheet) n) p.0.cancels p.1
