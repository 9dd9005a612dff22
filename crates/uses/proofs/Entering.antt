-- What entering leaves where nothing refuses.
use Rattle.std.proofs.Common.{◌≡◌, ℕ, ◌+◌, ◌-◌, ◌<◌, ◌≤◌, true, eqb, List, length, IfOk, Some, None, Ok, Option, Result, sym, refl, ap, ◌∙◌, subst, arith}
use Rattle.std.proofs.lemmas.Bool.{eqb-true, ltb-true}
use Rattle.kinds.specs.declared.fault.Fault.{Fault}
use Rattle.kinds.specs.declared.fault.Refusal.TheVariants.{StateCount, NumberCount, NotAnEntry, TooManyTables}
use Rattle.kinds.specs.Faults.{fault, or_kept, or_refused}
use Rattle.kinds.specs.Numbers.{Numbers, is_entry, zero_of}
use Rattle.tables.specs.Shape.{most_states, one_to, states_answer, table_size}
use Rattle.tables.specs.Entries.{AllEntries, first_other}
use Rattle.tables.proofs.Firsts.{first_is_first}
use Rattle.ledger.specs.declared.ledger.Placed.{Placed}
use Rattle.ledger.specs.Lines.{Packed, line_of, most_tables, used}
use Rattle.ledger.specs.Model.{Model, new_line, no_place, with_line, with_table}
use Rattle.ledger.proofs.Appending.{each_or_last, line_earlier, line_last, used_push, used_within}
use Rattle.ledger.proofs.Placing.{room_left}
use Rattle.uses.specs.Holds.{Entered, laid, part, table_at}
use Rattle.uses.specs.Enter.{TableEntered, enter_answer, enter_fault, enter_ledger, enter_shelf, unless_entries}
use Rattle.kinds.proofs.Refusing.{test_passed, none_found, passed_test, found_none, answer_passes, choice_passes, answered, renewed}
use Rattle.uses.proofs.Laying.{laid_below, laid_here, length_laid}

module _ {K : Type 0} (m : Model) (shelf : List K) (n : ℕ) (run : List K) (long : length run ≡ table_size n m.events) (room : used m.events m.lines + table_size n m.events ≤ length shelf) where
  fits : used m.events m.lines + length run ≤ length shelf
  fits = omega arith

  given : table_at (with_table m n) (laid shelf (used m.events m.lines) run) (length m.lines + 1) ≡ record { states = n; run = run }
  given =
      let back : 1 + used m.events m.lines - 1 ≡ used m.events m.lines = omega arith in
      let at = laid shelf (used m.events m.lines) run in
      ap (λ l. record { states = l.states; run = part at (l.place - 1) (table_size l.states m.events) }) (line_last m.lines (new_line m.events m.lines n))
      ∙ ap (λ i. record { states = n; run = part at i (table_size n m.events) }) back
      ∙ ap (λ i. record { states = n; run = part at (used m.events m.lines) i }) (sym long)
      ∙ ap (λ r. record { states = n; run = r }) (laid_here shelf (used m.events m.lines) run fits)

  earlier : Packed m.events m.lines → (j : ℕ) → 1 ≤ j → j ≤ length m.lines → table_at (with_table m n) (laid shelf (used m.events m.lines) run) j ≡ table_at m shelf j
  earlier packed j low high =
      let begins = packed j (low, high) in
      let ends = used_within m.events m.lines j (low, high) in
      let at = laid shelf (used m.events m.lines) run in
      let l = line_of m.lines j in
      ap (λ x. record { states = x.states; run = part at (x.place - 1) (table_size x.states m.events) }) (line_earlier m.lines (new_line m.events m.lines n) j (low, high))
      ∙ ap (λ r. record { states = l.states; run = r }) (laid_below shelf (used m.events m.lines) run fits (l.place - 1) (table_size l.states m.events) (omega arith))

  pub table_entered : Packed m.events m.lines → TableEntered m (with_table m n) shelf (laid shelf (used m.events m.lines) run) n run (length m.lines + 1)
  table_entered packed = record { given = given; earlier = earlier packed }

  pub entries_entered : Packed m.events m.lines → (N : Numbers K) → AllEntries N run → Entered N m shelf → Entered N (with_table m n) (laid shelf (used m.events m.lines) run)
  entries_entered packed N all old =
      let more = used_push m.events m.lines (new_line m.events m.lines n) in
      let size = length_laid shelf (used m.events m.lines) run fits in
      record {
        within = omega arith;
        entries = λ i low high.
            each_or_last m.lines (new_line m.events m.lines n) (λ j. AllEntries N (table_at (with_table m n) (laid shelf (used m.events m.lines) run) j).run)
            (λ j h. subst (λ t. AllEntries N t.run) (sym (earlier packed j h.0 h.1)) (old.entries j h.0 h.1))
            (subst (λ t. AllEntries N t.run) (sym given) all)
            i (low, high);
      }

-- what holds where no refusal does
pub record Passes {K : Type 0} (N : Numbers K) (m : Model) (room n : ℕ) (run : List K) : Type 0 where
  pub states : one_to most_states n ≡ true
  pub long : length run ≡ table_size n m.events
  pub entries : AllEntries N run
  pub few : length m.lines < most_tables
  pub fits : used m.events m.lines + table_size n m.events ≤ room

module _ {K : Type 0} (N : Numbers K) (m : Model) (room n : ℕ) (run : List K) where
  pub nothing_refuses : enter_fault N m room n run ≡ None → Passes N m room n run
  nothing_refuses h =
      let a = passed_test (one_to most_states n) (fault StateCount) _ h in
      let b = passed_test (eqb (length run) (table_size n m.events)) (fault NumberCount) _ a.1 in
      let c = found_none (first_other N 1 run) NotAnEntry _ b.1 in
      record {
        states = a.0;
        long = eqb-true (length run) (table_size n m.events) b.0;
        entries = first_is_first (is_entry N) (zero_of N) run None (sym c.0);
        few = ltb-true (length m.lines) most_tables (passed_test _ (fault TooManyTables) _ c.1).0;
        fits = room_left m.events m.lines n room c.1;
      }

  -- where states and run pass, the place decides
  pub place_decides : (s size : ℕ) → states_answer n ≡ Ok s → size ≡ table_size s m.events → Ok (tt {0}) ≡ or_refused (unless_entries N run size None) tt → (s ≡ n) × (enter_fault N m room n run ≡ no_place m.events m.lines n room)
  place_decides s size states-fine is-size run-fine =
      let a = choice_passes (one_to most_states n) n s (fault StateCount) states-fine in
      let b = passed_test (eqb (length run) size) (fault NumberCount) _ (answer_passes (unless_entries N run size None) (tt {0}) tt run-fine).0 in
      let c = found_none (first_other N 1 run) NotAnEntry None b.1 in
      let long : eqb (length run) (table_size n m.events) ≡ true = ap (λ i. eqb (length run) i) (ap (λ i. table_size i m.events) (sym a.1) ∙ sym is-size) ∙ b.0 in (
        a.1,
        test_passed _ (fault StateCount) _ a.0 ∙ test_passed _ (fault NumberCount) _ long ∙ none_found _ NotAnEntry _ c.0,
      )

-- lines that are kept or have one more are a ledger that is kept or has one table more
pub ledger_appended : (m : Model) (o : Option Fault) (n : ℕ) → ◌≡◌ {A = Model} (record { events = m.events; lines = or_kept o m.lines (with_line m.events m.lines n); parts = m.parts }) (or_kept o m (with_table m n))
ledger_appended m None n = refl
ledger_appended m (Some f) n = refl

-- a test on an answer that comes where nothing refuses
pub on_answer : {X : Type 0} (P : X → Type 0) (o : Option Fault) (x : X) (r : Result X Fault) → r ≡ or_refused o x → (o ≡ None → P x) → IfOk r P
on_answer P None x r e h = subst (λ y. IfOk y P) (sym e) (h refl)
on_answer P (Some f) x r e h = subst (λ y. IfOk y P) (sym e) tt

-- all that an accepted call promises
pub record Accepted {K : Type 0} (N : Numbers K) (m m' : Model) (shelf shelf' : List K) (n : ℕ) (run : List K) (i : ℕ) : Type 0 where
  pub answer : Ok i ≡ enter_answer N m shelf n run
  pub ledger : m' ≡ enter_ledger N m shelf n run
  pub laid_so : shelf' ≡ enter_shelf N m shelf n run
  pub table : TableEntered m m' shelf shelf' n run i
  pub entries : Entered N m shelf → Entered N m' shelf'

module _ {K : Type 0} (N : Numbers K) (m : Model) (shelf : List K) (n : ℕ) (run : List K) (p : Placed) where
  -- a table that is placed, and whose run is laid there, is entered
  pub accepted :
      Ok p ≡ or_refused (enter_fault N m (length shelf) n run) (record { table = length m.lines + 1; place = 1 + used m.events m.lines })
      → Packed m.events m.lines
      → (m' : Model) (shelf' : List K)
      → m' ≡ enter_ledger N m shelf n run
      → shelf' ≡ laid shelf (p.place - 1) run
      → Accepted N m m' shelf shelf' n run p.table
  accepted placed packed m' shelf' after over =
      let none : enter_fault N m (length shelf) n run ≡ None = (answer_passes (enter_fault N m (length shelf) n run) _ p placed).0 in
      let is : p ≡ record { table = length m.lines + 1; place = 1 + used m.events m.lines } = (answer_passes (enter_fault N m (length shelf) n run) _ p placed).1 in
      let pass = nothing_refuses N m (length shelf) n run none in
      let ledger : m' ≡ with_table m n = after ∙ renewed _ m (with_table m n) none in
      let at : p.place - 1 ≡ used m.events m.lines = let e = ap (λ x. x.place) is in omega arith in
      let on-shelf : shelf' ≡ laid shelf (used m.events m.lines) run = over ∙ ap (λ i. laid shelf i run) at in
      record {
        answer = ap (λ x. Ok x.table) is ∙ sym (answered _ (length m.lines + 1) none);
        ledger = after;
        laid_so = on-shelf ∙ sym (renewed _ shelf (laid shelf (used m.events m.lines) run) none);
        table =
            subst (λ x. TableEntered m x shelf shelf' n run p.table) (sym ledger)
            (subst (λ x. TableEntered m (with_table m n) shelf x n run p.table) (sym on-shelf)
            (subst (λ x. TableEntered m (with_table m n) shelf (laid shelf (used m.events m.lines) run) n run x.table) (sym is) (table_entered m shelf n run pass.long pass.fits packed)));
        entries = λ old.
            subst (λ x. Entered N x shelf') (sym ledger)
            (subst (λ x. Entered N (with_table m n) x) (sym on-shelf) (entries_entered m shelf n run pass.long pass.fits packed N pass.entries old));
      }
