-- Each call leads a use of the book on: accepted exactly when none of its refusals holds, and with its effect then.
use Rattle.std.proofs.Common.{◌≡◌, ℕ, ◌+◌, true, false, List, length, is_ok, Some, None, Ok, Err, Option, Result, sym, refl, ap, ◌∙◌, arith, MatchResult}
use Rattle.std.proofs.lemmas.Bool.{eq-eqb, eqb-true, le-leb, lt-ltb}
use Rattle.kinds.specs.declared.fault.Fault.{Fault}
use Rattle.kinds.specs.declared.fault.Refusal.TheVariants.{StateCount, NumberCount, NotAnEntry, NoSuchTable, NoSuchPart, TooManyTables, ShelfFull, WordRunLength}
use Rattle.kinds.specs.Faults.{fault, fault_at, or_kept}
use Rattle.kinds.specs.Numbers.{Numbers, is_entry}
use Rattle.kinds.proofs.Refusing.{answer_passes, none_found, passed_test, refusal_refuses, renewed, test_passed}
use Rattle.tables.specs.Shape.{table_size}
use Rattle.tables.specs.Words.{longest_word}
use Rattle.tables.proofs.Admitted.{admits, admitted}
use Rattle.tables.proofs.Firsts.{all_pass_none}
use Rattle.ledger.specs.declared.asking.Comparison.{Comparison}
use Rattle.ledger.specs.Ask.{ask_answer}
use Rattle.ledger.specs.Lines.{most_tables, used}
use Rattle.ledger.specs.Model.{Model}
use Rattle.ledger.specs.Parts.{word_answer, word_fault}
use Rattle.ledger.specs.Standing.{unless_table}
use Rattle.uses.specs.declared.answers.Parted.{Parted}
use Rattle.uses.specs.Calls.{Accepts, Call, Enters, State, Weighs, at, ask, effect_of, enter, join, part, weigh, word}
use Rattle.uses.specs.Enter.{enter_answer, enter_fault, enter_ledger, enter_shelf}
use Rattle.uses.specs.History.{LeadsOn, done_if_any}
use Rattle.uses.specs.Holds.{Entered}
use Rattle.uses.specs.Join.{JoinsExactly, with_merged}
use Rattle.uses.specs.Part.{PartAnswers, with_kept}
use Rattle.uses.specs.Weigh.{Weighed, weigh_refusal}
use Rattle.uses.proofs.Entering.{nothing_refuses}
use Rattle.uses.proofs.Standing.{used_entered}

-- what is kept where something refuses
old_kept : {X : Type 0} (o : Option Fault) (old new : X) (f : Fault) → o ≡ Some f → or_kept o old new ≡ old
old_kept o old new f e = ap (λ p. or_kept p old new) e

module _ {K : Type 0} (N : Numbers K) (s t : State K) (call : Call K) where
  -- an accepted call has its effect
  leads_accepted : (Entered N s.ledger s.shelf → Accepts N s call) → t ≡ done_if_any s (effect_of call) → LeadsOn N s call true t
  leads_accepted accepts is k brought h u = (s, u, (λ _. accepts (used_entered N k brought h s u), λ _. refl), is)

  -- a refused one has none
  leads_refused : (Entered N s.ledger s.shelf → Accepts N s call → ⊥) → t ≡ s → LeadsOn N s call false t
  leads_refused refuses is k brought h u = (s, u, (λ no. let z : ◌≡◌ {A = ℕ} 0 1 = cc in absurd (omega arith), λ ok. absurd (refuses (used_entered N k brought h s u) ok)), is)

module _ {K : Type 0} (N : Numbers K) (m : Model) (shelf : List K) where
  -- two answers are not one
  apart : {A B : Type 0} {a : A} {f : Fault} → ◌≡◌ {A = Result A Fault} (Ok a) (Err f) → B
  apart e = let z : ◌≡◌ {A = ℕ} 0 1 = cc in absurd (omega arith)

  -- ---- enter
  module _ (n : ℕ) (run : List K) where
    enters : enter_fault N m (length shelf) n run ≡ None → Enters N m shelf n run
    enters none =
        let p = nothing_refuses N m (length shelf) n run none in
        record { states = p.states; count = p.long; entries = p.entries; few_tables = p.few; room = p.fits }

    enters_none : Enters N m shelf n run → enter_fault N m (length shelf) n run ≡ None
    enters_none e =
        test_passed _ (fault StateCount) _ e.states
        ∙ test_passed _ (fault NumberCount) _ (eq-eqb (length run) (table_size n m.events) e.count)
        ∙ none_found _ NotAnEntry _ (all_pass_none (is_entry N) 1 run e.entries)
        ∙ test_passed _ (fault TooManyTables) _ (lt-ltb (length m.lines) most_tables e.few_tables)
        ∙ test_passed _ (fault ShelfFull) None (le-leb (used m.events m.lines + table_size n m.events) (length shelf) e.room)

    pub enter_leads : (r : Result ℕ Fault) (m' : Model) (shelf' : List K) → r ≡ enter_answer N m shelf n run → m' ≡ enter_ledger N m shelf n run → shelf' ≡ enter_shelf N m shelf n run → LeadsOn N (at m shelf) (enter n run) (is_ok r) (at m' shelf')
    enter_leads (Ok i) m' shelf' answer ledger laid =
        let none = (answer_passes (enter_fault N m (length shelf) n run) _ i answer).0 in
        leads_accepted N (at m shelf) (at m' shelf') (enter n run) (λ _. enters none)
        (ap (λ x. at x shelf') (ledger ∙ renewed _ m _ none) ∙ ap (at _) (laid ∙ renewed _ shelf _ none))
    enter_leads (Err f) m' shelf' answer ledger laid =
        let some = refusal_refuses (enter_fault N m (length shelf) n run) _ f answer in
        leads_refused N (at m shelf) (at m' shelf') (enter n run) (λ _ e. let no = sym (enters_none e) ∙ some in let z : ◌≡◌ {A = ℕ} 0 1 = cc in omega arith)
        (ap (λ x. at x shelf') (ledger ∙ old_kept _ m _ f some) ∙ ap (at m) (laid ∙ old_kept _ shelf _ f some))

  -- ---- join
  pub join_leads : (a b R : ℕ) (sheet : List K) (r : Result (Unit {0}) Fault) (m' : Model) → (Entered N m shelf → JoinsExactly N m shelf a b R sheet r) → MatchResult r (λ _. m' ≡ with_merged m a b) (λ _. m' ≡ m) → LeadsOn N (at m shelf) (join a b R sheet) (is_ok r) (at m' shelf)
  join_leads a b R sheet (Ok tt) m' exactly is =
      leads_accepted N (at m shelf) (at m' shelf) (join a b R sheet)
      (λ e. let x = exactly e in let two = x.two refl in let kept = (x.exactly two).accepted refl in record { two = two; formed = kept.0; keeps = kept.1 })
      (ap (λ x. at x shelf) is)
  join_leads a b R sheet (Err f) m' exactly is =
      leads_refused N (at m shelf) (at m' shelf) (join a b R sheet) (λ e j. apart (sym (((exactly e).exactly j.two).accepts j.formed j.keeps))) (ap (λ x. at x shelf) is)

  -- ---- part
  pub part_leads : (a b : ℕ) (w : List ℕ) (strip : List K) (r : Result (Parted K) Fault) (m' : Model) → PartAnswers N m shelf a b w (length strip) r m' → MatchResult r (λ _. m' ≡ with_kept m a b w) (λ _. m' ≡ m) → LeadsOn N (at m shelf) (part a b w strip) (is_ok r) (at m' shelf)
  part_leads a b w strip (Ok x) m' answers is = leads_accepted N (at m shelf) (at m' shelf) (part a b w strip) (λ e. (answers.told e).0) (ap (λ y. at y shelf) is)
  part_leads a b w strip (Err f) m' answers is = leads_refused N (at m shelf) (at m' shelf) (part a b w strip) (λ e. answers.told e) (ap (λ y. at y shelf) is)

  -- ---- weigh
  module _ (i : ℕ) (w : List ℕ) (strip : List K) where
    weighs_none : Weighs N m shelf i w (length strip) → weigh_refusal m i w (length strip) ≡ None
    weighs_none e = test_passed _ (fault_at NoSuchTable 1) _ e.there ∙ admits m.events w (length strip) (record { short = e.short; events = e.events; strip_of_sixteen = e.strip_of_sixteen })

    pub weigh_leads : (r : Result K Fault) → Weighed N m shelf i w (length strip) r → LeadsOn N (at m shelf) (weigh i w strip) (is_ok r) (at m shelf)
    weigh_leads (Ok x) weighed = by_case (weigh_refusal m i w (length strip)) refl
      where
        by_case : (o : Option Fault) → weigh_refusal m i w (length strip) ≡ o → LeadsOn N (at m shelf) (weigh i w strip) true (at m shelf)
        by_case (Some f) e = apart (weighed.early f e)
        by_case None e =
            let t = passed_test _ (fault_at NoSuchTable 1) _ e in
            let fine = admitted m.events w (length strip) t.1 in
            leads_accepted N (at m shelf) (at m shelf) (weigh i w strip) (λ h. record { there = t.0; short = fine.short; events = fine.events; strip_of_sixteen = fine.strip_of_sixteen; in_range = weighed.ranged h e }) refl
    weigh_leads (Err f) weighed = leads_refused N (at m shelf) (at m shelf) (weigh i w strip) (λ h e. (weighed.ranged h (weighs_none e)).0 e.in_range) refl

  -- ---- word
  pub word_leads : (p : ℕ) (run : List ℕ) (r : Result ℕ Fault) → r ≡ word_answer m.parts p run → LeadsOn N (at m shelf) (word p run) (is_ok r) (at m shelf)
  word_leads p run (Ok n) answer =
      let none = (answer_passes (word_fault m.parts p (length run)) _ n answer).0 in
      let x = passed_test _ (fault NoSuchPart) _ none in
      leads_accepted N (at m shelf) (at m shelf) (word p run) (λ _. (x.0, eqb-true (length run) longest_word (passed_test _ (fault WordRunLength) None x.1).0)) refl
  word_leads p run (Err f) answer =
      let some = refusal_refuses (word_fault m.parts p (length run)) _ f answer in
      leads_refused N (at m shelf) (at m shelf) (word p run)
      (λ _ e. let no = sym (test_passed _ (fault NoSuchPart) _ e.0 ∙ test_passed _ (fault WordRunLength) None (eq-eqb (length run) longest_word e.1)) ∙ some in let z : ◌≡◌ {A = ℕ} 0 1 = cc in omega arith)
      refl

  -- ---- ask
  pub ask_leads : (a b : ℕ) (r : Result Comparison Fault) → r ≡ ask_answer m.lines m.parts a b → LeadsOn N (at m shelf) (ask a b) (is_ok r) (at m shelf)
  ask_leads a b (Ok x) answer =
      let none = (answer_passes (unless_table m.lines a 1 (unless_table m.lines b 2 None)) _ x answer).0 in
      let y = passed_test _ (fault_at NoSuchTable 1) _ none in
      leads_accepted N (at m shelf) (at m shelf) (ask a b) (λ _. (y.0, (passed_test _ (fault_at NoSuchTable 2) None y.1).0)) refl
  ask_leads a b (Err f) answer =
      let some = refusal_refuses (unless_table m.lines a 1 (unless_table m.lines b 2 None)) _ f answer in
      leads_refused N (at m shelf) (at m shelf) (ask a b)
      (λ _ e. let no = sym (test_passed _ (fault_at NoSuchTable 1) _ e.0 ∙ test_passed _ (fault_at NoSuchTable 2) None e.1) ∙ some in let z : ◌≡◌ {A = ℕ} 0 1 = cc in omega arith)
      refl
