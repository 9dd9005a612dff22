-- A weight with the place of its table, and a table of the book.
use Rattle.std.proofs.Common.{◌≡◌, ℕ, ◌-◌, Bool, true, false, eqb, leb, List, length, Some, None, Ok, Err, Option, Result, sym, refl, ap, ◌∙◌, subst, arith, MatchResult}
use Rattle.std.proofs.lemmas.Bool.{and_parts, leb-true}
use Rattle.kinds.specs.declared.fault.Fault.{Fault}
use Rattle.kinds.specs.declared.fault.Refusal.TheVariants.{OutOfRange, WordLength, NotAnEvent, NoSuchTable, StripLength}
use Rattle.kinds.specs.Faults.{number_of, fault, fault_at, unless, unless_found}
use Rattle.kinds.specs.Numbers.{Numbers}
use Rattle.kinds.proofs.Refusing.{test_passed}
use Rattle.tables.specs.Entries.{AllEntries}
use Rattle.tables.specs.Layout.{value, Stored}
use Rattle.tables.specs.Range.{PathFits}
use Rattle.tables.specs.Strip.{strip_size}
use Rattle.tables.specs.Words.{events_of, first_stray, longest_word}
use Rattle.tables.specs.Weighing.{weigh_fault, answered, path_number, Refused, IsWeight, IsRanged}
use Rattle.tables.proofs.EntryRuns.{entries_stored}
use Rattle.ledger.specs.declared.ledger.Standing.{Standing}
use Rattle.ledger.specs.Lines.{line_of}
use Rattle.ledger.specs.Model.{Model}
use Rattle.ledger.specs.Standing.{StandsAt}
use Rattle.uses.specs.Holds.{Table, table_at, part, Entered}
use Rattle.uses.specs.Weigh.{at_place, WeighedAt, Weighed, weigh_refusal}

-- what is refused early is not the range
early_is_other : (k : ℕ) (word : List ℕ) (strip : ℕ) (f : Fault) (q : ℕ) → weigh_fault k word strip ≡ Some f → f ≡ fault_at OutOfRange q → ⊥
early_is_other k word strip f q e is = chain (leb (length word) longest_word) (first_stray k 1 word) (eqb strip strip_size) e
  where
    other : (g : Fault) → (number_of g.refusal ≡ 19 → ⊥) → Some g ≡ Some f → ⊥
    other g not h = let same : g ≡ f = cc in not (ap (λ x. number_of x.refusal) (same ∙ is))

    chain : (a : Bool) (s : Option ℕ) (b : Bool) → unless a (fault WordLength) (unless_found s NotAnEvent (unless b (fault StripLength) None)) ≡ Some f → ⊥
    chain false s b h = other (fault WordLength) (λ z. omega arith) h
    chain true (Some p) b h = other (fault_at NotAnEvent p) (λ z. omega arith) h
    chain true None false h = other (fault StripLength) (λ z. omega arith) h
    chain true None true h = let z : ◌≡◌ {A = ℕ} 0 1 = cc in omega arith

module _ {K : Type 0} (N : Numbers K) (t : Table K) (k p : ℕ) (word : List ℕ) (strip : ℕ) where
  abbrev Fit : Type 0
  Fit = PathFits N t.states (value N t.run) (events_of word)

  abbrev path : Result K Fault
  path = path_number N t.states t.run word

  -- w is what the kernel answers, and r the same with the place of the table for what is out of range
  module _ (w r : Result K Fault) (range : (q : ℕ) → w ≡ Err (fault_at OutOfRange q) → r ≡ Err (fault_at OutOfRange p)) (other : ((q : ℕ) → w ≡ Err (fault_at OutOfRange q) → ⊥) → r ≡ w) where
    kept_early : (f : Fault) → weigh_fault k word strip ≡ Some f → w ≡ Err f → r ≡ Err f
    kept_early f e is = other (λ q h. let same : f ≡ fault_at OutOfRange q = out (sym is ∙ h) in early_is_other k word strip f q e same) ∙ is
      where
        out : {f g : Fault} → ◌≡◌ {A = Result K Fault} (Err f) (Err g) → f ≡ g
        out h = cc

    number_kept : (x : K) → w ≡ Ok x → r ≡ Ok x
    number_kept x is = other (λ q h. let no = sym is ∙ h in let z : ◌≡◌ {A = ℕ} 0 1 = cc in omega arith) ∙ is

    range_placed : (f : Fault) → w ≡ Err f → f ≡ fault OutOfRange → r ≡ Err (fault_at OutOfRange p)
    range_placed f is out = range 0 (is ∙ ap Err out)

    -- where nothing is refused early
    late_answer : (v : Result K Fault) → w ≡ v → v ≡ path → IsRanged N t.states t.run word v → r ≡ at_place p path
    late_answer (Ok x) is e ranged = number_kept x is ∙ ap (at_place p) e
    late_answer (Err f) is e ranged = range_placed f is ranged.1 ∙ ap (λ g. Err (fault_at g.refusal p)) (sym ranged.1) ∙ ap (at_place p) e

    late_ranged : (v : Result K Fault) → w ≡ v → IsRanged N t.states t.run word v → MatchResult r (λ x. Fit) (λ f. (Fit → ⊥) × (f ≡ fault_at OutOfRange p))
    late_ranged (Ok x) is ranged = subst (λ y. MatchResult y (λ x. Fit) (λ f. (Fit → ⊥) × (f ≡ fault_at OutOfRange p))) (sym (number_kept x is)) ranged
    late_ranged (Err f) is ranged = subst (λ y. MatchResult y (λ x. Fit) (λ f. (Fit → ⊥) × (f ≡ fault_at OutOfRange p))) (sym (range_placed f is ranged.1)) (ranged.0, refl)

    late_weight : (v : Result K Fault) → w ≡ v → IsWeight N t.states t.run word v → IsRanged N t.states t.run word v → IsWeight N t.states t.run word r
    late_weight (Ok x) is weight ranged = subst (IsWeight N t.states t.run word) (sym (number_kept x is)) weight
    late_weight (Err f) is weight ranged = subst (IsWeight N t.states t.run word) (sym (range_placed f is ranged.1)) tt

    module _
        (early : Refused (weigh_fault k word strip) w)
        (answer : Stored N t.states t.run (events_of word) → w ≡ answered (weigh_fault k word strip) path)
        (weight : Stored N t.states t.run (events_of word) → IsWeight N t.states t.run word w)
        (ranged : Stored N t.states t.run (events_of word) → weigh_fault k word strip ≡ None → IsRanged N t.states t.run word w)
      where
        stored : AllEntries N t.run → Stored N t.states t.run (events_of word)
        stored h = entries_stored N t.run h t.states (events_of word)

        by_answer : AllEntries N t.run → (o : Option Fault) → weigh_fault k word strip ≡ o → r ≡ answered o (at_place p path)
        by_answer h None e = late_answer w refl (answer (stored h) ∙ ap (λ o. answered o path) e) (ranged (stored h) e)
        by_answer h (Some f) e = kept_early f e (early f e)

        by_weight : AllEntries N t.run → (o : Option Fault) → weigh_fault k word strip ≡ o → IsWeight N t.states t.run word r
        by_weight h None e = late_weight w refl (weight (stored h)) (ranged (stored h) e)
        by_weight h (Some f) e = subst (IsWeight N t.states t.run word) (sym (kept_early f e (early f e))) tt

        pub weighed_at : WeighedAt N t k p word strip r
        weighed_at = record {
          early = λ f e. kept_early f e (early f e);
          answer = λ h. by_answer h (weigh_fault k word strip) refl;
          weight = λ h. by_weight h (weigh_fault k word strip) refl;
          ranged = λ h none. late_ranged w refl (ranged (stored h) none);
        }

-- the table at a standing
abbrev pub stood : {K : Type 0} → List K → Standing → Table K
stood shelf s = record { states = s.states.count; run = part shelf s.at s.size }

-- numbers that are as they stand there
pub as_stood : {K : Type 0} (shelf : List K) (s : Standing) (states : ℕ) (run : List K) → states ≡ s.states.count → run ≡ part shelf s.at s.size → ◌≡◌ {A = Table K} (record { states = states; run = run }) (stood shelf s)
as_stood shelf s states run es er = ap (λ n. record { states = n; run = run }) es ∙ ap (λ r. record { states = s.states.count; run = r }) er

-- a table that stands in the book is that which ledger and shelf hold
module _ {K : Type 0} (N : Numbers K) (m : Model) (shelf : List K) (i : ℕ) (s : Standing) (stands : StandsAt m.events m.lines i s) where
  pub standing_is : ◌≡◌ {A = Table K} (stood shelf s) (table_at m shelf i)
  standing_is =
      ap (λ n. record { states = n; run = part shelf s.at s.size }) stands.states
      ∙ ap (λ a. record { states = (line_of m.lines i).states; run = part shelf a s.size }) stands.at
      ∙ ap (λ z. record { states = (line_of m.lines i).states; run = part shelf ((line_of m.lines i).place - 1) z }) stands.size

  pub standing_entries : Entered N m shelf → AllEntries N (table_at m shelf i).run
  standing_entries e = let h = and_parts (leb 1 i) (leb i (length m.lines)) stands.there in e.entries i (leb-true 1 i h.0) (leb-true i (length m.lines) h.1)

  -- a word over as many events that is weighed in it, on a strip as long, is weighed in that table
  pub weighed_in : (k : ℕ) → k ≡ m.events → (p : ℕ) (word : List ℕ) (n strip : ℕ) → n ≡ strip → (r : Result K Fault) → WeighedAt N (stood shelf s) k p word n r → WeighedAt N (table_at m shelf i) m.events p word strip r
  weighed_in k is p word n strip long r there =
      subst (λ t. WeighedAt N t m.events p word strip r) standing_is
      (subst (λ l. WeighedAt N (stood shelf s) l p word strip r) is (subst (λ l. WeighedAt N (stood shelf s) k p word l r) long there))

  -- and in the book
  pub weighed_there : (word : List ℕ) (n strip : ℕ) → n ≡ strip → (r : Result K Fault) → WeighedAt N (stood shelf s) m.events 1 word n r → Weighed N m shelf i word strip r
  weighed_there word n strip long r there =
      let here : WeighedAt N (table_at m shelf i) m.events 1 word strip r = weighed_in m.events refl 1 word n strip long r there in
      let after : weigh_refusal m i word strip ≡ weigh_fault m.events word strip = test_passed _ (fault_at NoSuchTable 1) _ stands.there in
      record {
        early = λ f e. here.early f (sym after ∙ e);
        answer = λ e. here.answer (standing_entries e) ∙ ap (λ o. answered o (at_place 1 (path_number N (table_at m shelf i).states (table_at m shelf i).run word))) (sym after);
        weight = λ e. here.weight (standing_entries e);
        ranged = λ e none. here.ranged (standing_entries e) (sym after ∙ none);
      }
