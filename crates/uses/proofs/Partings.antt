-- Two weights of a word in two tables of the book.
use Rattle.std.proofs.Common.{◌≡◌, ℕ, ◌+◌, Bool, true, false, not, List, length, Some, None, Ok, Err, Decides, Option, Result, sym, refl, ap, ◌∙◌, arith}
use Rattle.std.proofs.lemmas.Bool.{lt-ltb, ltb-true}
use Rattle.kinds.specs.declared.fault.Fault.{Fault}
use Rattle.kinds.specs.declared.fault.Refusal.TheVariants.{EqualWeights, TooManyParts}
use Rattle.kinds.specs.Faults.{fault, fault_at, or_refused, then, unless}
use Rattle.kinds.specs.Numbers.{Numbers, said}
use Rattle.kinds.proofs.Refusing.{answer_passes, passed_test, refusal_refuses, test_passed}
use Rattle.tables.specs.Entries.{AllEntries}
use Rattle.tables.specs.Layout.{value}
use Rattle.tables.specs.Path.{path_answer}
use Rattle.tables.specs.Range.{PathFits}
use Rattle.tables.specs.Weighing.{weigh_fault, answered, word_weight}
use Rattle.tables.specs.Words.{events_of}
use Rattle.tables.proofs.Admitted.{admits, admitted, word_admits}
use Rattle.tables.proofs.Ranges.{path_is_weight}
use Rattle.ledger.specs.Model.{Model}
use Rattle.ledger.specs.Standing.{Pairs, TwoTables, unless_two_tables}
use Rattle.ledger.specs.declared.ledger.Pair.{Pair}
use Rattle.ledger.specs.Keep.{keep_answer, keep_fault}
use Rattle.ledger.specs.Parts.{most_parts, unless_full}
use Rattle.ledger.proofs.Keeping.{keep_room, not_two, pair_two, two_pass, two_passed, two_refused}
use Rattle.uses.specs.declared.answers.Parted.{Parted}
use Rattle.uses.specs.declared.answers.Weights.{Weights}
use Rattle.uses.specs.Holds.{Entered, Table, table_at}
use Rattle.uses.specs.Part.{Apart, PartAnswers, TellsApart, differing, if_answered, part_answer, part_refusal, path_in, weights_answer, with_kept}
use Rattle.uses.specs.Weigh.{at_place, WeighedAt, weight_in}
use Rattle.uses.proofs.Weighings.{standing_entries, stood, weighed_in}

-- steps that were refused, and steps that were not
answered_some : {X : Type 0} (o : Option Fault) (r : Result X Fault) (f : Fault) → o ≡ Some f → answered o r ≡ Err f
answered_some o r f e = ap (λ p. answered p r) e

answered_none : {X : Type 0} (o : Option Fault) (r : Result X Fault) → o ≡ None → answered o r ≡ r
answered_none o r e = ap (λ p. answered p r) e

refused_some : {X : Type 0} (o : Option Fault) (x : X) (f : Fault) → o ≡ Some f → or_refused o x ≡ Err f
refused_some o x f e = ap (λ p. or_refused p x) e

refused_none : {X : Type 0} (o : Option Fault) (x : X) → o ≡ None → or_refused o x ≡ Ok x
refused_none o x e = ap (λ p. or_refused p x) e

then_ok : {X Y : Type 0} (r : Result X Fault) (g : X → Result Y Fault) (x : X) → r ≡ Ok x → then r g ≡ g x
then_ok r g x e = ap (λ q. then q g) e

then_err : {X Y : Type 0} (r : Result X Fault) (g : X → Result Y Fault) (f : Fault) → r ≡ Err f → then r g ≡ Err f
then_err r g f e = ap (λ q. then q g) e

-- ---- one table
module _ {K : Type 0} (N : Numbers K) (t : Table K) (k p : ℕ) (word : List ℕ) (strip : ℕ) where
  abbrev W : N.exact.Value
  W = word_weight N t.states t.run word

  abbrev path : Result N.exact.Value Fault
  path = path_answer N t.states (value N t.run) (events_of word)

  -- what is known of an answered weight: the path gives it, with its number, and it fits
  pub record Given (x : K) : Type 0 where
    pub by_path : at_place p path ≡ Ok W
    pub number : x ≡ N.write W
    pub fits : N.fits W ≡ true
    pub in_range : PathFits N t.states (value N t.run) (events_of word)

  -- and of a refused one
  pub record Withheld (f : Fault) : Type 0 where
    pub by_path : at_place p path ≡ Err f
    pub out_of_range : PathFits N t.states (value N t.run) (events_of word) → ⊥

  module _ (none : weigh_fault k word strip ≡ None) (entries : AllEntries N t.run) where
    -- where nothing is refused early, the path decides
    late : (r : Result K Fault) → WeighedAt N t k p word strip r → r ≡ at_place p (said N path)
    late r w = w.answer entries ∙ ap (λ o. answered o (at_place p (said N path))) none

    pub given : (x : K) → WeighedAt N t k p word strip (Ok x) → Given x
    given x w = by_case path refl (late (Ok x) w)
      where
        by_case : (c : Result N.exact.Value Fault) → path ≡ c → Ok x ≡ at_place p (said N c) → Given x
        by_case (Ok v) is e = record {
          by_path = ap (at_place p) is ∙ ap Ok (path_is_weight N t.states (value N t.run) (events_of word) v is);
          number = (w.weight entries).0;
          fits = (w.weight entries).1;
          in_range = w.ranged entries none;
        }
        by_case (Err f) is e = let z : ◌≡◌ {A = ℕ} 0 1 = cc in absurd (omega arith)

    pub withheld : (f : Fault) → WeighedAt N t k p word strip (Err f) → Withheld f
    withheld f w = by_case path refl (late (Err f) w)
      where
        by_case : (c : Result N.exact.Value Fault) → path ≡ c → Err f ≡ at_place p (said N c) → Withheld f
        by_case (Ok v) is e = let z : ◌≡◌ {A = ℕ} 0 1 = cc in absurd (omega arith)
        by_case (Err g) is e = record {
          by_path = ap (at_place p) is ∙ (let same : fault_at g.refusal p ≡ f = cc in ap Err same);
          out_of_range = (w.ranged entries none).0;
        }

  -- an answered weight was not refused early
  pub not_early : (x : K) → WeighedAt N t k p word strip (Ok x) → weigh_fault k word strip ≡ None
  not_early x w = by_case (weigh_fault k word strip) refl
    where
      by_case : (o : Option Fault) → weigh_fault k word strip ≡ o → weigh_fault k word strip ≡ None
      by_case None e = e
      by_case (Some f) e = let no = w.early f e in let z : ◌≡◌ {A = ℕ} 0 1 = cc in absurd (omega arith)

-- ---- two tables
module _ {K : Type 0} (N : Numbers K) (m : Model) (shelf : List K) (a b : ℕ) (word : List ℕ) (strip : ℕ) where
  abbrev k : ℕ
  k = m.events

  abbrev A : Table K
  A = table_at m shelf a

  abbrev B : Table K
  B = table_at m shelf b

  -- the two are no different tables of the book
  pub apart_not_two : (f : Fault) → unless_two_tables m.lines a b None ≡ Some f → Apart N m shelf a b word strip (Err f)
  apart_not_two f e = record {
    early = λ g h. let s = two_refused m.lines a b f e (weigh_fault m.events word strip) in cc;
    answer = λ _. sym (answered_some _ _ f (two_refused m.lines a b f e _));
    told = λ _ t. not_two m.lines a b f e t.two;
    passed = tt;
  }

  module _ (s : Pair) (stand : Pairs m.events m.lines a b (Ok s)) where
    two : TwoTables m.lines a b
    two = pair_two k m.lines a b s stand

    entries_a : Entered N m shelf → AllEntries N A.run
    entries_a = standing_entries N m shelf a s.first stand.0

    entries_b : Entered N m shelf → AllEntries N B.run
    entries_b = standing_entries N m shelf b s.second stand.1

    -- a weight of the first table, and one of the second, for a strip as long
    pub of_first : (l : ℕ) → l ≡ k → (n : ℕ) → n ≡ strip → (r : Result K Fault) → WeighedAt N (stood shelf s.first) l 1 word n r → WeighedAt N A k 1 word strip r
    of_first l is n long r w = weighed_in N m shelf a s.first stand.0 l is 1 word n strip long r w

    pub of_second : (l : ℕ) → l ≡ k → (n : ℕ) → n ≡ strip → (r : Result K Fault) → WeighedAt N (stood shelf s.second) l 2 word n r → WeighedAt N B k 2 word strip r
    of_second l is n long r w = weighed_in N m shelf b s.second stand.1 l is 2 word n strip long r w

    -- what is asked behind the tables
    behind : part_refusal N m shelf a b word strip ≡ weigh_fault k word strip
    behind = two_pass m.lines a b two _

    -- the two paths, where nothing is refused early
    rest : weigh_fault k word strip ≡ None → weights_answer N m shelf a b word strip ≡ then (path_in N m shelf a b word strip a 1) (λ v. then (path_in N m shelf a b word strip b 2) (differing N m shelf a b word strip v))
    rest none = answered_none (part_refusal N m shelf a b word strip) _ (behind ∙ none)

    -- a word that tells them apart is refused for nothing early
    none_early : TellsApart N m shelf a b word strip → weigh_fault k word strip ≡ None
    none_early t = admits k word strip (record { short = t.short; events = t.events; strip_of_sixteen = t.strip_of_sixteen })

    -- the first weight is refused
    pub apart_first : (f : Fault) → WeighedAt N A k 1 word strip (Err f) → Apart N m shelf a b word strip (Err f)
    apart_first f w = by_case (weigh_fault k word strip) refl
      where
        refusal : {g h : Fault} → ◌≡◌ {A = Result K Fault} (Err g) (Err h) → g ≡ h
        refusal e = cc

        by_case : (o : Option Fault) → weigh_fault k word strip ≡ o → Apart N m shelf a b word strip (Err f)
        by_case None none = record {
          early = λ g h. let no = sym (behind ∙ none) ∙ h in let z : ◌≡◌ {A = ℕ} 0 1 = cc in absurd (omega arith);
          answer = λ e. sym (rest none ∙ then_err (path_in N m shelf a b word strip a 1) _ f (withheld N A k 1 word strip none (entries_a e) f w).by_path);
          told = λ e t. (withheld N A k 1 word strip none (entries_a e) f w).out_of_range t.first_in_range;
          passed = tt;
        }
        by_case (Some g) some = record {
          early = λ h e. ap Err (refusal (w.early h (sym behind ∙ e)));
          answer = λ _. ap Err (refusal (w.early g some)) ∙ sym (answered_some _ _ g (behind ∙ some));
          told = λ _ t. let no = sym (none_early t) ∙ some in let z : ◌≡◌ {A = ℕ} 0 1 = cc in omega arith;
          passed = tt;
        }

    module _ (x : K) (first : WeighedAt N A k 1 word strip (Ok x)) where
      none : weigh_fault k word strip ≡ None
      none = not_early N A k 1 word strip x first

      got_first : Entered N m shelf → Given N A k 1 word strip x
      got_first e = given N A k 1 word strip none (entries_a e) x first

      -- nothing was refused early
      late_only : (r : Result (Weights K) Fault) (g : Fault) → part_refusal N m shelf a b word strip ≡ Some g → r ≡ Err g
      late_only r g h = let no = sym (behind ∙ none) ∙ h in let z : ◌≡◌ {A = ℕ} 0 1 = cc in absurd (omega arith)

      -- the second weight is refused
      pub apart_second : (f : Fault) → WeighedAt N B k 2 word strip (Err f) → Apart N m shelf a b word strip (Err f)
      apart_second f w = record {
        early = late_only (Err f);
        answer = λ e. sym (rest none ∙ then_ok (path_in N m shelf a b word strip a 1) _ _ (got_first e).by_path ∙ then_err (path_in N m shelf a b word strip b 2) _ f (withheld N B k 2 word strip none (entries_b e) f w).by_path);
        told = λ e t. (withheld N B k 2 word strip none (entries_b e) f w).out_of_range t.second_in_range;
        passed = tt;
      }

      module _ (y : K) (second : WeighedAt N B k 2 word strip (Ok y)) where
        got_second : Entered N m shelf → Given N B k 2 word strip y
        got_second e = given N B k 2 word strip none (entries_b e) y second

        -- both weights are given: whether they are one decides
        both : Entered N m shelf → weights_answer N m shelf a b word strip ≡ differing N m shelf a b word strip (weight_in N m shelf a word) (weight_in N m shelf b word)
        both e = rest none ∙ then_ok (path_in N m shelf a b word strip a 1) _ _ (got_first e).by_path ∙ then_ok (path_in N m shelf a b word strip b 2) _ _ (got_second e).by_path

        -- what the test of equality says decides
        decided : (s : Bool) → N.same (weight_in N m shelf a word) (weight_in N m shelf b word) ≡ s → differing N m shelf a b word strip (weight_in N m shelf a word) (weight_in N m shelf b word) ≡ or_refused (unless (not s) (fault EqualWeights) None) (record { first = N.write (weight_in N m shelf a word); second = N.write (weight_in N m shelf b word) })
        decided s e = ap (λ q. or_refused (unless (not q) (fault EqualWeights) None) (record { first = N.write (weight_in N m shelf a word); second = N.write (weight_in N m shelf b word) })) e

        same_is : Entered N m shelf → Decides (N.same (weight_in N m shelf a word) (weight_in N m shelf b word)) (weight_in N m shelf a word ≡ weight_in N m shelf b word)
        same_is e = N.ties.same_is _ _ (got_first e).fits (got_second e).fits

        -- the test of equality is right
        module _ (t : Bool) (test : N.stored x ≡ true → N.stored y ≡ true → t ≡ N.same (N.read x) (N.read y)) where
          test_is : Entered N m shelf → t ≡ N.same (weight_in N m shelf a word) (weight_in N m shelf b word)
          test_is e =
              let p = got_first e in
              let q = got_second e in
              let stored-x : N.stored x ≡ true = ap N.stored p.number ∙ N.ties.write_stored _ p.fits in
              let stored-y : N.stored y ≡ true = ap N.stored q.number ∙ N.ties.write_stored _ q.fits in
              let read-x : N.read x ≡ weight_in N m shelf a word = ap N.read p.number ∙ N.ties.read_write _ p.fits in
              let read-y : N.read y ≡ weight_in N m shelf b word = ap N.read q.number ∙ N.ties.read_write _ q.fits in
              test stored-x stored-y ∙ ap (λ v. N.same v (N.read y)) read-x ∙ ap (N.same (weight_in N m shelf a word)) read-y

          -- the weights are equal
          pub apart_equal : t ≡ true → Apart N m shelf a b word strip (Err (fault EqualWeights))
          apart_equal yes' = record {
            early = late_only _;
            answer = λ e. sym (both e ∙ decided true (sym (test_is e) ∙ yes'));
            told = λ e w. w.differ ((same_is e).0 (sym (test_is e) ∙ yes'));
            passed = tt;
          }

          -- they differ
          pub apart_differ : t ≡ false → Apart N m shelf a b word strip (Ok (record { first = x; second = y }))
          apart_differ no' = record {
            early = late_only _;
            answer = λ e.
                ap (λ v. Ok (record { first = v; second = y })) (got_first e).number
                ∙ ap (λ v. Ok (record { first = N.write (weight_in N m shelf a word); second = v })) (got_second e).number
                ∙ sym (both e ∙ decided false (sym (test_is e) ∙ no'));
            told = λ e.
                let fine = admitted k word strip none in
                let apart : weight_in N m shelf a word ≡ weight_in N m shelf b word → ⊥ = λ same. let no = sym ((same_is e).1 same) ∙ sym (test_is e) ∙ no' in let z : ◌≡◌ {A = ℕ} 0 1 = cc in omega arith in (
                  record { two = two; short = fine.short; events = fine.events; strip_of_sixteen = fine.strip_of_sixteen; first_in_range = (got_first e).in_range; second_in_range = (got_second e).in_range; differ = apart },
                  record { first = (got_first e).number; first_fits = (got_first e).fits; second = (got_second e).number; second_fits = (got_second e).fits; differ = apart },
                );
            passed = behind ∙ none;
          }

    -- the weights that are answered where the two tables stand, each on a strip as long
    module _ (i : ℕ) (long : i ≡ strip) where
      pub first_refused : (f : Fault) → WeighedAt N (stood shelf s.first) k 1 word i (Err f) → Apart N m shelf a b word strip (Err f)
      first_refused f w = apart_first f (of_first k refl i long (Err f) w)

      module _ (x : K) (w : WeighedAt N (stood shelf s.first) k 1 word i (Ok x)) (j : ℕ) (as_long : j ≡ strip) where
        pub second_refused : (f : Fault) → WeighedAt N (stood shelf s.second) k 2 word j (Err f) → Apart N m shelf a b word strip (Err f)
        second_refused f v = apart_second x (of_first k refl i long (Ok x) w) f (of_second k refl j as_long (Err f) v)

        module _ (y : K) (v : WeighedAt N (stood shelf s.second) k 2 word j (Ok y)) (t : Bool) (test : N.stored x ≡ true → N.stored y ≡ true → t ≡ N.same (N.read x) (N.read y)) where
          pub equal_weights : t ≡ true → Apart N m shelf a b word strip (Err (fault EqualWeights))
          equal_weights = apart_equal x (of_first k refl i long (Ok x) w) y (of_second k refl j as_long (Ok y) v) t test

          pub weights_differ : t ≡ false → Apart N m shelf a b word strip (Ok (record { first = x; second = y }))
          weights_differ = apart_differ x (of_first k refl i long (Ok x) w) y (of_second k refl j as_long (Ok y) v) t test

  -- ---- keeping the word
  -- no part is kept, since the word does not tell the tables apart
  pub part_refused : (f : Fault) → Apart N m shelf a b word strip (Err f) → PartAnswers N m shelf a b word strip (Err f) m
  part_refused f w =
      let answer : Entered N m shelf → Err f ≡ part_answer N m shelf a b word strip = λ e. sym (then_err (weights_answer N m shelf a b word strip) _ f (sym (w.answer e))) in
      record {
        early = λ g h. ap Err (refusal (w.early g h));
        answer = answer;
        ledger = λ e. sym (ap (λ r. if_answered r m (with_kept m a b word)) (sym (answer e)));
        told = λ e t. w.told e t.0;
      }
    where
      refusal : {g h : Fault} → ◌≡◌ {A = Result (Weights K) Fault} (Err g) (Err h) → g ≡ h
      refusal e = cc

  module _ (x : Weights K) (w : Apart N m shelf a b word strip (Ok x)) where
    -- what the ledger then asks
    room : keep_fault k m.lines m.parts a b word ≡ unless_full m.parts None
    room =
        let two = two_passed m.lines a b _ w.passed in
        let fine = admitted k word strip two.1 in
        keep_room k (length m.lines) m.lines m.parts a b word refl two.0 (word_admits k word None fine.short fine.events)

    nothing_early : (r : Result (Parted K) Fault) (g : Fault) → part_refusal N m shelf a b word strip ≡ Some g → r ≡ Err g
    nothing_early r g h = let no = sym w.passed ∙ h in let z : ◌≡◌ {A = ℕ} 0 1 = cc in absurd (omega arith)

    -- what is answered behind the weights
    behind_weights : Entered N m shelf → part_answer N m shelf a b word strip ≡ or_refused (unless_full m.parts None) (record { part = length m.parts + 1; first = x.first; second = x.second })
    behind_weights e = then_ok (weights_answer N m shelf a b word strip) _ x (sym (w.answer e))

    -- the ledger keeps no more
    pub part_full : (f : Fault) → Err f ≡ keep_answer k m.lines m.parts a b word → PartAnswers N m shelf a b word strip (Err f) m
    part_full f kept =
        let full : unless_full m.parts None ≡ Some f = sym room ∙ refusal_refuses (keep_fault k m.lines m.parts a b word) _ f kept in
        let answer : Entered N m shelf → Err f ≡ part_answer N m shelf a b word strip = λ e. sym (behind_weights e ∙ refused_some (unless_full m.parts None) _ f full) in
        record {
          early = nothing_early (Err f);
          answer = answer;
          ledger = λ e. sym (ap (λ r. if_answered r m (with_kept m a b word)) (sym (answer e)));
          told = λ e t. let no = sym (test_passed _ (fault TooManyParts) None (lt-ltb (length m.parts) most_parts t.1)) ∙ full in let z : ◌≡◌ {A = ℕ} 0 1 = cc in omega arith;
        }

    -- the word is kept
    pub part_kept : (n : ℕ) (after : Model) → Ok n ≡ keep_answer k m.lines m.parts a b word → after ≡ with_kept m a b word → PartAnswers N m shelf a b word strip (Ok (record { part = n; first = x.first; second = x.second })) after
    part_kept n after kept is =
        let p = answer_passes (keep_fault k m.lines m.parts a b word) (length m.parts + 1) n kept in
        let none : unless_full m.parts None ≡ None = sym room ∙ p.0 in
        let answer : Entered N m shelf → Ok (record { part = n; first = x.first; second = x.second }) ≡ part_answer N m shelf a b word strip = λ e. ap (λ i. Ok (record { part = i; first = x.first; second = x.second })) p.1 ∙ sym (behind_weights e ∙ refused_none (unless_full m.parts None) _ none) in
        record {
          early = nothing_early _;
          answer = answer;
          ledger = λ e. is ∙ sym (ap (λ r. if_answered r m (with_kept m a b word)) (sym (answer e)));
          told = λ e. (((w.told e).0, ltb-true (length m.parts) most_parts (passed_test _ (fault TooManyParts) None none).0), (w.told e).1);
        }

  -- one part more leaves the tables as they were
  pub entered_kept : Entered N m shelf → Entered N (with_kept m a b word) shelf
  entered_kept e = record { within = e.within; entries = e.entries }
