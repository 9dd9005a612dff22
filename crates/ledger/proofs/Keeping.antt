-- One part more, and what a ledger knows of its parts.
use Rattle.std.proofs.Common.{◌≡◌, ℕ, ◌+◌, ◌-◌, ◌<◌, ◌≤◌, Bool, true, false, not, eqb, leb, List, [], ◌∷◌, ◌++◌, map, length, take, set, Some, None, Ok, Err, Option, Result, sym, refl, ap, ◌∙◌, ⊎_elim, arith, length-set}
use lib.ListN.{length-map}
use Rattle.std.proofs.lemmas.List.{get_or_append_left, get_or_push, length_push, length-take-le, take-map, take_more_set}
use Rattle.std.proofs.lemmas.Bool.{and_from, and_parts, cases_lt, eq-eqb, eqb-false, le-leb, leb-true, ne_eqb, not-true}
use Rattle.kinds.specs.declared.fault.Fault.{Fault}
use Rattle.kinds.specs.declared.fault.Refusal.TheVariants.{NoSuchTable, SameTable, NoSuchPart, WordRunLength}
use Rattle.kinds.specs.Faults.{fault, fault_at, or_kept, or_refused, unless}
use Rattle.kinds.proofs.Refusing.{passed_test, test_passed}
use Rattle.tables.specs.Shape.{one_to}
use Rattle.tables.specs.Words.{event_of, events_of, AllEvents, longest_word, unless_word}
use Rattle.tables.proofs.Admitted.{word_passes}
use Rattle.tables.proofs.Limits.{one_to_from, one_to_parts}
use Rattle.ledger.specs.declared.ledger.Pair.{Pair}
use Rattle.ledger.specs.declared.line.Line.{Line}
use Rattle.ledger.specs.declared.part.Part.{Part}
use Rattle.ledger.specs.Keep.{keep_fault, keep_answer, keep_parts}
use Rattle.ledger.specs.Parts.{Kept, no_part, part_of, all_events, is_part, Parted, spelled, with_part, unless_full, word_fault, word_answer, word_run}
use Rattle.ledger.specs.Standing.{Pairs, TwoTables, unless_two_tables}
use Rattle.ledger.specs.Stored.{meaning, meanings}

-- two different tables of the book leave the rest to be asked
pub two_pass : (ls : List Line) (a b : ℕ) → TwoTables ls a b → (rest : Option Fault) → unless_two_tables ls a b rest ≡ rest
two_pass ls a b two rest =
    test_passed _ (fault_at NoSuchTable 1) _ two.first
    ∙ test_passed _ (fault_at NoSuchTable 2) _ two.second
    ∙ test_passed _ (fault SameTable) rest (ap not (ne_eqb a b two.apart))

-- two tables that stand in the book are such
pub pair_two : (k : ℕ) (ls : List Line) (a b : ℕ) (p : Pair) → Pairs k ls a b (Ok p) → TwoTables ls a b
pair_two k ls a b p s = record { first = s.0.there; second = s.1.there; apart = s.2 }

-- where nothing is refused, they are two different tables, and the rest refuses nothing
pub two_passed : (ls : List Line) (a b : ℕ) (rest : Option Fault) → unless_two_tables ls a b rest ≡ None → TwoTables ls a b × (rest ≡ None)
two_passed ls a b rest e =
    let x = passed_test (one_to (length ls) a) (fault_at NoSuchTable 1) _ e in
    let y = passed_test (one_to (length ls) b) (fault_at NoSuchTable 2) _ x.1 in
    let z = passed_test (not (eqb a b)) (fault SameTable) rest y.1 in
    (record { first = x.0; second = y.0; apart = eqb-false a b (not-true (eqb a b) z.0) }, z.1)

-- numbers that are not two different tables are refused whatever comes behind them
pub two_refused : (ls : List Line) (a b : ℕ) (f : Fault) → unless_two_tables ls a b None ≡ Some f → (rest : Option Fault) → unless_two_tables ls a b rest ≡ Some f
two_refused ls a b f e rest = go (one_to (length ls) a) (one_to (length ls) b) (not (eqb a b)) e
  where
    go : (x y z : Bool) → unless x (fault_at NoSuchTable 1) (unless y (fault_at NoSuchTable 2) (unless z (fault SameTable) None)) ≡ Some f → unless x (fault_at NoSuchTable 1) (unless y (fault_at NoSuchTable 2) (unless z (fault SameTable) rest)) ≡ Some f
    go false y z e = e
    go true false z e = e
    go true true false e = e
    go true true true e = cc

pub not_two : (ls : List Line) (a b : ℕ) (f : Fault) → unless_two_tables ls a b None ≡ Some f → TwoTables ls a b → ⊥
not_two ls a b f e two = let none = two_pass ls a b two None in let z : ◌≡◌ {A = ℕ} 0 1 = cc in omega arith

-- a part of n tables is one of more tables
pub parted_more : (k n : ℕ) (ps : List Kept) → Parted k n ps → Parted k (n + 1) ps
parted_more k n ps old p has =
    let a = and_parts (one_to n (part_of ps p).first) _ (old p has) in
    let b = and_parts (one_to n (part_of ps p).second) _ a.1 in
    and_from _ _ (more (part_of ps p).first a.0) (and_from _ _ (more (part_of ps p).second b.0) b.1)
  where
    more : (i : ℕ) → one_to n i ≡ true → one_to (n + 1) i ≡ true
    more i e = let h = one_to_parts n i e in let low = h.0 in let high = h.1 in one_to_from (n + 1) i low (omega arith)

-- what is known of a part
pub record IsPart (k n : ℕ) (p : Kept) : Type 0 where
  pub first : one_to n p.first ≡ true
  pub second : one_to n p.second ≡ true
  pub apart : p.first ≡ p.second → ⊥
  pub short : length p.word ≤ longest_word
  pub events : all_events k p.word ≡ true

pub part_is : (k n : ℕ) (p : Kept) → is_part k n p ≡ true → IsPart k n p
part_is k n p e =
    let a = and_parts (one_to n p.first) _ e in
    let b = and_parts (one_to n p.second) _ a.1 in
    let c = and_parts (not (eqb p.first p.second)) _ b.1 in
    let d = and_parts (leb (length p.word) longest_word) _ c.1 in
    record {
      first = a.0;
      second = b.0;
      apart = eqb-false p.first p.second (not-true (eqb p.first p.second) c.0);
      short = leb-true (length p.word) longest_word d.0;
      events = d.1;
    }

-- bytes that are events spell events
events_spelled : (k : ℕ) (word : List ℕ) → AllEvents k word → all_events k (events_of word) ≡ true
events_spelled k [] all = refl
events_spelled k (b ∷ word) all = and_from (one_to k (event_of b)) _ all.0 (events_spelled k word all.1)

module _ (k n : ℕ) (ls : List Line) (ps : List Kept) (a b : ℕ) (word : List ℕ) (count : length ls ≡ n) (two : TwoTables ls a b) where
  -- why a word with two tables is not kept
  pub keep_room : unless_word k word None ≡ None → keep_fault k ls ps a b word ≡ unless_full ps None
  keep_room e = two_pass ls a b two _ ∙ word_passes k word (unless_full ps None) e

  -- one part more is one of the tables and events
  pub parted_push : length word ≤ longest_word → AllEvents k word → Parted k n ps → Parted k n (with_part ps a b (events_of word))
  parted_push short all old p has = ⊎_elim earlier last (cases_lt p (length ps + 1))
    where
      new : Kept
      new = record { first = a; second = b; word = events_of word }

      fine : is_part k n new ≡ true
      fine =
          and_from _ _ (ap (λ m. one_to m a) (sym count) ∙ two.first)
          (and_from _ _ (ap (λ m. one_to m b) (sym count) ∙ two.second)
          (and_from _ _ (ap not (ne_eqb a b two.apart))
          (and_from _ _ (le-leb (length (events_of word)) longest_word (let l = length-map word event_of in omega arith)) (events_spelled k word all))))

      earlier : p < length ps + 1 → is_part k n (part_of (with_part ps a b (events_of word)) p) ≡ true
      earlier lt = let low = has.0 in ap (is_part k n) (get_or_append_left ps (new ∷ []) no_part (p - 1) (omega arith)) ∙ old p (low, omega arith)

      last : length ps + 1 ≤ p → is_part k n (part_of (with_part ps a b (events_of word)) p) ≡ true
      last ge = let high = has.1 in let size = length_push ps new in ap (is_part k n) (get_or_push ps new no_part (p - 1) (omega arith)) ∙ fine

-- what keeping answers and leaves where something refuses, and where nothing does
pub record KeepSays (k : ℕ) (ls : List Line) (ps : List Kept) (a b : ℕ) (word : List ℕ) (r : Result ℕ Fault) (after : List Kept) : Type 0 where
  pub answer : r ≡ keep_answer k ls ps a b word
  pub parts : after ≡ keep_parts k ls ps a b word

module _ (k : ℕ) (ls : List Line) (ps : List Kept) (a b : ℕ) (word : List ℕ) where
  pub keep_refuses : (f : Fault) → keep_fault k ls ps a b word ≡ Some f → KeepSays k ls ps a b word (Err f) ps
  keep_refuses f e = record { answer = sym (ap (λ o. or_refused o (length ps + 1)) e); parts = sym (ap (λ o. or_kept o ps (with_part ps a b (events_of word))) e) }

  pub keep_passes : (n : ℕ) (after : List Kept) → keep_fault k ls ps a b word ≡ None → length ps ≡ n → after ≡ with_part ps a b (events_of word) → KeepSays k ls ps a b word (Ok (n + 1)) after
  keep_passes n after e count is = record {
    answer = ap (λ m. Ok (m + 1)) (sym count) ∙ sym (ap (λ o. or_refused o (length ps + 1)) e);
    parts = is ∙ sym (ap (λ o. or_kept o ps (with_part ps a b (events_of word))) e);
  }

-- ---- the records, of which the first n are held, with one part more
module _ (n : ℕ) (all after : List Part) (new : Kept) (room : n < length all) (is : map meaning after ≡ set (map meaning all) n new) where
  pub records_held : meanings (n + 1) after ≡ meanings n all ++ (new ∷ [])
  records_held =
      let inside : n < length (map meaning all) = let l = length-map all meaning in omega arith in
      sym (take-map meaning (n + 1) after)
      ∙ ap (take (n + 1)) is
      ∙ take_more_set (map meaning all) n new inside
      ∙ ap (λ ps. ps ++ (new ∷ [])) (take-map meaning n all)

  pub records_whole : length after ≡ length all
  records_whole = sym (length-map after meaning) ∙ ap length is ∙ length-set (map meaning all) n new ∙ length-map all meaning

pub meanings_count : (n : ℕ) (all : List Part) → n ≤ length all → length (meanings n all) ≡ n
meanings_count n all fits = length-map (take n all) meaning ∙ length-take-le n all fits

-- ---- copying the word of a part
pub record WordSays (ps : List Kept) (p : ℕ) (run : List ℕ) (r : Result ℕ Fault) (after : List ℕ) : Type 0 where
  pub answer : r ≡ word_answer ps p run
  pub copied : after ≡ word_run ps p run

module _ (ps : List Kept) (p : ℕ) (run : List ℕ) where
  pub word_copied : one_to (length ps) p ≡ true → length run ≡ longest_word → (n : ℕ) (after : List ℕ) → n ≡ length (part_of ps p).word → after ≡ spelled (part_of ps p).word → WordSays ps p run (Ok n) after
  word_copied e h n after is copied =
      let none : word_fault ps p (length run) ≡ None = test_passed _ (fault NoSuchPart) _ e ∙ test_passed _ (fault WordRunLength) None (eq-eqb (length run) longest_word h) in
      record {
        answer = ap Ok is ∙ sym (ap (λ o. or_refused o (length (part_of ps p).word)) none);
        copied = copied ∙ sym (ap (λ o. or_kept o run (spelled (part_of ps p).word)) none);
      }
