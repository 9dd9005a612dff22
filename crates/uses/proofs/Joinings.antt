-- A sheet that is checked for two tables of the book, and a ledger whose classes are merged.
use Rattle.std.proofs.Common.{◌≡◌, ℕ, ◌+◌, ◌-◌, ◌≤◌, true, leb, List, length, Some, None, Ok, Err, Option, Result, sym, ap, ◌∙◌, subst, arith}
use Rattle.std.proofs.lemmas.Bool.{and_parts, cond-true, leb-true}
use Rattle.kinds.specs.declared.fault.Fault.{Fault}
use Rattle.kinds.specs.Faults.{or_kept, or_refused}
use Rattle.kinds.specs.Numbers.{Numbers}
use Rattle.kinds.proofs.Refusing.{answer_passes, refusal_refuses, renewed}
use Rattle.tables.specs.Entries.{AllEntries}
use Rattle.tables.specs.Shape.{one_to, table_size}
use Rattle.sheets.specs.Answer.{form_fault}
use Rattle.sheets.specs.Promises.{AcceptsExactly, Alike, Answers, Early}
use Rattle.ledger.specs.Classes.{merged, merged_if_there}
use Rattle.ledger.specs.Lines.{Has, line_of}
use Rattle.ledger.specs.Model.{Model}
use Rattle.ledger.specs.Standing.{unless_two_tables}
use Rattle.ledger.proofs.Keeping.{not_two, two_pass, two_refused}
use Rattle.ledger.proofs.Merging.{line_merged, merged_as_many, used_merged}
use Rattle.uses.specs.Holds.{Entered, Table, part, table_at}
use Rattle.uses.specs.Join.{Answered, Joined, JoinSays, TwoTables, join_fault, width, with_merged}

-- what the check of a sheet says of two tables
pub record SheetSays {K : Type 0} (N : Numbers K) (k : ℕ) (s t : Table K) (R : ℕ) (sheet : List K) (r : Result (Unit {0}) Fault) : Type 0 where
  pub early : Early N k (s.states + t.states) R sheet r
  pub answer : AllEntries N s.run → AllEntries N t.run → Answers N k s.states s.run t.states t.run R sheet r
  pub exactly : AllEntries N s.run → AllEntries N t.run → AcceptsExactly N k s.states s.run t.states t.run R sheet r
  pub alike : AllEntries N s.run → AllEntries N t.run → r ≡ Ok tt → Alike N k s.states s.run t.states t.run R sheet

has_of : (m : Model) (i : ℕ) → one_to (length m.lines) i ≡ true → Has m.lines i
has_of m i e = let h = and_parts (leb 1 i) (leb i (length m.lines)) e in (leb-true 1 i h.0, leb-true i (length m.lines) h.1)

module _ {K : Type 0} (N : Numbers K) (m : Model) (shelf : List K) (a b R : ℕ) (sheet : List K) where
  pub checked_in_book : TwoTables m a b → (r : Result (Unit {0}) Fault) → SheetSays N m.events (table_at m shelf a) (table_at m shelf b) R sheet r → JoinSays N m shelf a b R sheet r
  checked_in_book two r says =
      let entries_a : Entered N m shelf → AllEntries N (table_at m shelf a).run = λ e. let h = has_of m a two.first in e.entries a h.0 h.1 in
      let entries_b : Entered N m shelf → AllEntries N (table_at m shelf b).run = λ e. let h = has_of m b two.second in e.entries b h.0 h.1 in
      record {
        early = let s = says.early in (s.0, λ none. s.1 (sym (two_pass m.lines a b two _) ∙ none), λ f e. s.2 f (sym (two_pass m.lines a b two _) ∙ e));
        answer = λ e. let s = says.answer (entries_a e) (entries_b e) in (s.0, λ none. s.1 (sym (two_pass m.lines a b two _) ∙ none), s.2 ∙ ap (λ o. or_refused o tt) (sym (two_pass m.lines a b two _)));
        exactly = λ e. record { two = λ _. two; exactly = λ _. says.exactly (entries_a e) (entries_b e) };
        alike = λ e ok. says.alike (entries_a e) (entries_b e) ok;
        two = λ _. two;
      }

  -- what is said where the two are not different tables of the book
  pub refused_in_book : (f : Fault) → unless_two_tables m.lines a b None ≡ Some f → JoinSays N m shelf a b R sheet (Err f)
  refused_in_book f e =
      record {
        early = (true, λ none. shut _ none, λ g h. let s = two_refused m.lines a b f e (form_fault N m.events (width N m shelf a b R sheet) R sheet true) in cc);
        answer = λ _. (true, λ none. shut _ none, sym (ap (λ o. or_refused o tt) (two_refused m.lines a b f e _)));
        exactly = λ _. record { two = never; exactly = λ two. absurd (not_two m.lines a b f e two) };
        alike = λ _. never;
        two = never;
      }
    where
      -- a refusal is no acceptance
      never : {A : Type 0} → ◌≡◌ {A = Result (Unit {0}) Fault} (Err f) (Ok tt) → A
      never h = let z : ◌≡◌ {A = ℕ} 0 1 = cc in absurd (omega arith)

      -- something refuses, whatever comes behind the tables
      shut : {A : Type 0} (rest : Option Fault) → unless_two_tables m.lines a b rest ≡ None → A
      shut rest h = let s = two_refused m.lines a b f e rest in let z : ◌≡◌ {A = ℕ} 0 1 = cc in absurd (omega arith)

  -- a refused join leaves the ledger
  pub refused_joined : (f : Fault) → Answered N m shelf a b R sheet (Err f) → Joined N m shelf a b R sheet (Err f) m
  refused_joined f s = (s.0, s.1, (s.2, sym (ap (λ o. or_kept o m (with_merged m a b)) (refusal_refuses (join_fault N m shelf a b R sheet s.0) (tt {0}) f s.2))))

  -- an accepted one merges the classes
  pub accepted_joined : (after : Model) → after ≡ with_merged m a b → Answered N m shelf a b R sheet (Ok tt) → Joined N m shelf a b R sheet (Ok tt) after
  accepted_joined after is s = (s.0, s.1, (s.2, is ∙ sym (renewed (join_fault N m shelf a b R sheet s.0) m (with_merged m a b) (answer_passes (join_fault N m shelf a b R sheet s.0) (tt {0}) tt s.2).0)))

-- the lines where both tables are there
pub merged_there : (m : Model) (a b : ℕ) → TwoTables m a b → merged_if_there a b m.lines ≡ merged a b m.lines
merged_there m a b two = cond-true _ _ _ two.first ∙ cond-true _ _ _ two.second

-- the tables stay what they were
module _ {K : Type 0} (N : Numbers K) (m : Model) (shelf : List K) (a b : ℕ) where
  pub table_merged : (i : ℕ) → Has m.lines i → table_at (with_merged m a b) shelf i ≡ table_at m shelf i
  table_merged i has = let l = line_merged a b m.lines i has in
      ap (λ n. record { states = n; run = part shelf ((line_of (merged a b m.lines) i).place - 1) (table_size n m.events) }) l.0
      ∙ ap (λ p. record { states = (line_of m.lines i).states; run = part shelf (p - 1) (table_size (line_of m.lines i).states m.events) }) l.1

  pub entered_merged : Entered N m shelf → Entered N (with_merged m a b) shelf
  entered_merged e = record {
    within = let u = used_merged m.events a b m.lines in let w = e.within in omega arith;
    entries = λ i low high.
        let has : Has m.lines i = (low, subst (λ n. i ≤ n) (merged_as_many a b m.lines) high) in
        subst (λ t. AllEntries N t.run) (sym (table_merged i has)) (e.entries i has.0 has.1);
  }
