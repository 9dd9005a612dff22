-- Numbers that stand for values that fit: what operations on them answer.
use Rattle.std.proofs.Common.{◌≡◌, ℕ, Bool, true, List, length, Ok, Err, Result, sym, ap, ◌∙◌, ap₂, ⊎_elim, arith}
use Rattle.std.proofs.ByRecursion.{All-get_or}
use Rattle.std.proofs.lemmas.List.{get_or_past}
use Rattle.std.proofs.lemmas.Bool.{cases_lt, cond-true}
use Rattle.kinds.specs.declared.fault.Fault.{Fault}
use Rattle.kinds.specs.Numbers.{Numbers, answer, is_entry}
use Rattle.kinds.proofs.Answers.{zero_read, zero_stored, entry_stored}
use Rattle.tables.specs.Layout.{number_at, value}
use Rattle.tables.specs.Entries.{AllEntries}

-- a refusal is no answer
pub never : {A : Type 0} {a : A} {e : Fault} → ◌≡◌ {A = Result A Fault} (Err e) (Ok a) → ⊥
never p = let z : ◌≡◌ {A = ℕ} 0 1 = cc in omega arith

-- a call has one answer
pub same_ok : {A : Type 0} {a b : A} → ◌≡◌ {A = Result A Fault} (Ok b) (Ok a) → b ≡ a
same_ok p = cc

module _ {K : Type 0} (N : Numbers K) where
  -- a call answered x, and it answers the number of v
  abbrev pub Answered : K → N.exact.Value → Type 0
  Answered x v = ◌≡◌ {A = Result K Fault} (Ok x) (Ok (N.write v))

  -- x is the number of v, which fits
  abbrev pub StandsFor : K → N.exact.Value → Type 0
  StandsFor x v = (x ≡ N.write v) × (N.fits v ≡ true)

  stands_stored : {x : K} {v : N.exact.Value} → StandsFor x v → N.stored x ≡ true
  stands_stored {x} {v} m = ap N.stored m.0 ∙ N.ties.write_stored v m.1

  stands_read : {x : K} {v : N.exact.Value} → StandsFor x v → N.read x ≡ v
  stands_read {x} {v} m = ap N.read m.0 ∙ N.ties.read_write v m.1

  -- an operation on two such numbers, whose result fits
  pub operated : {x y : K} {u v : N.exact.Value} {r : Result K Fault} (op : N.exact.Value → N.exact.Value → N.exact.Value) → StandsFor x u → StandsFor y v → (N.stored x ≡ true → N.stored y ≡ true → r ≡ answer N (op (N.read x) (N.read y))) → N.fits (op u v) ≡ true → r ≡ Ok (N.write (op u v))
  operated {x} {y} {u} {v} op mx my says h =
      says (stands_stored mx) (stands_stored my) ∙ ap (answer N) (ap₂ op (stands_read mx) (stands_read my)) ∙ cond-true _ _ _ h

  -- a comparison of two such numbers
  pub compared : {x y : K} {u v : N.exact.Value} {r : Bool} → StandsFor x u → StandsFor y v → (N.stored x ≡ true → N.stored y ≡ true → r ≡ N.same (N.read x) (N.read y)) → r ≡ N.same u v
  compared mx my says = says (stands_stored mx) (stands_stored my) ∙ ap₂ N.same (stands_read mx) (stands_read my)

  -- where all numbers are entries each place reads as one, past the end too
  pub entry_at : (run : List K) → AllEntries N run → (i : ℕ) → is_entry N (number_at N run i) ≡ true
  entry_at run h i =
      ⊎_elim
      (λ l. All-get_or (λ x. is_entry N x ≡ true) run i _ l h)
      (λ g. ap (is_entry N) (get_or_past run i _ g) ∙ cond-true _ _ _ (zero_stored N) ∙ ap N.entry (zero_read N) ∙ N.ties.zero_entry)
      (cases_lt i (length run))

  pub entry_value : (run : List K) → AllEntries N run → (i : ℕ) → N.entry (value N run i) ≡ true
  entry_value run h i = let e = entry_at run h i in sym (cond-true _ _ _ (entry_stored N _ e)) ∙ e

  pub number_stands : (run : List K) → AllEntries N run → (i : ℕ) {x : K} → x ≡ number_at N run i → StandsFor x (value N run i)
  number_stands run h i e = (e ∙ sym (N.ties.write_read _ (entry_stored N _ (entry_at run h i))), N.ties.entry_fits _ (entry_value run h i))
