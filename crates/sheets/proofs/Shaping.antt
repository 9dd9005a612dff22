-- The form of a sheet: what is answered where refusals 9, 10 and 11 are not given, and what it is that they are not.
use Rattle.std.proofs.Common.{◌≡◌, ℕ, ◌-◌, ◌≤◌, true, false, eqb, List, length, Some, None, Decides, Option, sym, refl, ap, ◌∙◌, subst, MatchOption}
use Rattle.std.proofs.lemmas.Bool.{both_ways, eq-eqb}
use Rattle.kinds.specs.declared.fault.Fault.{Fault}
use Rattle.kinds.specs.declared.fault.Refusal.TheVariants.{ScaleDoesNotCancel}
use Rattle.kinds.specs.Faults.{fault}
use Rattle.kinds.specs.Semiring.{Cancels}
use Rattle.kinds.specs.Numbers.{Numbers, is_entry, zero_of}
use Rattle.kinds.proofs.Refusing.{test_passed, none_found, passed_test, found_none}
use Rattle.kinds.proofs.Answers.{entry_stored}
use Rattle.tables.specs.Shape.{one_to}
use Rattle.tables.specs.Layout.{number_at}
use Rattle.tables.specs.Entries.{AllEntries, FirstOther, first_other}
use Rattle.tables.proofs.Firsts.{first_is_first}
use Rattle.tables.proofs.Limits.{one_to_from}
use Rattle.sheets.specs.Layout.{most_vectors, sheet_size, scale_at}
use Rattle.sheets.specs.Answer.{shape_fault, form_fault}
use Rattle.sheets.specs.Promises.{AtScaleTest}
use Rattle.sheets.proofs.Standing.{entry_at}

module _ {K : Type 0} (N : Numbers K) (sheet : List K) where
  -- no number is found that is no entry: all are
  pub none_other : first_other N 1 sheet ≡ None → AllEntries N sheet
  none_other e = subst (λ o. MatchOption o (AllEntries N sheet) (FirstOther N sheet)) e (first_is_first (is_entry N) (zero_of N) sheet (first_other N 1 sheet) refl)

  -- a number is found: it is the first that is no entry
  pub some_other : (p : ℕ) → first_other N 1 sheet ≡ Some p → FirstOther N sheet p
  some_other p e = subst (λ o. MatchOption o (AllEntries N sheet) (FirstOther N sheet)) e (first_is_first (is_entry N) (zero_of N) sheet (first_other N 1 sheet) refl)

  -- all are entries: none is found that is not
  pub entries_none_other : AllEntries N sheet → first_other N 1 sheet ≡ None
  entries_none_other h = by_case (first_other N 1 sheet) refl
    where
      by_case : (o : Option ℕ) → first_other N 1 sheet ≡ o → o ≡ None
      by_case None e = refl
      by_case (Some p) e = absurd (both_ways _ (some_other p e).fails (entry_at N sheet h (p - 1)))

  module _ (k w R : ℕ) where
    -- what it is that 9, 10 and 11 are not given
    pub record Shapely : Type 0 where
      pub vectors : one_to most_vectors R ≡ true
      pub count : eqb (length sheet) (sheet_size w R k) ≡ true
      pub entries : first_other N 1 sheet ≡ None

    pub shapely : (rest : Option Fault) → shape_fault N k w R sheet rest ≡ None → Shapely
    shapely rest e =
        let a = passed_test _ _ _ e in
        let b = passed_test _ _ _ a.1 in
        let c = found_none _ _ _ b.1 in
        record { vectors = a.0; count = b.0; entries = c.0 }

    -- then the rest is asked
    pub shape_passed : Shapely → (rest : Option Fault) → shape_fault N k w R sheet rest ≡ rest
    shape_passed s rest = test_passed _ _ _ s.vectors ∙ test_passed _ _ _ s.count ∙ none_found _ _ _ s.entries

    -- the same by the counts that the check works with
    pub shaped : {k' w' : ℕ} → k' ≡ k → w' ≡ w → 1 ≤ R → R ≤ most_vectors → length sheet ≡ sheet_size w' R k' → first_other N 1 sheet ≡ None → Shapely
    shaped {k'} {w'} ek ew some few size none =
        record { vectors = one_to_from most_vectors R some few; count = eq-eqb _ _ (size ∙ ap (λ x. sheet_size x R k') ew ∙ ap (sheet_size w R) ek); entries = none }

    -- the scale is asked, and does not cancel
    pub scale_refused : Shapely → {d : K} → d ≡ number_at N sheet scale_at → (N.stored d ≡ true → Decides false (Cancels N.exact (N.read d))) → (f : Fault) → f ≡ fault ScaleDoesNotCancel → AtScaleTest N k w R sheet (λ t. form_fault N k w R sheet t ≡ Some f)
    scale_refused s {d} e says f is =
        let P : K → Type 0 = λ x. Decides false (Cancels N.exact (N.read x)) in
        let stored = entry_stored N _ (entry_at N sheet (none_other s.entries) scale_at) in
        (false, λ reached. subst P e (says (ap N.stored e ∙ stored)), shape_passed s (Some (fault ScaleDoesNotCancel)) ∙ ap Some (sym is))
