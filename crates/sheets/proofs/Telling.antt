-- What the check promises, at each of its exits.
use Rattle.std.proofs.Common.{◌≡◌, ℕ, ◌+◌, ◌≤◌, Bool, List, Some, None, Ok, Err, Decides, Option, Result, sym, ap, ◌∙◌, subst, ap₂, arith}
use Rattle.kinds.specs.declared.fault.Fault.{Fault}
use Rattle.kinds.specs.declared.fault.Refusal.TheVariants.{ScaleDoesNotCancel}
use Rattle.kinds.specs.Faults.{fault, unless, or_refused}
use Rattle.kinds.specs.Numbers.{Numbers, SumsOfEntryProductsFit}
use Rattle.kinds.proofs.Refusing.{answer_passes, refusal_refuses}
use Rattle.tables.specs.Shape.{most_states}
use Rattle.tables.specs.Layout.{value}
use Rattle.tables.specs.Entries.{AllEntries}
use Rattle.sheets.specs.declared.sides.Page.{Page}
use Rattle.sheets.specs.Rules.{Coefficients, Half}
use Rattle.sheets.specs.Alike.{half}
use Rattle.sheets.specs.Layout.{numbers_from, coefficients}
use Rattle.sheets.specs.Answer.{or_next, starts_in, shape_fault, form_fault, start_fault, step_and_end_fault, sheet_fault, coefficients_of, left_of, right_of}
use Rattle.sheets.specs.Promises.{ScaleCancels, AtScaleTest, Early, Answers, AcceptsExactly, Alike}
use Rattle.sheets.specs.Views.{IsPage, coefficients_on}
use Rattle.sheets.proofs.Shaping.{none_other, shapely}
use Rattle.sheets.proofs.Meaning.{accepts_exactly, accepted_weighs_alike}

module _ {K : Type 0} (N : Numbers K) (law : SumsOfEntryProductsFit N) (k n : ℕ) (a-run : List K) (m : ℕ) (b-run : List K) (R : ℕ) (sheet : List K) where
  -- the promises on an answer
  pub record Told (r : Result (Unit {0}) Fault) : Type 0 where
    pub early : Early N k (n + m) R sheet r
    pub answer : AllEntries N a-run → AllEntries N b-run → Answers N k n a-run m b-run R sheet r
    pub accepts_exactly : AllEntries N a-run → AllEntries N b-run → AcceptsExactly N k n a-run m b-run R sheet r
    pub alike : AllEntries N a-run → AllEntries N b-run → r ≡ Ok tt → Alike N k n a-run m b-run R sheet

  -- what a part of the check says where all numbers are entries
  abbrev pub Says : Result (Unit {0}) Fault → Option Fault → Type 0
  Says r o = AllEntries N a-run → AllEntries N b-run → AllEntries N sheet → r ≡ or_refused o tt

  abbrev C : Coefficients N.exact.Value
  C = coefficients_of N k n a-run m b-run R sheet

  abbrev A : Half N.exact.Value
  A = left_of N k n a-run m b-run R sheet

  abbrev B : Half N.exact.Value
  B = right_of N k n a-run m b-run R sheet

  -- it says the same of the page and the sides that hold the sheet and the tables
  module _ (page : Page K) (is : IsPage page k (n + m) R sheet) {n' m' : ℕ} (en : n' ≡ n) (em : m' ≡ m) where
    half_is : {s s' t t' : ℕ} (run : List K) → s' ≡ s → t' ≡ t → half s' (value N run) (numbers_from page.width (value N page.run.now) t') ≡ half s (value N run) (numbers_from (n + m) (value N sheet) t)
    half_is {s} {s'} {t} {t'} run es et =
        ap₂ (λ x y. half x (value N run) (numbers_from page.width (value N page.run.now) y)) es et
        ∙ ap₂ (λ w l. half s (value N run) (numbers_from w (value N l) t)) is.width is.run

    coefficients_are : coefficients_on N page ≡ C
    coefficients_are =
        ap₂ (λ w l. coefficients w (value N l) page.events page.vectors) is.width is.run ∙ ap₂ (coefficients (n + m) (value N sheet)) is.events is.vectors

    pub says_of : {r : Result (Unit {0}) Fault} (f : ℕ → Coefficients N.exact.Value → Half N.exact.Value → Half N.exact.Value → Option Fault)
        → (AllEntries N page.run.now → AllEntries N a-run → AllEntries N b-run → r ≡ or_refused (f page.events (coefficients_on N page) (half n' (value N a-run) (numbers_from page.width (value N page.run.now) 0)) (half m' (value N b-run) (numbers_from page.width (value N page.run.now) n'))) tt)
        → Says r (f k C A B)
    says_of f says ha hb hs =
        let hp = subst (AllEntries N) (sym is.run) hs in
        let zero : ◌≡◌ {A = ℕ} 0 0 = omega arith in
        says hp ha hb
        ∙ ap₂ (λ x c. or_refused (f x c (half n' (value N a-run) (numbers_from page.width (value N page.run.now) 0)) (half m' (value N b-run) (numbers_from page.width (value N page.run.now) n'))) tt) is.events coefficients_are
        ∙ ap₂ (λ a b. or_refused (f k C a b) tt) (half_is a-run en zero) (half_is b-run em en)

  abbrev pub starting : Option Fault
  starting = start_fault N C A B (starts_in N a-run) (starts_in N b-run)

  abbrev pub going : Option Fault
  going = step_and_end_fault N C A B k

  module _ (few-n : n ≤ most_states) (few-m : m ≤ most_states) where
    told : (b : Bool) → (shape_fault N k (n + m) R sheet None ≡ None → Decides b (ScaleCancels N sheet)) → (r : Result (Unit {0}) Fault) → ((f : Fault) → form_fault N k (n + m) R sheet b ≡ Some f → r ≡ Err f) → (AllEntries N a-run → AllEntries N b-run → r ≡ or_refused (sheet_fault N k n a-run m b-run R sheet b) tt) → Told r
    told b decides r first all =
        record {
          early = (b, decides, first);
          answer = λ ha hb. (b, decides, all ha hb);
          accepts_exactly = λ ha hb. accepts_exactly N law k n a-run m b-run R sheet few-n few-m ha hb b decides r (all ha hb);
          alike = λ ha hb. accepted_weighs_alike N law k n a-run m b-run R sheet few-n few-m ha hb b decides r (all ha hb);
        }

    -- the form is refused
    pub form_refused : (r : Result (Unit {0}) Fault) (f : Fault) → AtScaleTest N k (n + m) R sheet (λ b. form_fault N k (n + m) R sheet b ≡ Some f) → r ≡ Err f → Told r
    form_refused r f says e =
        told says.0 says.1 r
        (λ g h. e ∙ ap (λ o. or_refused o tt) (sym says.2 ∙ h))
        (λ ha hb. e ∙ sym (ap (λ o. or_refused (or_next o (or_next starting going)) tt) says.2))

    -- the form is right
    module _ (form : AtScaleTest N k (n + m) R sheet (λ b. form_fault N k (n + m) R sheet b ≡ None)) where
      entries : AllEntries N sheet
      entries = none_other N sheet (shapely N sheet k (n + m) R (unless form.0 (fault ScaleDoesNotCancel) None) form.2).entries

      told_after : (r : Result (Unit {0}) Fault) → (AllEntries N a-run → AllEntries N b-run → r ≡ or_refused (or_next starting going) tt) → Told r
      told_after r rest =
          told form.0 form.1 r
          (λ g h. let z : ◌≡◌ {A = ℕ} 0 1 = cc (form.2, h) in absurd (omega arith))
          (λ ha hb. rest ha hb ∙ sym (ap (λ o. or_refused (or_next o (or_next starting going)) tt) form.2))

      -- the starts are refused
      pub starts_refused : (r : Result (Unit {0}) Fault) (f : Fault) → Says (Err f) starting → r ≡ Err f → Told r
      starts_refused r f stops e =
          told_after r (λ ha hb.
          let is : starting ≡ Some f = refusal_refuses _ tt f (stops ha hb entries) in
          e ∙ sym (ap (λ o. or_refused (or_next o going) tt) is))

      -- steps and ends are asked
      pub starts_passed : (r : Result (Unit {0}) Fault) → Says (Ok tt) starting → Says r going → Told r
      starts_passed r goes rest =
          told_after r (λ ha hb.
          let is : starting ≡ None = (answer_passes _ tt tt (goes ha hb entries)).0 in
          rest ha hb entries ∙ sym (ap (λ o. or_refused (or_next o going) tt) is))
