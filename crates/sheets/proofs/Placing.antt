-- The sums that the check makes are those of the rules, and so are its comparisons.
use Rattle.std.proofs.Common.{◌≡◌, ℕ, ◌≤◌, Bool, true, List, Ok, Result, arith}
use Rattle.kinds.specs.declared.fault.Fault.{Fault}
use Rattle.kinds.specs.Semiring.{total}
use Rattle.kinds.specs.Numbers.{Numbers, SumsOfEntryProductsFit, answer}
use Rattle.tables.specs.Layout.{end_at, number_at, value}
use Rattle.tables.specs.Entries.{AllEntries}
use Rattle.sheets.specs.declared.sides.Side.{Side}
use Rattle.sheets.specs.declared.sides.Page.{Page}
use Rattle.sheets.specs.Rules.{Coefficients, Half, start_sum, scaled_step, scaled_end, combined}
use Rattle.sheets.specs.Alike.{half}
use Rattle.sheets.specs.Layout.{scale_at, numbers_from, coefficients}
use Rattle.sheets.specs.Tests.{step_row_kept, end_row_kept}
use Rattle.sheets.specs.Answer.{starts_in}
use Rattle.sheets.specs.Views.{Entered, half_on, coefficients_on}
use Rattle.sheets.proofs.Fitting.{HalfEntries, CoefficientEntries, scaled_step_fits, scaled_end_fits, combined_fits, pairs_fit}
use Rattle.sheets.proofs.Standing.{same_ok, Answered, StandsFor, operated, compared, entry_value, number_stands}

module _ {K : Type 0} (N : Numbers K) where
  -- a sheet of w numbers in each of R vectors, over k events, and a table of n states behind so many others (shift)
  module _ (page : List K) (w k R : ℕ) where
    pub coefficient_entries : AllEntries N page → R ≤ 16 → CoefficientEntries N (coefficients w (value N page) k R)
    coefficient_entries hp few = record { few = few; scale = entry_value N page hp _; stepping = λ e r q. entry_value N page hp _; ending = λ q. entry_value N page hp _ }

    pub half_entries : (run : List K) (n shift : ℕ) → AllEntries N run → AllEntries N page → n ≤ 16 → HalfEntries N (half n (value N run) (numbers_from w (value N page) shift))
    half_entries run n shift hr hp few = record { few = few; steps = λ e i j. entry_value N run hr _; ends = λ i. entry_value N run hr _; numbers = λ r i. entry_value N page hp _ }

  -- the number of a sum of starts
  pub start_sum_stands : SumsOfEntryProductsFit N → (page : Page K) (side : Side K) (starts : List K) → AllEntries N page.run.now → AllEntries N starts → (r : ℕ) {x : K} → Answered N x (start_sum N.exact (starts_in N starts) (half_on N page side) r) → StandsFor N x (start_sum N.exact (starts_in N starts) (half_on N page side) r)
  start_sum_stands law page side starts hp hs r ex =
      let few = side.few in
      (same_ok ex, pairs_fit N law side.states (omega arith) _ _ (entry_value N starts hs) (λ i. entry_value N page.run.now hp _))

  module _ (law : SumsOfEntryProductsFit N) (page : Page K) (side : Side K) (entered : Entered N page side) where
    abbrev c : Coefficients N.exact.Value
    c = coefficients_on N page

    abbrev h : Half N.exact.Value
    h = half_on N page side

    ce : CoefficientEntries N c
    ce = coefficient_entries page.run.now page.width page.events page.vectors entered.0 page.few

    he : HalfEntries N h
    he = half_entries page.run.now page.width page.events page.vectors side.run.now side.states side.shift entered.1 entered.0 (let few = side.few in omega arith)

    scale_stands : {d : K} → d ≡ number_at N page.run.now scale_at → StandsFor N d c.scale
    scale_stands e = number_stands N page.run.now entered.0 scale_at e

    -- the scale × the steps applied to a vector is not refused
    pub scaled_step_ok : (e r i : ℕ) {d image : K} {x : Result K Fault} → d ≡ number_at N page.run.now scale_at → Answered N image (total N.exact h.states (λ j. N.exact.times (h.steps e i j) (h.numbers r j))) → (N.stored d ≡ true → N.stored image ≡ true → x ≡ answer N (N.exact.times (N.read d) (N.read image))) → x ≡ Ok (N.write (scaled_step N.exact c h e r i))
    scaled_step_ok e r i ed ei says =
        operated N N.exact.times (scale_stands ed) (same_ok ei, pairs_fit N law h.states he.few _ _ (he.steps e i) (he.numbers r)) says (scaled_step_fits N law h he c ce e r i)

    -- the scale × an end is not refused
    pub scaled_end_ok : (i : ℕ) {d x : K} {y : Result K Fault} → d ≡ number_at N page.run.now scale_at → x ≡ number_at N side.run.now (end_at side.states i) → (N.stored d ≡ true → N.stored x ≡ true → y ≡ answer N (N.exact.times (N.read d) (N.read x))) → y ≡ Ok (N.write (scaled_end N.exact c h i))
    scaled_end_ok i ed ex says = operated N N.exact.times (scale_stands ed) (number_stands N side.run.now entered.1 _ ex) says (scaled_end_fits N law h he c ce i)

    -- the comparison in a row is the test of the step rule
    pub step_row_is : (e r i : ℕ) {x y : K} {b : Bool} → Answered N x (scaled_step N.exact c h e r i) → Answered N y (combined N.exact c h (c.stepping e r) i) → (N.stored x ≡ true → N.stored y ≡ true → b ≡ N.same (N.read x) (N.read y)) → b ≡ step_row_kept N c h e r i
    step_row_is e r i ex ey says = compared N (same_ok ex, scaled_step_fits N law h he c ce e r i) (same_ok ey, combined_fits N law h he c ce (c.stepping e r) (ce.stepping e r) i) says

    -- and that of the end rule
    pub end_row_is : (i : ℕ) {x y : K} {b : Bool} → Answered N x (scaled_end N.exact c h i) → Answered N y (combined N.exact c h c.ending i) → (N.stored x ≡ true → N.stored y ≡ true → b ≡ N.same (N.read x) (N.read y)) → b ≡ end_row_kept N c h i
    end_row_is i ex ey says = compared N (same_ok ex, scaled_end_fits N law h he c ce i) (same_ok ey, combined_fits N law h he c ce c.ending ce.ending i) says
