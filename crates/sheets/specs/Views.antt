-- A sheet over what the check holds: a table's side, and a page.
use Rattle.std.specs.Prelude.{◌≡◌, ℕ, ◌<◌, List}
use Rattle.kinds.specs.Semiring.{total}
use Rattle.kinds.specs.Numbers.{Numbers}
use Rattle.tables.specs.Layout.{number_at, value}
use Rattle.tables.specs.Entries.{AllEntries}
use Rattle.sheets.specs.declared.sides.Side.{Side}
use Rattle.sheets.specs.declared.sides.Page.{Page}
use Rattle.sheets.specs.declared.sides.Comparison.{Comparison}
use Rattle.sheets.specs.Rules.{Coefficients, Half}
use Rattle.sheets.specs.Alike.{half}
use Rattle.sheets.specs.Layout.{numbers_from, coefficients}
use Rattle.sheets.specs.Answer.{starts_in}

-- a page has these numbers, for k events, with R vectors of w numbers
pub record IsPage {K : Type 0} (page : Page K) (k w R : ℕ) (numbers : List K) : Type 0 where
  pub events : page.events ≡ k
  pub width : page.width ≡ w
  pub vectors : page.vectors ≡ R
  pub run : page.run.now ≡ numbers

module _ {K : Type 0} (N : Numbers K) where
  -- n calls give the numbers of a run at these places
  abbrev pub Gives : (ℕ → K → Type 0) → ℕ → List K → (ℕ → ℕ) → Type 0
  Gives says n run at = (p : ℕ) (r : K) → p < n → says p r → r ≡ number_at N run (at p)

  -- the sum of n products, of the numbers of xs and those of ys at these places
  abbrev pub dotted : ℕ → List K → (ℕ → ℕ) → List K → (ℕ → ℕ) → N.exact.Value
  dotted n xs at-x ys at-y = total N.exact n (λ p. N.exact.times (value N xs (at-x p)) (value N ys (at-y p)))

  -- the half that a side has on a page
  abbrev pub half_on : Page K → Side K → Half N.exact.Value
  half_on page side = half side.states (value N side.run.now) (numbers_from page.width (value N page.run.now) side.shift)

  -- the coefficients of a page
  abbrev pub coefficients_on : Page K → Coefficients N.exact.Value
  coefficients_on page = coefficients page.width (value N page.run.now) page.events page.vectors

  -- something of the coefficients and one half, and of the coefficients and both halves
  abbrev pub on_side : {X : Type 0} → (Coefficients N.exact.Value → Half N.exact.Value → X) → Page K → Side K → X
  on_side f page side = f (coefficients_on page) (half_on page side)

  abbrev pub on_sides : {X : Type 0} → (Coefficients N.exact.Value → Half N.exact.Value → Half N.exact.Value → X) → Comparison K → X
  on_sides f c = f (coefficients_on c.page) (half_on c.page c.a) (half_on c.page c.b)

  -- the same of what takes two rows of starts too
  abbrev pub on_starts : {X : Type 0} → (Coefficients N.exact.Value → Half N.exact.Value → Half N.exact.Value → (ℕ → N.exact.Value) → (ℕ → N.exact.Value) → X) → Comparison K → List K → List K → X
  on_starts f c starts-a starts-b = on_sides f c (starts_in N starts-a) (starts_in N starts-b)

  -- all numbers of a page and a side, of a comparison, and of a page and two rows of starts are entries
  abbrev pub Entered : Page K → Side K → Type 0
  Entered page side = AllEntries N page.run.now × AllEntries N side.run.now

  abbrev pub BothEntered : Comparison K → Type 0
  BothEntered c = Entered c.page c.a × Entered c.page c.b

  abbrev pub StartsEntered : Page K → List K → List K → Type 0
  StartsEntered page starts-a starts-b = AllEntries N page.run.now × AllEntries N starts-a × AllEntries N starts-b
