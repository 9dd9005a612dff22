-- The three rules of a sheet for two tables, over any semiring. States and vectors are counted from 0, events from 1.
use Rattle.std.specs.Prelude.{◌≡◌, ℕ, ◌<◌, ◌≤◌}
use Rattle.kinds.specs.Semiring.{Semiring, total}

-- What a sheet has for both tables: the scale, step coefficients by event, vector and vector, and end coefficients by vector.
pub record Coefficients (V : Type 0) : Type 0 where
  pub vectors : ℕ
  pub scale : V
  pub stepping : ℕ → ℕ → ℕ → V
  pub ending : ℕ → V

-- One half of a sheet: a table's steps by event, row and column, its ends, and each vector's numbers for the table's states.
pub record Half (V : Type 0) : Type 0 where
  pub states : ℕ
  pub steps : ℕ → ℕ → ℕ → V
  pub ends : ℕ → V
  pub numbers : ℕ → ℕ → V

module _ (S : Semiring) where
  -- the sum of starts × the numbers of vector r
  abbrev pub start_sum : (ℕ → S.Value) → Half S.Value → ℕ → S.Value
  start_sum starts h r = total S h.states (λ i. S.times (starts i) (h.numbers r i))

  module _ (c : Coefficients S.Value) (h : Half S.Value) where
    -- the scale × the steps of event e applied to vector r, in row i
    abbrev pub scaled_step : ℕ → ℕ → ℕ → S.Value
    scaled_step e r i = S.times c.scale (total S h.states (λ j. S.times (h.steps e i j) (h.numbers r j)))

    -- the scale × the end of row i
    abbrev pub scaled_end : ℕ → S.Value
    scaled_end i = S.times c.scale (h.ends i)

    -- the sum over all vectors of coefficient × vector, in row i
    abbrev pub combined : (ℕ → S.Value) → ℕ → S.Value
    combined by i = total S c.vectors (λ q. S.times (by q) (h.numbers q i))

    -- the step rule of one half at event e and vector r
    abbrev pub StepRows : ℕ → ℕ → Type 0
    StepRows e r = (i : ℕ) → i < h.states → scaled_step e r i ≡ combined (c.stepping e r) i

    -- the end rule of one half
    abbrev pub EndRows : Type 0
    EndRows = (i : ℕ) → i < h.states → scaled_end i ≡ combined c.ending i

  -- the left half, and the right one
  module _ (c : Coefficients S.Value) (a b : Half S.Value) where
    -- the start rule at vector r
    abbrev pub StartAt : (ℕ → S.Value) → (ℕ → S.Value) → ℕ → Type 0
    StartAt starts-a starts-b r = start_sum starts-a a r ≡ start_sum starts-b b r

    -- for each vector, the starts of both tables give the same sum
    abbrev pub StartRule : (ℕ → S.Value) → (ℕ → S.Value) → Type 0
    StartRule starts-a starts-b = (r : ℕ) → r < c.vectors → StartAt starts-a starts-b r

    -- the step rule at event e and vector r: the same coefficients serve both halves
    abbrev pub StepAt : ℕ → ℕ → Type 0
    StepAt e r = StepRows c a e r × StepRows c b e r

    -- for each of k events and each vector, steps lead to combinations of the vectors
    abbrev pub StepRule : ℕ → Type 0
    StepRule k = (e r : ℕ) → 1 ≤ e → e ≤ k → r < c.vectors → StepAt e r

    -- the ends are a combination of the vectors
    abbrev pub EndRule : Type 0
    EndRule = EndRows c a × EndRows c b

    -- the three rules hold, for two rows of starts and over k events
    pub record Kept (k : ℕ) (starts-a starts-b : ℕ → S.Value) : Type 0 where
      pub starts : StartRule starts-a starts-b
      pub steps : StepRule k
      pub ends : EndRule
