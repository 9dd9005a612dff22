-- The weighing path: from the last event to the first, with a test after each product and each partial sum.
use Rattle.std.specs.Prelude.{◌≡◌, ℕ, zero, suc, List, [], ◌∷◌, ◌++◌, Ok, Result, slice_index_or}
use Rattle.kinds.specs.declared.fault.Fault.{Fault}
use Rattle.kinds.specs.Faults.{then}
use Rattle.kinds.specs.Numbers.{Numbers, checked}
use Rattle.tables.specs.Layout.{start_at, end_at, step_at}
use Rattle.tables.specs.Weight.{weight}

-- the list f 0, f 1, .., m elements in all
abbrev pub listed : {A : Type 0} → ℕ → (ℕ → A) → List A
listed zero f = []
listed (suc m) f = listed m f ++ (f m ∷ [])

module _ {K : Type 0} (N : Numbers K) where
  -- zero, plus f 0 × g 0, plus f 1 × g 1, .., m products in all, refused where a product or a sum on the way does not fit
  abbrev pub sums : ℕ → (ℕ → N.exact.Value) → (ℕ → N.exact.Value) → Result N.exact.Value Fault
  sums zero f g = Ok N.exact.zero
  sums (suc m) f g = then (sums m f g) (λ a. then (checked N (N.exact.times (f m) (g m))) (λ p. checked N (N.exact.plus a p)))

  -- the list of what f 0, f 1, .. give, refused where one of them is
  abbrev pub rows : ℕ → (ℕ → Result N.exact.Value Fault) → Result (List N.exact.Value) Fault
  rows zero f = Ok []
  rows (suc m) f = then (rows m f) (λ xs. then (f m) (λ x. Ok (xs ++ (x ∷ []))))

  -- what a vector has at a state
  abbrev pub at_state : List N.exact.Value → ℕ → N.exact.Value
  at_state v j = slice_index_or v j N.exact.zero

  -- a table of n states, by what it has at each place
  module _ (n : ℕ) (t : ℕ → N.exact.Value) where
    -- the steps of an event times a vector
    abbrev pub stepped : ℕ → (ℕ → N.exact.Value) → Result (List N.exact.Value) Fault
    stepped e v = rows n (λ i. sums n (λ j. t (step_at n e i j)) v)

    -- the vector of ends, to which the steps are applied event by event, the last one first
    abbrev pub backward : List ℕ → Result (List N.exact.Value) Fault
    backward [] = Ok (listed n (λ i. t (end_at n i)))
    backward (e ∷ w) = then (backward w) (λ v. stepped e (at_state v))

    -- the starts times the vector of the whole word
    abbrev pub path_answer : List ℕ → Result N.exact.Value Fault
    path_answer w = then (backward w) (λ v. sums n (λ i. t (start_at i)) (at_state v))

  -- where the path is not refused, its value is the weight
  abbrev pub PathIsWeight : Type 0
  PathIsWeight = (n : ℕ) (t : ℕ → N.exact.Value) (w : List ℕ) (v : N.exact.Value) → path_answer n t w ≡ Ok v → v ≡ weight N.exact n t w
