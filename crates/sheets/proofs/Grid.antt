-- Places in a grid of events, counted from 1, and vectors: (event - 1) × vectors + vector.
use Rattle.std.proofs.Common.{◌≡◌, ℕ, zero, suc, ◌+◌, ◌-◌, ◌*◌, ◌/◌, ◌%◌, ◌<◌, ◌≤◌, ap, ◌∙◌, arith}
use lib.Arith.{digits_lt}
use Rattle.std.proofs.lemmas.Nat.{div_below, mod_below, div-mul-add, mod-mul-add, div-add-mod'}
use Rattle.sheets.specs.Tests.{event_of, vector_of}

some_vector : (p k R : ℕ) → p < k * R → 0 < R
some_vector p k zero h = absurd (omega arith)
some_vector p k (suc R) h = omega arith

-- a place inside the grid has an event and a vector
pub event_inside : (p k R : ℕ) → p < k * R → event_of R p ≤ k
event_inside p k R h = let below = div_below p R k (some_vector p k R h) h in omega arith

pub vector_inside : (p k R : ℕ) → p < k * R → vector_of R p < R
vector_inside p k R h = mod_below p R (some_vector p k R h)

-- it is their place
pub place_is : (p R : ℕ) → (event_of R p - 1) * R + vector_of R p ≡ p
place_is p R = let same : event_of R p - 1 ≡ p / R = omega arith in ap (λ d. d * R + p % R) same ∙ div-add-mod' p R

-- the place of an event and a vector is inside, and has them
pub place_inside : (e r k R : ℕ) → 1 ≤ e → e ≤ k → r < R → (e - 1) * R + r < k * R
place_inside e r k R some few h = digits_lt (omega arith) h

pub event_back : (e r R : ℕ) → 1 ≤ e → r < R → event_of R ((e - 1) * R + r) ≡ e
event_back e r R some h = let back = div-mul-add (e - 1) R r h in omega arith

pub vector_back : (e r R : ℕ) → r < R → vector_of R ((e - 1) * R + r) ≡ r
vector_back e r R h = mod-mul-add (e - 1) R r h
