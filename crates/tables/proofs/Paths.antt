-- The weighing path, event by event.
use Rattle.std.proofs.Common.{◌≡◌, ℕ, zero, suc, ◌+◌, ◌-◌, ◌<◌, ◌≤◌, List, [], ◌∷◌, length, reverse, get_or, drop, Ok, Err, sym, ap, ◌∙◌, arith}
use Rattle.std.proofs.lemmas.List.{drop_more, length-map, get_or-map, get_or-reverse, length-reverse}
use Rattle.std.proofs.lemmas.Grind.{get_or_default_zero}
use Rattle.kinds.specs.declared.fault.Fault.{Fault}
use Rattle.kinds.specs.Faults.{then}
use Rattle.kinds.specs.Numbers.{Numbers}
use Rattle.tables.specs.Words.{event_of, events_of}
use Rattle.tables.specs.Layout.{start_at, step_at, number_at, value, AllStored, Stored}
use Rattle.tables.specs.Path.{listed, sums, at_state, stepped, backward, path_answer}
use Rattle.tables.proofs.Sums.{sums_listed, rows_cong}

module _ {K : Type 0} (N : Numbers K) (n : ℕ) (t : ℕ → N.exact.Value) where
  -- one event earlier
  pub backward_more : (word : List ℕ) (i : ℕ) (x : ℕ → N.exact.Value) → 0 < i → i ≤ length word → backward N n t (events_of (drop i word)) ≡ Ok (listed n x) → backward N n t (events_of (drop (i - 1) word)) ≡ stepped N n t (event_of (get_or word (i - 1) 0)) x
  backward_more word i x low high h =
      let b = get_or word (i - 1) 0 in
      let last : i - 1 < length word = omega arith in
      let back : i - 1 + 1 ≡ i = omega arith in
      let cut : drop (i - 1) word ≡ b ∷ drop i word = drop_more word (i - 1) 0 last ∙ ap (λ k. b ∷ drop k word) back in
      ap (λ l. backward N n t (events_of l)) cut
      ∙ ap (λ c. then c (λ v. stepped N n t (event_of b) (at_state N v))) h
      ∙ rows_cong N n _ _ (λ r l. sums_listed N n (λ j. t (step_at n (event_of b) r j)) x)

  -- a refusal at an end piece of the word is one of the whole
  pub backward_up : (word : List ℕ) (i : ℕ) (f : Fault) → backward N n t (events_of (drop i word)) ≡ Err f → backward N n t (events_of word) ≡ Err f
  backward_up word zero f h = h
  backward_up [] (suc i) f h = h
  backward_up (b ∷ word) (suc i) f h = ap (λ c. then c (λ v. stepped N n t (event_of b) (at_state N v))) (backward_up word i f h)

  -- the path is refused before the starts
  pub path_err : (w : List ℕ) (f : Fault) → backward N n t w ≡ Err f → path_answer N n t w ≡ Err f
  path_err w f h = ap (λ c. then c (λ v. sums N n (λ i. t (start_at i)) (at_state N v))) h

  -- the path's last sum
  pub path_ok : (w : List ℕ) (x : ℕ → N.exact.Value) → backward N n t w ≡ Ok (listed n x) → path_answer N n t w ≡ sums N n t x
  path_ok w x h = ap (λ c. then c (λ v. sums N n (λ i. t (start_at i)) (at_state N v))) h ∙ sums_listed N n t x

-- the byte that comes after k bytes from the end, by its place in the word
pub from_the_end : (word : List ℕ) (k b : ℕ) → (k < length (reverse word)) × (b ≡ get_or (reverse word) k b) → (k < length word) × (b ≡ get_or word (length word - k - 1) 0)
from_the_end word k b t =
    let low : k < length word = omega (arith, length-reverse word, t.0) in
    let place : length word - 1 - k ≡ length word - k - 1 = omega arith in
    let inside : length word - k - 1 < length word = omega arith in
    (low, t.1 ∙ get_or-reverse word k b low ∙ ap (λ p. get_or word p b) place ∙ get_or_default_zero word (length word - k - 1) b inside)

-- one event earlier, by the event that the code has
module _ {K : Type 0} (N : Numbers K) (n : ℕ) (run : List K) (word : List ℕ) (i e : ℕ) (low : 0 < i) (high : i ≤ length word) (is : e ≡ event_of (get_or word (i - 1) 0)) where
  pub steps_stored : Stored N n run (events_of word) → (r : ℕ) → r < n → AllStored N n (λ j. number_at N run (step_at n e r j))
  steps_stored stored r h j l =
      let last : i - 1 < length word = omega arith in
      let long : i - 1 < length (events_of word) = omega (arith, length-map word event_of) in
      let same : e ≡ get_or (events_of word) (i - 1) 0 = is ∙ sym (get_or-map event_of word (i - 1) 0 0 last) in
      ap (λ x. N.stored (number_at N run (step_at n x r j))) same ∙ stored.steps (i - 1) long r h j l

  pub backward_step : (x : ℕ → N.exact.Value) → backward N n (value N run) (events_of (drop i word)) ≡ Ok (listed n x) → backward N n (value N run) (events_of (drop (i - 1) word)) ≡ stepped N n (value N run) e x
  backward_step x h = backward_more N n (value N run) word i x low high h ∙ ap (λ y. stepped N n (value N run) y x) (sym is)
