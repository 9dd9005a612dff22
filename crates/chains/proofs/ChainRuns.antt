-- What stands where in the run of a chain's table.
use Rattle.std.proofs.Common.{◌≡◌, ℕ, ◌+◌, ◌-◌, ◌*◌, ◌/◌, ◌%◌, ◌<◌, ◌≤◌, cond, eqb, List, ◌++◌, length, get_or, sym, subst, ap, ◌∙◌, mul-le-mul_right, mul_assoc, mul-le-mul, arith}
use Rattle.std.proofs.lemmas.Nat.{div-add-mod', div_below, mod_below}
use Rattle.std.proofs.lemmas.List.{length-append, get_or_append_left, get_or-append-add}
use Rattle.kinds.specs.declared.count.Count.{Count}
use Rattle.kinds.specs.Numbers.{zero_of, one_of}
use Rattle.kinds.specs.Count.{counts}
use Rattle.tables.specs.Shape.{table_size}
use Rattle.tables.specs.Words.{letter_of}
use Rattle.tables.specs.Layout.{number_at}
use Rattle.tables.specs.Path.{listed}
use Rattle.tables.specs.Weight.{joined}
use Rattle.chains.specs.Chains.{row_at, step_number, chain_run}
use Rattle.tables.proofs.Sums.{length_listed, getD_listed}
use Rattle.chains.proofs.Places.{length_joined, getD_joined}

-- in a list of n, and behind it
inside : {A : Type 0} (n : ℕ) (f : ℕ → A) (ys : List A) (d : A) (i : ℕ) → i < n → get_or (listed n f ++ ys) i d ≡ f i
inside n f ys d i h = get_or_append_left (listed n f) ys d i (omega (arith, length_listed n f)) ∙ getD_listed n f d i h

behind : {A : Type 0} (n : ℕ) (f : ℕ → A) (ys : List A) (d : A) (i : ℕ) → get_or (listed n f ++ ys) (n + i) d ≡ get_or ys i d
behind n f ys d i = ap (λ m. get_or (listed n f ++ ys) (m + i) d) (sym (length_listed n f)) ∙ get_or-append-add (listed n f) ys i d

-- a square of some states, and the state of a step by its place
pub square_some : (n : ℕ) → 1 ≤ n → 0 < n * n
square_some n some = omega (arith, mul-le-mul some some)

pub state_below : (n step : ℕ) → 1 ≤ n → step % (n * n) / n < n
state_below n step some = div_below (step % (n * n)) n n some (mod_below step (n * n) (square_some n some))

module _ (n : ℕ) (letters : List ℕ) (numbers : List Count) (k : ℕ) where
  abbrev run : List Count
  run = chain_run n letters numbers k

  abbrev event_steps : ℕ → List Count
  event_steps e = joined n (λ i. listed n (step_number n letters numbers (e + 1) i))

  length_event_steps : (e : ℕ) → length (event_steps e) ≡ n * n
  length_event_steps e = length_joined n n _ (λ i. length_listed n _)

  pub length_chain_run : length run ≡ table_size n k
  length_chain_run =
      omega (arith, length-append (listed n (number_at counts numbers)) (listed n (λ i. one_of counts) ++ joined k event_steps), length-append (listed n (λ (i : ℕ). one_of counts)) (joined k event_steps), length_listed n (number_at counts numbers), length_listed n (λ (i : ℕ). one_of counts), length_joined k (n * n) event_steps length_event_steps, mul_assoc k n n)

  pub start_stands : (i : ℕ) → i < n → number_at counts run i ≡ number_at counts numbers i
  start_stands i h = inside n (number_at counts numbers) _ (zero_of counts) i h

  pub end_stands : (i : ℕ) → i < n → number_at counts run (n + i) ≡ one_of counts
  end_stands i h = behind n (number_at counts numbers) _ (zero_of counts) i ∙ inside n (λ (p : ℕ). one_of counts) _ (zero_of counts) i h

  -- events counted from 0
  pub step_stands : (e i j : ℕ) → e < k → i < n → j < n → number_at counts run (n + (n + (e * (n * n) + (i * n + j)))) ≡ step_number n letters numbers (e + 1) i j
  step_stands e i j b h l =
      let under : i * n + j < n * n = omega (arith, mul-le-mul_right n h) in
      behind n (number_at counts numbers) _ (zero_of counts) _
      ∙ behind n (λ (p : ℕ). one_of counts) _ (zero_of counts) _
      ∙ getD_joined k (n * n) event_steps length_event_steps (zero_of counts) e (i * n + j) b under
      ∙ getD_joined n n _ (λ p. length_listed n _) (zero_of counts) i j h l
      ∙ getD_listed n _ (zero_of counts) j l

  -- a step by its place
  module _ (place : ℕ) (some : 1 ≤ n) (past : 2 * n ≤ place) (size : place < table_size n k) where
    abbrev event : ℕ
    event = (place - 2 * n) / (n * n)

    abbrev rest : ℕ
    rest = (place - 2 * n) % (n * n)

    pub step_by_place : number_at counts run place ≡ cond (eqb (get_or letters (rest / n) 0) (letter_of (event + 1))) (number_at counts numbers (n + rest)) (zero_of counts)
    step_by_place =
        let whole : event * (n * n) + rest ≡ place - 2 * n = div-add-mod' (place - 2 * n) (n * n) in
        let part : rest / n * n + rest % n ≡ rest = div-add-mod' rest n in
        let at : place ≡ n + (n + (event * (n * n) + (rest / n * n + rest % n))) = omega arith in
        let from : row_at n (rest / n) (rest % n) ≡ n + rest = omega arith in
        let few : event < k = div_below (place - 2 * n) (n * n) k (square_some n some) (omega (arith, mul_assoc k n n)) in
        ap (number_at counts run) at
        ∙ step_stands event (rest / n) (rest % n) few (state_below n (place - 2 * n) some) (mod_below rest n some)
        ∙ ap (λ p. cond (eqb (get_or letters (rest / n) 0) (letter_of (event + 1))) (number_at counts numbers p) (zero_of counts)) from

-- a number that is the step at a place of the table, by the count of states that the code reads
pub step_stands_at : {n m : ℕ} (letters : List ℕ) (numbers : List Count) (k place : ℕ) (x : Count) → m ≡ n → 1 ≤ n → 2 * m ≤ place → place < table_size n k → x ≡ cond (eqb (get_or letters ((place - 2 * m) % (m * m) / m) 0) (letter_of ((place - 2 * m) / (m * m) + 1))) (number_at counts numbers (m + (place - 2 * m) % (m * m))) (zero_of counts) → x ≡ number_at counts (chain_run n letters numbers k) place
step_stands_at {n} {m} letters numbers k place x is some past size e =
    e
    ∙ sym (step_by_place m letters numbers k place (omega arith) past (subst (λ c. place < table_size c k) (sym is) size))
    ∙ ap (λ c. number_at counts (chain_run c letters numbers k) place) is
