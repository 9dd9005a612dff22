-- What a strip holds after a write, and what a call that leaves a vector in it answers.
use Rattle.std.proofs.Common.{◌≡◌, ℕ, ◌+◌, ◌-◌, ◌<◌, ◌≤◌, Bool, true, false, cond, eqb, ◌≢◌, List, length, reverse, get_or, drop, set, replicate, Ok, Err, Result, sym, refl, ap, ◌∙◌, subst, zero-add, arith, below_more}
use Rattle.std.proofs.lemmas.List.{get_or-set_same, get_or-set_other}
use Rattle.kinds.specs.declared.fault.Fault.{Fault}
use Rattle.kinds.specs.Numbers.{Numbers, Says, answer, checked, zero_of}
use Rattle.kinds.proofs.Answers.{answer_says}
use Rattle.tables.specs.Words.{event_of, events_of}
use Rattle.tables.specs.Layout.{start_at, step_at, number_at, value, AllStored, Stored}
use Rattle.tables.specs.Path.{listed, sums, stepped, backward}
use Rattle.tables.specs.Strip.{strip_size, cleared, Stands, DotSays, StepsStand}
use Rattle.tables.proofs.Sums.{listed_cong, sums_from_zero}
use Rattle.tables.proofs.Paths.{from_the_end, steps_stored, backward_step}

module _ {K : Type 0} (N : Numbers K) where
  -- the product of two numbers that were read
  pub product_says : (x y x' y' : K) (r : Result K Fault) → x ≡ x' → y ≡ y' → N.stored x' ≡ true → N.stored y' ≡ true → (N.stored x ≡ true → N.stored y ≡ true → r ≡ answer N (N.exact.times (N.read x) (N.read y))) → Says N (checked N (N.exact.times (N.read x') (N.read y'))) r
  product_says x y x' y' r ex ey sx sy h =
      answer_says N _ r (h (ap N.stored ex ∙ sx) (ap N.stored ey ∙ sy) ∙ ap (λ z. answer N (N.exact.times (N.read z) (N.read y))) ex ∙ ap (λ z. answer N (N.exact.times (N.read x') (N.read z))) ey)

  -- the first i rows stand there
  abbrev pub Filled : (ℕ → Result N.exact.Value Fault) → List K → ℕ → Type 0
  Filled f there i = (j : ℕ) → j < i → (f j ≡ Ok (N.read (number_at N there j))) × (N.stored (number_at N there j) ≡ true)

  -- what is written at i, above what was written below
  pub laid_more : (strip : List K) (i : ℕ) (x : K) (f : ℕ → K) → i < length strip → ((j : ℕ) → j < i → number_at N strip j ≡ f j) → x ≡ f i → (j : ℕ) → j < i + 1 → number_at N (set strip i x) j ≡ f j
  laid_more strip i x f room so_far e =
      below_more _ _
      (λ j h. let ne : j ≢ i = omega arith in get_or-set_other strip i j x (zero_of N) ne ∙ so_far j h)
      (get_or-set_same strip i x (zero_of N) room ∙ e)

  -- a call that leaves a vector was not refused
  pub stands_ok : (n : ℕ) {c : Result (List N.exact.Value) Fault} (x : ℕ → K) {r : Result (Unit {0}) Fault} {u : Unit {0}} → Stands N n c x r → r ≡ Ok u → (c ≡ Ok (listed n (λ j. N.read (x j)))) × AllStored N n x
  stands_ok n {c} x h e = subst (Stands N n c x) e h

  -- it was refused
  pub stands_err : (n : ℕ) {c : Result (List N.exact.Value) Fault} (x : ℕ → K) {r : Result (Unit {0}) Fault} {f : Fault} → Stands N n c x r → r ≡ Err f → c ≡ Err f
  stands_err n {c} x h e = subst (Stands N n c x) e h

  -- the steps of an event applied to a vector of n numbers
  stands_stepped : (n : ℕ) (run : List K) (e : ℕ) (was new : List K) (r : Result (Unit {0}) Fault) → n ≡ length was → StepsStand N run e was new r → ((i : ℕ) → i < n → AllStored N n (λ j. number_at N run (step_at n e i j))) → AllStored N n (number_at N was) → Stands N n (stepped N n (value N run) e (value N was)) (number_at N new) r
  stands_stepped n run e was new r long says = subst (λ m. ((i : ℕ) → i < m → AllStored N m (λ j. number_at N run (step_at m e i j))) → AllStored N m (number_at N was) → Stands N m (stepped N m (value N run) e (value N was)) (number_at N new) r) (sym long) says

  -- the vector of a word's end after one event more: k bytes were taken, and e is the event of the byte before them
  pub stands_more : (n : ℕ) (run : List K) (word : List ℕ) (k b e : ℕ) (was new : List K) (r : Result (Unit {0}) Fault) → (k < length (reverse word)) × (b ≡ get_or (reverse word) k b) → e ≡ event_of b → n ≡ length was → Stored N n run (events_of word) → (backward N n (value N run) (events_of (drop (length word - k) word)) ≡ Ok (listed n (value N was))) × AllStored N n (number_at N was) → StepsStand N run e was new r → Stands N n (backward N n (value N run) (events_of (drop (length word - k - 1) word))) (number_at N new) r
  stands_more n run word k b e was new r turn is long stored so_far says =
      let t = from_the_end word k b turn in
      let low : 0 < length word - k = omega (arith, t.0) in
      let high : length word - k ≤ length word = omega arith in
      let event = is ∙ ap event_of t.1 in
      subst (λ c. Stands N n c (number_at N new) r) (sym (backward_step N n run word (length word - k) e low high event (value N was) so_far.0))
      (stands_stepped n run e was new r long says (steps_stored N n run word (length word - k) e low high event stored) so_far.1)

  -- the starts times a vector of n numbers
  pub starts_say : (n : ℕ) (run vector : List K) (r : Result K Fault) → n ≡ length vector → DotSays N run 0 vector r → AllStored N n (λ i. number_at N run (start_at i)) → AllStored N n (number_at N vector) → Says N (sums N n (value N run) (value N vector)) r
  starts_say n run vector r long says starts held =
      let from_zero = subst (λ m. AllStored N m (λ j. number_at N run (0 + j)) → AllStored N m (number_at N vector) → Says N (sums N m (λ j. value N run (0 + j)) (value N vector)) r) (sym long) says in
      subst (λ c. Says N c r) (sums_from_zero N n (value N run) (value N vector)) (from_zero (λ j h. ap (λ p. N.stored (number_at N run p)) (zero-add j) ∙ starts j h) held)

  -- the same vector elsewhere
  pub moved : (n : ℕ) (c : Result (List N.exact.Value) Fault) (x y : ℕ → K) → ((j : ℕ) → j < n → y j ≡ x j) → (c ≡ Ok (listed n (λ j. N.read (x j)))) × AllStored N n x → (c ≡ Ok (listed n (λ j. N.read (y j)))) × AllStored N n y
  moved n c x y same h =
      (h.0 ∙ ap Ok (listed_cong n (λ j. N.read (x j)) (λ j. N.read (y j)) (λ j l. ap N.read (sym (same j l)))), λ j l. ap N.stored (same j l) ∙ h.1 j l)

  -- clearing a strip that was used clears the strip as it was, if one of another size was left alone
  pub cleared_after : (used was : List K) → length used ≡ length was → (eqb (length was) strip_size ≡ false → used ≡ was) → cleared N used ≡ cleared N was
  cleared_after used was long kept = ap (λ m. cond (eqb m strip_size) (replicate strip_size (zero_of N)) used) long ∙ by_case (eqb (length was) strip_size) kept
    where
      by_case : (b : Bool) → (b ≡ false → used ≡ was) → cond b (replicate strip_size (zero_of N)) used ≡ cond b (replicate strip_size (zero_of N)) was
      by_case true kept = refl
      by_case false kept = kept refl
