-- A chain's table is a table of its rows through gates of one and zero, and its numerator is the one through these gates.
use Rattle.std.proofs.Common.{◌≡◌, ℕ, suc, ◌+◌, ◌-◌, ◌*◌, ◌<◌, ◌≤◌, Bool, true, false, cond, ◌&&◌, List, [], ◌∷◌, length, ℤ, pos, ◌*ℤ◌, filter, sym, refl, ap, ◌∙◌, ap₂, mul_assoc, arith}
use Rattle.kinds.specs.declared.count.Count.{Count}
use Rattle.kinds.specs.Numbers.{zero_of}
use Rattle.kinds.specs.Semiring.{Semiring}
use Rattle.kinds.specs.Whole.{whole}
use Rattle.kinds.specs.Count.{counts}
use Rattle.tables.specs.Shape.{one_to}
use Rattle.tables.specs.Firsts.{AllPass}
use Rattle.tables.specs.Layout.{step_at, number_at, value}
use Rattle.tables.specs.Weight.{sequences, over}
use Rattle.tables.proofs.Limits.{one_to_parts}
use Rattle.chains.specs.Gates.{power, gates, along_states, gated_numerator, AddUp, GatedTable, Weighs}
use Rattle.chains.specs.Chains.{bears_event, bears, row_at, row, numerator, step_number, chain_run}
use Rattle.chains.proofs.ChainRuns.{start_stands, end_stands, step_stands}
use Rattle.chains.proofs.Weighing.{over_cong, gated_table_weighs}

-- a sum over those that pass a test is one over all, each × one or zero
over_kept : (S : Semiring) {A : Type 0} (p : A → Bool) (xs : List A) (f : A → S.Value) → over S (filter p xs) f ≡ over S xs (λ x. S.times (cond (p x) S.one S.zero) (f x))
over_kept S p [] f = refl
over_kept S p (x ∷ xs) f = by_case (p x) (over_kept S p xs f)
  where
    by_case : (b : Bool) → over S (filter p xs) f ≡ over S xs (λ y. S.times (cond (p y) S.one S.zero) (f y)) → over S (cond b (x ∷ filter p xs) (filter p xs)) f ≡ S.plus (S.times (cond b S.one S.zero) (f x)) (over S xs (λ y. S.times (cond (p y) S.one S.zero) (f y)))
    by_case true e = ap₂ S.plus (sym (S.times_one (f x))) e
    by_case false e = e ∙ sym (S.plus_zero _) ∙ ap (λ z. S.plus z (over S xs (λ y. S.times (cond (p y) S.one S.zero) (f y)))) (sym (S.times_zero (f x)))

module _ (letters : List ℕ) where
  -- one at the event whose letter the state bears, zero at every other
  abbrev letter_gate : ℕ → ℕ → ℤ
  letter_gate i e = cond (bears_event letters i e) (pos 1) (pos 0)

  gates_bear : (w q : List ℕ) → gates whole letter_gate w q ≡ cond (bears letters w q) (pos 1) (pos 0)
  gates_bear [] [] = refl
  gates_bear [] (i ∷ q) = refl
  gates_bear (e ∷ w) [] = refl
  gates_bear (e ∷ w) (i ∷ q) = ap (λ z. letter_gate i e *ℤ z) (gates_bear w q) ∙ both (bears_event letters i e) (bears letters w q)
    where
      both : (a b : Bool) → cond a (pos 1) (pos 0) *ℤ cond b (pos 1) (pos 0) ≡ cond (a && b) (pos 1) (pos 0)
      both true b = whole.times_one (cond b (pos 1) (pos 0))
      both false b = whole.times_zero (cond b (pos 1) (pos 0))

  module _ (n : ℕ) (numbers : List Count) where
    numerator_through_gates : (w : List ℕ) → gated_numerator whole n (value counts numbers) (row n numbers) letter_gate w ≡ numerator n letters numbers w
    numerator_through_gates w =
        over_cong whole (sequences n (length w)) _ _ (λ q. ap (λ z. z *ℤ along_states whole (value counts numbers) (row n numbers) q) (gates_bear w q))
        ∙ sym (over_kept whole (bears letters w) (sequences n (length w)) (along_states whole (value counts numbers) (row n numbers)))

    module _ (k : ℕ) where
      step_through_gate : (e i j : ℕ) → one_to k e ≡ true → i < n → j < n → value counts (chain_run n letters numbers k) (step_at n e i j) ≡ letter_gate i e *ℤ row n numbers i j
      step_through_gate e i j b h l =
          let parts = one_to_parts k e b in
          let low : 1 ≤ e = parts.0 in
          let high : e ≤ k = parts.1 in
          let at : step_at n e i j ≡ n + (n + ((e - 1) * (n * n) + (i * n + j))) = omega (arith, mul_assoc (e - 1) n n) in
          let up : e - 1 + 1 ≡ e = omega arith in
          ap (value counts (chain_run n letters numbers k)) at
          ∙ ap (λ (x : Count). x.0) (step_stands n letters numbers k (e - 1) i j (omega arith) h l ∙ ap (λ x. step_number n letters numbers x i j) up)
          ∙ gated (bears_event letters i e) (number_at counts numbers (row_at n i j))
        where
          gated : (b : Bool) (x : Count) → (cond b x (zero_of counts)).0 ≡ cond b (pos 1) (pos 0) *ℤ x.0
          gated true x = sym (whole.times_one x.0)
          gated false x = sym (whole.times_zero x.0)

      chain_table : GatedTable whole n (value counts numbers) (row n numbers) letter_gate k (value counts (chain_run n letters numbers k))
      chain_table = record {
        starts = λ i h. ap (λ (x : Count). x.0) (start_stands n letters numbers k i h);
        ends = λ i h. ap (λ (x : Count). x.0) (end_stands n letters numbers k i h);
        steps = step_through_gate;
      }

      -- the table of a chain whose rows add up weighs every word as it should
      pub chain_weighs : (scale : ℕ) → AddUp whole n (pos scale) (value counts numbers) (row n numbers) → (w : List ℕ) → AllPass (one_to k) w → Weighs whole n (value counts (chain_run n letters numbers k)) (pos scale) (numerator n letters numbers) w
      chain_weighs scale up w all = plain w (gated_table_weighs whole n k (pos scale) (value counts numbers) (row n numbers) letter_gate (value counts (chain_run n letters numbers k)) up chain_table w all)
        where
          plain : (w : List ℕ) → Weighs whole n (value counts (chain_run n letters numbers k)) (pos scale) (gated_numerator whole n (value counts numbers) (row n numbers) letter_gate) w → Weighs whole n (value counts (chain_run n letters numbers k)) (pos scale) (numerator n letters numbers) w
          plain [] h = h
          plain (e ∷ w) h = h ∙ ap (λ z. power whole (pos scale) (suc (length (e ∷ w))) *ℤ z) (numerator_through_gates (e ∷ w))
