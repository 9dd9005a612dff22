-- A sheet that keeps the rules shows that two tables weigh every word alike: by induction over the word from its end, the scale to the power of
-- one more than its length × a table's vector is a combination of the sheet's vectors, whose coefficients serve both tables.
use Rattle.std.proofs.Common.{◌≡◌, ℕ, ◌<◌, ◌≤◌, List, [], ◌∷◌, sym, ap, ◌∙◌}
use Rattle.kinds.specs.Semiring.{Semiring, total, Cancels}
use Rattle.tables.specs.Layout.{start_at, step_at}
use Rattle.tables.specs.Backward.{vector}
use Rattle.tables.proofs.Limits.{one_to_parts}
use Rattle.tables.proofs.Sequences.{total_cong, backward_sum_is_weight}
use Rattle.sheets.specs.Rules.{Coefficients, start_sum, combined, StepRows, EndRows}
use Rattle.sheets.specs.Alike.{WordOver, half, weight_from, KeptSheetWeighsEveryWordAlikeFromStarts, KeptSheetWeighsEveryWordAlike}
use Rattle.sheets.proofs.Totals.{times_left, times_total, regroup}

module _ (S : Semiring) where
  -- where each value of f, scaled, is a combination of vectors, so is a sum of such values
  sum_combined : (n R : ℕ) (d : S.Value) (a f by : ℕ → S.Value) (v : ℕ → ℕ → S.Value) → ((j : ℕ) → j < n → S.times d (f j) ≡ total S R (λ r. S.times (by r) (v r j))) → S.times d (total S n (λ j. S.times (a j) (f j))) ≡ total S R (λ r. S.times (by r) (total S n (λ j. S.times (a j) (v r j))))
  sum_combined n R d a f by v e =
      times_total S d n _
      ∙ total_cong S n _ _ (λ j h. times_left S d (a j) (f j) ∙ ap (S.times (a j)) (e j h ∙ total_cong S R _ _ (λ r l. S.times_comm _ _)))
      ∙ regroup S n R a (λ j r. v r j) by
      ∙ total_cong S R _ _ (λ r l. S.times_comm _ _)

  -- the scale to the power of one more than a word's length
  abbrev power : S.Value → List ℕ → S.Value
  power d [] = d
  power d (e ∷ w) = S.times d (power d w)

  power_cancels : (d : S.Value) → Cancels S d → (w : List ℕ) → Cancels S (power d w)
  power_cancels d c [] a b e = c a b e
  power_cancels d c (x ∷ w) a b e = power_cancels d c w a b (c _ _ (sym (S.times_assoc _ _ _) ∙ e ∙ S.times_assoc _ _ _))

  module _ (c : Coefficients S.Value) where
    -- the coefficients of a word
    abbrev word_coefficients : List ℕ → ℕ → S.Value
    word_coefficients [] q = c.ending q
    word_coefficients (e ∷ w) q = total S c.vectors (λ r. S.times (word_coefficients w r) (c.stepping e r q))

    module _ (k n : ℕ) (t : ℕ → S.Value) (numbers : ℕ → ℕ → S.Value) (steps : (e r : ℕ) → 1 ≤ e → e ≤ k → r < c.vectors → StepRows S c (half n t numbers) e r) (ends : EndRows S c (half n t numbers)) where
      vector_combined : (w : List ℕ) → WordOver k w → (i : ℕ) → i < n → S.times (power c.scale w) (vector S n t w i) ≡ combined S c (half n t numbers) (word_coefficients w) i
      vector_combined [] over i h = ends i h
      vector_combined (e ∷ w) over i h =
          let event = one_to_parts k e over.0 in
          S.times_assoc _ _ _
          ∙ ap (S.times c.scale) (sum_combined n c.vectors _ (λ j. t (step_at n e i j)) (vector S n t w) (word_coefficients w) numbers (vector_combined w over.1))
          ∙ times_total S _ c.vectors _
          ∙ total_cong S c.vectors _ _ (λ r l. times_left S _ (word_coefficients w r) _ ∙ ap (S.times (word_coefficients w r)) (steps e r event.0 event.1 l i h))
          ∙ regroup S c.vectors c.vectors (word_coefficients w) (c.stepping e) (λ q. numbers q i)

      -- the scaled weight is a combination of the vectors' start sums
      weight_combined : (starts : ℕ → S.Value) (w : List ℕ) → WordOver k w → S.times (power c.scale w) (weight_from S n starts t w) ≡ total S c.vectors (λ r. S.times (word_coefficients w r) (start_sum S starts (half n t numbers) r))
      weight_combined starts w over = sum_combined n c.vectors _ starts (vector S n t w) (word_coefficients w) numbers (vector_combined w over)

  pub kept_sheet_weighs_every_word_alike_from_starts : KeptSheetWeighsEveryWordAlikeFromStarts S
  kept_sheet_weighs_every_word_alike_from_starts k n a m b c left right starts-a starts-b cancels kept w over =
      power_cancels c.scale cancels w _ _
      (weight_combined c k n a left (λ e r x y z. (kept.steps e r x y z).0) kept.ends.0 starts-a w over
      ∙ total_cong S c.vectors _ _ (λ r l. ap (S.times (word_coefficients c w r)) (kept.starts r l))
      ∙ sym (weight_combined c k m b right (λ e r x y z. (kept.steps e r x y z).1) kept.ends.1 starts-b w over))

  pub kept_sheet_weighs_every_word_alike : KeptSheetWeighsEveryWordAlike S
  kept_sheet_weighs_every_word_alike k n a m b c left right cancels kept w over =
      sym (backward_sum_is_weight S n a w)
      ∙ kept_sheet_weighs_every_word_alike_from_starts k n a m b c left right (λ i. a (start_at i)) (λ i. b (start_at i)) cancels kept w over
      ∙ backward_sum_is_weight S m b w
