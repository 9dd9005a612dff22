-- A table of rows through gates weighs a word as the scale × its numerator.
use Rattle.std.proofs.Common.{◌≡◌, ℕ, zero, suc, ◌<◌, List, [], ◌∷◌, length, sym, refl, ap, ◌∙◌, ap₂}
use Rattle.kinds.specs.Semiring.{Semiring, total}
use Rattle.tables.specs.Shape.{one_to}
use Rattle.tables.specs.Firsts.{AllPass}
use Rattle.tables.specs.Weight.{sequences, over, weight}
use Rattle.tables.specs.Backward.{vector}
use Rattle.tables.proofs.Sequences.{total_cong, times_over, by_first, backward_sum_is_weight}
use Rattle.chains.specs.Gates.{power, rows_from, gates, gated_numerator, AddUp, GatedTable, Weighs, GatedTableWeighs}

module _ (S : Semiring) where
  -- ---- products and sums
  times_left : (a b c : S.Value) → S.times a (S.times b c) ≡ S.times b (S.times a c)
  times_left a b c = sym (S.times_assoc a b c) ∙ ap (λ x. S.times x c) (S.times_comm a b) ∙ S.times_assoc b a c

  times_zero_right : (a : S.Value) → S.times a S.zero ≡ S.zero
  times_zero_right a = S.times_comm a S.zero ∙ S.times_zero a

  times_one_right : (a : S.Value) → S.times a S.one ≡ a
  times_one_right a = S.times_comm a S.one ∙ S.times_one a

  plus_zero_right : (a : S.Value) → S.plus a S.zero ≡ a
  plus_zero_right a = S.plus_comm a S.zero ∙ S.plus_zero a

  times_total : (a : S.Value) (m : ℕ) (f : ℕ → S.Value) → S.times a (total S m f) ≡ total S m (λ i. S.times a (f i))
  times_total a zero f = times_zero_right a
  times_total a (suc m) f = S.times_plus _ _ _ ∙ ap (λ x. S.plus x (S.times a (f m))) (times_total a m f)

  module _ {A : Type 0} where
    pub over_cong : (xs : List A) (f g : A → S.Value) → ((x : A) → f x ≡ g x) → over S xs f ≡ over S xs g
    over_cong [] f g e = refl
    over_cong (x ∷ xs) f g e = ap₂ S.plus (e x) (over_cong xs f g e)

  module _ (first : ℕ → S.Value) (row gate : ℕ → ℕ → S.Value) (n : ℕ) where
    -- what follows state i, event by event
    abbrev follows : List ℕ → ℕ → S.Value
    follows [] i = S.one
    follows (e ∷ w) i = total S n (λ j. S.times (gate j e) (S.times (row i j) (follows w j)))

    -- a factor from the gates and one from the rows go before a sum
    factors_out : (a b : S.Value) (w : List ℕ) (i : ℕ) (xs : List (List ℕ))
        → over S xs (λ q. S.times (S.times a (gates S gate w q)) (S.times b (rows_from S row i q)))
        ≡ S.times a (S.times b (over S xs (λ q. S.times (gates S gate w q) (rows_from S row i q))))
    factors_out a b w i xs =
        over_cong xs _ _ (λ q. simp (S.times_assoc, times_left))
        ∙ sym (times_over S a xs _)
        ∙ ap (S.times a) (sym (times_over S b xs _))

    follows_is_sum : (w : List ℕ) (i : ℕ) → over S (sequences n (length w)) (λ q. S.times (gates S gate w q) (rows_from S row i q)) ≡ follows w i
    follows_is_sum [] i = plus_zero_right _ ∙ S.times_one _
    follows_is_sum (e ∷ w) i =
        by_first S n (length w) _
        ∙ total_cong S n _ _ (λ j h. factors_out (gate j e) (row i j) w j _ ∙ ap (λ x. S.times (gate j e) (S.times (row i j) x)) (follows_is_sum w j))

    numerator_is_sum : (e : ℕ) (w : List ℕ) → gated_numerator S n first row gate (e ∷ w) ≡ total S n (λ i. S.times (gate i e) (S.times (first i) (follows w i)))
    numerator_is_sum e w =
        by_first S n (length w) _
        ∙ total_cong S n _ _ (λ i h. factors_out (gate i e) (first i) w i _ ∙ ap (λ x. S.times (gate i e) (S.times (first i) x)) (follows_is_sum w i))

    module _ (k : ℕ) (scale : S.Value) (t : ℕ → S.Value) (up : AddUp S n scale first row) (table : GatedTable S n first row gate k t) where
      -- the table's vector of a word of one event and more
      vector_is : (e : ℕ) (w : List ℕ) → AllPass (one_to k) (e ∷ w) → (i : ℕ) → i < n → vector S n t (e ∷ w) i ≡ S.times scale (S.times (gate i e) (follows w i))
      vector_is e [] all i h =
          total_cong S n _ _ (λ j l. ap₂ S.times (table.steps e i j all.0 h l) (table.ends j l) ∙ times_one_right _)
          ∙ sym (times_total (gate i e) n (row i))
          ∙ ap (S.times (gate i e)) (up.rows i h)
          ∙ S.times_comm _ _
          ∙ ap (S.times scale) (sym (times_one_right _))
      vector_is e (x ∷ w) all i h =
          total_cong S n _ _ (λ j l. ap₂ S.times (table.steps e i j all.0 h l) (vector_is x w all.1 j l) ∙ regroup (gate i e) (row i j) (gate j x) (follows w j))
          ∙ sym (times_total scale n _)
          ∙ ap (S.times scale) (sym (times_total (gate i e) n _))
        where
          regroup : (a b c d : S.Value) → S.times (S.times a b) (S.times scale (S.times c d)) ≡ S.times scale (S.times a (S.times c (S.times b d)))
          regroup a b c d = simp (S.times_assoc, times_left)

      -- the table weighs a word of one event and more as scale × numerator
      pub weight_is_scaled : (e : ℕ) (w : List ℕ) → AllPass (one_to k) (e ∷ w) → weight S n t (e ∷ w) ≡ S.times scale (gated_numerator S n first row gate (e ∷ w))
      weight_is_scaled e w all =
          sym (backward_sum_is_weight S n t (e ∷ w))
          ∙ total_cong S n _ _ (λ i h. ap₂ S.times (table.starts i h) (vector_is e w all i h) ∙ regroup (first i) (gate i e) (follows w i))
          ∙ sym (times_total scale n _)
          ∙ ap (S.times scale) (sym (numerator_is_sum e w))
        where
          regroup : (a b c : S.Value) → S.times a (S.times scale (S.times b c)) ≡ S.times scale (S.times b (S.times a c))
          regroup a b c = simp times_left

      weighs : (w : List ℕ) → AllPass (one_to k) w → Weighs S n t scale (gated_numerator S n first row gate) w
      weighs [] all =
          sym (backward_sum_is_weight S n t [])
          ∙ total_cong S n _ _ (λ i h. ap₂ S.times (table.starts i h) (table.ends i h) ∙ times_one_right _)
          ∙ up.starts
      weighs (e ∷ w) all =
          ap (λ x. S.times x (power S scale (length (e ∷ w)))) (weight_is_scaled e w all)
          ∙ crossed scale (gated_numerator S n first row gate (e ∷ w)) (power S scale (length (e ∷ w)))
        where
          crossed : (a b c : S.Value) → S.times (S.times a b) c ≡ S.times (S.times a c) b
          crossed a b c = simp (S.times_assoc, S.times_comm)

  pub gated_table_weighs : GatedTableWeighs S
  gated_table_weighs n k scale first row gate t up table w all = weighs first row gate n k scale t up table w all
