-- Every sum that the check of a sheet of entries makes fits.
use Rattle.std.proofs.Common.{◌≡◌, ℕ, ◌≤◌, true, [], ◌∷◌, sym, ap, ◌∙◌, lit≤}
use Rattle.kinds.specs.Semiring.{total, product}
use Rattle.kinds.specs.Numbers.{Numbers, SumsOfEntryProductsFit}
use Rattle.tables.proofs.Sequences.{total_cong}
use Rattle.sheets.specs.Rules.{Coefficients, Half, start_sum, scaled_step, scaled_end, combined}
use Rattle.sheets.proofs.Totals.{times_total}

module _ {K : Type 0} (N : Numbers K) where
  abbrev pub Entry : N.exact.Value → Type 0
  Entry v = N.entry v ≡ true

  -- a half with few states whose numbers are all entries
  pub record HalfEntries (h : Half N.exact.Value) : Type 0 where
    pub few : h.states ≤ 16
    pub steps : (e i j : ℕ) → Entry (h.steps e i j)
    pub ends : (i : ℕ) → Entry (h.ends i)
    pub numbers : (r i : ℕ) → Entry (h.numbers r i)

  -- few vectors, and coefficients that are all entries
  pub record CoefficientEntries (c : Coefficients N.exact.Value) : Type 0 where
    pub few : c.vectors ≤ 16
    pub scale : Entry c.scale
    pub stepping : (e r q : ℕ) → Entry (c.stepping e r q)
    pub ending : (q : ℕ) → Entry (c.ending q)

  module _ (law : SumsOfEntryProductsFit N) where
    two : (x y : N.exact.Value) → product N.exact (x ∷ y ∷ []) ≡ N.exact.times x y
    two x y = ap (N.exact.times x) (N.exact.times_comm _ _ ∙ N.exact.times_one y)

    three : (x y z : N.exact.Value) → product N.exact (x ∷ y ∷ z ∷ []) ≡ N.exact.times x (N.exact.times y z)
    three x y z = ap (N.exact.times x) (two y z)

    -- a sum of products of two entries
    pub pairs_fit : (m : ℕ) → m ≤ 16 → (a b : ℕ → N.exact.Value) → ((i : ℕ) → Entry (a i)) → ((i : ℕ) → Entry (b i)) → N.fits (total N.exact m (λ i. N.exact.times (a i) (b i))) ≡ true
    pairs_fit m few a b ha hb =
        ap N.fits (total_cong N.exact m _ _ (λ i h. sym (two (a i) (b i))))
        ∙ law m (λ i. a i ∷ b i ∷ []) few (λ i h. (lit≤ tt, (ha i, (hb i, tt))))

    -- an entry × such a sum
    pub scaled_fits : (m : ℕ) → m ≤ 16 → (d : N.exact.Value) → Entry d → (a b : ℕ → N.exact.Value) → ((i : ℕ) → Entry (a i)) → ((i : ℕ) → Entry (b i)) → N.fits (N.exact.times d (total N.exact m (λ i. N.exact.times (a i) (b i)))) ≡ true
    scaled_fits m few d hd a b ha hb =
        ap N.fits (times_total N.exact d m _ ∙ total_cong N.exact m _ _ (λ i h. sym (three d (a i) (b i))))
        ∙ law m (λ i. d ∷ a i ∷ b i ∷ []) few (λ i h. (lit≤ tt, (hd, (ha i, (hb i, tt)))))

    -- a product of two entries
    pub pair_fits : (x y : N.exact.Value) → Entry x → Entry y → N.fits (N.exact.times x y) ≡ true
    pair_fits x y hx hy = ap N.fits (sym (N.exact.plus_zero _)) ∙ pairs_fit 1 (lit≤ tt) (λ i. x) (λ i. y) (λ i. hx) (λ i. hy)

    module _ (h : Half N.exact.Value) (he : HalfEntries h) where
      pub start_sum_fits : (starts : ℕ → N.exact.Value) → ((i : ℕ) → Entry (starts i)) → (r : ℕ) → N.fits (start_sum N.exact starts h r) ≡ true
      start_sum_fits starts hs r = pairs_fit h.states he.few starts (h.numbers r) hs (he.numbers r)

      module _ (c : Coefficients N.exact.Value) (ce : CoefficientEntries c) where
        pub scaled_step_fits : (e r i : ℕ) → N.fits (scaled_step N.exact c h e r i) ≡ true
        scaled_step_fits e r i = scaled_fits h.states he.few c.scale ce.scale (h.steps e i) (h.numbers r) (he.steps e i) (he.numbers r)

        pub scaled_end_fits : (i : ℕ) → N.fits (scaled_end N.exact c h i) ≡ true
        scaled_end_fits i = pair_fits c.scale (h.ends i) ce.scale (he.ends i)

        pub combined_fits : (by : ℕ → N.exact.Value) → ((q : ℕ) → Entry (by q)) → (i : ℕ) → N.fits (combined N.exact c h by i) ≡ true
        combined_fits by hb i = pairs_fit c.vectors ce.few by (λ q. h.numbers q i) hb (λ q. he.numbers q i)
