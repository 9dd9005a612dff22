-- The rows of a chain's numbers, as a search over chunks reads them.
use Rattle.std.proofs.Common.{◌≡◌, ℕ, ◌+◌, ◌*◌, ◌/◌, ◌<◌, ◌≤◌, Bool, true, false, not, List, [], length, get_or, pos, Option, Some, None, sym, ap, ◌∙◌, zero-add, option_map, IfSome, IsSomeAnd, MatchOption, subst, mul-le-mul_right, add-zero, arith}
use native.Mathlib.Decide.{dec_lt}
use Rattle.std.proofs.lemmas.Nat.{div-mul-add}
use Rattle.std.proofs.lemmas.Bool.{not-false, not-true}
use denote.Ref.{Bor}
use denote.Param.Members.{Mut, Called}
use Rattle.std.specs.List.{IsSubsliceAt}
use Rattle.std.specs.Iterator.Runs.{Run, IsChunksExactRun, AllItemsGive, IsFirstToGive, CallKeepsClosure}
use Rattle.kinds.specs.declared.count.Count.{Count}
use Rattle.kinds.specs.Numbers.{zero_of}
use Rattle.kinds.specs.Whole.{whole}
use Rattle.kinds.specs.Count.{counts, equal_whole}
use Rattle.tables.proofs.Sequences.{total_cong}
use Rattle.chains.specs.Refusals.{sum_from, first_uneven}
use Rattle.chains.proofs.Searching.{FirstOf, failing_from_places}

module _ (n m : ℕ) (numbers : List Count) (scale : ℕ) where
  abbrev even : ℕ → Bool
  even b = equal_whole (sum_from numbers (b * n) n) (pos scale)

  abbrev pub RowEven : List Count → Bool
  RowEven x = equal_whole (sum_from x 0 (length x)) (pos scale)

  -- a chunk is a row
  row_even : (k : ℕ) (x : List Count) → length x ≡ n → ((j : ℕ) (d : Count) → j < n → get_or x j d ≡ get_or numbers (k * n + j) d) → RowEven x ≡ even k
  row_even k x is at =
      ap (λ l. equal_whole (sum_from x 0 l) (pos scale)) is
      ∙ ap (λ s. equal_whole s (pos scale)) (total_cong whole n _ _ (λ j h. ap (λ (c : Count). c.0) (ap (λ i. get_or x i (zero_of counts)) (zero-add j) ∙ at j (zero_of counts) h)))

  module _ {S F : Type 0} {steps : S → Option (Bor (List Count)) → S → Type 0} (some : 0 < n) (long : length numbers ≡ m * n) (u : Run steps) (rows : IsChunksExactRun u n numbers) (g : Mut F (Bor (List Count) × Unit {0}) Bool) (f : F) (keeps : CallKeepsClosure g f) (says : (x : Bor (List Count)) (b : Bool) → Called g f (x, tt) b f → b ≡ not (RowEven x.now)) where
    -- what the closure answers at a row
    at_row : (k : ℕ) (b : Bool) (o : Option (Bor (List Count))) → IfSome o (λ x. (length x.now ≡ n) × (k * n + n ≤ length numbers) × IsSubsliceAt n numbers (k * n) x.now) → IsSomeAnd o (λ x. Called g f (x, tt) b f) → b ≡ not (even k)
    at_row k b None all h = absurd h
    at_row k b (Some x) all h = says x b h ∙ ap not (row_even k x.now all.0 all.2.2)

    -- each place of the run has an item
    item_at : (k : ℕ) → k < u.len → (P : Bor (List Count) → Type 0) → IfSome (u.at k) P → IsSomeAnd (u.at k) P
    item_at k h P all = by_case (u.at k) (u.reads k (record { ref_ptr = (0, 0); now = [] }) h) all
      where
        by_case : {y : Bor (List Count)} (o : Option (Bor (List Count))) → option_map (λ x. x) o ≡ Some y → IfSome o P → IsSomeAnd o P
        by_case None e all = let z : ◌≡◌ {A = ℕ} 0 1 = cc in absurd (omega arith)
        by_case (Some x) e all = all

    -- a chunk of the run is a row
    row_inside : (i : ℕ) → (i + 1) * n ≤ length numbers → i < m
    row_inside i h =
        elim (dec_lt i m) [
          | yes under ↦ under
          | no over ↦ let few : m ≤ i = omega arith in absurd (omega (arith, mul-le-mul_right n few, h, long))
        ]

    whole_rows : length numbers / n ≡ m
    whole_rows = ap (λ l. l / n) (long ∙ sym (add-zero (m * n))) ∙ div-mul-add m n 0 some

    first_row : (r : Option ℕ) → MatchOption r ((u.whole ≡ true) × AllItemsGive u g f false) (λ i. (u.len ≡ i + 1) × IsFirstToGive u g f true false i) → FirstOf (λ s. equal_whole s (pos scale)) m (λ b. sum_from numbers (b * n) n) r
    first_row None h = λ k l.
        let all = rows.1 h.0 ∙ whole_rows in
        not-false (even k) (sym (at_row k false (u.at k) (rows.2 k) (item_at k (omega arith) _ (h.1 keeps k))))
    first_row (Some i) h =
        let first = h.1 keeps in
        (row_inside i (subst (λ l. l * n ≤ length numbers) h.0 rows.0), not-true (even i) (sym (at_row i true (u.at i) (rows.2 i) first.0)), λ k l. not-false (even k) (sym (at_row k false (u.at k) (rows.2 k) (first.1 k l))))

    pub first_uneven_found : (r : Option ℕ) → MatchOption r ((u.whole ≡ true) × AllItemsGive u g f false) (λ i. (u.len ≡ i + 1) × IsFirstToGive u g f true false i) → option_map (λ p. p + 1) r ≡ first_uneven n m scale numbers
    first_uneven_found r h = failing_from_places (λ s. equal_whole s (pos scale)) m (λ b. sum_from numbers (b * n) n) r (first_row r h)
