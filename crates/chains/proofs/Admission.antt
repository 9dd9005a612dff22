-- What is known of a chain that nothing refuses.
use Rattle.std.proofs.Common.{◌≡◌, ℕ, suc, ◌+◌, ◌*◌, ◌<◌, ◌≤◌, true, eqb, List, length, ℤ, pos, nat_abs, None, Ok, sym, refl, ap, ap₂, ◌∙◌, le_trans, arith, lit≤}
use Rattle.std.proofs.ByRecursion.{All-get_or, All-append}
use Rattle.std.proofs.lemmas.Bool.{le-leb, cond-true, cond_both}
use Rattle.kinds.specs.declared.count.Count.{Count}
use Rattle.kinds.specs.declared.fault.Refusal.TheVariants.{EventCount, StateCount, NumberCount, ScaleRange, Letters, ProbabilityRange, RowSum}
use Rattle.kinds.specs.Faults.{fault}
use Rattle.kinds.specs.Numbers.{is_entry, zero_of, one_of}
use Rattle.kinds.specs.Whole.{whole}
use Rattle.kinds.specs.Limits.{largest_fit, largest_entry}
use Rattle.kinds.specs.Count.{counts, equal_whole, equal_whole_decides}
use Rattle.kinds.proofs.Refusing.{passed_test, found_none, choice_passes}
use Rattle.tables.specs.Shape.{most_events, most_states, one_to, events_answer, states_answer}
use Rattle.tables.specs.Words.{first_stray}
use Rattle.tables.specs.Entries.{AllEntries}
use Rattle.tables.specs.Layout.{number_at, value}
use Rattle.tables.specs.Path.{listed}
use Rattle.tables.proofs.Firsts.{first_is_first}
use Rattle.tables.proofs.Limits.{one_to_parts}
use Rattle.tables.proofs.Sequences.{total_cong}
use Rattle.chains.specs.Gates.{AddUp}
use Rattle.chains.specs.Chains.{bears_event, row_at, row, chain_run}
use Rattle.chains.specs.Refusals.{largest_scale, in_scale, first_outside, Bounded, sum_from, first_uneven, chain_fault}
use Rattle.chains.proofs.Bounds.{in_scale_bounded}
use Rattle.tables.proofs.Sums.{length_listed, getD_listed}
use Rattle.chains.proofs.Places.{all_listed, all_joined}

-- a number that is bounded is an entry
bounded_entry : (x : Count) → nat_abs x.0 ≤ largest_scale → is_entry counts x ≡ true
bounded_entry x h = cond-true _ _ _ (le-leb (nat_abs x.0) largest_fit (le_trans h (lit≤ tt))) ∙ le-leb (nat_abs x.0) largest_entry (le_trans h (lit≤ tt))

abbrev Entry : Count → Type 0
Entry x = is_entry counts x ≡ true

-- the numbers of a chain's table are entries
entries_stand : (n : ℕ) (letters : List ℕ) (numbers : List Count) (k : ℕ) → Bounded numbers → AllEntries counts (chain_run n letters numbers k)
entries_stand n letters numbers k bounded =
    All-append Entry (listed n (number_at counts numbers)) _ (all_listed Entry n (number_at counts numbers) (λ i. bounded_entry (number_at counts numbers i) (bounded i)))
    (All-append Entry (listed n (λ (i : ℕ). one_of counts)) _ (all_listed Entry n (λ i. one_of counts) (λ i. refl))
    (all_joined Entry k _ (λ e. all_joined Entry n _ (λ i. all_listed Entry n _ (λ j. cond_both (bears_event letters i (e + 1)) (number_at counts numbers (row_at n i j)) (zero_of counts) Entry (λ b. bounded_entry (number_at counts numbers (row_at n i j)) (bounded (row_at n i j))) (λ b. refl))))))

-- the counts that are passed are those that were given
pub passed_events : (k k' : ℕ) → events_answer k ≡ Ok k' → k' ≡ k
passed_events k k' e = (choice_passes (one_to most_events k) k k' (fault EventCount) e).1

pub passed_states : (n n' : ℕ) → states_answer n ≡ Ok n' → n' ≡ n
passed_states n n' e = (choice_passes (one_to most_states n) n n' (fault StateCount) e).1

-- so what refuses them is the same
pub same_fault : (k k' n n' scale : ℕ) (letters : List ℕ) (numbers : List Count) (room : ℕ) → events_answer k ≡ Ok k' → states_answer n ≡ Ok n' → chain_fault k' n' scale letters numbers room ≡ chain_fault k n scale letters numbers room
same_fault k k' n n' scale letters numbers room e s =
    ap₂ (λ x y. chain_fault x y scale letters numbers room) (passed_events k k' e) (passed_states n n' s)

module _ (k n scale : ℕ) (letters : List ℕ) (numbers : List Count) (room : ℕ) where
  -- what each test of the chain of refusals leaves
  pub record Admitted : Type 0 where
    pub add_up : AddUp whole n (pos scale) (value counts numbers) (row n numbers)
    pub entries : AllEntries counts (chain_run n letters numbers k)

  abbrev sums : ℕ → ℤ
  sums b = sum_from numbers (b * n) n

  sums_even : first_uneven n (n + 1) scale numbers ≡ None → (b : ℕ) → b < n + 1 → sums b ≡ pos scale
  sums_even none b h =
      let all = first_is_first (λ s. equal_whole s (pos scale)) (pos 0) (listed (n + 1) sums) None (sym none) in
      let passes = All-get_or (λ s. equal_whole s (pos scale) ≡ true) (listed (n + 1) sums) b (pos 0) (omega (arith, length_listed (n + 1) sums)) all in
      sym (getD_listed (n + 1) sums (pos 0) b h) ∙ (equal_whole_decides _ (pos scale)).0 passes

  rows_add_up : first_uneven n (n + 1) scale numbers ≡ None → AddUp whole n (pos scale) (value counts numbers) (row n numbers)
  rows_add_up none = record {
    starts = total_cong whole n _ _ (λ j h. let at : j ≡ 0 * n + j = omega arith in ap (value counts numbers) at) ∙ sums_even none 0 (omega arith);
    rows = λ i l. total_cong whole n _ _ (λ j h. let at : row_at n i j ≡ suc i * n + j = omega arith in ap (value counts numbers) at) ∙ sums_even none (suc i) (omega arith);
  }

  pub admitted : chain_fault k n scale letters numbers room ≡ None → Admitted
  admitted none =
      let a = passed_test (one_to most_events k) (fault EventCount) _ none in
      let b = passed_test (one_to most_states n) (fault StateCount) _ a.1 in
      let c = passed_test (one_to largest_scale scale) (fault ScaleRange) _ b.1 in
      let d = passed_test (eqb (length letters) n) (fault Letters) _ c.1 in
      let e = found_none (first_stray k 1 letters) Letters _ d.1 in
      let f = passed_test (eqb (length numbers) (n + n * n)) (fault NumberCount) _ e.1 in
      let g = found_none (first_outside scale numbers) ProbabilityRange _ f.1 in
      let h = found_none (first_uneven n (n + 1) scale numbers) RowSum _ g.1 in
      let scaled = one_to_parts largest_scale scale c.0 in
      let bounded = in_scale_bounded scale numbers scaled.1 (first_is_first (in_scale scale) (zero_of counts) numbers None (sym g.0)) in
      record {
        add_up = rows_add_up h.0;
        entries = entries_stand n letters numbers k bounded;
      }
