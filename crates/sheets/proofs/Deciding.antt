-- The tests of a sheet of entries decide its rules.
use Rattle.std.proofs.Common.{ℕ, ◌+◌, ◌-◌, ◌*◌, ◌<◌, ◌≤◌, Decides, subst, arith}
use Rattle.std.proofs.lemmas.Bool.Decides.{Decides-and}
use Rattle.kinds.specs.Numbers.{Numbers, SumsOfEntryProductsFit}
use Rattle.sheets.specs.Rules.{Coefficients, Half, StepRows, EndRows, StartAt, StepAt, StepRule, EndRule}
use Rattle.sheets.specs.Tests.{event_of, vector_of, step_rows_kept, end_rows_kept, start_kept, step_kept, ends_kept}
use Rattle.sheets.proofs.Fitting.{Entry, HalfEntries, CoefficientEntries, start_sum_fits, scaled_step_fits, scaled_end_fits, combined_fits}
use Rattle.sheets.proofs.Trying.{every_at, every_from}
use Rattle.sheets.proofs.Grid.{event_inside, vector_inside, place_inside, event_back, vector_back}

module _ {K : Type 0} (N : Numbers K) (law : SumsOfEntryProductsFit N) (c : Coefficients N.exact.Value) (ce : CoefficientEntries N c) where
  module _ (h : Half N.exact.Value) (he : HalfEntries N h) where
    rows_decides : (e r : ℕ) → Decides (step_rows_kept N c h e r) (StepRows N.exact c h e r)
    rows_decides e r =
        let here = λ (i : ℕ). N.ties.same_is _ _ (scaled_step_fits N law h he c ce e r i) (combined_fits N law h he c ce (c.stepping e r) (ce.stepping e r) i) in
        (λ all i l. (here i).0 (every_at _ h.states all i l), λ rule. every_from _ h.states (λ i l. (here i).1 (rule i l)))

    end_rows_decide : Decides (end_rows_kept N c h) (EndRows N.exact c h)
    end_rows_decide =
        let here = λ (i : ℕ). N.ties.same_is _ _ (scaled_end_fits N law h he c ce i) (combined_fits N law h he c ce c.ending ce.ending i) in
        (λ all i l. (here i).0 (every_at _ h.states all i l), λ rule. every_from _ h.states (λ i l. (here i).1 (rule i l)))

  module _ (a b : Half N.exact.Value) (ha : HalfEntries N a) (hb : HalfEntries N b) where
    pub start_decides : (starts-a starts-b : ℕ → N.exact.Value) → ((i : ℕ) → Entry N (starts-a i)) → ((i : ℕ) → Entry N (starts-b i)) → (r : ℕ) → Decides (start_kept N c a b starts-a starts-b r) (StartAt N.exact c a b starts-a starts-b r)
    start_decides starts-a starts-b sa sb r = N.ties.same_is _ _ (start_sum_fits N law a ha starts-a sa r) (start_sum_fits N law b hb starts-b sb r)

    pub step_decides : (e r : ℕ) → Decides (step_kept N c a b e r) (StepAt N.exact c a b e r)
    step_decides e r = Decides-and _ _ (rows_decides a ha e r) (rows_decides b hb e r)

    pub ends_decide : Decides (ends_kept N c a b) (EndRule N.exact c a b)
    ends_decide = Decides-and _ _ (end_rows_decide a ha) (end_rows_decide b hb)

    abbrev R : ℕ
    R = c.vectors

    -- the step rule at the place of an event and a vector
    pub step_back : (e r : ℕ) → 1 ≤ e → r < R → StepAt N.exact c a b (event_of R ((e - 1) * R + r)) (vector_of R ((e - 1) * R + r)) → StepAt N.exact c a b e r
    step_back e r some h rule =
        let P : ℕ → Type 0 = λ d. StepAt N.exact c a b d (vector_of R ((e - 1) * R + r)) in
        subst (StepAt N.exact c a b e) (vector_back e r R h) (subst P (event_back e r R some h) rule)

    -- the step rule at every place, either way
    pub steps_from : (k : ℕ) → ((p : ℕ) → p < k * R → StepAt N.exact c a b (event_of R p) (vector_of R p)) → StepRule N.exact c a b k
    steps_from k all e r some few h = step_back e r some h (all ((e - 1) * R + r) (place_inside e r k R some few h))

    pub steps_at : (k : ℕ) → StepRule N.exact c a b k → (p : ℕ) → p < k * R → StepAt N.exact c a b (event_of R p) (vector_of R p)
    steps_at k rule p h = rule (event_of R p) (vector_of R p) (omega arith) (event_inside p k R h) (vector_inside p k R h)
