-- The sum of products of entries: what fits, and the turns of its loop.
use Rattle.std.proofs.Common.{◌≡◌, ℕ, ◌+◌, ◌<◌, ◌≤◌, true, List, Ok, Result, sym, ap, ◌∙◌, arith}
use Rattle.kinds.specs.declared.fault.Fault.{Fault}
use Rattle.kinds.specs.Numbers.{Numbers, SumsOfEntryProductsFit, answer}
use Rattle.tables.specs.Layout.{number_at, value}
use Rattle.tables.specs.Entries.{AllEntries}
use Rattle.sheets.specs.Views.{dotted}
use Rattle.sheets.proofs.Totals.{total_next}
use Rattle.sheets.proofs.Fitting.{pairs_fit, pair_fits}
use Rattle.sheets.proofs.Standing.{same_ok, Answered, operated, entry_value, number_stands}

module _ {K : Type 0} (N : Numbers K) (law : SumsOfEntryProductsFit N) (xs ys : List K) (hx : AllEntries N xs) (hy : AllEntries N ys) (at by : ℕ → ℕ) where
  abbrev term : ℕ → N.exact.Value
  term p = N.exact.times (value N xs (at p)) (value N ys (by p))

  sum_fits : (n : ℕ) → n ≤ 16 → N.fits (dotted N n xs at ys by) ≡ true
  sum_fits n few = pairs_fit N law n few _ _ (λ p. entry_value N xs hx (at p)) (λ p. entry_value N ys hy (by p))

  term_fits : (p : ℕ) → N.fits (term p) ≡ true
  term_fits p = pair_fits N law _ _ (entry_value N xs hx (at p)) (entry_value N ys hy (by p))

  -- a product is not refused
  pub product_ok : (p : ℕ) {a b : K} {r : Result K Fault} → a ≡ number_at N xs (at p) → b ≡ number_at N ys (by p) → (N.stored a ≡ true → N.stored b ≡ true → r ≡ answer N (N.exact.times (N.read a) (N.read b))) → r ≡ Ok (N.write (term p))
  product_ok p ea eb says = operated N N.exact.times (number_stands N xs hx (at p) ea) (number_stands N ys hy (by p) eb) says (term_fits p)

  -- a partial sum is not refused
  pub sum_ok : (p : ℕ) → p < 16 → {s t : K} {r : Result K Fault} → s ≡ N.write (dotted N p xs at ys by) → Answered N t (term p) → (N.stored s ≡ true → N.stored t ≡ true → r ≡ answer N (N.exact.plus (N.read s) (N.read t))) → r ≡ Ok (N.write (dotted N (p + 1) xs at ys by))
  sum_ok p few es et says =
      let next = total_next N.exact p term in
      operated N N.exact.plus (es, sum_fits p (omega arith)) (same_ok et, term_fits p) says (ap N.fits (sym next) ∙ sum_fits (p + 1) (omega arith))
      ∙ ap (λ v. Ok (N.write v)) (sym next)
