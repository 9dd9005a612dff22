use Rattle.std.proofs.Common.{◌≡◌, ℕ, List}
use Rattle.tables.specs.Entries.{AllEntries}
use Rattle.sheets.specs.Views.{Gives, dotted}
use Rattle.sheets.proofs.sums.sum_of_products.Given as goal

-- the sum so far
abbrev pub invariant-loop-place : goal.invariant-loop-place
invariant-loop-place g l =
    let N = g.K.Kind.numbers in
    (xs ys : List g.row.K.Denot) (at by : ℕ → ℕ) → AllEntries N xs → AllEntries N ys → Gives N (goal.F-post g l.left) l.count xs at → Gives N (goal.G-post g l.right) l.count ys by → l.sum ≡ N.write (dotted N l.place xs at ys by)
