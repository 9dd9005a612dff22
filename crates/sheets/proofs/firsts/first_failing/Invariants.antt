use Rattle.std.proofs.Common.{◌≡◌, ℕ, Bool, None}
use Rattle.sheets.specs.Firsts.{first_place, AnswersAs}
use Rattle.sheets.proofs.firsts.first_failing.Given as goal

-- each place below passes
abbrev pub invariant-loop-place : goal.invariant-loop-place
invariant-loop-place g l = (f : ℕ → Bool) → AnswersAs (goal.F-post g l.test) l.count f → first_place l.place f ≡ None
