-- Tests at the places below a number: whether all pass, and the first that fails.
use Rattle.std.specs.Prelude.{◌≡◌, ℕ, zero, suc, ◌+◌, ◌<◌, Bool, true, cond, ◌&&◌, Some, None, Ok, Option, Result}
use Rattle.kinds.specs.declared.fault.Fault.{Fault}

-- the test passes at each place below n
abbrev pub every : ℕ → (ℕ → Bool) → Bool
every zero f = true
every (suc n) f = every n f && f n

-- what was found before, or else what is found later
abbrev pub or_else : Option ℕ → Option ℕ → Option ℕ
or_else None later = later
or_else (Some p) later = Some p

-- the first place below n at which the test fails, then counted from 1
abbrev pub first_place : ℕ → (ℕ → Bool) → Option ℕ
first_place zero f = None
first_place (suc n) f = or_else (first_place n f) (cond (f n) None (Some (n + 1)))

-- what calls answer at each place below n is the test's outcome there
abbrev pub AnswersAs : (ℕ → Result Bool Fault → Type 0) → ℕ → (ℕ → Bool) → Type 0
AnswersAs says n f = (p : ℕ) (r : Result Bool Fault) → p < n → says p r → r ≡ Ok (f p)
