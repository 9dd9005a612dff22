-- What is known where a chain of refusals refuses nothing, and how a chain goes on where a part of it refuses nothing.
use Rattle.std.proofs.Common.{◌≡◌, ℕ, Bool, true, false, cond, Some, None, Ok, Err, Option, refl, ap, arith}
use Rattle.kinds.specs.declared.fault.Fault.{Fault}
use Rattle.kinds.specs.declared.fault.Refusal.{Refusal}
use Rattle.kinds.specs.Faults.{unless, unless_found, or_refused, or_kept}

-- a test that passes leaves the rest
pub test_passed : (b : Bool) (f : Fault) (rest : Option Fault) → b ≡ true → unless b f rest ≡ rest
test_passed b f rest e = ap (λ t. unless t f rest) e

-- nothing found leaves the rest
pub none_found : (o : Option ℕ) (r : Refusal) (rest : Option Fault) → o ≡ None → unless_found o r rest ≡ rest
none_found o r rest e = ap (λ p. unless_found p r rest) e

-- a chain that refuses nothing: its first test passes, and the rest refuses nothing
pub passed_test : (b : Bool) (f : Fault) (rest : Option Fault) → unless b f rest ≡ None → (b ≡ true) × (rest ≡ None)
passed_test true f rest h = (refl, h)
passed_test false f rest h = let z : ◌≡◌ {A = ℕ} 0 1 = cc in absurd (omega arith)

pub found_none : (o : Option ℕ) (r : Refusal) (rest : Option Fault) → unless_found o r rest ≡ None → (o ≡ None) × (rest ≡ None)
found_none None r rest h = (refl, h)
found_none (Some p) r rest h = let z : ◌≡◌ {A = ℕ} 0 1 = cc in absurd (omega arith)

-- an answer comes only where nothing refuses, and a refusal only where something does
pub answer_passes : {X : Type 0} (o : Option Fault) (x y : X) → Ok y ≡ or_refused o x → (o ≡ None) × (y ≡ x)
answer_passes None x y h = (refl, cc)
answer_passes (Some f) x y h = let z : ◌≡◌ {A = ℕ} 0 1 = cc in absurd (omega arith)

pub refusal_refuses : {X : Type 0} (o : Option Fault) (x : X) (f : Fault) → Err f ≡ or_refused o x → o ≡ Some f
refusal_refuses None x f h = let z : ◌≡◌ {A = ℕ} 0 1 = cc in absurd (omega arith)
refusal_refuses (Some g) x f h = let e : g ≡ f = cc in ap Some e

-- a test that chooses between an answer and a refusal
pub choice_passes : {X : Type 0} (b : Bool) (x y : X) (f : Fault) → cond b (Ok x) (Err f) ≡ Ok y → (b ≡ true) × (y ≡ x)
choice_passes true x y f h = (refl, cc)
choice_passes false x y f h = let z : ◌≡◌ {A = ℕ} 0 1 = cc in absurd (omega arith)

-- what is answered, and what is left, where nothing refuses
pub answered : {X : Type 0} (o : Option Fault) (x : X) → o ≡ None → or_refused o x ≡ Ok x
answered o x e = ap (λ p. or_refused p x) e

pub renewed : {X : Type 0} (o : Option Fault) (old new : X) → o ≡ None → or_kept o old new ≡ new
renewed o old new e = ap (λ p. or_kept p old new) e
