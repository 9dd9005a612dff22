-- What is answered to a line while a book is open, and what ledger, shelf and scratch hold afterwards.
use Rattle.std.specs.Prelude.{◌≡◌, ℕ, List, ℤ, Ok, Err, Option, Result}
use Rattle.kinds.specs.declared.fault.Fault.{Fault}
use Rattle.kinds.specs.Faults.{then}
use Rattle.kinds.specs.Numbers.{Numbers}
use Rattle.tables.specs.Strip.{cleared}
use Rattle.ledger.specs.Model.{Model}
use Rattle.uses.specs.Enter.{enter_answer, enter_ledger, enter_shelf}
use Rattle.uses.specs.Join.{AtScale, join_answer, join_ledger}
use Rattle.uses.specs.Weigh.{weigh_answer}
use Rattle.lines.specs.declared.replies.Reply.{Reply}
use Rattle.lines.specs.declared.replies.Reply.TheVariants.{Table, Joined, Weighs, Refused}
use Rattle.statements.specs.Statements.{Asked, enter, join, weigh}

-- the reply to a call that is accepted
abbrev pub replied : {A : Type 0} → (A → Reply) → Result A Fault → Result Reply Fault
replied f r = then r (λ a. Ok (f a))

-- a refusal is a reply too
abbrev pub or_refusal : Result Reply Fault → Reply
or_refusal (Ok r) = r
or_refusal (Err f) = Refused f

module _ {K : Type 0} (N : Numbers K) (shown : K → Option ℤ) (m : Model) (shelf : List K) (strip : ℕ) where
  -- the answer to a line, and the ledger afterwards: a line that is refused keeps its refusal, any other is answered by the call that it asks for;
  -- the scratch has so many numbers
  abbrev pub Served : Result (Asked K) Fault → Result Reply Fault → Model → Type 0
  Served (Err e) r after = (r ≡ Err e) × (after ≡ m)
  Served (Ok (enter states run)) r after = (r ≡ replied Table (enter_answer N m shelf states run)) × (after ≡ enter_ledger N m shelf states run)
  Served (Ok (join a b vectors sheet)) r after =
      AtScale N m shelf a b vectors sheet
      (λ c. (r ≡ replied (λ _. Joined) (join_answer N m shelf a b vectors sheet c)) × (after ≡ join_ledger N m shelf a b vectors sheet c))
  Served (Ok (weigh table word)) r after = (r ≡ replied (λ x. Weighs (shown x)) (weigh_answer N m shelf table word strip)) × (after ≡ m)

  -- the reply to a line: its answer, or its refusal
  abbrev pub Replied : Result (Asked K) Fault → Reply → Model → Type 0
  Replied told r after = (answer : Result Reply Fault) × (Served told answer after × (r ≡ or_refusal answer))

-- only entering changes the shelf
abbrev pub shelf_after : {K : Type 0} → Numbers K → Model → List K → Result (Asked K) Fault → List K
shelf_after N m shelf (Err e) = shelf
shelf_after N m shelf (Ok (enter states run)) = enter_shelf N m shelf states run
shelf_after N m shelf (Ok (join a b vectors sheet)) = shelf
shelf_after N m shelf (Ok (weigh table word)) = shelf

-- weighing clears the scratch
abbrev pub strip_after : {K : Type 0} → Numbers K → List K → Result (Asked K) Fault → List K
strip_after N strip (Err e) = strip
strip_after N strip (Ok (enter states run)) = strip
strip_after N strip (Ok (join a b vectors sheet)) = strip
strip_after N strip (Ok (weigh table word)) = cleared N strip
