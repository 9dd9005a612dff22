use Rattle.std.proofs.Common.{◌≡◌, ◌+◌, length, add-one, arith, rules, tests}
use Rattle.std.proofs.lemmas.Iterator.{IsFirst-from_position, YieldsList-from_slice}
use Rattle.std.proofs.lemmas.Slice.{between_to_end}
use Rattle.text.proofs.Cuts.{first_field, one_field}
use Rattle.text.proofs.fields.Fields.next_field.Goals as goal

pub returns-in-Some : goal.returns-in-Some
returns-in-Some c =
    let line = c.in_ok-line.line.now in
    let at = IsFirst-from_position _ _ _ (λ b. b ≡ 44) (λ b. b ≡ 44 → ⊥) c.position.ensures.ran (YieldsList-from_slice line c.iter.ensures.rest) (λ x q k. search (rules, tests)) (λ x q k. search (rules, tests)) in
    let first = rw c.in-Some.is at at in
    rw (c.in_ok-line.was, between_to_end line (c.in-Some.n + 1) (length line) (omega arith), add-one) (first_field line c.in-Some.n first.0 (first.1 0) first.2)

pub returns-in-None : goal.returns-in-None
returns-in-None c =
    let line = c.in_ok-line.line.now in
    let at = IsFirst-from_position _ _ _ (λ b. b ≡ 44) (λ b. b ≡ 44 → ⊥) c.position.ensures.ran (YieldsList-from_slice line c.iter.ensures.rest) (λ x q k. search (rules, tests)) (λ x q k. search (rules, tests)) in
    rw c.in_ok-line.was (one_field line (rw c.in-None.is at at))
