use Rattle.std.proofs.Common.{◌≡◌, arith, rules, tests}
use Rattle.std.proofs.lemmas.Iterator.{IsFirst-from_position, YieldsList-from_slice}
use Rattle.text.proofs.Pieces.{ends_behind, goes_on}
use Rattle.text.proofs.input.up_to_feed.Goals as goal

pub returns-in_err-position : goal.returns-in_err-position
returns-in_err-position c =
    let s = c.args.piece.now in
    let at = IsFirst-from_position _ _ _ (λ b. b ≡ 10) (λ b. b ≡ 10 → ⊥) c.position.ensures.ran (YieldsList-from_slice s c.iter.ensures.rest) (λ x q k. search (rules, tests)) (λ x q k. search (rules, tests)) in
    rw c.from_residual.ensures (record { value = goes_on s (rw c.in_err-position.was at at); within = tt })

pub returns : goal.returns
returns c =
    let s = c.args.piece.now in
    let at = IsFirst-from_position _ _ _ (λ b. b ≡ 10) (λ b. b ≡ 10 → ⊥) c.position.ensures.ran (YieldsList-from_slice s c.iter.ensures.rest) (λ x q k. search (rules, tests)) (λ x q k. search (rules, tests)) in
    let first = rw c.in_ok-position.was at at in
    record { value = ends_behind s c.in_ok-position.field-0 first.0 (first.1 0) first.2; within = omega (arith, first.0) }
