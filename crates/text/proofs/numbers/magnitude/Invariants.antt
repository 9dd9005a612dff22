use Rattle.std.proofs.Common.{◌≡◌, ◌^◌, ◌<◌, drop}
use Rattle.text.specs.Numerals.{further}
use Rattle.text.proofs.numbers.magnitude.Given as goal

-- n is what the digits so far make
abbrev pub invariant-loop-b : goal.invariant-loop-b
invariant-loop-b l = (further 0 l.s ≡ further l.n (drop l.b-index l.s)) × (l.n < 10 ^ l.b-index)
