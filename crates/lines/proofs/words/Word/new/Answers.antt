use Rattle.std.proofs.Common.{refl, arith}
use Rattle.lines.proofs.Zeros.{zeros_ascii}
use Rattle.lines.proofs.words.Word.new.Goals as goal

-- no letters, over zeros
pub invariant_of-result : goal.invariant_of-result
invariant_of-result c = record { short = omega arith; whole = refl; ascii = zeros_ascii 64 }
