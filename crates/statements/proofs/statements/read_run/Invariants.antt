use Rattle.std.proofs.Common.{◌≡◌, ℕ, ◌+◌, ◌≤◌, List, ◌++◌, length, take, drop, Option}
use Rattle.text.specs.declared.numbers.Reading.{Reading}
use Rattle.text.specs.Split.{left}
use Rattle.statements.specs.Statements.{front}
use Rattle.statements.proofs.statements.read_run.Given as goal

-- n numbers of the fields `whole` stand at the front of the run, and the fields `rest` are left
pub record Fronted {K : Type 0} (meant : Reading → Option K) (whole rest : List (List ℕ)) (old run : List K) (n : ℕ) : Type 0 where
  pub within : n ≤ length run
  pub counts : length whole ≡ n + length rest
  pub sofar : front meant whole ≡ take n run ++ front meant rest
  pub behind : drop n run ≡ drop n old

abbrev pub invariant-loop-n : goal.invariant-loop-n
invariant-loop-n g l = Fronted g.K.Written.meant (left l.initial.fields) (left l.n-iterator.iter) l.initial.run l.run l.n-iterator.count
