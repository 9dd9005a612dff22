-- What weighing a word answers.
use Rattle.std.specs.Prelude.{◌≡◌, ℕ, true, List, length, IfOk, Some, None, Err, Option, Result, ◌==◌, nat_le}
use Rattle.kinds.specs.declared.fault.Fault.{Fault}
use Rattle.kinds.specs.declared.fault.Refusal.TheVariants.{WordLength, NotAnEvent, StripLength}
use Rattle.kinds.specs.Faults.{fault, unless, unless_found}
use Rattle.kinds.specs.Numbers.{Numbers, said}
use Rattle.tables.specs.Words.{events_of, first_stray, longest_word}
use Rattle.tables.specs.Layout.{value}
use Rattle.tables.specs.Weight.{weight}
use Rattle.tables.specs.Path.{path_answer}
use Rattle.tables.specs.Range.{Ranged}
use Rattle.tables.specs.Strip.{strip_size}

-- the refusals that hang on no number, in order: the word's length, its first byte that is none of k events, the strip's length
abbrev pub weigh_fault : ℕ → List ℕ → ℕ → Option Fault
weigh_fault k word strip =
    unless (nat_le (length word) longest_word) (fault WordLength)
    (unless_found (first_stray k 1 word) NotAnEvent
    (unless (strip == strip_size) (fault StripLength) None))

-- an answer, unless something is refused before it
abbrev pub answered : {A : Type 0} → Option Fault → Result A Fault → Result A Fault
answered None r = r
answered (Some f) r = Err f

-- r is the refusal, where there is one
abbrev pub Refused : {A : Type 0} → Option Fault → Result A Fault → Type 0
Refused o r = (f : Fault) → o ≡ Some f → r ≡ Err f

-- a table of n states in a run, and a word by its bytes
module _ {K : Type 0} (N : Numbers K) (n : ℕ) (run : List K) (word : List ℕ) where
  -- the number of what the path gives
  abbrev pub path_number : Result K Fault
  path_number = said N (path_answer N n (value N run) (events_of word))

  -- the exact weight of the word
  abbrev pub word_weight : N.exact.Value
  word_weight = weight N.exact n (value N run) (events_of word)

  -- an answer is the number of the weight, which fits
  abbrev pub IsWeight : Result K Fault → Type 0
  IsWeight r = IfOk r (λ x. (x ≡ N.write word_weight) × (N.fits word_weight ≡ true))

  -- there is an answer exactly if all that is computed fits, and else it is out of range
  abbrev pub IsRanged : Result K Fault → Type 0
  IsRanged r = Ranged N n (value N run) (events_of word) r
