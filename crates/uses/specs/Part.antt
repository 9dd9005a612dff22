-- What keeping a word that tells two tables apart answers and leaves.
use Rattle.std.specs.Prelude.{◌≡◌, ℕ, ◌+◌, ◌<◌, ◌≤◌, true, not, List, length, IfOk, None, Ok, Err, Option, Result, MatchResult}
use Rattle.kinds.specs.declared.fault.Fault.{Fault}
use Rattle.kinds.specs.declared.fault.Refusal.TheVariants.{EqualWeights}
use Rattle.kinds.specs.Faults.{fault, then, unless, or_refused}
use Rattle.kinds.specs.Numbers.{Numbers}
use Rattle.tables.specs.Layout.{value}
use Rattle.tables.specs.Path.{path_answer}
use Rattle.tables.specs.Range.{PathFits}
use Rattle.tables.specs.Strip.{strip_size}
use Rattle.tables.specs.Weighing.{weigh_fault, answered, Refused}
use Rattle.tables.specs.Words.{AllEvents, events_of, longest_word}
use Rattle.ledger.specs.Model.{Model}
use Rattle.ledger.specs.Parts.{most_parts, with_part, unless_full}
use Rattle.ledger.specs.Standing.{TwoTables, unless_two_tables}
use Rattle.uses.specs.declared.answers.Parted.{Parted}
use Rattle.uses.specs.declared.answers.Weights.{Weights}
use Rattle.uses.specs.Holds.{Entered, table_at}
use Rattle.uses.specs.Weigh.{at_place, weight_in}

-- what there was, unless something is answered
abbrev pub if_answered : {A X : Type 0} → Result A Fault → X → X → X
if_answered (Ok a) old new = new
if_answered (Err f) old new = old

-- one part more: two tables, and the word that these bytes spell
abbrev pub with_kept : Model → ℕ → ℕ → List ℕ → Model
with_kept m a b word = record { events = m.events; lines = m.lines; parts = with_part m.parts a b (events_of word) }

-- two tables, a word by its bytes, and a strip of so many numbers
module _ {K : Type 0} (N : Numbers K) (m : Model) (shelf : List K) (a b : ℕ) (word : List ℕ) (strip : ℕ) where
  -- 7, 8, 16, 17 and 18
  abbrev pub part_refusal : Option Fault
  part_refusal = unless_two_tables m.lines a b (weigh_fault m.events word strip)

  -- what the weighing path gives in table i; 19 names a place
  abbrev pub path_in : ℕ → ℕ → Result N.exact.Value Fault
  path_in i p = at_place p (path_answer N (table_at m shelf i).states (value N (table_at m shelf i).run) (events_of word))

  -- the numbers of two weights, unless these are equal: 20
  abbrev pub differing : N.exact.Value → N.exact.Value → Result (Weights K) Fault
  differing v w = or_refused (unless (not (N.same v w)) (fault EqualWeights) None) (record { first = N.write v; second = N.write w })

  -- the numbers of both weights, if these differ, or the first of the refusals up to 20
  abbrev pub weights_answer : Result (Weights K) Fault
  weights_answer = answered part_refusal (then (path_in a 1) (λ v. then (path_in b 2) (differing v)))

  -- the part's number and both weights, or the first refusal that holds
  abbrev pub part_answer : Result (Parted K) Fault
  part_answer = then weights_answer (λ x. or_refused (unless_full m.parts None) (record { part = length m.parts + 1; first = x.first; second = x.second }))

  -- the ledger afterwards
  abbrev pub part_ledger : Model
  part_ledger = if_answered part_answer m (with_kept m a b word)

  -- two numbers are those of the word's weights, the sums over all sequences of states, and the weights differ
  pub record Differ (x y : K) : Type 0 where
    pub first : x ≡ N.write (weight_in N m shelf a word)
    pub first_fits : N.fits (weight_in N m shelf a word) ≡ true
    pub second : y ≡ N.write (weight_in N m shelf b word)
    pub second_fits : N.fits (weight_in N m shelf b word) ≡ true
    pub differ : weight_in N m shelf a word ≡ weight_in N m shelf b word → ⊥

  -- a word that tells two tables apart: both are in the book, and it can be weighed in both, with different weights
  pub record TellsApart : Type 0 where
    pub two : TwoTables m.lines a b
    pub short : length word ≤ longest_word
    pub events : AllEvents m.events word
    pub strip_of_sixteen : strip ≡ strip_size
    pub first_in_range : PathFits N (table_at m shelf a).states (value N (table_at m shelf a).run) (events_of word)
    pub second_in_range : PathFits N (table_at m shelf b).states (value N (table_at m shelf b).run) (events_of word)
    pub differ : weight_in N m shelf a word ≡ weight_in N m shelf b word → ⊥

  -- it can be kept if there is room for one part more
  abbrev pub Parts : Type 0
  Parts = TellsApart × (length m.parts < most_parts)

  -- r answers both weights of a word that tells the tables apart, or why it does not
  pub record Apart (r : Result (Weights K) Fault) : Type 0 where
    pub early : Refused part_refusal r
    pub answer : Entered N m shelf → r ≡ weights_answer
    pub told : Entered N m shelf → MatchResult r (λ x. TellsApart × Differ x.first x.second) (λ f. TellsApart → ⊥)
    -- where it is answered, nothing was refused before the weighing
    pub passed : IfOk r (λ _. part_refusal ≡ None)

  -- r answers the part that is kept, or why none is; after is what the ledger says then
  pub record PartAnswers (r : Result (Parted K) Fault) (after : Model) : Type 0 where
    -- 7, 8, 16, 17 and 18, whatever the tables hold
    pub early : Refused part_refusal r
    pub answer : Entered N m shelf → r ≡ part_answer
    pub ledger : Entered N m shelf → after ≡ part_ledger
    -- accepted exactly for a word that tells the tables apart, where there is room; and the answered weights are that word's
    pub told : Entered N m shelf → MatchResult r (λ x. Parts × Differ x.first x.second) (λ f. Parts → ⊥)
