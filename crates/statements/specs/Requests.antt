-- What a line asks of an open book, or why it is refused, where chains, parts and asking are served beside statements.
use Rattle.std.specs.Prelude.{◌≡◌, ℕ, ◌≤◌, Bool, cond, List, [], ◌∷◌, length, take, Some, None, Ok, Err, codes, Option, Result}
use Rattle.std.specs.Str.{bytes_eq}
use Rattle.kinds.specs.declared.fault.Fault.{Fault}
use Rattle.kinds.specs.declared.fault.Refusal.TheVariants.{LineBounds, VerbNotServed, FieldCount}
use Rattle.kinds.specs.Faults.{fault, then}
use Rattle.text.specs.declared.numbers.Reading.{Reading}
use Rattle.text.specs.Split.{split}
use Rattle.text.specs.Numerals.{plain_at}
use Rattle.lines.specs.Verbs.{named_first, behind_verb}
use Rattle.statements.specs.declared.requests.FurtherVerb.{FurtherVerb}
use Rattle.statements.specs.declared.requests.FurtherVerb.TheVariants.{Chain, Part, Ask}
use Rattle.statements.specs.declared.requests.Request.{Request}
use Rattle.statements.specs.declared.requests.Request.TheVariants as request
use Rattle.statements.specs.Statements.{Asked, InRun, asked_by, front, numbers_at, overlaid, run_then, three_fixed, statement_of, statement_run}

-- the verb beside those of statements that a field names
abbrev pub further_named : List ℕ → Option FurtherVerb
further_named s =
    cond (bytes_eq s (codes "chain")) (Some Chain)
    (cond (bytes_eq s (codes "part")) (Some Part)
    (cond (bytes_eq s (codes "ask")) (Some Ask) None))

-- a line's verb is its first field
abbrev pub further_of : List (List ℕ) → Option FurtherVerb
further_of fs = named_first further_named fs

-- What a line asks of an open book.
pub data Requested (K : Type 0) : Type 0 where
  -- a statement
  plain : Asked K → Requested K
  -- chain,STATES,SCALE,LETTERS,numbers: enter the table of a chain
  chain : ℕ → ℕ → List ℕ → List K → Requested K
  -- part,A,B,WORD: keep a word that weighs differently in two tables
  part : ℕ → ℕ → List ℕ → Requested K
  -- ask,A,B: say what is known of two tables
  ask : ℕ → ℕ → Requested K

-- what a read request stands for, with its numbers at the front of the run
abbrev pub requested_by : {K : Type 0} → Request → List K → Requested K
requested_by (request.Plain s) run = plain (asked_by s run)
requested_by (request.Chain states scale letters count) run = chain states scale letters.now (take count run)
requested_by (request.Part a b word) run = part a b word.now
requested_by (request.Ask a b) run = ask a b

-- the numbers of a read request stand within a run of this length
abbrev pub RequestInRun : Request → ℕ → Type 0
RequestInRun (request.Plain s) room = InRun s room
RequestInRun (request.Chain states scale letters count) room = count ≤ room
RequestInRun (request.Part a b word) room = Unit {0}
RequestInRun (request.Ask a b) room = Unit {0}

-- A,B,WORD behind a verb: two tables' numbers and a word
abbrev pub two_tables_and_word : List (List ℕ) → Result (ℕ × ℕ × List ℕ) Fault
two_tables_and_word [] = Err (fault FieldCount)
two_tables_and_word (a ∷ []) = Err (fault FieldCount)
two_tables_and_word (a ∷ b ∷ []) = Err (fault FieldCount)
two_tables_and_word (a ∷ b ∷ w ∷ []) = then (plain_at a 2) (λ first. then (plain_at b 3) (λ second. Ok (first, second, w)))
two_tables_and_word (a ∷ b ∷ w ∷ f ∷ fs) = Err (fault FieldCount)

-- A,B behind a verb: two tables' numbers
abbrev pub two_tables : List (List ℕ) → Result (ℕ × ℕ) Fault
two_tables [] = Err (fault FieldCount)
two_tables (a ∷ []) = Err (fault FieldCount)
two_tables (a ∷ b ∷ []) = then (plain_at a 2) (λ first. then (plain_at b 3) (λ second. Ok (first, second)))
two_tables (a ∷ b ∷ f ∷ fs) = Err (fault FieldCount)

module _ {K : Type 0} (meant : Reading → Option K) where
  -- chain,STATES,SCALE,LETTERS,numbers behind its verb
  abbrev pub chain_of : ℕ → List (List ℕ) → Result (Requested K) Fault
  chain_of room fs = then (three_fixed room fs) (λ x. then (plain_at x.first 2) (λ n. then (plain_at x.second 3) (λ scale. then (numbers_at meant 5 x.numbers) (λ ks. Ok (chain n scale x.third ks)))))

  -- a chain is served only where the kind takes chains; a line with any other verb is a statement or refused as one, as `told` says
  abbrev pub request_by : Bool → Option FurtherVerb → ℕ → List (List ℕ) → Result (Asked K) Fault → Result (Requested K) Fault
  request_by chained (Some Chain) room fs told = cond chained (chain_of room fs) (Err (fault VerbNotServed))
  request_by chained (Some Part) room fs told = then (two_tables_and_word fs) (λ x. Ok (part x.0 x.1 x.2))
  request_by chained (Some Ask) room fs told = then (two_tables fs) (λ x. Ok (ask x.0 x.1))
  request_by chained None room fs told = then told (λ a. Ok (plain a))

  -- a line while a book is open; none is a line that lacks its line feed or is too long
  abbrev pub request_of : Bool → ℕ → Option (List ℕ) → Result (Requested K) Fault
  request_of chained room None = Err (fault LineBounds)
  request_of chained room (Some text) = request_by chained (further_of (split text)) room (behind_verb (split text)) (statement_of meant room (Some text))

  -- the run afterwards
  abbrev pub chain_run : List K → List (List ℕ) → List K
  chain_run run fs = run_then (three_fixed (length run) fs) run (λ x. run_then (plain_at x.first 2) run (λ _. run_then (plain_at x.second 3) run (λ _. overlaid run (front meant x.numbers))))

  abbrev pub request_run_by : Bool → Option FurtherVerb → List K → List (List ℕ) → List K → List K
  request_run_by chained (Some Chain) run fs told = cond chained (chain_run run fs) run
  request_run_by chained (Some Part) run fs told = run
  request_run_by chained (Some Ask) run fs told = run
  request_run_by chained None run fs told = told

  abbrev pub request_run : Bool → List K → Option (List ℕ) → List K
  request_run chained run None = run
  request_run chained run (Some text) = request_run_by chained (further_of (split text)) run (behind_verb (split text)) (statement_run meant run (Some text))

  -- r is what the line asks, with its numbers at the front of the run, or why it is refused
  abbrev pub Requests : Result (Requested K) Fault → List K → Result Request Fault → Type 0
  Requests told run (Ok r) = told ≡ Ok (requested_by r run)
  Requests told run (Err e) = told ≡ Err e
