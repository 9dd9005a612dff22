-- What a line asks of an open book, or why it is refused.
use Rattle.std.specs.Prelude.{◌≡◌, ℕ, ◌+◌, ◌≤◌, min, cond, List, [], ◌∷◌, ◌++◌, length, take, drop, Some, None, Ok, Err, Option, Result, ◌==◌, nat_le}
use Rattle.std.specs.Option.{option_and_then}
use Rattle.kinds.specs.declared.fault.Fault.{Fault}
use Rattle.kinds.specs.declared.fault.Refusal.TheVariants.{LineBounds, VerbNotServed, FieldCount, FieldForm}
use Rattle.kinds.specs.declared.count.Count.{Count}
use Rattle.kinds.specs.declared.best.Best.{Best}
use Rattle.kinds.specs.Faults.{fault, fault_at, then}
use Rattle.text.specs.declared.numbers.Reading.{Reading}
use Rattle.text.specs.declared.numbers.Reading.TheVariants as reading
use Rattle.statements.specs.declared.statements.Statement.{Statement}
use Rattle.statements.specs.declared.statements.Statement.TheVariants as statement
use Rattle.lines.specs.declared.verbs.Verb.{Verb}
use Rattle.lines.specs.declared.verbs.Verb.TheVariants.{Book, Table, Join, Weigh}
use Rattle.text.specs.Split.{split}
use Rattle.text.specs.Numerals.{reading_of, plain_at}
use Rattle.lines.specs.Verbs.{verb_of, behind_verb}

-- what a reading means in a count book: a hyphen is no number there
abbrev pub count_meant : Reading → Option Count
count_meant (reading.Number z) = Some (record { 0 = z })
count_meant reading.Hyphen = None

-- what a reading means in a best book: a hyphen is none there
abbrev pub best_meant : Reading → Option Best
best_meant (reading.Number z) = Some (record { 0 = Some z })
best_meant reading.Hyphen = Some (record { 0 = None })

-- What a line asks of an open book.
pub data Asked (K : Type 0) : Type 0 where
  -- table,STATES,numbers: enter a table with these states and numbers
  enter : ℕ → List K → Asked K
  -- join,A,B,R,numbers: join two tables by a sheet of R vectors
  join : ℕ → ℕ → ℕ → List K → Asked K
  -- weigh,A,WORD: weigh a word in a table
  weigh : ℕ → List ℕ → Asked K

-- a line has at most 1,809 numbers
abbrev pub most_numbers : ℕ
most_numbers = 1809

-- numbers written over the front of a run
abbrev pub overlaid : {K : Type 0} → List K → List K → List K
overlaid run ks = ks ++ drop (length ks) run

-- what a read statement stands for, with its numbers at the front of the run
abbrev pub asked_by : {K : Type 0} → Statement → List K → Asked K
asked_by (statement.Table states count) run = enter states (take count run)
asked_by (statement.Join a b vectors count) run = join a b vectors (take count run)
asked_by (statement.Weigh table word) run = weigh table word.now

-- the numbers of a read statement stand within a run of this length
abbrev pub InRun : Statement → ℕ → Type 0
InRun (statement.Table states count) room = count ≤ room
InRun (statement.Join a b vectors count) room = count ≤ room
InRun (statement.Weigh table word) room = Unit {0}

-- A,WORD behind a verb: a table's number and a word
abbrev pub table_and_word : List (List ℕ) → Result (ℕ × List ℕ) Fault
table_and_word [] = Err (fault FieldCount)
table_and_word (a ∷ []) = Err (fault FieldCount)
table_and_word (a ∷ w ∷ []) = then (plain_at a 2) (λ table. Ok (table, w))
table_and_word (a ∷ w ∷ f ∷ fs) = Err (fault FieldCount)

-- three fixed fields, and those behind them, which are numbers
pub record ThreeFixed : Type 0 where
  pub first : List ℕ
  pub second : List ℕ
  pub third : List ℕ
  pub numbers : List (List ℕ)

-- the numbers behind the fixed fields are counted before any form is judged: no more of them than a line may have, and than a run has room for
abbrev pub three_fixed : ℕ → List (List ℕ) → Result ThreeFixed Fault
three_fixed room [] = Err (fault FieldCount)
three_fixed room (a ∷ []) = Err (fault FieldCount)
three_fixed room (a ∷ b ∷ []) = Err (fault FieldCount)
three_fixed room (a ∷ b ∷ c ∷ fs) = cond (nat_le (length fs) (min most_numbers room)) (Ok (record { first = a; second = b; third = c; numbers = fs })) (Err (fault FieldCount))

-- the run afterwards: numbers are written to it only behind what is not refused
abbrev pub run_then : {K A : Type 0} → Result A Fault → List K → (A → List K) → List K
run_then (Ok a) run f = f a
run_then (Err e) run f = run

module _ {K : Type 0} (meant : Reading → Option K) where
  -- the number that a field writes, if it has the form of one
  abbrev pub number_in : List ℕ → Option K
  number_in f = option_and_then meant (reading_of f)

  abbrev pub put : Option K → List K → List K
  put None ks = []
  put (Some k) ks = k ∷ ks

  -- the numbers of the fields up to the first that has not the form of one
  abbrev pub front : List (List ℕ) → List K
  front [] = []
  front (f ∷ fs) = put (number_in f) (front fs)

  -- the numbers of all fields, the first of which stands at place p of the line, unless one has another form
  abbrev pub numbers_at : ℕ → List (List ℕ) → Result (List K) Fault
  numbers_at p fs = cond (length (front fs) == length fs) (Ok (front fs)) (Err (fault_at FieldForm (p + length (front fs))))

  -- table,STATES,numbers behind its verb, where a run has room for so many numbers: counted first, then judged from left to right
  abbrev pub table_of : ℕ → List (List ℕ) → Result (Asked K) Fault
  table_of room [] = Err (fault FieldCount)
  table_of room (s ∷ fs) = cond (nat_le (length fs) (min most_numbers room)) (then (plain_at s 2) (λ n. then (numbers_at 3 fs) (λ ks. Ok (enter n ks)))) (Err (fault FieldCount))

  -- join,A,B,R,numbers behind its verb
  abbrev pub join_of : ℕ → List (List ℕ) → Result (Asked K) Fault
  join_of room fs = then (three_fixed room fs) (λ x. then (plain_at x.first 2) (λ a. then (plain_at x.second 3) (λ b. then (plain_at x.third 4) (λ vectors. then (numbers_at 5 x.numbers) (λ ks. Ok (join a b vectors ks))))))

  abbrev pub statement_by : Option Verb → ℕ → List (List ℕ) → Result (Asked K) Fault
  statement_by (Some Table) room fs = table_of room fs
  statement_by (Some Join) room fs = join_of room fs
  statement_by (Some Weigh) room fs = then (table_and_word fs) (λ x. Ok (weigh x.0 x.1))
  statement_by (Some Book) room fs = Err (fault VerbNotServed)
  statement_by None room fs = Err (fault VerbNotServed)

  -- a line while a book is open; none is a line that lacks its line feed or is too long
  abbrev pub statement_of : ℕ → Option (List ℕ) → Result (Asked K) Fault
  statement_of room None = Err (fault LineBounds)
  statement_of room (Some text) = statement_by (verb_of (split text)) room (behind_verb (split text))

  -- the run afterwards: numbers are written to it from the front as far as they are read
  abbrev pub table_run : List K → List (List ℕ) → List K
  table_run run [] = run
  table_run run (s ∷ fs) = cond (nat_le (length fs) (min most_numbers (length run))) (run_then (plain_at s 2) run (λ _. overlaid run (front fs))) run

  abbrev pub join_run : List K → List (List ℕ) → List K
  join_run run fs = run_then (three_fixed (length run) fs) run (λ x. run_then (plain_at x.first 2) run (λ _. run_then (plain_at x.second 3) run (λ _. run_then (plain_at x.third 4) run (λ _. overlaid run (front x.numbers)))))

  abbrev pub statement_run_by : Option Verb → List K → List (List ℕ) → List K
  statement_run_by (Some Table) run fs = table_run run fs
  statement_run_by (Some Join) run fs = join_run run fs
  statement_run_by (Some Weigh) run fs = run
  statement_run_by (Some Book) run fs = run
  statement_run_by None run fs = run

  abbrev pub statement_run : List K → Option (List ℕ) → List K
  statement_run run None = run
  statement_run run (Some text) = statement_run_by (verb_of (split text)) run (behind_verb (split text))

  -- r is what the line asks, with its numbers at the front of the run, or why it is refused
  abbrev pub Reads : Result (Asked K) Fault → List K → Result Statement Fault → Type 0
  Reads told run (Ok s) = told ≡ Ok (asked_by s run)
  Reads told run (Err e) = told ≡ Err e
