-- What is answered to a line while a book is open, and what ledger, shelf and scratch hold afterwards, where chains, parts and asking are served.
use Rattle.std.specs.Prelude.{◌≡◌, ℕ, List, map, length, ℤ, Ok, Err, Option, Result}
use Rattle.kinds.specs.declared.fault.Fault.{Fault}
use Rattle.kinds.specs.Faults.{then, or_refused, or_kept}
use Rattle.kinds.specs.Numbers.{Numbers}
use Rattle.tables.specs.Strip.{cleared}
use Rattle.tables.specs.Words.{letter_of}
use Rattle.ledger.specs.Ask.{ask_answer}
use Rattle.ledger.specs.Model.{Model}
use Rattle.ledger.specs.Parts.{Kept, part_of}
use Rattle.ledger.specs.declared.asking.Comparison.{Comparison}
use Rattle.ledger.specs.declared.asking.Comparison.TheVariants as comparison
use Rattle.uses.specs.Enter.{enter_answer, enter_ledger, enter_shelf}
use Rattle.uses.specs.Part.{part_answer, part_ledger}
use Rattle.uses.specs.declared.answers.Parted as answers
use Rattle.lines.specs.declared.replies.Reply.{Reply}
use Rattle.lines.specs.declared.replies.Reply.TheVariants.{Table, Parted, Same, Different, Unknown}
use Rattle.lines.specs.declared.words.Word.{Word}
use Rattle.lines.specs.Words.{letters}
use Rattle.statements.specs.Requests.{Requested, plain, chain, part, ask}
use Rattle.serving.specs.Chaining.{Converting, front_after, room_for}
use Rattle.serving.specs.Serving.{Served, or_refusal, replied, shelf_after, strip_after}

-- the reply to a word that was kept: the part's number, and both weights as they are shown
abbrev pub parted : {K : Type 0} → (K → Option ℤ) → answers.Parted K → Reply
parted shown x = Parted x.part (shown x.first) (shown x.second)

-- r tells what is known of two tables; a part is told by its number and the letters of its word
abbrev pub Tells : List Kept → Result Comparison Fault → Result Reply Fault → Type 0
Tells ps (Err f) r = r ≡ Err f
Tells ps (Ok comparison.Same) r = r ≡ Ok Same
Tells ps (Ok (comparison.Different p)) r = (w : Word) × ((r ≡ Ok (Different p w)) × (letters w ≡ map letter_of (part_of ps p).word))
Tells ps (Ok comparison.Unknown) r = r ≡ Ok Unknown

-- ---- a chain is converted in a run of so many numbers, and its table is entered
module _ {K : Type 0} (N : Numbers K) (by : Converting K) (m : Model) (shelf : List K) (size n scale : ℕ) (letters : List ℕ) (numbers : List K) where
  -- why it is refused before its table is entered, and the run of its table
  abbrev pub chain_refusal : Option Fault
  chain_refusal = by.refuses m.events n scale letters numbers size

  abbrev pub chain_table : List K
  chain_table = by.converted m.events n letters numbers

  -- the answer, and ledger and shelf afterwards
  abbrev pub chain_answer : Result Reply Fault
  chain_answer = then (or_refused chain_refusal (tt {0})) (λ _. replied Table (enter_answer N m shelf n chain_table))

  abbrev pub chain_ledger : Model
  chain_ledger = or_kept chain_refusal m (enter_ledger N m shelf n chain_table)

  abbrev pub chain_shelf : List K
  chain_shelf = or_kept chain_refusal shelf (enter_shelf N m shelf n chain_table)

-- the scratch has so many numbers for weighing, and so many for the table of a chain
module _ {K : Type 0} (N : Numbers K) (shown : K → Option ℤ) (by : Converting K) (m : Model) (shelf : List K) (strip room : ℕ) where
  -- the answer to a line, and the ledger afterwards: a line that is refused keeps its refusal, any other is answered by the call that it asks for
  abbrev pub RequestServed : Result (Requested K) Fault → Result Reply Fault → Model → Type 0
  RequestServed (Err e) r after = (r ≡ Err e) × (after ≡ m)
  RequestServed (Ok (plain a)) r after = Served N shown m shelf strip (Ok a) r after
  RequestServed (Ok (chain n scale letters numbers)) r after =
      (r ≡ chain_answer N by m shelf (room_for n m.events room) n scale letters numbers) × (after ≡ chain_ledger N by m shelf (room_for n m.events room) n scale letters numbers)
  RequestServed (Ok (part a b word)) r after = (r ≡ replied (parted shown) (part_answer N m shelf a b word strip)) × (after ≡ part_ledger N m shelf a b word strip)
  RequestServed (Ok (ask a b)) r after = Tells m.parts (ask_answer m.lines m.parts a b) r × (after ≡ m)

  -- the reply to a line: its answer, or its refusal
  abbrev pub RequestReplied : Result (Requested K) Fault → Reply → Model → Type 0
  RequestReplied told r after = (answer : Result Reply Fault) × (RequestServed told answer after × (r ≡ or_refusal answer))

  -- only entering a table changes the shelf
  abbrev pub request_shelf : Result (Requested K) Fault → List K
  request_shelf (Err e) = shelf
  request_shelf (Ok (plain a)) = shelf_after N m shelf (Ok a)
  request_shelf (Ok (chain n scale letters numbers)) = chain_shelf N by m shelf (room_for n m.events room) n scale letters numbers
  request_shelf (Ok (part a b word)) = shelf
  request_shelf (Ok (ask a b)) = shelf

-- weighing clears the scratch, for a word that is to be kept too
abbrev pub request_strip : {K : Type 0} → Numbers K → List K → Result (Requested K) Fault → List K
request_strip N strip (Err e) = strip
request_strip N strip (Ok (plain a)) = strip_after N strip (Ok a)
request_strip N strip (Ok (chain n scale letters numbers)) = strip
request_strip N strip (Ok (part a b word)) = cleared N strip
request_strip N strip (Ok (ask a b)) = strip

-- the table of a chain is written to the scratch for it
abbrev pub table_after : {K : Type 0} → Converting K → ℕ → List K → Result (Requested K) Fault → List K
table_after by k table (Ok (chain n scale letters numbers)) = front_after (by.refuses k n scale letters numbers (room_for n k (length table))) (room_for n k (length table)) table (by.converted k n letters numbers)
table_after by k table (Ok (plain a)) = table
table_after by k table (Ok (part a b word)) = table
table_after by k table (Ok (ask a b)) = table
table_after by k table (Err e) = table
