-- What a line that opens a book asks for, or why it is refused.
use Rattle.std.specs.Prelude.{ℕ, cond, List, [], ◌∷◌, Some, None, Ok, Err, codes, Option, Result}
use Rattle.std.specs.Str.{bytes_eq}
use Rattle.kinds.specs.declared.fault.Fault.{Fault}
use Rattle.kinds.specs.declared.fault.Refusal.TheVariants.{LineBounds, VerbNotServed, FieldCount}
use Rattle.kinds.specs.Faults.{fault, then}
use Rattle.lines.specs.declared.openings.KindName.{KindName}
use Rattle.lines.specs.declared.openings.KindName.TheVariants.{Count, Best}
use Rattle.lines.specs.declared.openings.Opening.{Opening}
use Rattle.lines.specs.declared.verbs.Verb.{Verb}
use Rattle.lines.specs.declared.verbs.Verb.TheVariants.{Book, Table, Join, Weigh}
use Rattle.text.specs.Split.{split}
use Rattle.text.specs.Numerals.{or_other_form, plain_at}
use Rattle.lines.specs.Verbs.{verb_of, behind_verb}

-- the kind that a field names
abbrev pub kind_named : List ℕ → Option KindName
kind_named s = cond (bytes_eq s (codes "count")) (Some Count) (cond (bytes_eq s (codes "best")) (Some Best) None)

-- the kind that the field at a place names
abbrev pub kind_at : List ℕ → ℕ → Result KindName Fault
kind_at s p = or_other_form (kind_named s) p

-- book,KIND,EVENTS: the fields behind the verb are counted before their forms are judged
abbrev pub book_of : List (List ℕ) → Result Opening Fault
book_of [] = Err (fault FieldCount)
book_of (k ∷ []) = Err (fault FieldCount)
book_of (k ∷ n ∷ []) = then (kind_at k 2) (λ kind. then (plain_at n 3) (λ events. Ok (record { kind = kind; events = events })))
book_of (k ∷ n ∷ f ∷ fs) = Err (fault FieldCount)

-- while no book is open, only the verb book is served
abbrev pub opening_by : Option Verb → List (List ℕ) → Result Opening Fault
opening_by (Some Book) fs = book_of fs
opening_by (Some Table) fs = Err (fault VerbNotServed)
opening_by (Some Join) fs = Err (fault VerbNotServed)
opening_by (Some Weigh) fs = Err (fault VerbNotServed)
opening_by None fs = Err (fault VerbNotServed)

-- a line while no book is open; none is a line that lacks its line feed or is too long
abbrev pub opening_of : Option (List ℕ) → Result Opening Fault
opening_of None = Err (fault LineBounds)
opening_of (Some text) = opening_by (verb_of (split text)) (behind_verb (split text))
