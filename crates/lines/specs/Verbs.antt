-- The verb of a line.
use Rattle.std.specs.Prelude.{ℕ, cond, List, [], ◌∷◌, Some, None, codes, Option}
use Rattle.std.specs.Str.{bytes_eq}
use Rattle.lines.specs.declared.verbs.Verb.{Verb}
use Rattle.lines.specs.declared.verbs.Verb.TheVariants.{Book, Table, Join, Weigh}

-- the verb that a field names
abbrev pub verb_named : List ℕ → Option Verb
verb_named s =
    cond (bytes_eq s (codes "book")) (Some Book)
    (cond (bytes_eq s (codes "table")) (Some Table)
    (cond (bytes_eq s (codes "join")) (Some Join)
    (cond (bytes_eq s (codes "weigh")) (Some Weigh) None)))

-- what the first field names
abbrev pub named_first : {V : Type 0} → (List ℕ → Option V) → List (List ℕ) → Option V
named_first named [] = None
named_first named (v ∷ fs) = named v

-- a line's verb is its first field
abbrev pub verb_of : List (List ℕ) → Option Verb
verb_of fs = named_first verb_named fs

-- the fields behind the verb
abbrev pub behind_verb : List (List ℕ) → List (List ℕ)
behind_verb [] = []
behind_verb (v ∷ fs) = fs
