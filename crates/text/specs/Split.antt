-- A line's fields, parted by commas (byte 44).
use Rattle.std.specs.Prelude.{◌≡◌, ℕ, ◌<◌, false, cond, List, [], ◌∷◌, ◌++◌, length, Some, None, ◌==◌}
use Rattle.std.specs.List.{AllByRecursion}
use Rattle.text.specs.declared.fields.Fields.{Fields}

-- a byte in front of the first of some pieces
abbrev pub onto : ℕ → List (List ℕ) → List (List ℕ)
onto b [] = (b ∷ []) ∷ []
onto b (f ∷ fs) = (b ∷ f) ∷ fs

-- the fields of a line: at each comma one ends and the next begins
abbrev pub split : List ℕ → List (List ℕ)
split [] = [] ∷ []
split (b ∷ bs) = cond (b == 44) ([] ∷ split bs) (onto b (split bs))

-- the fields that a cursor has not handed out
abbrev pub left : Fields → List (List ℕ)
left f = elim f.rest [ Some s ↦ split s.now | None ↦ [] ]

-- a field, and behind a comma the fields that follow it
abbrev pub joined_behind : List ℕ → List (List ℕ) → List ℕ
joined_behind f [] = f
joined_behind f (g ∷ fs) = f ++ (44 ∷ joined_behind g fs)

-- fields joined by commas
abbrev pub joined : List (List ℕ) → List ℕ
joined [] = []
joined (f ∷ fs) = joined_behind f fs

-- fields without a comma in them, at least one, that make up the line when they are joined by commas: no other list is so
pub record AreFieldsOf (line : List ℕ) (fs : List (List ℕ)) : Type 0 where
  pub some : 0 < length fs
  pub whole : joined fs ≡ line
  pub plain : AllByRecursion (λ f. AllByRecursion (λ b. (b == 44) ≡ false) f) fs
