-- One turn of the search for the lowest part between two classes.
use Rattle.std.proofs.Common.{◌≡◌, ℕ, ◌+◌, ◌-◌, ◌<◌, ◌≤◌, Bool, true, false, not, length, get_or, take, drop, Some, sym, ap, ◌∙◌, subst, arith}
use lib.ListN.{length-map}
use Rattle.std.proofs.lemmas.List.{get_or-map}
use Rattle.tables.specs.Firsts.{first_failing}
use Rattle.tables.proofs.Firsts.{first_here, first_later}
use Rattle.tables.proofs.Limits.{one_to_parts}
use Rattle.ledger.specs.declared.ledger.Ledger.{Ledger}
use Rattle.ledger.specs.declared.part.Part.{Part}
use Rattle.ledger.specs.Ask.{between, lowest_between, pairs}
use Rattle.ledger.specs.Lines.{class_of}
use Rattle.ledger.specs.Parts.{is_part, no_part}
use Rattle.ledger.specs.Stored.{meaning}
use Rattle.ledger.proofs.Held.{lines_in, parts_in}
use Rattle.ledger.proofs.Keeping.{IsPart, part_is}

-- the record at place i of those that are kept
module _ (l : Ledger) (i : ℕ) (q : Part) (lt : i < length (take l.kept l.parts.all)) (at : q ≡ get_or (take l.kept l.parts.all) i q) where
  inside : i < length (parts_in l)
  inside = omega (arith, length-map (take l.kept l.parts.all) meaning)

  held : (d : _) → meaning q ≡ get_or (parts_in l) i d
  held d = ap meaning at ∙ sym (get_or-map meaning (take l.kept l.parts.all) i q d lt)

  -- its tables are in the book
  part_held : IsPart l.events.count l.tables (meaning q)
  part_held =
      let back : i + 1 - 1 ≡ i = omega arith in
      let first : 1 ≤ i + 1 = omega arith in
      part_is l.events.count l.tables (meaning q) (ap (is_part l.events.count l.tables) (held no_part ∙ ap (λ j. get_or (parts_in l) j no_part) (sym back)) ∙ l.parted (i + 1) (first, omega (arith, inside)))

  pub first_there : (u : ℕ) → u ≡ q.first → (1 ≤ u) × (u ≤ l.tables)
  first_there u e = subst (λ t. (1 ≤ t) × (t ≤ l.tables)) (sym e) (one_to_parts l.tables q.first part_held.first)

  pub second_there : (v : ℕ) → v ≡ q.second → (1 ≤ v) × (v ≤ l.tables)
  second_there v e = subst (λ t. (1 ≤ t) × (t ≤ l.tables)) (sym e) (one_to_parts l.tables q.second part_held.second)

  module _ (x y a b u v : ℕ) (first : a ≡ q.first) (second : b ≡ q.second) (class_a : u ≡ class_of (lines_in l) a) (class_b : v ≡ class_of (lines_in l) b) (t : Bool) (test : t ≡ pairs u v x y) where
    -- what is left to search from place j on
    abbrev pub Rest : ℕ → Type 0
    Rest j = first_failing (λ p. not (between (lines_in l) x y p)) (j + 1) (drop j (parts_in l)) ≡ lowest_between (lines_in l) (parts_in l) x y

    tested : between (lines_in l) x y (meaning q) ≡ t
    tested = sym (test ∙ ap (λ c. pairs c v x y) (class_a ∙ ap (class_of (lines_in l)) first) ∙ ap (λ c. pairs (class_of (lines_in l) q.first) c x y) (class_b ∙ ap (class_of (lines_in l)) second))

    -- it lies between the classes, or else the search goes on
    pub found_here : Rest i → t ≡ true → Some (i + 1) ≡ lowest_between (lines_in l) (parts_in l) x y
    found_here inv yes' = sym (first_here (λ p. not (between (lines_in l) x y p)) (parts_in l) i (meaning q) inside (held _) (ap not (tested ∙ yes'))) ∙ inv

    pub goes_on : Rest i → t ≡ false → Rest (i + 1)
    goes_on inv no' = first_later (λ p. not (between (lines_in l) x y p)) (parts_in l) i (meaning q) inside (held _) (ap not (tested ∙ no')) ∙ inv
