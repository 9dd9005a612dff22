-- What a use tells only grows: nothing that follows takes it back.
use Rattle.std.proofs.Common.{◌≡◌, ℕ, ◌-◌, ◌≤◌, Bool, true, false, cond, ◌⊎◌, List, [], ◌∷◌, ◌++◌, length, get_or, Some, None, Option, sym, refl, ap, ◌∙◌, subst, inl, inr, ⊎_elim, arith, length-append}
use Rattle.std.proofs.lemmas.List.{append-nil, get_or_append_left}
use Rattle.kinds.specs.Numbers.{Numbers}
use Rattle.ledger.specs.Parts.{HasPart, Kept, no_part, part_of}
use Rattle.uses.specs.Calls.{Effect, State, effect_of, entered, joined, kept}
use Rattle.uses.specs.History.{Between, History, Leads, Linked, back, direct, itself, no_table, onto, over, parts, standing, table, tables}
use Rattle.uses.specs.Holds.{Table}
use Rattle.uses.specs.Law.{There}

-- a place, counted from 1, of a list that gets longer
module _ {A : Type 0} (old more new : List A) (is : new ≡ old ++ more) (i : ℕ) (low : 1 ≤ i) (high : i ≤ length old) where
  still_inside : i ≤ length new
  still_inside = let size = ap length is ∙ length-append old more in omega arith

  still_there : (d : A) → get_or new (i - 1) d ≡ get_or old (i - 1) d
  still_there d = ap (λ xs. get_or xs (i - 1) d) is ∙ get_or_append_left old more d (i - 1) (omega arith)

-- the tables and parts that an effect adds
tables_of : {K : Type 0} (e : Effect K) (es : List (Effect K)) → (more : List (Table K)) × (tables (e ∷ es) ≡ tables es ++ more)
tables_of (entered n run) es = (record { states = n; run = run } ∷ [], refl)
tables_of (joined a b) es = ([], sym (append-nil (tables es)))
tables_of (kept a b w) es = ([], sym (append-nil (tables es)))

parts_of : {K : Type 0} (e : Effect K) (es : List (Effect K)) → (more : List Kept) × (parts (e ∷ es) ≡ parts es ++ more)
parts_of (entered n run) es = ([], sym (append-nil (parts es)))
parts_of (joined a b) es = ([], sym (append-nil (parts es)))
parts_of (kept a b w) es = (_, refl)

-- the two tables of a part are linked to tables i and j
abbrev Links : {K : Type 0} → List (Effect K) → ℕ → ℕ → Kept → Type 0
Links es i j q = (Linked es q.first i × Linked es q.second j) ⊎ (Linked es q.first j × Linked es q.second i)

-- one name for one table
pub linked_is : {K : Type 0} (es : List (Effect K)) {a b : ℕ} → a ≡ b → Linked es a b
linked_is es {a} e = subst (Linked es a) e itself

-- ---- one effect more
module _ {K : Type 0} (e : Effect K) (es : List (Effect K)) where
  pub there_grows : (i : ℕ) → There es i → There (e ∷ es) i
  there_grows i h = let m = tables_of e es in (h.0, still_inside (tables es) m.0 (tables (e ∷ es)) m.1 i h.0 h.1)

  pub table_grows : (i : ℕ) → There es i → table (e ∷ es) i ≡ table es i
  table_grows i h = let m = tables_of e es in still_there (tables es) m.0 (tables (e ∷ es)) m.1 i h.0 h.1 no_table

  pub part_grows : (p : ℕ) → HasPart (parts es) p → HasPart (parts (e ∷ es)) p × (part_of (parts (e ∷ es)) p ≡ part_of (parts es) p)
  part_grows p h =
      let m = parts_of e es in (
        (h.0, still_inside (parts es) m.0 (parts (e ∷ es)) m.1 p h.0 h.1),
        still_there (parts es) m.0 (parts (e ∷ es)) m.1 p h.0 h.1 no_part,
      )

  pub linked_grows : {a b : ℕ} → Linked es a b → Linked (e ∷ es) a b
  linked_grows itself = itself
  linked_grows (direct j) = direct (inr j)
  linked_grows (back l) = back (linked_grows l)
  linked_grows (over l m) = over (linked_grows l) (linked_grows m)

  both_grow : {a b c d : ℕ} → Linked es a b × Linked es c d → Linked (e ∷ es) a b × Linked (e ∷ es) c d
  both_grow l = (linked_grows l.0, linked_grows l.1)

  pub between_grows : (p i j : ℕ) → Between es p i j → Between (e ∷ es) p i j
  between_grows p i j b =
      let grown = part_grows p (b.some, b.there) in
      record {
        some = b.some;
        there = grown.0.1;
        links = subst (Links (e ∷ es) i j) (sym grown.1) (⊎_elim (λ l. inl (both_grow l)) (λ l. inr (both_grow l)) b.links);
      }

-- ---- more calls
module _ {K : Type 0} (P : List (Effect K) → Type 0) (grows : (e : Effect K) (es : List (Effect K)) → P es → P (e ∷ es)) where
  next : (ok : Bool) (o : Option (Effect K)) (es : List (Effect K)) → P es → P (cond ok (onto o es) es)
  next true (Some e) es p = grows e es p
  next true None es p = p
  next false o es p = p

  -- what each effect leaves true stays true, whatever calls follow
  pub later : (g h : History K) → P (standing h) → P (standing (g ++ h))
  later [] h p = p
  later (d ∷ g) h p = next d.ok (effect_of d.call) (standing (g ++ h)) (later g h p)

-- one history after another
pub leads_append : {K : Type 0} (N : Numbers K) (s : State K) (h : History K) (t : State K) (g : History K) (u : State K) → Leads N s h t → Leads N t g u → Leads N s (g ++ h) u
leads_append N s h t [] u l e = subst (Leads N s h) (sym e) l
leads_append N s h t (d ∷ g) u l k = (k.0, leads_append N s h t g k.0 l k.1, k.2, k.3)
