-- Merged classes are named by their smallest table, and the tables stay where they lie.
use Rattle.std.proofs.Common.{◌≡◌, ℕ, ◌+◌, ◌-◌, ◌<◌, ◌≤◌, min, max, Bool, true, false, cond, eqb, leb, ◌⊎◌, List, [], ◌∷◌, ◌++◌, map, length, take, drop, sym, refl, ap, ◌∙◌, subst, ap₂, Some, inl, inr, ⊎_elim, arith, length-append, length-drop, length-take}
use lib.ListN.{length-map}
use Rattle.std.proofs.lemmas.List.{get_or-map, take_at, take-map}
use Rattle.std.proofs.lemmas.Bool.{and_parts, cases_eq, cases_lt, cond-false, cond-true, eq-eqb, leb-true, ne_eqb}
use Rattle.tables.specs.Shape.{one_to, table_size}
use Rattle.ledger.specs.declared.line.Line.{Line}
use Rattle.ledger.specs.Classes.{merged, relabelled, with_class}
use Rattle.ledger.specs.Lines.{Has, Named, Packed, Sized, Sound, blank, class_of, line_of, most_tables, used}
use Rattle.tables.proofs.Limits.{one_to_from, one_to_parts}
use Rattle.ledger.specs.declared.ledger.Ledger.{Ledger}
use Rattle.ledger.specs.Standing.{LineFound}
use Rattle.ledger.proofs.Held.{lines_held, lines_in}

-- ---- one line
-- the name of a class after a move
abbrev pub moved : ℕ → ℕ → ℕ → ℕ
moved from to n = cond (eqb n from) to n

pub moved_there : (from to n : ℕ) → n ≡ from → moved from to n ≡ to
moved_there from to n e = cond-true (eqb n from) to n (eq-eqb n from e)

pub moved_not : (from to n : ℕ) → (n ≡ from → ⊥) → moved from to n ≡ n
moved_not from to n e = cond-false (eqb n from) to n (ne_eqb n from e)

module _ (from to : ℕ) (l : Line) where
  class_moved : (relabelled from to l).class ≡ moved from to l.class
  class_moved = go (eqb l.class from)
    where
      go : (t : Bool) → (cond t (with_class l to) l).class ≡ cond t to l.class
      go true = refl
      go false = refl

  states_stay : (relabelled from to l).states ≡ l.states
  states_stay = go (eqb l.class from)
    where
      go : (t : Bool) → (cond t (with_class l to) l).states ≡ l.states
      go true = refl
      go false = refl

  place_stays : (relabelled from to l).place ≡ l.place
  place_stays = go (eqb l.class from)
    where
      go : (t : Bool) → (cond t (with_class l to) l).place ≡ l.place
      go true = refl
      go false = refl

-- ---- all lines
module _ (from to : ℕ) (ls : List Line) where
  pub has_still : (i : ℕ) → Has (map (relabelled from to) ls) i → Has ls i
  has_still i h = (h.0, let long = length-map ls (relabelled from to) in let high = h.1 in omega arith)

  line_moved : (i : ℕ) → Has ls i → line_of (map (relabelled from to) ls) i ≡ relabelled from to (line_of ls i)
  line_moved i h = let low = h.0 in let high = h.1 in get_or-map (relabelled from to) ls (i - 1) blank blank (omega arith)

  pub class_relabelled : (i : ℕ) → Has ls i → class_of (map (relabelled from to) ls) i ≡ moved from to (class_of ls i)
  class_relabelled i h = ap (λ (l : Line). l.class) (line_moved i h) ∙ class_moved from to (line_of ls i)

  sized_still : Sized ls → Sized (map (relabelled from to) ls)
  sized_still sized i h =
      let e : (line_of (map (relabelled from to) ls) i).states ≡ (line_of ls i).states = ap (λ (l : Line). l.states) (line_moved i (has_still i h)) ∙ states_stay from to (line_of ls i) in
      let s = sized i (has_still i h) in
      let low = s.0 in
      let high = s.1 in
      (omega arith, omega arith)

used_still : (k from to : ℕ) (ls : List Line) → used k (map (relabelled from to) ls) ≡ used k ls
used_still k from to [] = refl
used_still k from to (l ∷ ls) = ap₂ ◌+◌ (ap (λ n. table_size n k) (states_stay from to l)) (used_still k from to ls)

packed_still : (k from to : ℕ) (ls : List Line) → Packed k ls → Packed k (map (relabelled from to) ls)
packed_still k from to ls packed i h =
    ap (λ (l : Line). l.place) (line_moved from to ls i (has_still from to ls i h))
    ∙ place_stays from to (line_of ls i)
    ∙ packed i (has_still from to ls i h)
    ∙ ap (λ u. 1 + u) (sym (ap (used k) (take-map (relabelled from to) (i - 1) ls) ∙ used_still k from to (take (i - 1) ls)))

-- ---- the names of classes
module _ (ls : List Line) (hi lo : ℕ) (order : lo ≤ hi) (some : 1 ≤ lo) (within : hi ≤ length ls) (name : class_of ls lo ≡ lo) (named : Named ls) where
  named_relabelled : Named (map (relabelled hi lo) ls)
  named_relabelled i h = ⊎_elim here away (cases_eq (class_of ls i) hi)
    where
      has : Has ls i
      has = has_still hi lo ls i h

      bounds : (1 ≤ class_of ls i) × (class_of ls i ≤ i)
      bounds = let p = and_parts (leb 1 (class_of ls i)) (leb (class_of ls i) i) (named i has).0 in (leb-true 1 (class_of ls i) p.0, leb-true (class_of ls i) i p.1)

      Goal : Type 0
      Goal = (one_to i (class_of (map (relabelled hi lo) ls) i) ≡ true) × (class_of (map (relabelled hi lo) ls) (class_of (map (relabelled hi lo) ls) i) ≡ class_of (map (relabelled hi lo) ls) i)

      here : class_of ls i ≡ hi → Goal
      here e =
          let k : class_of (map (relabelled hi lo) ls) i ≡ lo = class_relabelled hi lo ls i has ∙ moved_there hi lo (class_of ls i) e in
          let below = bounds.1 in
          let again : moved hi lo lo ≡ lo = ⊎_elim (moved_there hi lo lo) (moved_not hi lo lo) (cases_eq lo hi) in (
            ap (one_to i) k ∙ one_to_from i lo some (omega arith),
            ap (class_of (map (relabelled hi lo) ls)) k ∙ class_relabelled hi lo ls lo (some, omega arith) ∙ ap (moved hi lo) name ∙ again ∙ sym k,
          )

      away : (class_of ls i ≡ hi → ⊥) → Goal
      away e =
          let k : class_of (map (relabelled hi lo) ls) i ≡ class_of ls i = class_relabelled hi lo ls i has ∙ moved_not hi lo (class_of ls i) e in
          let low = bounds.0 in
          let below = bounds.1 in
          let high = has.1 in (
            ap (one_to i) k ∙ (named i has).0,
            ap (class_of (map (relabelled hi lo) ls)) k ∙ class_relabelled hi lo ls (class_of ls i) (low, omega arith) ∙ ap (moved hi lo) (named i has).1 ∙ moved_not hi lo (class_of ls i) e ∙ sym k,
          )

-- what the name of a table's class is
pub class_bounds : (ls : List Line) (i : ℕ) → Named ls → Has ls i → (1 ≤ class_of ls i) × (class_of ls i ≤ i)
class_bounds ls i named has = let p = and_parts (leb 1 (class_of ls i)) (leb (class_of ls i) i) (named i has).0 in (leb-true 1 (class_of ls i) p.0, leb-true (class_of ls i) i p.1)

pub sound_merged : (k : ℕ) (ls : List Line) (a b : ℕ) → Has ls a → Has ls b → Sound k ls → Sound k (merged a b ls)
sound_merged k ls a b ha hb sound =
    let named = sound.named in
    let pa = class_bounds ls a named ha in
    let pb = class_bounds ls b named hb in
    let la = pa.0 in
    let ua = pa.1 in
    let lb = pb.0 in
    let ub = pb.1 in
    let va = ha.1 in
    let vb = hb.1 in
    let x = class_of ls a in
    let y = class_of ls b in
    let low : (min (class_of ls a) (class_of ls b) ≡ class_of ls a) ⊎ (min (class_of ls a) (class_of ls b) ≡ class_of ls b) = ⊎_elim (λ (h : class_of ls a < class_of ls b). inl (omega arith)) (λ (h : class_of ls b ≤ class_of ls a). inr (omega arith)) (cases_lt (class_of ls a) (class_of ls b)) in
    let name : class_of ls (min (class_of ls a) (class_of ls b)) ≡ min (class_of ls a) (class_of ls b) = ⊎_elim (λ e. ap (class_of ls) e ∙ (named a ha).1 ∙ sym e) (λ e. ap (class_of ls) e ∙ (named b hb).1 ∙ sym e) low in
    record {
      named = named_relabelled ls (max (class_of ls a) (class_of ls b)) (min (class_of ls a) (class_of ls b)) (omega arith) (omega arith) (omega arith) name named;
      sized = sized_still (max (class_of ls a) (class_of ls b)) (min (class_of ls a) (class_of ls b)) ls sound.sized;
      packed = packed_still k (max (class_of ls a) (class_of ls b)) (min (class_of ls a) (class_of ls b)) ls sound.packed;
    }

-- ---- the lines of a ledger, of which the classes of two tables are merged
module _ (l : Ledger) (a b : ℕ) (first second : Line) (one : LineFound (lines_in l) a (Some first)) (two : LineFound (lines_in l) b (Some second)) (after : List Line) (is : after ≡ map (relabelled (max first.class second.class) (min first.class second.class)) (lines_in l) ++ drop l.tables l.lines.all) where
  here : take l.tables after ≡ merged a b (lines_in l)
  here =
      let size : length (map (relabelled (max first.class second.class) (min first.class second.class)) (lines_in l)) ≡ l.tables = length-map (lines_in l) _ ∙ lines_held l in
      ap (take l.tables) is
      ∙ take_at _ (drop l.tables l.lines.all) l.tables size
      ∙ ap₂ (λ (x : Line) (y : Line). map (relabelled (max x.class y.class) (min x.class y.class)) (lines_in l)) one.1 two.1

  pub merged_sound : Sound l.events.count (take l.tables after)
  merged_sound = subst (Sound l.events.count) (sym here) (sound_merged l.events.count (lines_in l) a b (one_to_parts _ a one.0) (one_to_parts _ b two.0) l.sound)

  pub merged_whole : length after ≡ most_tables
  merged_whole = let few = l.few in let full = l.full in ap length is ∙ simp (length-append, length-map, length-take, length-drop) (omega arith)

-- ---- what a merge leaves as it was
pub merged_as_many : (a b : ℕ) (ls : List Line) → length (merged a b ls) ≡ length ls
merged_as_many a b ls = length-map ls (relabelled (max (class_of ls a) (class_of ls b)) (min (class_of ls a) (class_of ls b)))

pub line_merged : (a b : ℕ) (ls : List Line) (i : ℕ) → Has ls i → ((line_of (merged a b ls) i).states ≡ (line_of ls i).states) × ((line_of (merged a b ls) i).place ≡ (line_of ls i).place)
line_merged a b ls i has =
    let from = max (class_of ls a) (class_of ls b) in
    let to = min (class_of ls a) (class_of ls b) in
    let e = line_moved from to ls i has in
    (ap (λ (l : Line). l.states) e ∙ states_stay from to (line_of ls i), ap (λ (l : Line). l.place) e ∙ place_stays from to (line_of ls i))

pub used_merged : (k a b : ℕ) (ls : List Line) → used k (merged a b ls) ≡ used k ls
used_merged k a b ls = used_still k (max (class_of ls a) (class_of ls b)) (min (class_of ls a) (class_of ls b)) ls
