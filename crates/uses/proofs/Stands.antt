-- What stands after a use of a book: what a state satisfies, by the effects that led to it.
use Rattle.std.proofs.Common.{◌≡◌, ℕ, ◌≤◌, List, [], ◌∷◌, ◌++◌, length, drop, sym, refl, ap, ◌∙◌, ⊎_elim, arith}
use Rattle.kinds.specs.Numbers.{Numbers}
use Rattle.sheets.specs.Alike.{WordOver}
use Rattle.ledger.specs.Lines.{Has, class_of, used}
use Rattle.ledger.specs.Parts.{HasPart, Kept, part_of}
use Rattle.ledger.specs.Lines.{Sound}
use Rattle.uses.specs.Calls.{Effect, State}
use Rattle.uses.specs.History.{Joined, JoinedBy, Linked, opening, parts, table, tables}
use Rattle.uses.specs.Holds.{Entered, Table, table_at}
use Rattle.uses.specs.Law.{There, runs, weighs}
use Rattle.uses.proofs.Growing.{table_grows, there_grows}

-- two tables weigh every word over k events alike
abbrev pub WeighAlike : {K : Type 0} → Numbers K → ℕ → Table K → Table K → Type 0
WeighAlike N k t u = (w : List ℕ) → WordOver k w → weighs N t w ≡ weighs N u w

-- what is known of tables that were joined
pub record Shown {K : Type 0} (N : Numbers K) (k : ℕ) (es : List (Effect K)) (a b : ℕ) : Type 0 where
  pub first : There es a
  pub second : There es b
  pub alike : WeighAlike N k (table es a) (table es b)

-- what is known of a part
pub record Differs {K : Type 0} (N : Numbers K) (k : ℕ) (es : List (Effect K)) (q : Kept) : Type 0 where
  pub first : There es q.first
  pub second : There es q.second
  pub word : WordOver k q.word
  pub differ : weighs N (table es q.first) q.word ≡ weighs N (table es q.second) q.word → ⊥

-- ledger and shelf hold what was given, classes are what joins link, joined tables weigh alike, and the words of parts weigh differently
pub record Stands {K : Type 0} (N : Numbers K) (k : ℕ) (brought : List K) (es : List (Effect K)) (s : State K) : Type 0 where
  pub events : s.ledger.events ≡ k
  pub sound : Sound s.ledger.events s.ledger.lines
  pub entered : Entered N s.ledger s.shelf
  pub count : length s.ledger.lines ≡ length (tables es)
  pub holds : (i : ℕ) → Has s.ledger.lines i → table_at s.ledger s.shelf i ≡ table es i
  pub keeps : s.ledger.parts ≡ parts es
  pub filled : used s.ledger.events s.ledger.lines ≡ length (runs (tables es))
  pub shelf : s.shelf ≡ runs (tables es) ++ drop (length (runs (tables es))) brought
  pub classes : (a b : ℕ) → Joined es a b → class_of s.ledger.lines a ≡ class_of s.ledger.lines b
  pub links : (i : ℕ) → Has s.ledger.lines i → Linked es i (class_of s.ledger.lines i)
  pub shown : (a b : ℕ) → Joined es a b → Shown N k es a b
  pub differs : (p : ℕ) → HasPart (parts es) p → Differs N k es (part_of (parts es) p)

-- ---- one effect more leaves what is known of joins and parts
module _ {K : Type 0} (N : Numbers K) (k : ℕ) (e : Effect K) (es : List (Effect K)) where
  weighs_still : (i : ℕ) → There es i → (w : List ℕ) → weighs N (table (e ∷ es) i) w ≡ weighs N (table es i) w
  weighs_still i h w = ap (λ t. weighs N t w) (table_grows e es i h)

  pub shown_grows :
      ((a b : ℕ) → JoinedBy e a b → Shown N k (e ∷ es) a b)
      → ((a b : ℕ) → Joined es a b → Shown N k es a b)
      → (a b : ℕ) → Joined (e ∷ es) a b → Shown N k (e ∷ es) a b
  shown_grows new old a b =
      ⊎_elim (new a b)
      (λ j. let o = old a b j in record {
        first = there_grows e es a o.first;
        second = there_grows e es b o.second;
        alike = λ w all. weighs_still a o.first w ∙ o.alike w all ∙ sym (weighs_still b o.second w);
      })

  pub differs_grows : (q : Kept) → Differs N k es q → Differs N k (e ∷ es) q
  differs_grows q o = record {
    first = there_grows e es q.first o.first;
    second = there_grows e es q.second o.second;
    word = o.word;
    differ = λ z. o.differ (sym (weighs_still q.first o.first q.word) ∙ z ∙ weighs_still q.second o.second q.word);
  }

-- ---- what follows of a state
module _ {K : Type 0} {N : Numbers K} {k : ℕ} {brought : List K} {es : List (Effect K)} {s : State K} (st : Stands N k brought es s) where
  pub has : (i : ℕ) → There es i → Has s.ledger.lines i
  has i h = (h.0, let c = st.count in let x = h.1 in omega arith)

  pub there : (i : ℕ) → Has s.ledger.lines i → There es i
  there i h = (h.0, let c = st.count in let x = h.1 in omega arith)

  -- a table in the book weighs what it weighs as it was given
  pub weighs_given : (i : ℕ) → Has s.ledger.lines i → (w : List ℕ) → weighs N (table_at s.ledger s.shelf i) w ≡ weighs N (table es i) w
  weighs_given i h w = ap (λ t. weighs N t w) (st.holds i h)

-- ---- a book that was just opened
none : (i : ℕ) → (1 ≤ i) × (i ≤ 0) → ⊥
none i h = let low = h.0 in let high = h.1 in omega arith

pub stands_opened : {K : Type 0} (N : Numbers K) (k : ℕ) (brought : List K) → Stands N k brought [] (opening k brought)
stands_opened N k brought = record {
  events = refl;
  sound = record { named = λ i h. absurd (none i h); sized = λ i h. absurd (none i h); packed = λ i h. absurd (none i h) };
  entered = record { within = omega arith; entries = λ i low high. absurd (none i (low, high)) };
  count = refl;
  holds = λ i h. absurd (none i h);
  keeps = refl;
  filled = refl;
  shelf = refl;
  classes = λ a b j. absurd j;
  links = λ i h. absurd (none i h);
  shown = λ a b j. absurd j;
  differs = λ p h. absurd (none p h);
}
