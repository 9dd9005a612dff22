-- What the answer of ask says in a state that stands.
use Rattle.std.proofs.Common.{◌≡◌, ℕ, ◌-◌, ◌≤◌, Bool, true, not, ◌&&◌, eqb, ◌⊎◌, List, length, Some, None, Ok, Option, sym, refl, ap, ◌∙◌, subst, inl, inr, ⊎_elim, arith, MatchOption}
use Rattle.std.proofs.ByRecursion.{All-get_or}
use Rattle.std.proofs.lemmas.Bool.{and_from, and_parts, both_ways, cases_eq, cases_lt, cond-false, cond-true, eq-eqb, eqb-true, ne_eqb, not-false, not-true, or_cases, or_left, or_right}
use Rattle.kinds.specs.declared.fault.Refusal.TheVariants.{NoSuchTable}
use Rattle.kinds.specs.Faults.{fault_at}
use Rattle.kinds.specs.Numbers.{Numbers}
use Rattle.kinds.proofs.Refusing.{answered, test_passed}
use Rattle.tables.specs.Firsts.{AllPass, FirstFailing}
use Rattle.tables.proofs.Firsts.{first_is_first}
use Rattle.tables.proofs.Limits.{one_to_from}
use Rattle.ledger.specs.declared.asking.Comparison.{Comparison}
use Rattle.ledger.specs.declared.asking.Comparison.TheVariants.{Same, Different, Unknown}
use Rattle.ledger.specs.Ask.{between, by_part, compared, lowest_between, pairs}
use Rattle.ledger.specs.Lines.{class_of}
use Rattle.ledger.specs.Parts.{HasPart, Kept, no_part, part_of}
use Rattle.uses.specs.Calls.{Effect, State}
use Rattle.uses.specs.History.{Between, Linked, back, direct, itself, over, parts, table}
use Rattle.uses.specs.Law.{LowestBetween, There, asked, weighs}
use Rattle.uses.proofs.Growing.{linked_is}
use Rattle.uses.proofs.Stands.{Stands, WeighAlike, has}

-- ---- two numbers are two others, either way round
pairs_true : (u v x y : ℕ) → pairs u v x y ≡ true → ((u ≡ x) × (v ≡ y)) ⊎ ((u ≡ y) × (v ≡ x))
pairs_true u v x y e =
    ⊎_elim
    (λ z. let t = and_parts (eqb u x) (eqb v y) z in inl (eqb-true u x t.0, eqb-true v y t.1))
    (λ z. let t = and_parts (eqb u y) (eqb v x) z in inr (eqb-true u y t.0, eqb-true v x t.1))
    (or_cases (eqb u x && eqb v y) (eqb u y && eqb v x) e)

true_pairs : (u v x y : ℕ) → ((u ≡ x) × (v ≡ y)) ⊎ ((u ≡ y) × (v ≡ x)) → pairs u v x y ≡ true
true_pairs u v x y =
    ⊎_elim
    (λ z. or_left (eqb u x && eqb v y) (eqb u y && eqb v x) (and_from (eqb u x) (eqb v y) (eq-eqb u x z.0) (eq-eqb v y z.1)))
    (λ z. or_right (eqb u x && eqb v y) (eqb u y && eqb v x) (and_from (eqb u y) (eqb v x) (eq-eqb u y z.0) (eq-eqb v x z.1)))

-- a part that stands between two tables stands between them the other way round
pub turned : {K : Type 0} (es : List (Effect K)) (p i j : ℕ) → Between es p i j → Between es p j i
turned es p i j b = record { some = b.some; there = b.there; links = ⊎_elim inr inl b.links }

-- ---- what an answer says of tables i and j
abbrev pub Says : {K : Type 0} → List (Effect K) → ℕ → ℕ → Comparison → Type 0
Says es i j Same = Linked es i j
Says es i j (Different p) = LowestBetween es p i j
Says es i j Unknown = (Linked es i j → ⊥) × ((p : ℕ) → Between es p i j → ⊥)

module _ {K : Type 0} {N : Numbers K} {k : ℕ} {brought : List K} {es : List (Effect K)} {s : State K} (st : Stands N k brought es s) where
  abbrev class : ℕ → ℕ
  class = class_of s.ledger.lines

  -- ---- linked tables are those of one class, and weigh alike
  linked_class : {a b : ℕ} → Linked es a b → class a ≡ class b
  linked_class itself = refl
  linked_class (direct j) = st.classes _ _ j
  linked_class (back l) = sym (linked_class l)
  linked_class (over l m) = linked_class l ∙ linked_class m

  class_linked : (a b : ℕ) → There es a → There es b → class a ≡ class b → Linked es a b
  class_linked a b ta tb e =
      let own : (i : ℕ) → There es i → Linked es i (class i) = λ i t. st.links i (has st i t) in
      over (own a ta) (over (linked_is es e) (back (own b tb)))

  pub linked_alike : {a b : ℕ} → Linked es a b → WeighAlike N k (table es a) (table es b)
  linked_alike itself w all = refl
  linked_alike (direct j) w all = (st.shown _ _ j).alike w all
  linked_alike (back l) w all = sym (linked_alike l w all)
  linked_alike (over l m) w all = linked_alike l w all ∙ linked_alike m w all

  -- the word of a part between two tables weighs differently in them
  pub between_differs : (p i j : ℕ) → Between es p i j → weighs N (table es i) (part_of (parts es) p).word ≡ weighs N (table es j) (part_of (parts es) p).word → ⊥
  between_differs p i j b same =
      let d = st.differs p (b.some, b.there) in
      let w = (part_of (parts es) p).word in
      d.differ
      (⊎_elim
      (λ l. linked_alike l.0 w d.word ∙ same ∙ sym (linked_alike l.1 w d.word))
      (λ l. linked_alike l.0 w d.word ∙ sym same ∙ sym (linked_alike l.1 w d.word))
      b.links)

  pub no_part_between : (p i j : ℕ) → Linked es i j → Between es p i j → ⊥
  no_part_between p i j l b = between_differs p i j b (linked_alike l (part_of (parts es) p).word (st.differs p (b.some, b.there)).word)

  module _ (i j : ℕ) (ti : There es i) (tj : There es j) where
    abbrev test : Kept → Bool
    test = between s.ledger.lines (class i) (class j)

    -- the ledger's test of a part tells whether it stands between the tables
    told : (p : ℕ) → HasPart (parts es) p → test (part_of (parts es) p) ≡ true → Between es p i j
    told p h e =
        let q = part_of (parts es) p in
        let d = st.differs p h in
        record {
          some = h.0;
          there = h.1;
          links =
              ⊎_elim
              (λ z. inl (class_linked q.first i d.first ti z.0, class_linked q.second j d.second tj z.1))
              (λ z. inr (class_linked q.first j d.first tj z.0, class_linked q.second i d.second ti z.1))
              (pairs_true (class q.first) (class q.second) (class i) (class j) e);
        }

    tests : (p : ℕ) → Between es p i j → test (part_of (parts es) p) ≡ true
    tests p b =
        let q = part_of (parts es) p in
        true_pairs (class q.first) (class q.second) (class i) (class j)
        (⊎_elim (λ l. inl (linked_class l.0, linked_class l.1)) (λ l. inr (linked_class l.0, linked_class l.1)) b.links)

    -- what the search for a part between two classes finds
    found : (class i ≡ class j → ⊥) → (o : Option ℕ) → MatchOption o (AllPass (λ q. not (test q)) (parts es)) (FirstFailing (λ q. not (test q)) no_part (parts es)) → Says es i j (by_part o)
    found apart None all = (
      λ l. apart (linked_class l),
      λ p b.
          let low = b.some in
          let high = b.there in
          both_ways _ (not-true _ (All-get_or (λ q. not (test q) ≡ true) (parts es) (p - 1) no_part (omega arith) all)) (tests p b),
    )
    found apart (Some p) first = (
      told p (first.some, first.inside) (not-false _ first.fails),
      λ q lt b. both_ways _ (not-true _ (first.before q b.some lt)) (tests q b),
    )

    -- two tables of the book are not refused
    compares : asked s i j ≡ Ok (compared s.ledger.lines (parts es) i j)
    compares =
        let in-book : (a : ℕ) → There es a → _ = λ a t. let h = has st a t in one_to_from (length s.ledger.lines) a h.0 h.1 in
        answered _ (compared s.ledger.lines s.ledger.parts i j) (test_passed _ (fault_at NoSuchTable 1) _ (in-book i ti) ∙ test_passed _ (fault_at NoSuchTable 2) None (in-book j tj))
        ∙ ap (λ ps. Ok (compared s.ledger.lines ps i j)) st.keeps

    -- the answer, and what it says
    pub said : (c : Comparison) × (asked s i j ≡ Ok c) × Says es i j c
    said =
        let o = lowest_between s.ledger.lines (parts es) (class i) (class j) in
        ⊎_elim
        (λ e. (Same, compares ∙ ap Ok (cond-true (eqb (class i) (class j)) Same (by_part o) (eq-eqb (class i) (class j) e)), class_linked i j ti tj e))
        (λ ne. (
          by_part o,
          compares ∙ ap Ok (cond-false (eqb (class i) (class j)) Same (by_part o) (ne_eqb (class i) (class j) ne)),
          found ne o (first_is_first (λ q. not (test q)) no_part (parts es) o refl),
        ))
        (cases_eq (class i) (class j))

    -- each answer says what it says
    pub says : (c : Comparison) → asked s i j ≡ Ok c → Says es i j c
    says c e = let a = said in let d = a.0 in let is = a.1 in let same : d ≡ c = cc in subst (Says es i j) same a.2

    -- linked tables are the same, and tables with a part between them are different
    pub linked_same : Linked es i j → asked s i j ≡ Ok Same
    linked_same l = let a = said in by a.0 a.1 a.2
      where
        by : (c : Comparison) → asked s i j ≡ Ok c → Says es i j c → asked s i j ≡ Ok Same
        by Same e o = e
        by (Different p) e o = absurd (no_part_between p i j l o.0)
        by Unknown e o = absurd (o.0 l)

    pub between_different : (p : ℕ) → Between es p i j → (q : ℕ) × (q ≤ p) × (asked s i j ≡ Ok (Different q))
    between_different p b = let a = said in by a.0 a.1 a.2
      where
        by : (c : Comparison) → asked s i j ≡ Ok c → Says es i j c → (q : ℕ) × (q ≤ p) × (asked s i j ≡ Ok (Different q))
        by Same e o = absurd (no_part_between p i j o b)
        by (Different q) e o = (q, ⊎_elim (λ lt. absurd (o.1 p lt b)) (λ ge. ge) (cases_lt p q), e)
        by Unknown e o = absurd (o.1 p b)

    pub lowest_different : (p : ℕ) → LowestBetween es p i j → asked s i j ≡ Ok (Different p)
    lowest_different p l =
        let d = between_different p l.0 in
        let q = d.0 in
        let at = d.1 in
        let same : q ≡ p = ⊎_elim (λ lt. absurd (l.1 q lt (says (Different q) d.2).0)) (λ ge. omega arith) (cases_lt q p) in
        d.2 ∙ ap (λ n. Ok (Different n)) same
