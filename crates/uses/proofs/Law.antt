-- The law of uses.
use Rattle.std.proofs.Common.{◌≡◌, ℕ, ◌≤◌, List, ◌++◌, length, Ok, sym, refl, ap, subst}
use Rattle.kinds.specs.Numbers.{Numbers}
use Rattle.tables.specs.Words.{longest_word}
use Rattle.tables.proofs.Limits.{one_to_from}
use Rattle.ledger.specs.declared.asking.Comparison.TheVariants.{Same, Different}
use Rattle.ledger.specs.Parts.{HasPart, part_of, spelled, word_answer, word_run}
use Rattle.ledger.proofs.Keeping.{word_copied}
use Rattle.uses.specs.Calls.{Effect, State}
use Rattle.uses.specs.History.{Between, History, Leads, Linked, Used, back, opening, parts, standing}
use Rattle.uses.specs.Law.{AnswerTells, HoldsWhatWasGiven, LawAt, LawOfUses, LowestBetween, There, asked}
use Rattle.uses.proofs.Growing.{between_grows, later, leads_append, linked_grows, there_grows}
use Rattle.uses.proofs.Standing.{stands}
use Rattle.uses.proofs.Stands.{Stands}
use Rattle.uses.proofs.Telling.{between_differs, between_different, linked_alike, linked_same, lowest_different, no_part_between, said, says, turned}

module _ {K : Type 0} (N : Numbers K) where
  module _ (k : ℕ) (brought : List K) (h : History K) (s : State K) (used : Used N k brought h s) where
    abbrev es : List (Effect K)
    es = standing h

    st : Stands N k brought (standing h) s
    st = stands N k brought h s used

    holds_what_was_given : HoldsWhatWasGiven brought (standing h) s
    holds_what_was_given = record { as_many_tables = st.count; as_many_parts = ap length st.keeps; shelf = st.shelf }

    -- the word of a part, as the call word gives it
    word_given :
        (p : ℕ)
        → HasPart (parts es) p
        → (run : List ℕ)
        → length run ≡ longest_word
        → (word_answer s.ledger.parts p run ≡ Ok (length (part_of (parts es) p).word)) × (word_run s.ledger.parts p run ≡ spelled (part_of (parts es) p).word)
    word_given p has_p run long =
        let w = (part_of (parts es) p).word in
        let c = word_copied (parts es) p run (one_to_from (length (parts es)) p has_p.0 has_p.1) long (length w) (spelled w) refl refl in
        subst (λ ps. (word_answer ps p run ≡ Ok (length w)) × (word_run ps p run ≡ spelled w)) (sym st.keeps) (sym c.answer, sym c.copied)

    module _ (i j : ℕ) (ti : There (standing h) i) (tj : There (standing h) j) where
      -- ---- after further calls
      module _ (g : History K) (t : State K) (follow : Leads N s g t) where
        abbrev more : List (Effect K)
        more = standing (g ++ h)

        later_stands : Stands N k brought (standing (g ++ h)) t
        later_stands = stands N k brought (g ++ h) t (leads_append N (opening k brought) h s g t used follow)

        still : (a : ℕ) → There es a → There more a
        still a = later (λ x. There x a) (λ e x. there_grows e x a) g h

        same_stays : Linked es i j → (asked t i j ≡ Ok Same) × (asked t j i ≡ Ok Same)
        same_stays l =
            let l' = later (λ x. Linked x i j) (λ e x. linked_grows e x) g h l in (
              linked_same later_stands i j (still i ti) (still j tj) l',
              linked_same later_stands j i (still j tj) (still i ti) (back l'),
            )

        different_stays : (p : ℕ) → Between es p i j → (q : ℕ) × (q ≤ p) × (asked t i j ≡ Ok (Different q)) × (asked t j i ≡ Ok (Different q))
        different_stays p b =
            let d = between_different later_stands i j (still i ti) (still j tj) p (later (λ x. Between x p i j) (λ e x. between_grows e x p i j) g h b) in
            let q = d.0 in
            let lowest = says later_stands i j (still i ti) (still j tj) (Different q) d.2 in
            let other : LowestBetween more q j i = (turned more q i j lowest.0, λ r lt o. lowest.1 r lt (turned more r j i o)) in
            (q, d.1, d.2, lowest_different later_stands j i (still j tj) (still i ti) q other)

      answer_tells : AnswerTells N k (standing h) s i j (asked s i j)
      answer_tells =
          let a = said st i j ti tj in
          let tells = says st i j ti tj in
          record {
            never_refused = (a.0, a.1);
            same_only_when_linked = tells Same;
            same_whenever_linked = linked_same st i j ti tj;
            linked_weigh_alike = λ l. linked_alike st l;
            different_only_by_the_lowest_part_between = λ p. tells (Different p);
            different_by_the_lowest_part_between = lowest_different st i j ti tj;
            different_whenever_a_part_stands_between = between_different st i j ti tj;
            no_part_between_linked = λ p. no_part_between st p i j;
            its_word = λ p e. let b = (tells (Different p) e).0 in word_given p (b.some, b.there);
            its_word_weighs_differently = λ p e. between_differs st p i j (tells (Different p) e).0;
            same_never_withdrawn = λ e g t follow. same_stays g t follow (tells Same e);
            different_never_withdrawn = λ p e g t follow. different_stays g t follow p (tells (Different p) e).0;
          }

  pub law_of_uses : LawOfUses N
  law_of_uses k brought h s used = (holds_what_was_given k brought h s used, answer_tells k brought h s used)

  pub law_at : (s : State K) (i j : ℕ) → LawAt N s i j (asked s i j)
  law_at s i j k brought h used ti tj = let law = law_of_uses k brought h s used in (law.0, law.1 i j ti tj)
