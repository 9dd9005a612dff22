-- What stands after every use of a book.
use Rattle.std.proofs.Common.{◌≡◌, ℕ, ◌+◌, ◌-◌, min, max, Bool, true, false, cond, ◌⊎◌, List, [], ◌∷◌, ◌++◌, length, drop, sym, refl, ap, ◌∙◌, subst, ap₂, inl, inr, ⊎_elim, arith, length-append}
use Rattle.std.proofs.ByRecursion.{All-map}
use Rattle.std.proofs.lemmas.List.{append_assoc, append-nil, get_or_push, length_push}
use Rattle.std.proofs.lemmas.Bool.{cases_eq, cases_lt}
use Rattle.kinds.specs.Numbers.{Numbers}
use Rattle.tables.specs.Shape.{most_states, one_to}
use Rattle.tables.specs.Words.{event_of, events_of}
use Rattle.tables.proofs.Limits.{one_to_parts}
use Rattle.sheets.specs.Alike.{WordOver}
use Rattle.sheets.proofs.Weighing.{kept_sheet_weighs_every_word_alike}
use Rattle.ledger.specs.declared.line.Line.{Line}
use Rattle.ledger.specs.Classes.{merged}
use Rattle.ledger.specs.Lines.{Has, class_of}
use Rattle.ledger.specs.Model.{new_line}
use Rattle.ledger.specs.Parts.{HasPart, Kept, no_part}
use Rattle.ledger.proofs.Appending.{each_or_last, line_earlier, line_last, sound_push, used_push}
use Rattle.ledger.proofs.Merging.{class_relabelled, has_still, merged_as_many, moved, moved_not, moved_there, sound_merged, used_merged}
use Rattle.uses.specs.Calls.{Accepts, Call, Effect, Enters, Joins, State, ask, done, effect_of, enter, entered, join, joined, kept, part, weigh, word}
use Rattle.uses.specs.History.{History, Linked, Used, back, direct, done_if_any, no_table, onto, over, parts, standing, table, tables}
use Rattle.uses.specs.Holds.{Entered, Table, laid, table_at}
use Rattle.uses.specs.Law.{runs}
use Rattle.uses.specs.Part.{Parts}
use Rattle.uses.proofs.Entering.{entries_entered, table_entered}
use Rattle.uses.proofs.Growing.{linked_grows, linked_is, part_grows, table_grows}
use Rattle.uses.proofs.Joinings.{entered_merged, table_merged}
use Rattle.uses.proofs.Laying.{laid_behind}
use Rattle.uses.proofs.Stands.{Differs, Shown, Stands, WeighAlike, differs_grows, has, shown_grows, stands_opened, there, weighs_given}

-- the runs of some tables and one more
runs_push : {K : Type 0} (ts : List (Table K)) (t : Table K) → runs (ts ++ (t ∷ [])) ≡ runs ts ++ t.run
runs_push [] t = append-nil t.run
runs_push (x ∷ ts) t = ap (λ r. x.run ++ r) (runs_push ts t) ∙ sym (append_assoc x.run (runs ts) t.run)

-- where two classes are merged, both are in the one with the smaller name
merged_name : (p q x : ℕ) → (x ≡ p) ⊎ (x ≡ q) → moved (max p q) (min p q) x ≡ min p q
merged_name p q x is = ⊎_elim (moved_there (max p q) (min p q) x) (λ ne. moved_not (max p q) (min p q) x ne ∙ smaller ne is) (cases_eq x (max p q))
  where
    smaller : (x ≡ max p q → ⊥) → (x ≡ p) ⊎ (x ≡ q) → x ≡ min p q
    smaller ne (inl e) = ⊎_elim (λ lt. omega arith) (λ ge. absurd (ne (omega arith))) (cases_lt p q)
    smaller ne (inr e) = ⊎_elim (λ lt. absurd (ne (omega arith))) (λ ge. omega arith) (cases_lt p q)

-- what holds of two joined tables holds of the tables that a join names
joined_at : {a b : ℕ} (P : ℕ → ℕ → Type 0) → P a b → (x y : ℕ) → (a ≡ x) × (b ≡ y) → P x y
joined_at {a} {b} P p x y z = subst (P x) z.1 (subst (λ v. P v b) z.0 p)

module _ {K : Type 0} (N : Numbers K) (k : ℕ) (brought : List K) where
  module _ (es : List (Effect K)) (s : State K) (st : Stands N k brought es s) where
    abbrev ls : List Line
    ls = s.ledger.lines

    -- ---- a table was entered
    module _ (n : ℕ) (run : List K) (ok : Enters N s.ledger s.shelf n run) where
      abbrev entering : Effect K
      entering = entered n run

      abbrev new_one : Line
      new_one = new_line s.ledger.events ls n

      class_earlier : (i : ℕ) → Has ls i → class_of (ls ++ (new_one ∷ [])) i ≡ class_of ls i
      class_earlier i h = ap (λ x. x.class) (line_earlier ls new_one i h)

      stands_entered : Stands N k brought (entered n run ∷ es) (done s (entered n run))
      stands_entered =
          let states = one_to_parts most_states n ok.states in
          let new = table_entered s.ledger s.shelf n run ok.count ok.room st.sound.packed in
          let given : Table K = record { states = n; run = run } in
          let more = runs_push (tables es) given in
          record {
            events = st.events;
            sound = sound_push s.ledger.events ls n states.0 states.1 st.sound;
            entered = entries_entered s.ledger s.shelf n run ok.count ok.room st.sound.packed N ok.entries st.entered;
            count = length_push ls new_one ∙ ap (λ c. c + 1) st.count ∙ sym (length_push (tables es) given);
            holds =
                each_or_last ls new_one (λ i. table_at (done s entering).ledger (done s entering).shelf i ≡ table (entering ∷ es) i)
                (λ i h. new.earlier i h.0 h.1 ∙ st.holds i h ∙ sym (table_grows entering es i (there st i h)))
                (new.given ∙ sym (get_or_push (tables es) given no_table (length ls + 1 - 1) (let c = st.count in omega arith)));
            keeps = st.keeps;
            filled =
                used_push s.ledger.events ls new_one
                ∙ ap₂ ◌+◌ st.filled (sym ok.count)
                ∙ sym (ap length more ∙ length-append (runs (tables es)) run);
            shelf =
                ap (λ u. laid s.shelf u run) st.filled
                ∙ ap (λ x. laid x (length (runs (tables es))) run) st.shelf
                ∙ laid_behind (runs (tables es)) run brought
                ∙ ap (λ r. r ++ drop (length r) brought) (sym more);
            classes = λ a b.
                ⊎_elim (λ z. absurd z)
                (λ j. let o = st.shown a b j in class_earlier a (has st a o.first) ∙ st.classes a b j ∙ sym (class_earlier b (has st b o.second)));
            links =
                each_or_last ls new_one (λ i. Linked (entering ∷ es) i (class_of (ls ++ (new_one ∷ [])) i))
                (λ i h. over (linked_grows entering es (st.links i h)) (linked_is (entering ∷ es) (sym (class_earlier i h))))
                (linked_is (entering ∷ es) (sym (ap (λ x. x.class) (line_last ls new_one))));
            shown = shown_grows N k entering es (λ a b z. absurd z) st.shown;
            differs = λ p h. differs_grows N k entering es _ (st.differs p h);
          }

    -- ---- two tables were joined
    module _ (a b R : ℕ) (sheet : List K) (ok : Joins N s.ledger s.shelf a b R sheet) where
      abbrev joining : Effect K
      joining = joined a b

      abbrev hi : ℕ
      hi = max (class_of ls a) (class_of ls b)

      abbrev lo : ℕ
      lo = min (class_of ls a) (class_of ls b)

      ha : Has ls a
      ha = one_to_parts (length ls) a ok.two.first

      hb : Has ls b
      hb = one_to_parts (length ls) b ok.two.second

      -- the sheet shows that the two tables weigh alike
      alike : WeighAlike N k (table es a) (table es b)
      alike w all =
          let f = ok.formed in
          let over-events : WordOver s.ledger.events w = subst (λ n. WordOver n w) (sym st.events) all in
          sym (weighs_given st a ha w)
          ∙ kept_sheet_weighs_every_word_alike N.exact s.ledger.events _ _ _ _ _ _ _ f.cancels ok.keeps w over-events
          ∙ weighs_given st b hb w

      classes_linked : Linked (joining ∷ es) (class_of ls a) (class_of ls b)
      classes_linked = over (back (linked_grows joining es (st.links a ha))) (over (direct (inl (refl, refl))) (linked_grows joining es (st.links b hb)))

      -- the two names, in order
      bridge : Linked (joining ∷ es) hi lo
      bridge =
          ⊎_elim
          (λ lt. over (linked_is (joining ∷ es) (omega arith)) (over (back classes_linked) (linked_is (joining ∷ es) (omega arith))))
          (λ ge. over (linked_is (joining ∷ es) (omega arith)) (over classes_linked (linked_is (joining ∷ es) (omega arith))))
          (cases_lt (class_of ls a) (class_of ls b))

      name : (i : ℕ) → Has ls i → class_of (merged a b ls) i ≡ moved hi lo (class_of ls i)
      name = class_relabelled hi lo ls

      link : (i : ℕ) → Has ls i → Linked (joining ∷ es) i (class_of (merged a b ls) i)
      link i h =
          let l = linked_grows joining es (st.links i h) in
          let at : moved hi lo (class_of ls i) ≡ class_of (merged a b ls) i = sym (name i h) in
          ⊎_elim
          (λ is. over l (over (linked_is (joining ∷ es) is) (over bridge (linked_is (joining ∷ es) (sym (moved_there hi lo (class_of ls i) is) ∙ at)))))
          (λ ne. over l (linked_is (joining ∷ es) (sym (moved_not hi lo (class_of ls i) ne) ∙ at)))
          (cases_eq (class_of ls i) hi)

      one_class : class_of (merged a b ls) a ≡ class_of (merged a b ls) b
      one_class =
          let name_of = merged_name (class_of ls a) (class_of ls b) in
          name a ha ∙ name_of (class_of ls a) (inl refl) ∙ sym (name b hb ∙ name_of (class_of ls b) (inr refl))

      stands_joined : Stands N k brought (joined a b ∷ es) (done s (joined a b))
      stands_joined =
          let old : (i : ℕ) → Has (merged a b ls) i → Has ls i = has_still hi lo ls in
          record {
            events = st.events;
            sound = sound_merged s.ledger.events ls a b ha hb st.sound;
            entered = entered_merged N s.ledger s.shelf a b st.entered;
            count = merged_as_many a b ls ∙ st.count;
            holds = λ i h. table_merged N s.ledger s.shelf a b i (old i h) ∙ st.holds i (old i h);
            keeps = st.keeps;
            filled = used_merged s.ledger.events a b ls ∙ st.filled;
            shelf = st.shelf;
            classes = λ x y.
                ⊎_elim (joined_at (λ v w. class_of (merged a b ls) v ≡ class_of (merged a b ls) w) one_class x y)
                (λ j. let o = st.shown x y j in name x (has st x o.first) ∙ ap (moved hi lo) (st.classes x y j) ∙ sym (name y (has st y o.second)));
            links = λ i h. link i (old i h);
            shown = shown_grows N k joining es (joined_at (Shown N k (joining ∷ es)) (record { first = there st a ha; second = there st b hb; alike = alike })) st.shown;
            differs = λ p h. differs_grows N k joining es _ (st.differs p h);
          }

    -- ---- a word was kept
    module _ (a b : ℕ) (w : List ℕ) (strip : ℕ) (ok : Parts N s.ledger s.shelf a b w strip) where
      abbrev keeping : Effect K
      keeping = kept a b w

      abbrev q : Kept
      q = record { first = a; second = b; word = events_of w }

      new : Differs N k (keeping ∷ es) q
      new =
          let ha = one_to_parts (length s.ledger.lines) a ok.0.two.first in
          let hb = one_to_parts (length s.ledger.lines) b ok.0.two.second in
          record {
            first = there st a ha;
            second = there st b hb;
            word = subst (λ n. WordOver n (events_of w)) st.events (All-map (λ x. one_to s.ledger.events x ≡ true) event_of w ok.0.events);
            differ = λ z. ok.0.differ (weighs_given st a ha (events_of w) ∙ z ∙ sym (weighs_given st b hb (events_of w)));
          }

      stands_kept : Stands N k brought (kept a b w ∷ es) (done s (kept a b w))
      stands_kept = record {
        events = st.events;
        sound = st.sound;
        entered = record { within = st.entered.within; entries = st.entered.entries };
        count = st.count;
        holds = st.holds;
        keeps = ap (λ ps. ps ++ (q ∷ [])) st.keeps;
        filled = st.filled;
        shelf = st.shelf;
        classes = λ x y. ⊎_elim (λ z. absurd z) (st.classes x y);
        links = λ i h. linked_grows keeping es (st.links i h);
        shown = shown_grows N k keeping es (λ x y z. absurd z) st.shown;
        differs = λ p h.
            let size = length_push (parts es) q in
            let low = h.0 in
            let high = h.1 in
            ⊎_elim
            (λ lt. let old : HasPart (parts es) p = (low, omega arith) in subst (Differs N k (keeping ∷ es)) (sym (part_grows keeping es p old).1) (differs_grows N k keeping es _ (st.differs p old)))
            (λ ge. subst (Differs N k (keeping ∷ es)) (sym (get_or_push (parts es) q no_part (p - 1) (omega arith))) new)
            (cases_lt p (length (parts es) + 1));
      }

    -- ---- an accepted call has its effect, if any; a refused one has none
    stands_accepted : (c : Call K) → Accepts N s c → Stands N k brought (onto (effect_of c) es) (done_if_any s (effect_of c))
    stands_accepted (enter n run) ok = stands_entered n run ok
    stands_accepted (join a b R sheet) ok = stands_joined a b R sheet ok
    stands_accepted (part a b w strip) ok = stands_kept a b w (length strip) ok
    stands_accepted (weigh i w strip) ok = st
    stands_accepted (word p run) ok = st
    stands_accepted (ask a b) ok = st

    stands_after : (c : Call K) (ok : Bool) → (ok ≡ true → Accepts N s c) → Stands N k brought (cond ok (onto (effect_of c) es) es) (cond ok (done_if_any s (effect_of c)) s)
    stands_after c true accepts = stands_accepted c (accepts refl)
    stands_after c false accepts = st

  pub stands : (h : History K) (s : State K) → Used N k brought h s → Stands N k brought (standing h) s
  stands [] s is = subst (Stands N k brought []) (sym is) (stands_opened N k brought)
  stands (d ∷ h) s u =
      subst (Stands N k brought (standing (d ∷ h))) (sym u.3)
      (stands_after (standing h) u.0 (stands h u.0 u.1) d.call d.ok u.2.0)

  -- after any use all numbers in the book are entries
  pub used_entered : (h : History K) (s : State K) → Used N k brought h s → Entered N s.ledger s.shelf
  used_entered h s u = (stands h s u).entered
