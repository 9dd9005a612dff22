-- One line more at the end keeps what holds of the lines, and how many numbers they take.
use Rattle.std.proofs.Common.{◌≡◌, ℕ, zero, suc, ◌+◌, ◌-◌, ◌*◌, ◌<◌, ◌≤◌, true, List, [], ◌∷◌, ◌++◌, length, get_or, take, drop, set, sym, refl, ap, ◌∙◌, subst, ⊎_elim, add-one, arith}
use Rattle.std.proofs.lemmas.List.{get_or_append_left, get_or_push, length_push, length-set, length-take-le, take_all, take-append-drop, take_at, take-append-le, take_more, take_more_set}
use Rattle.std.proofs.lemmas.Bool.{cases_lt}
use Rattle.tables.specs.Shape.{most_events, most_states, one_to, table_size}
use Rattle.tables.proofs.Limits.{one_to_from, one_to_parts}
use Rattle.tables.proofs.Sizes.{size_small}
use Rattle.ledger.specs.declared.line.Line.{Line}
use Rattle.ledger.specs.Lines.{Has, Named, Sized, Packed, Sound, blank, class_of, line_of, most_tables, used}
use Rattle.ledger.specs.Model.{new_line}

-- ---- how many numbers the lines take
used_append : (k : ℕ) (ls ms : List Line) → used k (ls ++ ms) ≡ used k ls + used k ms
used_append k [] ms = omega arith
used_append k (x ∷ xs) ms = let e = used_append k xs ms in omega arith

pub used_push : (k : ℕ) (ls : List Line) (l : Line) → used k (ls ++ (l ∷ [])) ≡ used k ls + table_size l.states k
used_push k ls l = let e = used_append k ls (l ∷ []) in omega arith

module _ (k : ℕ) (ls : List Line) where
  used_more : (i : ℕ) → i < length ls → used k (take (i + 1) ls) ≡ used k (take i ls) + table_size (get_or ls i blank).states k
  used_more i h = ap (used k) (take_more ls i blank h) ∙ used_push k (take i ls) (get_or ls i blank)

  -- each table ends within the used numbers
  pub used_within : (i : ℕ) → Has ls i → used k (take (i - 1) ls) + table_size (line_of ls i).states k ≤ used k ls
  used_within i h =
      let more = used_more (i - 1) (omega arith) in
      let split = used_append k (take (i - 1 + 1) ls) (drop (i - 1 + 1) ls) in
      let whole = ap (used k) (take-append-drop (i - 1 + 1) ls) in
      omega arith

  -- the last line ends where the used numbers end
  pub used_by_last : Packed k ls → (n : ℕ) → length ls ≡ n → 1 ≤ n → used k ls ≡ ((line_of ls n).place - 1) + table_size (line_of ls n).states k
  used_by_last packed n e some =
      let whole : take (n - 1 + 1) ls ≡ ls = take_all (n - 1 + 1) ls (omega arith) in
      let more = used_more (n - 1) (omega arith) in
      let begins = packed n (some, omega arith) in
      let last = ap (used k) whole in
      omega arith

  used_front_small : Sized ls → k ≤ most_events → (i : ℕ) → i ≤ length ls → used k (take i ls) ≤ table_size most_states most_events * i
  used_front_small sized few zero h = omega arith
  used_front_small sized few (suc i) h =
      let back : suc i - 1 ≡ i = omega arith in
      let more = used_more i h in
      let step = ap (λ j. used k (take j ls)) (add-one i) in
      let here = ap (λ j. (get_or ls j blank).states) back in
      let size = size_small (get_or ls i blank).states k (let s = (sized (suc i) (omega arith, h)).1 in omega arith) few in
      let rest = used_front_small sized few i (omega arith) in
      omega arith

  -- so many tables take at most so many numbers
  pub used_small : Sized ls → k ≤ most_events → length ls ≤ most_tables → used k ls ≤ table_size most_states most_events * most_tables
  used_small sized few short =
      let all = used_front_small sized few (length ls) (omega arith) in
      let whole = ap (used k) (take_all (length ls) ls (omega arith)) in
      omega arith

-- ---- one line more
module _ (ls : List Line) (l : Line) where
  pub line_earlier : (i : ℕ) → Has ls i → line_of (ls ++ (l ∷ [])) i ≡ line_of ls i
  line_earlier i h = get_or_append_left ls (l ∷ []) blank (i - 1) (omega arith)

  pub line_last : line_of (ls ++ (l ∷ [])) (length ls + 1) ≡ l
  line_last = get_or_push ls l blank (length ls + 1 - 1) (omega arith)

  -- what holds of the earlier tables and of the last one holds of each
  pub each_or_last : (P : ℕ → Type 0) → ((i : ℕ) → Has ls i → P i) → P (length ls + 1) → (i : ℕ) → Has (ls ++ (l ∷ [])) i → P i
  each_or_last P earlier last i h =
      let size = length_push ls l in
      ⊎_elim (λ less. earlier i (h.0, omega arith)) (λ more. let e : length ls + 1 ≡ i = omega arith in subst P e last) (cases_lt i (length ls + 1))

  named_push : l.class ≡ length ls + 1 → Named ls → Named (ls ++ (l ∷ []))
  named_push own named = each_or_last Good earlier (subst Fine (sym new) (one_to_from (length ls + 1) (length ls + 1) (omega arith) (omega arith), new))
    where
      Fine : ℕ → Type 0
      Fine c = (one_to (length ls + 1) c ≡ true) × (class_of (ls ++ (l ∷ [])) c ≡ c)

      Good : ℕ → Type 0
      Good i = (one_to i (class_of (ls ++ (l ∷ [])) i) ≡ true) × (class_of (ls ++ (l ∷ [])) (class_of (ls ++ (l ∷ [])) i) ≡ class_of (ls ++ (l ∷ [])) i)

      new : class_of (ls ++ (l ∷ [])) (length ls + 1) ≡ length ls + 1
      new = ap (λ x. x.class) line_last ∙ own

      earlier : (i : ℕ) → Has ls i → Good i
      earlier i h =
          let same : class_of (ls ++ (l ∷ [])) i ≡ class_of ls i = ap (λ x. x.class) (line_earlier i h) in
          let old = named i h in
          let low = one_to_parts i (class_of ls i) old.0 in
          let inside : Has ls (class_of ls i) = (low.0, omega arith) in
          let name : class_of (ls ++ (l ∷ [])) (class_of ls i) ≡ class_of ls i = ap (λ x. x.class) (line_earlier (class_of ls i) inside) ∙ old.1 in
          (ap (one_to i) same ∙ old.0, ap (class_of (ls ++ (l ∷ []))) same ∙ name ∙ sym same)

  sized_push : 1 ≤ l.states → l.states ≤ most_states → Sized ls → Sized (ls ++ (l ∷ []))
  sized_push some few sized =
      let P : Line → Type 0 = λ x. (1 ≤ x.states) × (x.states ≤ most_states) in
      each_or_last _ (λ i h. subst P (sym (line_earlier i h)) (sized i h)) (subst P (sym line_last) (some, few))

  packed_push : (k : ℕ) → l.place ≡ 1 + used k ls → Packed k ls → Packed k (ls ++ (l ∷ []))
  packed_push k behind packed = each_or_last _ earlier last
    where
      earlier : (i : ℕ) → Has ls i → (line_of (ls ++ (l ∷ [])) i).place ≡ 1 + used k (take (i - 1) (ls ++ (l ∷ [])))
      earlier i h = ap (λ x. x.place) (line_earlier i h) ∙ packed i h ∙ ap (λ x. 1 + used k x) (sym (take-append-le (i - 1) ls (l ∷ []) (omega arith)))

      last : (line_of (ls ++ (l ∷ [])) (length ls + 1)).place ≡ 1 + used k (take (length ls + 1 - 1) (ls ++ (l ∷ [])))
      last = ap (λ x. x.place) line_last ∙ behind ∙ ap (λ x. 1 + used k x) (sym (take_at ls (l ∷ []) (length ls + 1 - 1) (omega arith)))

-- one table more keeps it
pub sound_push : (k : ℕ) (ls : List Line) (n : ℕ) → 1 ≤ n → n ≤ most_states → Sound k ls → Sound k (ls ++ (new_line k ls n ∷ []))
sound_push k ls n some few old =
    let l = new_line k ls n in
    record {
      named = named_push ls l refl old.named;
      sized = sized_push ls l some few old.sized;
      packed = packed_push ls l k refl old.packed;
    }

-- ---- a table of lines, of which the first n are held, with one line more
module _ (k n : ℕ) (all : List Line) (room : n < length all) (states count : ℕ) (is-count : count ≡ states) (u : ℕ) (behind : u ≡ used k (take n all)) (after : List Line) (is : after ≡ set all n (record { states = count; place = 1 + u; class = n + 1 })) where
  pub held : take (n + 1) after ≡ take n all ++ (new_line k (take n all) states ∷ [])
  held =
      let size : length (take n all) ≡ n = length-take-le n all (omega arith) in
      ap (take (n + 1)) is
      ∙ take_more_set all n (record { states = count; place = 1 + u; class = n + 1 }) room
      ∙ ap (λ m. take n all ++ (record { states = m; place = 1 + u; class = n + 1 } ∷ [])) is-count
      ∙ ap (λ p. take n all ++ (record { states = states; place = 1 + p; class = n + 1 } ∷ [])) behind
      ∙ ap (λ c. take n all ++ (record { states = states; place = 1 + used k (take n all); class = c + 1 } ∷ [])) (sym size)

  pub held_all : length after ≡ length all
  held_all = ap length is ∙ length-set all n (record { states = count; place = 1 + u; class = n + 1 })

  pub held_sound : 1 ≤ states → states ≤ most_states → Sound k (take n all) → Sound k (take (n + 1) after)
  held_sound some few old = subst (Sound k) (sym held) (sound_push k (take n all) states some few old)
