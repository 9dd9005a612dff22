-- What is kept of a line while it arrives in pieces.
use Rattle.std.proofs.Common.{◌≡◌, ℕ, zero, suc, ◌+◌, ◌-◌, ◌<◌, ◌≤◌, min, Bool, true, false, cond, eqb, List, [], ◌∷◌, ◌++◌, map, length, get_or, take, drop, Some, None, Option, sym, refl, ap, ◌∙◌, ⊎_elim, append_assoc, append-nil, arith, length-append, length-take, eq-eqb, ne_eqb, le-leb}
use Rattle.std.proofs.lemmas.List.{take_all, take-take, take_more}
use Rattle.std.proofs.lemmas.Bool.{cases_lt, lt-leb}
use Rattle.std.specs.Option.{option_map, unwrap_or}
use Rattle.text.specs.Split.{onto}
use Rattle.text.proofs.Cuts.{Clear}
use Rattle.text.specs.Input.{most_bytes, lines_of, before_feed, text_of, kept, texts_from, span, ends, EndsAt, KeepingIsEnough, SameTexts}

-- ---- cutting twice is cutting once
take_front : (m : ℕ) (a x : List ℕ) → take m (take m a ++ x) ≡ take m (a ++ x)
take_front zero a x = refl
take_front (suc m) [] x = refl
take_front (suc m) (b ∷ a) x = ap (λ l. b ∷ l) (take_front m a x)

pub kept_again : (a x : List ℕ) → kept (kept a ++ x) ≡ kept (a ++ x)
kept_again a x = take_front (most_bytes + 1) a x

-- n, the smaller of u and the room that is left, makes the same of a list as a cut at m afterwards
pub cut_after : (was piece : List ℕ) (m u n : ℕ) → length was ≤ m → n ≡ min u (m - length was) → was ++ take n piece ≡ take m (was ++ take u piece)
cut_after [] piece m u n le is =
    ⊎_elim
    (λ (less : u < m). let e : n ≡ u = omega arith in ap (λ k. take k piece) e ∙ sym (take_all m (take u piece) (rw length-take (omega arith))))
    (λ (more : m ≤ u). let e : n ≡ m = omega arith in ap (λ k. take k piece) e ∙ sym (take-take m u piece more))
    (cases_lt u m)
cut_after (b ∷ was) piece zero u n le is = absurd (omega arith)
cut_after (b ∷ was) piece (suc m) u n le is = ap (λ l. b ∷ l) (cut_after was piece m u n (omega arith) (omega arith))

-- ---- a piece is read to its line feed
pub goes_on : (s : List ℕ) → Clear 10 s (length s) → (ends s ≡ false) × (span s ≡ length s)
goes_on [] h = (refl, refl)
goes_on (b ∷ s) h =
    let off : eqb b 10 ≡ false = ne_eqb b 10 (h 0 0 (omega arith) (omega arith)) in
    let rest = goes_on s (λ k d low lt. h (suc k) d (omega arith) (omega arith)) in
    rw off (rest.0, ap suc rest.1)

pub ends_behind : (s : List ℕ) (n : ℕ) → n < length s → get_or s n 0 ≡ 10 → Clear 10 s n → (ends s ≡ true) × (span s ≡ n + 1)
ends_behind [] n lt is h = absurd (omega arith)
ends_behind (b ∷ s) zero lt is h = rw (eq-eqb b 10 is) (refl, refl)
ends_behind (b ∷ s) (suc n) lt is h =
    let off : eqb b 10 ≡ false = ne_eqb b 10 (h 0 0 (omega arith) (omega arith)) in
    let rest = ends_behind s n (omega arith) is (λ k d low less. h (suc k) d (omega arith) (omega arith)) in
    rw off (rest.0, omega (arith, rest.1))

pub used_is : (piece : List ℕ) (end : Option ℕ) → EndsAt piece end → unwrap_or end (length piece) ≡ span piece
used_is piece (Some n) h = sym h.1
used_is piece None h = sym h.1

-- ---- the text of a line
pub before_feed_push : (t : List ℕ) (b : ℕ) → before_feed (t ++ (b ∷ [])) ≡ cond (eqb b 10) (Some t) None
before_feed_push [] b = refl
before_feed_push (c ∷ []) b = by_case (eqb b 10)
  where
    by_case : (t : Bool) → option_map (λ l. c ∷ l) (cond t (Some []) None) ≡ cond t (Some (c ∷ [])) None
    by_case true = refl
    by_case false = refl
before_feed_push (c ∷ d ∷ t) b = ap (option_map (λ l. c ∷ l)) (before_feed_push (d ∷ t) b) ∙ by_case (eqb b 10)
  where
    by_case : (u : Bool) → option_map (λ l. c ∷ l) (cond u (Some (d ∷ t)) None) ≡ cond u (Some (c ∷ d ∷ t)) None
    by_case true = refl
    by_case false = refl

-- a line that is not too long has the text before its last byte, if that is a line feed
pub text_by_last : (s : List ℕ) → 0 < length s → length s ≤ most_bytes → text_of s ≡ cond (eqb (get_or s (length s - 1) 0) 10) (Some (take (length s - 1) s)) None
text_by_last s some short =
    let more = take_more s (length s - 1) 0 (omega arith) in
    let all = take_all (length s - 1 + 1) s (omega arith) in
    ap (λ t. cond t (before_feed s) None) (le-leb (length s) most_bytes short)
    ∙ ap before_feed (sym all ∙ more)
    ∙ before_feed_push (take (length s - 1) s) (get_or s (length s - 1) 0)

-- a line that is too long has no text, whether or not it is cut
text_kept : (l : List ℕ) → text_of (kept l) ≡ text_of l
text_kept l = ⊎_elim short long (cases_lt (length l) (most_bytes + 1))
  where
    short : length l < most_bytes + 1 → text_of (kept l) ≡ text_of l
    short h = ap text_of (take_all (most_bytes + 1) l (omega arith))

    long : most_bytes + 1 ≤ length l → text_of (kept l) ≡ text_of l
    long h =
        let cut : length (kept l) ≡ most_bytes + 1 = length-take (most_bytes + 1) l ∙ omega arith in
        ap (λ t. cond t (before_feed (kept l)) None) (lt-leb (length (kept l)) most_bytes (omega arith))
        ∙ sym (ap (λ t. cond t (before_feed l) None) (lt-leb (length l) most_bytes (omega arith)))

-- ---- the texts of an input, with and without cutting
-- the lines of an input behind a line that has begun
abbrev ahead : List ℕ → List (List ℕ) → List (List ℕ)
ahead g [] = cond (eqb (length g) 0) [] (g ∷ [])
ahead g (l ∷ ls) = (g ++ l) ∷ ls

ahead_none : (ls : List (List ℕ)) → ahead [] ls ≡ ls
ahead_none [] = refl
ahead_none (l ∷ ls) = refl

ahead_onto : (g : List ℕ) (b : ℕ) (ls : List (List ℕ)) → ahead (g ++ (b ∷ [])) ls ≡ ahead g (onto b ls)
ahead_onto g b [] = ap (λ t. cond t [] ((g ++ (b ∷ [])) ∷ [])) (ne_eqb (length (g ++ (b ∷ []))) 0 (λ e. omega (arith, length-append g (b ∷ []))))
ahead_onto g b (l ∷ ls) = ap (λ x. x ∷ ls) (append_assoc g (b ∷ []) l)

same_emptiness : (g : List ℕ) → eqb (length (kept g)) 0 ≡ eqb (length g) 0
same_emptiness [] = refl
same_emptiness (b ∷ g) = ne_eqb (length (kept (b ∷ g))) 0 (λ e. omega arith) ∙ sym (ne_eqb (length (b ∷ g)) 0 (λ e. omega arith))

texts_are : (g s : List ℕ) → texts_from (kept g) s ≡ map text_of (ahead g (lines_of s))
texts_are g [] = by_case (eqb (length g) 0) (same_emptiness g)
  where
    by_case : (t : Bool) → eqb (length (kept g)) 0 ≡ t → cond (eqb (length (kept g)) 0) [] (text_of (kept g) ∷ []) ≡ map text_of (cond t [] (g ∷ []))
    by_case true e = ap (λ t. cond t [] (text_of (kept g) ∷ [])) e
    by_case false e = ap (λ t. cond t [] (text_of (kept g) ∷ [])) e ∙ ap (λ x. x ∷ []) (text_kept g)
texts_are g (b ∷ s) = by_case (eqb b 10) (texts_are [] s) (texts_are (g ++ (b ∷ [])) s)
  where
    by_case :
        (t : Bool)
        → texts_from [] s ≡ map text_of (ahead [] (lines_of s))
        → texts_from (kept (g ++ (b ∷ []))) s ≡ map text_of (ahead (g ++ (b ∷ [])) (lines_of s))
        → cond t (text_of (kept (kept g ++ (b ∷ []))) ∷ texts_from [] s) (texts_from (kept (kept g ++ (b ∷ []))) s)
        ≡ map text_of (ahead g (cond t ((b ∷ []) ∷ lines_of s) (onto b (lines_of s))))
    by_case true new on =
        ap (λ x. x ∷ texts_from [] s) (ap text_of (kept_again g (b ∷ [])) ∙ text_kept (g ++ (b ∷ [])))
        ∙ ap (λ l. text_of (g ++ (b ∷ [])) ∷ l) (new ∙ ap (map text_of) (ahead_none (lines_of s)))
    by_case false new on = ap (λ h. texts_from h s) (kept_again g (b ∷ [])) ∙ on ∙ ap (map text_of) (ahead_onto g b (lines_of s))

pub keeping_is_enough : KeepingIsEnough
keeping_is_enough input = texts_are [] input ∙ ap (map text_of) (ahead_none (lines_of input))

-- ---- one piece more
pub same_texts : (piece held : List ℕ) → length held ≤ most_bytes + 1 → SameTexts held piece (kept (held ++ take (span piece) piece))
same_texts [] held h rest = ap (λ l. texts_from l rest) (sym (ap kept (append-nil held) ∙ take_all (most_bytes + 1) held h))
same_texts (b ∷ s) held h rest =
    let long : length (kept (held ++ (b ∷ []))) ≤ most_bytes + 1 = omega (arith, length-take (most_bytes + 1) (held ++ (b ∷ []))) in
    by_case (eqb b 10) (same_texts s (kept (held ++ (b ∷ []))) long rest)
  where
    joined : kept (kept (held ++ (b ∷ [])) ++ take (span s) s) ≡ kept (held ++ (b ∷ take (span s) s))
    joined = kept_again (held ++ (b ∷ [])) (take (span s) s) ∙ ap kept (append_assoc held (b ∷ []) (take (span s) s))

    by_case :
        (t : Bool)
        → texts_from (kept (held ++ (b ∷ []))) (s ++ rest) ≡ cond (ends s) (text_of (kept (kept (held ++ (b ∷ [])) ++ take (span s) s)) ∷ texts_from [] (drop (span s) s ++ rest)) (texts_from (kept (kept (held ++ (b ∷ [])) ++ take (span s) s)) rest)
        → cond t (text_of (kept (held ++ (b ∷ []))) ∷ texts_from [] (s ++ rest)) (texts_from (kept (held ++ (b ∷ []))) (s ++ rest))
        ≡ cond (cond t true (ends s))
        (text_of (kept (held ++ take (cond t 1 (suc (span s))) (b ∷ s))) ∷ texts_from [] (drop (cond t 1 (suc (span s))) (b ∷ s) ++ rest))
        (texts_from (kept (held ++ take (cond t 1 (suc (span s))) (b ∷ s))) rest)
    by_case true on = refl
    by_case false on = on ∙ ap (λ l. cond (ends s) (text_of l ∷ texts_from [] (drop (span s) s ++ rest)) (texts_from l rest)) joined
