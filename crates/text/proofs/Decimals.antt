-- A number is read from exactly the text that it prints as.
use Rattle.std.proofs.Common.{◌≡◌, ℕ, zero, suc, ◌+◌, ◌-◌, ◌*◌, ◌^◌, ◌<◌, ◌≤◌, Bool, true, false, cond, ◌&&◌, eqb, leb, List, [], ◌∷◌, length, get_or, drop, ℤ, pos, negsuc, nat_abs, Some, None, decimal, Option, sym, refl, ap, ◌∙◌, subst, ⊎_elim, arith, rules, eq-eqb, ne_eqb, le-leb, leb-true}
use native.Mathlib.Nat.{pow-le-pow_right}
use borrow.Author.Tests.{eqb-false}
use Rattle.std.proofs.lemmas.Bool.{cases_eq, cases_lt, lt-leb}
use Rattle.std.proofs.lemmas.Str.Parse.{IsNumeralModel, numerals_by_fold, digits_value_short}
use Rattle.std.proofs.lemmas.Fmt.{decimal-digits_value, digits_decimal, digits_value-decimal, length-decimal-le, decimal_nonempty, first_decimal, decimal_digit}
use Rattle.std.specs.Char.{is_ascii_digit}
use Rattle.std.specs.Fmt.{signed_decimal}
use Rattle.std.specs.Option.{option_map, option_and_then}
use Rattle.std.specs.Str.{all_ascii_digits}
use Rattle.text.specs.declared.numbers.Mark.TheVariants as mark
use Rattle.text.specs.declared.numbers.Reading.{Reading}
use Rattle.text.specs.declared.numbers.Reading.TheVariants as reading
use Rattle.text.specs.Numerals.{most_magnitude, mark_of, step, further, magnitude_of, unsigned, negative, reading_of, IsNumeral, IsReading}

-- the number that digits write behind n
abbrev read_on : ℕ → List ℕ → ℕ
read_on n [] = n
read_on n (c ∷ cs) = read_on (10 * n + (c - 48)) cs

own : IsNumeralModel (λ ds. all_ascii_digits ds ≡ true) (read_on 0)
own = numerals_by_fold _ (search rules) read_on (search rules)

-- one more mark is one more digit, or none
step_is : (b n : ℕ) (go : ℕ → Option ℕ) → step (mark_of b) n go ≡ cond (is_ascii_digit b) (go (10 * n + (b - 48))) None
step_is b n go = ⊎_elim (at 45 refl) (λ no-hyphen. ⊎_elim (at 48 (ap go (omega arith))) (other no-hyphen) (cases_eq b 48)) (cases_eq b 45)
  where
    at : (m : ℕ) → step (mark_of m) n go ≡ cond (is_ascii_digit m) (go (10 * n + (m - 48))) None → b ≡ m → step (mark_of b) n go ≡ cond (is_ascii_digit b) (go (10 * n + (b - 48))) None
    at m h e = subst (λ x. step (mark_of x) n go ≡ cond (is_ascii_digit x) (go (10 * n + (x - 48))) None) (sym e) h

    same_test : (b ≡ 48 → ⊥) → leb 49 b ≡ leb 48 b
    same_test no_zero =
        ⊎_elim
        (λ low. lt-leb 49 b (omega arith) ∙ sym (lt-leb 48 b (omega arith)))
        (λ high. let more : 49 ≤ b = above no_zero high in le-leb 49 b more ∙ sym (le-leb 48 b high))
        (cases_lt b 48)
      where
        above : (b ≡ 48 → ⊥) → 48 ≤ b → 49 ≤ b
        above h l = omega arith

    by_tests : (p q : Bool) → step (cond p (cond q (mark.Digit (b - 48)) mark.Other) mark.Other) n go ≡ cond (p && q) (go (10 * n + (b - 48))) None
    by_tests true true = refl
    by_tests true false = refl
    by_tests false q = refl

    other : (b ≡ 45 → ⊥) → (b ≡ 48 → ⊥) → step (mark_of b) n go ≡ cond (is_ascii_digit b) (go (10 * n + (b - 48))) None
    other no-hyphen no_zero =
        ap (λ x. step (cond x mark.Hyphen (cond (eqb b 48) mark.Zero (cond (leb 49 b) (cond (leb b 57) (mark.Digit (b - 48)) mark.Other) mark.Other))) n go) (ne_eqb b 45 no-hyphen)
        ∙ ap (λ x. step (cond x mark.Zero (cond (leb 49 b) (cond (leb b 57) (mark.Digit (b - 48)) mark.Other) mark.Other)) n go) (ne_eqb b 48 no_zero)
        ∙ by_tests (leb 49 b) (leb b 57)
        ∙ ap (λ x. cond (x && leb b 57) (go (10 * n + (b - 48))) None) (same_test no_zero)

further_is : (n : ℕ) (s : List ℕ) → further n s ≡ cond (all_ascii_digits s) (Some (read_on n s)) None
further_is n [] = refl
further_is n (b ∷ bs) = step_is b n (λ k. further k bs) ∙ by_case (is_ascii_digit b) (further_is (10 * n + (b - 48)) bs)
  where
    by_case : (t : Bool) → further (10 * n + (b - 48)) bs ≡ cond (all_ascii_digits bs) (Some (read_on (10 * n + (b - 48)) bs)) None → cond t (further (10 * n + (b - 48)) bs) None ≡ cond (t && all_ascii_digits bs) (Some (read_on (10 * n + (b - 48)) bs)) None
    by_case true h = h
    by_case false h = refl

-- one to six digits, of which the first is zero only where it is alone
pub record Shaped (s : List ℕ) : Type 0 where
  pub some : 0 < length s
  pub few : length s ≤ 6
  pub lead : get_or s 0 0 ≡ 48 → length s ≡ 1

pub shaped_reads : (s : List ℕ) → Shaped s → magnitude_of s ≡ further 0 s
shaped_reads [] h = absurd (omega (arith, h.some))
shaped_reads (b ∷ []) h = refl
shaped_reads (b ∷ c ∷ bs) h =
    let off : eqb b 48 ≡ false = ne_eqb b 48 (λ e. let one = h.lead e in omega arith) in
    let few = h.few in
    rw (off, le-leb (length bs) 4 (omega arith))

pub six_digits : (n i : ℕ) → i ≤ 6 → n < 10 ^ i → n < most_magnitude
six_digits n i h hn = let p : 10 ^ i ≤ 10 ^ 6 = pow-le-pow_right (omega arith) h in omega arith

reads_shaped : (s : List ℕ) (n : ℕ) → magnitude_of s ≡ Some n → Shaped s
reads_shaped [] n e = let z : ◌≡◌ {A = ℕ} 0 1 = cc in absurd (omega arith)
reads_shaped (b ∷ []) n e = record { some = omega arith; few = omega arith; lead = λ h. refl }
reads_shaped (b ∷ c ∷ bs) n e = by_case (eqb b 48) (leb (length bs) 4) refl refl e
  where
    by_case : (t u : Bool) → eqb b 48 ≡ t → leb (length bs) 4 ≡ u → cond t None (cond u (further 0 (b ∷ c ∷ bs)) None) ≡ Some n → Shaped (b ∷ c ∷ bs)
    by_case true u et eu q = let z : ◌≡◌ {A = ℕ} 0 1 = cc in absurd (omega arith)
    by_case false true et eu q = let short = leb-true (length bs) 4 eu in record { some = omega arith; few = omega arith; lead = λ h. absurd (eqb-false b 48 et h) }
    by_case false false et eu q = let z : ◌≡◌ {A = ℕ} 0 1 = cc in absurd (omega arith)

digits_out : (t : Bool) (m n : ℕ) → cond t (Some m) None ≡ Some n → (t ≡ true) × (m ≡ n)
digits_out true m n e = (refl, cc)
digits_out false m n e = let z : ◌≡◌ {A = ℕ} 0 1 = cc in absurd (omega arith)

pub numeral_law : (s : List ℕ) → IsNumeral s (magnitude_of s)
numeral_law s = record { prints = prints; reads = reads }
  where
    prints : (n : ℕ) → magnitude_of s ≡ Some n → (s ≡ decimal n) × (n < most_magnitude)
    prints n e =
        let shape = reads_shaped s n e in
        let out = digits_out (all_ascii_digits s) (read_on 0 s) n (sym (further_is 0 s) ∙ sym (shaped_reads s shape) ∙ e) in
        let small : read_on 0 s < most_magnitude = digits_value_short own s 6 out.0 shape.few in
        let text : decimal (read_on 0 s) ≡ s = decimal-digits_value own s out.0 shape.some shape.lead (omega arith) in
        let same : read_on 0 s ≡ n = out.1 in
        (sym text ∙ ap decimal same, omega arith)

    shaped : (n : ℕ) → n < most_magnitude → Shaped (decimal n)
    shaped n h = record {
      some = decimal_nonempty n (omega arith);
      few = length-decimal-le 6 n (omega arith) (omega arith) (omega arith);
      lead = λ e. ⊎_elim (λ z. ap (λ k. length (decimal k)) z ∙ ap length (decimal_digit 0 (omega arith))) (λ z. let f = first_decimal n (omega arith) (omega arith) in absurd (omega arith)) (cases_eq n 0);
    }

    reads : (n : ℕ) → s ≡ decimal n → n < most_magnitude → magnitude_of s ≡ Some n
    reads n e h =
        ap magnitude_of e
        ∙ shaped_reads (decimal n) (shaped n h)
        ∙ further_is 0 (decimal n)
        ∙ ap (λ t. cond t (Some (read_on 0 (decimal n))) None) (digits_decimal own n (omega arith))
        ∙ ap Some (digits_value-decimal own n (omega arith))

-- what a text reads is told by what prints so
pub numeral_is : (s : List ℕ) (r : Option ℕ) → r ≡ magnitude_of s → IsNumeral s r
numeral_is s r is = subst (IsNumeral s) (sym is) (numeral_law s)

-- ---- with a sign
unsigned_out : (m : Option ℕ) (v : ℤ) → option_map unsigned m ≡ Some (reading.Number v) → (n : ℕ) × ((m ≡ Some n) × (v ≡ pos n))
unsigned_out (Some n) v e = (n, (refl, cc))
unsigned_out None v e = let z : ◌≡◌ {A = ℕ} 0 1 = cc in absurd (omega arith)

-- a number behind a minus sign that is not zero
minus_some : (k : ℕ) → negative (suc k) ≡ Some (reading.Number (negsuc k))
minus_some k = ap (λ t. cond t None (Some (reading.Number (negsuc k)))) (ne_eqb (suc k) 0 (λ z. omega arith))

negative_out : (m : Option ℕ) (v : ℤ) → option_and_then negative m ≡ Some (reading.Number v) → (k : ℕ) × ((m ≡ Some (suc k)) × (v ≡ negsuc k))
negative_out (Some zero) v e = let z : ◌≡◌ {A = ℕ} 0 1 = cc in absurd (omega arith)
negative_out (Some (suc k)) v e = let same : Some (reading.Number (negsuc k)) ≡ Some (reading.Number v) = sym (minus_some k) ∙ e in (k, (refl, cc))
negative_out None v e = let z : ◌≡◌ {A = ℕ} 0 1 = cc in absurd (omega arith)

no_hyphen_unsigned : (m : Option ℕ) → option_map unsigned m ≡ Some reading.Hyphen → ⊥
no_hyphen_unsigned (Some n) e = let z : ◌≡◌ {A = ℕ} 0 1 = cc in omega arith
no_hyphen_unsigned None e = let z : ◌≡◌ {A = ℕ} 0 1 = cc in omega arith

no_hyphen_negative : (m : Option ℕ) → option_and_then negative m ≡ Some reading.Hyphen → ⊥
no_hyphen_negative (Some zero) e = let z : ◌≡◌ {A = ℕ} 0 1 = cc in omega arith
no_hyphen_negative (Some (suc k)) e = let same = sym (minus_some k) ∙ e in let z : ◌≡◌ {A = ℕ} 0 1 = cc in omega arith
no_hyphen_negative None e = let z : ◌≡◌ {A = ℕ} 0 1 = cc in omega arith

-- what a field whose reading is known looks like, by its first byte
pub data Form (s : List ℕ) : Type 0 where
  plain : reading_of s ≡ option_map unsigned (magnitude_of s) → Form s
  hyphen : s ≡ 45 ∷ [] → Form s
  minus : (t : List ℕ) → s ≡ 45 ∷ t → reading_of s ≡ option_and_then negative (magnitude_of t) → Form s

form : (s : List ℕ) → Form s
form [] = plain refl
form (b ∷ []) = ⊎_elim (λ e. hyphen (ap (λ c. c ∷ []) e)) (λ n. plain (ap (λ t. cond t (Some reading.Hyphen) (option_map unsigned (magnitude_of (b ∷ [])))) (ne_eqb b 45 n))) (cases_eq b 45)
form (b ∷ c ∷ bs) =
    ⊎_elim
    (λ e. minus (c ∷ bs) (ap (λ x. x ∷ c ∷ bs) e) (ap (λ t. cond t (option_and_then negative (magnitude_of (c ∷ bs))) (option_map unsigned (magnitude_of (b ∷ c ∷ bs)))) (eq-eqb b 45 e)))
    (λ n. plain (ap (λ t. cond t (option_and_then negative (magnitude_of (c ∷ bs))) (option_map unsigned (magnitude_of (b ∷ c ∷ bs)))) (ne_eqb b 45 n)))
    (cases_eq b 45)

-- a printed number does not begin with a hyphen
first_digit : (n : ℕ) → n < most_magnitude → (t : List ℕ) → decimal n ≡ 45 ∷ t → ⊥
first_digit n h t e = ⊎_elim (λ z. let f = decimal_digit 0 (omega arith) in let g = sym (ap decimal z) ∙ e in let b : 45 ≡ 48 = ap (λ l. get_or l 0 0) (sym g ∙ f) in omega arith) (λ z. let f = first_decimal n (omega arith) (omega arith) in let b : get_or (decimal n) 0 0 ≡ 45 = ap (λ l. get_or l 0 0) e in omega arith) (cases_eq n 0)

pub reading_minus : (s : List ℕ) → 1 < length s → get_or s 0 0 ≡ 45 → reading_of s ≡ option_and_then negative (magnitude_of (drop 1 s))
reading_minus [] lt e = absurd (omega arith)
reading_minus (b ∷ []) lt e = absurd (omega arith)
reading_minus (b ∷ c ∷ bs) lt e = rw (eq-eqb b 45 e)

module _ (s : List ℕ) where
  prints_v : (v : ℤ) → reading_of s ≡ Some (reading.Number v) → (s ≡ signed_decimal v) × (nat_abs v < most_magnitude)
  prints_v v e = elim (form s) [
    | plain r ↦
        let out = unsigned_out (magnitude_of s) v (sym r ∙ e) in
        let law = (numeral_law s).prints out.0 out.1.0 in
        subst (λ x. (s ≡ signed_decimal x) × (nat_abs x < most_magnitude)) (sym out.1.1) law
    | hyphen h ↦ let no : Some reading.Hyphen ≡ Some (reading.Number v) = sym (ap reading_of h) ∙ e in let z : ◌≡◌ {A = ℕ} 0 1 = cc in absurd (omega arith)
    | minus t h r ↦
        let out = negative_out (magnitude_of t) v (sym r ∙ e) in
        let law = (numeral_law t).prints (suc out.0) out.1.0 in
        subst (λ x. (s ≡ signed_decimal x) × (nat_abs x < most_magnitude)) (sym out.1.1) (h ∙ ap (λ l. 45 ∷ l) law.0, law.1)
  ]

  reads_v : (v : ℤ) → s ≡ signed_decimal v → nat_abs v < most_magnitude → reading_of s ≡ Some (reading.Number v)
  reads_v (pos n) e small = elim (form s) [
    | plain r ↦ r ∙ ap (option_map unsigned) ((numeral_law s).reads n e small)
    | hyphen h ↦ absurd (first_digit n small [] (sym e ∙ h))
    | minus t h r ↦ absurd (first_digit n small t (sym e ∙ h))
  ]
  reads_v (negsuc k) e small =
      let some : 0 < length (decimal (suc k)) = decimal_nonempty (suc k) (omega arith) in
      let long : 1 < length s = omega (arith, ap length e) in
      reading_minus s long (ap (λ l. get_or l 0 0) e)
      ∙ ap (option_and_then negative) ((numeral_law (drop 1 s)).reads (suc k) (ap (drop 1) e) small)
      ∙ minus_some k

  is_hyphen : reading_of s ≡ Some reading.Hyphen → s ≡ 45 ∷ []
  is_hyphen e = elim (form s) [
    | plain r ↦ absurd (no_hyphen_unsigned (magnitude_of s) (sym r ∙ e))
    | hyphen h ↦ h
    | minus t h r ↦ absurd (no_hyphen_negative (magnitude_of t) (sym r ∙ e))
  ]

-- what a field reads as is told by what prints so
pub reading_law : (s : List ℕ) (r : Option Reading) → r ≡ reading_of s → IsReading s r
reading_law s r is = subst (IsReading s) (sym is) (record { prints = prints_v s; reads = reads_v s; hyphen = is_hyphen s; hyphen_reads = λ e. ap reading_of e })
