-- How a line's fields follow from the place of its first comma.
use Rattle.std.proofs.Common.{◌≡◌, ℕ, zero, suc, ◌<◌, Bool, true, false, cond, eqb, List, [], ◌∷◌, length, get_or, take, drop, sym, refl, ap, ◌∙◌, arith, eq-eqb, ne_eqb, eqb-true}
use Rattle.std.specs.List.{AllByRecursion, AllWithin}
use Rattle.text.specs.Split.{split, onto, joined, AreFieldsOf}

-- no byte m stands below n
abbrev pub Clear : ℕ → List ℕ → ℕ → Type 0
Clear m s n = AllWithin (λ b. b ≡ m → ⊥) s 0 n

-- without a comma a line is one field
pub one_field : (s : List ℕ) → Clear 44 s (length s) → split s ≡ s ∷ []
one_field [] h = refl
one_field (b ∷ bs) h =
    let off : eqb b 44 ≡ false = ne_eqb b 44 (h 0 0 (omega arith) (omega arith)) in
    let rest : split bs ≡ bs ∷ [] = one_field bs (λ k d low lt. h (suc k) d (omega arith) (omega arith)) in
    rw (off, rest)

-- with a first comma at n, the front is a field and the fields of the rest follow
pub first_field : (s : List ℕ) (n : ℕ) → n < length s → get_or s n 0 ≡ 44 → Clear 44 s n → split s ≡ take n s ∷ split (drop (suc n) s)
first_field [] n lt is h = absurd (omega arith)
first_field (b ∷ bs) zero lt is h = rw (eq-eqb b 44 is)
first_field (b ∷ bs) (suc n) lt is h =
    let off : eqb b 44 ≡ false = ne_eqb b 44 (h 0 0 (omega arith) (omega arith)) in
    let rest : split bs ≡ take n bs ∷ split (drop (suc n) bs) = first_field bs n (omega arith) is (λ k d low less. h (suc k) d (omega arith) (omega arith)) in
    rw (off, rest)

-- ---- the fields make up the line again
some_field : (s : List ℕ) → 0 < length (split s)
some_field [] = omega arith
some_field (b ∷ bs) = by_case (eqb b 44) (split bs)
  where
    by_case : (t : Bool) (fs : List (List ℕ)) → 0 < length (cond t ([] ∷ fs) (onto b fs))
    by_case true fs = omega arith
    by_case false [] = omega arith
    by_case false (f ∷ fs) = omega arith

comma_first : (fs : List (List ℕ)) → 0 < length fs → joined ([] ∷ fs) ≡ 44 ∷ joined fs
comma_first [] h = absurd (omega arith)
comma_first (f ∷ fs) h = refl

joined_onto : (b : ℕ) (fs : List (List ℕ)) → 0 < length fs → joined (onto b fs) ≡ b ∷ joined fs
joined_onto b [] h = absurd (omega arith)
joined_onto b (f ∷ []) h = refl
joined_onto b (f ∷ g ∷ fs) h = refl

joined_split : (s : List ℕ) → joined (split s) ≡ s
joined_split [] = refl
joined_split (b ∷ bs) = by_case (eqb b 44) refl (joined_split bs)
  where
    by_case : (t : Bool) → eqb b 44 ≡ t → joined (split bs) ≡ bs → joined (cond t ([] ∷ split bs) (onto b (split bs))) ≡ b ∷ bs
    by_case true e h = comma_first (split bs) (some_field bs) ∙ ap (λ l. 44 ∷ l) h ∙ ap (λ c. c ∷ bs) (sym (eqb-true b 44 e))
    by_case false e h = joined_onto b (split bs) (some_field bs) ∙ ap (λ l. b ∷ l) h

-- a list of fields without a comma
abbrev Plain : List (List ℕ) → Type 0
Plain fs = AllByRecursion (λ f. AllByRecursion (λ c. eqb c 44 ≡ false) f) fs

plain_split : (s : List ℕ) → Plain (split s)
plain_split [] = (tt, tt)
plain_split (b ∷ bs) = by_case (eqb b 44) refl (split bs) (plain_split bs)
  where
    by_case : (t : Bool) → eqb b 44 ≡ t → (fs : List (List ℕ)) → Plain fs → Plain (cond t ([] ∷ fs) (onto b fs))
    by_case true e fs h = (tt, h)
    by_case false e [] h = ((e, tt), tt)
    by_case false e (f ∷ fs) h = ((e, h.0), h.1)

pub split_are_fields : (s : List ℕ) → AreFieldsOf s (split s)
split_are_fields s = record { some = some_field s; whole = joined_split s; plain = plain_split s }
