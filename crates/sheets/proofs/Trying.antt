-- Tests at the places below a number: the turns of a loop, and what is found.
use Rattle.std.proofs.Common.{◌≡◌, ℕ, zero, suc, ◌+◌, ◌<◌, Bool, true, false, cond, ◌&&◌, is_some, is_none, not, Some, None, Ok, Option, Result, refl, ap, ◌∙◌, ap₂, arith}
use native.Mathlib.Decide.{dec_lt}
use Rattle.std.proofs.lemmas.Bool.{and_parts, and_from}
use Rattle.kinds.specs.declared.fault.Fault.{Fault}
use Rattle.sheets.specs.Firsts.{every, first_place, or_else}
use Rattle.sheets.proofs.Standing.{same_ok}

module _ (f : ℕ → Bool) where
  pub every_at : (n : ℕ) → every n f ≡ true → (i : ℕ) → i < n → f i ≡ true
  every_at zero all i h = absurd (omega arith)
  every_at (suc n) all i h =
      let p = and_parts _ _ all in
      elim (dec_lt i n) [
        | yes under ↦ every_at n p.0 i under
        | no over ↦ let here : i ≡ n = omega arith in ap f here ∙ p.1
      ]

  pub every_from : (n : ℕ) → ((i : ℕ) → i < n → f i ≡ true) → every n f ≡ true
  every_from zero h = refl
  every_from (suc n) h = and_from _ _ (every_from n (λ i l. h i (omega arith))) (h n (omega arith))

  -- a place fails, and none before it
  pub first_found : (n i : ℕ) → i < n → first_place i f ≡ None → f i ≡ false → first_place n f ≡ Some (i + 1)
  first_found zero i h none e = absurd (omega arith)
  first_found (suc n) i h none e =
      elim (dec_lt i n) [
        | yes under ↦ ap (λ o. or_else o (cond (f n) None (Some (n + 1)))) (first_found n i under none e)
        | no over ↦
            let here : n ≡ i = omega arith in
            ap (λ m. or_else (first_place m f) (cond (f m) None (Some (m + 1)))) here ∙ ap₂ or_else none (ap (λ b. cond b None (Some (i + 1))) e)
      ]

  -- no place fails: each passes
  pub none_passes : (n : ℕ) → first_place n f ≡ None → (i : ℕ) → i < n → f i ≡ true
  none_passes zero none i h = absurd (omega arith)
  none_passes (suc n) none i h =
      let p = split (first_place n f) (f n) none in
      elim (dec_lt i n) [
        | yes under ↦ none_passes n p.0 i under
        | no over ↦ let here : i ≡ n = omega arith in ap f here ∙ p.1
      ]
    where
      split : (o : Option ℕ) (b : Bool) → or_else o (cond b None (Some (n + 1))) ≡ None → (o ≡ None) × (b ≡ true)
      split None true e = (refl, refl)
      split None false e = let z : ◌≡◌ {A = ℕ} 0 1 = cc in absurd (omega arith)
      split (Some k) b e = let z : ◌≡◌ {A = ℕ} 0 1 = cc in absurd (omega arith)

  pub none_from : (n : ℕ) → ((i : ℕ) → i < n → f i ≡ true) → first_place n f ≡ None
  none_from zero h = refl
  none_from (suc n) h = ap₂ or_else (none_from n (λ i l. h i (omega arith))) (ap (λ b. cond b None (Some (n + 1))) (h n (omega arith)))

  -- i is the first place below n that fails, and p is i counted from 1
  pub record Found (n p : ℕ) : Type 0 where
    pub at : ℕ
    pub is : p ≡ at + 1
    pub inside : at < n
    pub fails : f at ≡ false
    pub before : (j : ℕ) → j < at → f j ≡ true

  pub some_fails : (n p : ℕ) → first_place n f ≡ Some p → Found n p
  some_fails zero p e = let z : ◌≡◌ {A = ℕ} 0 1 = cc in absurd (omega arith)
  some_fails (suc n) p e = by_case (some_fails n p) (first_place n f) (f n) refl refl e
    where
      by_case : (first_place n f ≡ Some p → Found n p) → (o : Option ℕ) (b : Bool) → first_place n f ≡ o → f n ≡ b → or_else o (cond b None (Some (n + 1))) ≡ Some p → Found (suc n) p
      by_case earlier None true eo eb q = let z : ◌≡◌ {A = ℕ} 0 1 = cc in absurd (omega arith)
      by_case earlier None false eo eb q = record { at = n; is = (cc); inside = omega arith; fails = eb; before = none_passes n eo }
      by_case earlier (Some m) b eo eb q = let rest = earlier (eo ∙ q) in let l = rest.inside in record { at = rest.at; is = rest.is; inside = omega arith; fails = rest.fails; before = rest.before }

  none_every : (n : ℕ) → is_none (first_place n f) ≡ every n f
  none_every zero = refl
  none_every (suc n) = by_case (first_place n f) (every n f) (f n) (none_every n)
    where
      by_case : (o : Option ℕ) (a b : Bool) → is_none o ≡ a → is_none (or_else o (cond b None (Some (n + 1)))) ≡ (a && b)
      by_case None a true e = ap (λ c. c && true) e
      by_case None a false e = ap (λ c. c && false) e
      by_case (Some p) a b e = ap (λ c. c && b) e

  -- a call that tells whether none was found tells whether every place passes
  pub tells_every : (n : ℕ) (o : Option ℕ) (b : Bool) → ◌≡◌ {A = Result (Option ℕ) Fault} (Ok o) (Ok (first_place n f)) → is_some o ≡ not b → b ≡ every n f
  tells_every n o b found says = by_case b o says ∙ ap is_none (same_ok found) ∙ none_every n
    where
      by_case : (b : Bool) (o : Option ℕ) → is_some o ≡ not b → b ≡ is_none o
      by_case true None e = refl
      by_case true (Some p) e = e
      by_case false None e = e
      by_case false (Some p) e = refl
