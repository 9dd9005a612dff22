-- What stands where in lists that are made place by place.
use Rattle.std.proofs.Common.{◌≡◌, ℕ, zero, suc, ◌+◌, ◌*◌, ◌<◌, List, [], ◌∷◌, ◌++◌, length, get_or, sym, ap, ◌∙◌, mul-le-mul_right, arith}
use native.Mathlib.Decide.{dec_lt}
use Rattle.std.specs.List.{AllByRecursion}
use Rattle.std.proofs.ByRecursion.{All-append}
use Rattle.std.proofs.lemmas.List.{length-append, get_or_append_left, get_or-append-add}
use Rattle.tables.specs.Path.{listed}
use Rattle.tables.specs.Weight.{joined}
use Rattle.tables.proofs.Sums.{length_listed, getD_listed}

module _ {A : Type 0} where
  -- the element at a place, as a loop over the places reads it
  pub listed_stands : (m : ℕ) (f : ℕ → A) (i : ℕ) → i < m → (i < length (listed m f)) × (f i ≡ get_or (listed m f) i (f i))
  listed_stands m f i h = (omega (arith, length_listed m f), sym (getD_listed m f (f i) i h))

  -- lists of one length, one behind the other
  pub length_joined : (m w : ℕ) (g : ℕ → List A) → ((i : ℕ) → length (g i) ≡ w) → length (joined m g) ≡ m * w
  length_joined zero w g e = omega arith
  length_joined (suc m) w g e = omega (arith, length-append (joined m g) (g m), length_joined m w g e, e m)

  pub getD_joined : (m w : ℕ) (g : ℕ → List A) → ((i : ℕ) → length (g i) ≡ w) → (d : A) (i j : ℕ) → i < m → j < w → get_or (joined m g) (i * w + j) d ≡ get_or (g i) j d
  getD_joined zero w g e d i j h l = absurd (omega arith)
  getD_joined (suc m) w g e d i j h l =
      let long = length_joined m w g e in
      elim (dec_lt i m) [
        | yes under ↦ get_or_append_left (joined m g) (g m) d (i * w + j) (omega (arith, long, mul-le-mul_right w under)) ∙ getD_joined m w g e d i j under l
        | no over ↦
            let here : i ≡ m = omega arith in
            ap (λ p. get_or (joined m g ++ g m) (p * w + j) d) here
            ∙ ap (λ p. get_or (joined m g ++ g m) (p + j) d) (sym long)
            ∙ get_or-append-add (joined m g) (g m) j d
            ∙ ap (λ p. get_or (g p) j d) (sym here)
      ]

  -- what holds of each part holds of the whole
  pub all_listed : (P : A → Type 0) (m : ℕ) (f : ℕ → A) → ((i : ℕ) → P (f i)) → AllByRecursion P (listed m f)
  all_listed P zero f h = tt
  all_listed P (suc m) f h = All-append P (listed m f) (f m ∷ []) (all_listed P m f h) (h m, tt)

  pub all_joined : (P : A → Type 0) (m : ℕ) (g : ℕ → List A) → ((i : ℕ) → AllByRecursion P (g i)) → AllByRecursion P (joined m g)
  all_joined P zero g h = tt
  all_joined P (suc m) g h = All-append P (joined m g) (g m) (all_joined P m g h) (h m)
