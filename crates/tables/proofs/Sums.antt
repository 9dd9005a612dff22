-- Lists made place by place, tested sums, and rows of them.
use Rattle.std.proofs.Common.{◌≡◌, ℕ, zero, suc, ◌+◌, ◌<◌, ◌≤◌, List, [], ◌∷◌, ◌++◌, length, get_or, Ok, Err, Result, sym, refl, ap, ◌∙◌, zero-add, add-one, arith}
use native.Mathlib.Decide.{dec_lt}
use Rattle.std.proofs.lemmas.List.{length-append, get_or_append_left, get_or_push}
use Rattle.kinds.specs.declared.fault.Fault.{Fault}
use Rattle.kinds.specs.Faults.{then}
use Rattle.kinds.specs.Numbers.{Numbers, checked}
use Rattle.tables.specs.Path.{listed, sums, rows, at_state}

-- ---- lists made place by place
pub length_listed : {A : Type 0} (m : ℕ) (f : ℕ → A) → length (listed m f) ≡ m
length_listed zero f = refl
length_listed (suc m) f = omega (arith, length-append (listed m f) (f m ∷ []), length_listed m f)

pub getD_listed : {A : Type 0} (m : ℕ) (f : ℕ → A) (d : A) (i : ℕ) → i < m → get_or (listed m f) i d ≡ f i
getD_listed zero f d i h = absurd (omega arith)
getD_listed (suc m) f d i h =
    let long = length_listed m f in
    elim (dec_lt i m) [
      | yes under ↦ get_or_append_left (listed m f) (f m ∷ []) d i (omega (arith, long)) ∙ getD_listed m f d i under
      | no over ↦ let this : i ≡ m = omega arith in get_or_push (listed m f) (f m) d i (long ∙ sym this) ∙ ap f (sym this)
    ]

pub listed_cong : {A : Type 0} (m : ℕ) (f g : ℕ → A) → ((i : ℕ) → i < m → f i ≡ g i) → listed m f ≡ listed m g
listed_cong zero f g h = refl
listed_cong (suc m) f g h = ap (λ xs. xs ++ (f m ∷ [])) (listed_cong m f g (λ i l. h i (omega arith))) ∙ ap (λ x. listed m g ++ (x ∷ [])) (h m (omega arith))

module _ {K : Type 0} (N : Numbers K) where
  -- ---- sums
  abbrev adding : N.exact.Value → N.exact.Value → Result N.exact.Value Fault
  adding a p = checked N (N.exact.plus a p)

  abbrev next : N.exact.Value → N.exact.Value → N.exact.Value → Result N.exact.Value Fault
  next x y a = then (checked N (N.exact.times x y)) (adding a)

  pub sums_cong : (m : ℕ) (f g h : ℕ → N.exact.Value) → ((i : ℕ) → i < m → g i ≡ h i) → sums N m f g ≡ sums N m f h
  sums_cong zero f g h e = refl
  sums_cong (suc m) f g h e =
      ap (λ c. then c (next (f m) (g m))) (sums_cong m f g h (λ i l. e i (omega arith)))
      ∙ ap (λ y. then (sums N m f h) (next (f m) y)) (e m (omega arith))

  -- a sum over a listed vector is one over the vector
  pub sums_listed : (m : ℕ) (f g : ℕ → N.exact.Value) → sums N m f (at_state N (listed m g)) ≡ sums N m f g
  sums_listed m f g = sums_cong m f (at_state N (listed m g)) g (getD_listed m g N.exact.zero)

  pub sums_from_zero : (m : ℕ) (f g : ℕ → N.exact.Value) → sums N m (λ j. f (0 + j)) g ≡ sums N m f g
  sums_from_zero zero f g = refl
  sums_from_zero (suc m) f g =
      ap (λ c. then c (next (f (0 + m)) (g m))) (sums_from_zero m f g)
      ∙ ap (λ i. then (sums N m f g) (next (f i) (g m))) (zero-add m)

  -- where a partial sum is refused the whole is
  pub sums_up : (i m : ℕ) (f g : ℕ → N.exact.Value) (e : Fault) → i ≤ m → sums N i f g ≡ Err e → sums N m f g ≡ Err e
  sums_up i zero f g e l h = let here : i ≡ 0 = omega arith in ap (λ k. sums N k f g) (sym here) ∙ h
  sums_up i (suc m) f g e l h =
      elim (dec_lt i (suc m)) [
        | yes under ↦ ap (λ c. then c (next (f m) (g m))) (sums_up i m f g e (omega arith) h)
        | no over ↦ let here : i ≡ suc m = omega arith in ap (λ k. sums N k f g) (sym here) ∙ h
      ]

  module _ (f g : ℕ → N.exact.Value) (i : ℕ) (a : N.exact.Value) (so_far : sums N i f g ≡ Ok a) where
    opened : sums N (i + 1) f g ≡ next (f i) (g i) a
    opened = ap (λ k. sums N k f g) (add-one i) ∙ ap (λ c. then c (next (f i) (g i))) so_far

    -- one product more
    pub sums_more : (p s : N.exact.Value) → checked N (N.exact.times (f i) (g i)) ≡ Ok p → checked N (N.exact.plus a p) ≡ Ok s → sums N (i + 1) f g ≡ Ok s
    sums_more p s hp hs = opened ∙ ap (λ c. then c (adding a)) hp ∙ hs

    -- the product is refused
    pub sums_no_product : (e : Fault) → checked N (N.exact.times (f i) (g i)) ≡ Err e → sums N (i + 1) f g ≡ Err e
    sums_no_product e hp = opened ∙ ap (λ c. then c (adding a)) hp

    -- the sum is refused
    pub sums_no_sum : (p : N.exact.Value) (e : Fault) → checked N (N.exact.times (f i) (g i)) ≡ Ok p → checked N (N.exact.plus a p) ≡ Err e → sums N (i + 1) f g ≡ Err e
    sums_no_sum p e hp hs = opened ∙ ap (λ c. then c (adding a)) hp ∙ hs

  -- ---- rows
  abbrev placed : List N.exact.Value → N.exact.Value → Result (List N.exact.Value) Fault
  placed xs x = Ok (xs ++ (x ∷ []))

  pub rows_cong : (m : ℕ) (f g : ℕ → Result N.exact.Value Fault) → ((i : ℕ) → i < m → f i ≡ g i) → rows N m f ≡ rows N m g
  rows_cong zero f g h = refl
  rows_cong (suc m) f g h =
      ap (λ c. then c (λ xs. then (f m) (placed xs))) (rows_cong m f g (λ i l. h i (omega arith)))
      ∙ ap (λ y. then (rows N m g) (λ xs. then y (placed xs))) (h m (omega arith))

  -- where no row is refused the list of them is the answer
  pub rows_listed : (m : ℕ) (f : ℕ → Result N.exact.Value Fault) (v : ℕ → N.exact.Value) → ((i : ℕ) → i < m → f i ≡ Ok (v i)) → rows N m f ≡ Ok (listed m v)
  rows_listed zero f v h = refl
  rows_listed (suc m) f v h =
      ap (λ c. then c (λ xs. then (f m) (placed xs))) (rows_listed m f v (λ i l. h i (omega arith)))
      ∙ ap (λ y. then y (placed (listed m v))) (h m (omega arith))

  -- the first refused row is the answer
  pub rows_stop : (i m : ℕ) (f : ℕ → Result N.exact.Value Fault) (v : ℕ → N.exact.Value) (e : Fault) → i < m → ((j : ℕ) → j < i → f j ≡ Ok (v j)) → f i ≡ Err e → rows N m f ≡ Err e
  rows_stop i zero f v e l h q = absurd (omega arith)
  rows_stop i (suc m) f v e l h q =
      elim (dec_lt i m) [
        | yes under ↦ ap (λ c. then c (λ xs. then (f m) (placed xs))) (rows_stop i m f v e under h q)
        | no over ↦
            let here : i ≡ m = omega arith in
            ap (λ c. then c (λ xs. then (f m) (placed xs))) (rows_listed m f v (λ j k. h j (omega arith)))
            ∙ ap (λ y. then y (placed (listed m v))) (ap f (sym here) ∙ q)
      ]
