-- The path gives the exact sum from the end where everything on it fits, and is out of range elsewhere.
use Rattle.std.proofs.Common.{◌≡◌, ℕ, zero, suc, ◌<◌, Bool, true, false, cond, List, [], ◌∷◌, ◌++◌, Ok, Err, Result, sym, refl, ap, ◌∙◌, subst, arith, MatchResult}
use native.Mathlib.Decide.{dec_lt}
use Rattle.std.proofs.lemmas.Bool.{both_ways}
use Rattle.kinds.specs.declared.fault.Fault.{Fault}
use Rattle.kinds.specs.declared.fault.Refusal.TheVariants.{OutOfRange}
use Rattle.kinds.specs.Faults.{fault, then}
use Rattle.kinds.specs.Semiring.{total}
use Rattle.kinds.specs.Numbers.{Numbers, checked}
use Rattle.tables.specs.Layout.{start_at, step_at}
use Rattle.tables.specs.Backward.{vector, backward_sum}
use Rattle.tables.specs.Path.{listed, sums, rows, at_state, stepped, backward, path_answer, PathIsWeight}
use Rattle.tables.specs.Range.{SumFits, RowsFit, PathFits, Ranged, PathRefusesExactlyWhereItDoesNotFit}
use Rattle.tables.proofs.Sequences.{backward_sum_is_weight}
use Rattle.tables.proofs.Sums.{sums_listed}

-- r is x where P holds, and out of range where it does not
abbrev Tells : {A : Type 0} → Type 0 → A → Result A Fault → Type 0
Tells P x r = MatchResult r (λ v. P × (v ≡ x)) (λ f. (P → ⊥) × (f ≡ fault OutOfRange))

tells_like : {A : Type 0} (P Q : Type 0) (x : A) (r : Result A Fault) → (P → Q) → (Q → P) → Tells P x r → Tells Q x r
tells_like P Q x (Ok v) to from h = (to h.0, h.1)
tells_like P Q x (Err e) to from h = (λ q. h.0 (from q), h.1)

tells_made : {A B : Type 0} (P : Type 0) (x : A) (r : Result A Fault) (f : A → B) → Tells P x r → Tells P (f x) (then r (λ y. Ok (f y)))
tells_made P x (Ok v) f h = (h.0, ap f h.1)
tells_made P x (Err e) f h = h

tells_then : {A B : Type 0} (P Q : Type 0) (x : A) (y : B) (r : Result A Fault) (f : A → Result B Fault) → Tells P x r → Tells Q y (f x) → Tells (P × Q) y (then r f)
tells_then P Q x y (Ok v) f h k = subst (λ z. Tells (P × Q) y (f z)) (sym h.1) (after (f x) k)
  where
    after : (r : Result _ Fault) → Tells Q y r → Tells (P × Q) y r
    after (Ok w) k = ((h.0, k.0), k.1)
    after (Err e) k = (λ q. k.0 q.1, k.1)
tells_then P Q x y (Err e) f h k = (λ q. h.0 q.0, h.1)

-- what holds below m and at m holds below suc m
below_suc : (P : ℕ → Type 0) (m : ℕ) → ((i : ℕ) → i < m → P i) → P m → (i : ℕ) → i < suc m → P i
below_suc P m below here i h =
    elim (dec_lt i m) [
      | yes under ↦ below i under
      | no over ↦ let this : m ≡ i = omega arith in subst P this here
    ]

module _ {K : Type 0} (N : Numbers K) where
  checked_tells : (v : N.exact.Value) → Tells (N.fits v ≡ true) v (checked N v)
  checked_tells v = by_case (N.fits v) refl
    where
      by_case : (b : Bool) → N.fits v ≡ b → Tells (N.fits v ≡ true) v (cond b (Ok v) (Err (fault OutOfRange)))
      by_case true f = (f, refl)
      by_case false f = (λ t. both_ways (N.fits v) f t, refl)

  sums_tells : (m : ℕ) (f g : ℕ → N.exact.Value) → Tells (SumFits N m f g) (total N.exact m (λ i. N.exact.times (f i) (g i))) (sums N m f g)
  sums_tells zero f g = (λ j h. absurd (omega arith), refl)
  sums_tells (suc m) f g =
      let p = N.exact.times (f m) (g m) in
      let a = total N.exact m (λ i. N.exact.times (f i) (g i)) in
      let s = N.exact.plus a p in
      let last = tells_then (N.fits p ≡ true) (N.fits s ≡ true) p s (checked N p) (λ q. checked N (N.exact.plus a q)) (checked_tells p) (checked_tells s) in
      tells_like (SumFits N m f g × ((N.fits p ≡ true) × (N.fits s ≡ true))) (SumFits N (suc m) f g) s (sums N (suc m) f g)
      (λ h. below_suc _ m h.0 h.1)
      (λ h. (λ j l. h j (omega arith), h m (omega arith)))
      (tells_then (SumFits N m f g) ((N.fits p ≡ true) × (N.fits s ≡ true)) a s (sums N m f g) (λ x. then (checked N p) (λ q. checked N (N.exact.plus x q))) (sums_tells m f g) last)

  -- the same of a sum over a listed vector
  sums_listed_tells : (m : ℕ) (f g : ℕ → N.exact.Value) → Tells (SumFits N m f g) (total N.exact m (λ i. N.exact.times (f i) (g i))) (sums N m f (at_state N (listed m g)))
  sums_listed_tells m f g = subst (Tells (SumFits N m f g) (total N.exact m (λ i. N.exact.times (f i) (g i)))) (sym (sums_listed N m f g)) (sums_tells m f g)

  rows_tell : (m : ℕ) (f : ℕ → Result N.exact.Value Fault) (P : ℕ → Type 0) (x : ℕ → N.exact.Value) → ((i : ℕ) → Tells (P i) (x i) (f i)) → Tells ((i : ℕ) → i < m → P i) (listed m x) (rows N m f)
  rows_tell zero f P x h = (λ i l. absurd (omega arith), refl)
  rows_tell (suc m) f P x h =
      tells_like (((i : ℕ) → i < m → P i) × P m) ((i : ℕ) → i < suc m → P i) (listed (suc m) x) (rows N (suc m) f)
      (λ q. below_suc P m q.0 q.1)
      (λ q. (λ i l. q i (omega arith), q m (omega arith)))
      (tells_then ((i : ℕ) → i < m → P i) (P m) (listed m x) (listed (suc m) x) (rows N m f) (λ xs. then (f m) (λ y. Ok (xs ++ (y ∷ [])))) (rows_tell m f P x h) (tells_made (P m) (x m) (f m) (λ y. listed m x ++ (y ∷ [])) (h m)))

  module _ (n : ℕ) (t : ℕ → N.exact.Value) where
    -- the rows of one event
    abbrev RowFits : ℕ → List ℕ → ℕ → Type 0
    RowFits e v i = SumFits N n (λ j. t (step_at n e i j)) (vector N.exact n t v)

    no_piece : (u : List ℕ) (e : ℕ) (v : List ℕ) → [] ≡ u ++ (e ∷ v) → ⊥
    no_piece [] e v h = let z : ◌≡◌ {A = ℕ} 0 1 = cc in omega arith
    no_piece (x ∷ u) e v h = let z : ◌≡◌ {A = ℕ} 0 1 = cc in omega arith

    -- an end piece of a word is the word or one of what follows its first event
    more_rows : (e : ℕ) (w : List ℕ) → RowsFit N n t w → ((i : ℕ) → i < n → RowFits e w i) → RowsFit N n t (e ∷ w)
    more_rows e w rest first [] e' v q i l =
        let one : e ≡ e' = cc in
        let same : w ≡ v = cc in
        subst (λ x. RowFits x v i) one (subst (λ x. RowFits e x i) same (first i l))
    more_rows e w rest first (x ∷ u) e' v q i l = let tail : w ≡ u ++ (e' ∷ v) = cc in rest u e' v tail i l

    backward_tells : (w : List ℕ) → Tells (RowsFit N n t w) (listed n (vector N.exact n t w)) (backward N n t w)
    backward_tells [] = (λ u e v q. absurd (no_piece u e v q), refl)
    backward_tells (e ∷ w) =
        let x = vector N.exact n t w in
        let y = listed n (vector N.exact n t (e ∷ w)) in
        tells_like (RowsFit N n t w × ((i : ℕ) → i < n → RowFits e w i)) (RowsFit N n t (e ∷ w)) y (backward N n t (e ∷ w))
        (λ h. more_rows e w h.0 h.1)
        (λ h. (λ u e' v q. h (e ∷ u) e' v (ap (λ l. e ∷ l) q), h [] e w refl))
        (tells_then (RowsFit N n t w) ((i : ℕ) → i < n → RowFits e w i) (listed n x) y (backward N n t w) (λ v. stepped N n t e (at_state N v)) (backward_tells w) (rows_tell n _ (RowFits e w) (vector N.exact n t (e ∷ w)) (λ i. sums_listed_tells n (λ j. t (step_at n e i j)) x)))

    path_tells : (w : List ℕ) → Tells (PathFits N n t w) (backward_sum N.exact n t w) (path_answer N n t w)
    path_tells w =
        let x = vector N.exact n t w in
        let starts = λ (i : ℕ). t (start_at i) in
        tells_then (RowsFit N n t w) (SumFits N n starts x) (listed n x) (backward_sum N.exact n t w) (backward N n t w) (λ v. sums N n starts (at_state N v)) (backward_tells w) (sums_listed_tells n starts x)

  pub path_is_weight : PathIsWeight N
  path_is_weight n t w v e = (subst (Tells (PathFits N n t w) (backward_sum N.exact n t w)) e (path_tells n t w)).1 ∙ backward_sum_is_weight N.exact n t w

  pub path_refuses_exactly_where_it_does_not_fit : PathRefusesExactlyWhereItDoesNotFit N
  path_refuses_exactly_where_it_does_not_fit n t w = without (path_answer N n t w) (path_tells n t w)
    where
      without : (r : Result N.exact.Value Fault) → Tells (PathFits N n t w) (backward_sum N.exact n t w) r → Ranged N n t w r
      without (Ok v) h = h.0
      without (Err e) h = h
