-- The first element of a list that fails a test.
use Rattle.std.proofs.Common.{◌≡◌, ℕ, suc, ◌+◌, ◌-◌, ◌<◌, ◌≤◌, Bool, true, false, cond, List, [], ◌∷◌, length, get_or, drop, Some, None, Option, sym, refl, ap, ◌∙◌, subst, inl, inr, arith, MatchOption}
use Rattle.std.proofs.lemmas.List.{at_drop_more}
use Rattle.std.proofs.lemmas.Bool.{cases_lt, cond-true, cond-false}
use Rattle.tables.specs.Firsts.{AllPass, FirstFailing, first_failing}

module _ {A : Type 0} (test : A → Bool) (d : A) where
  -- p is the place of the first element that fails the test, where the first element of all has place s
  record From (s : ℕ) (xs : List A) (p : ℕ) : Type 0 where
    low : s ≤ p
    high : p < s + length xs
    fails : test (get_or xs (p - s) d) ≡ false
    before : (q : ℕ) → s ≤ q → q < p → test (get_or xs (q - s) d) ≡ true

  -- what the search finds, counted from any place
  found : (s : ℕ) (xs : List A) → MatchOption (first_failing test s xs) (AllPass test xs) (From s xs)
  found s [] = tt
  found s (x ∷ xs) = here (test x) refl (found (s + 1) xs)
    where
      start : get_or (x ∷ xs) (s - s) d ≡ x
      start = let e : s - s ≡ 0 = omega arith in ap (λ i. get_or (x ∷ xs) i d) e

      later : (q : ℕ) → s + 1 ≤ q → get_or (x ∷ xs) (q - s) d ≡ get_or xs (q - (s + 1)) d
      later q h = let e : q - s ≡ suc (q - (s + 1)) = omega arith in ap (λ i. get_or (x ∷ xs) i d) e

      passed : test x ≡ true → (o : Option ℕ) → MatchOption o (AllPass test xs) (From (s + 1) xs) → MatchOption o (AllPass test (x ∷ xs)) (From s (x ∷ xs))
      passed e None all = (e, all)
      passed e (Some p) f =
          let l = f.low in
          let h = f.high in
          record {
            low = omega arith;
            high = omega arith;
            fails = ap test (later p l) ∙ f.fails;
            before = λ q a b. elim (cases_lt s q) [
              | inl more ↦ ap test (later q (omega arith)) ∙ f.before q (omega arith) b
              | inr less ↦ let z : q ≡ s = omega arith in ap (λ i. test (get_or (x ∷ xs) (i - s) d)) z ∙ ap test start ∙ e
            ];
          }

      here : (b : Bool) → test x ≡ b → MatchOption (first_failing test (s + 1) xs) (AllPass test xs) (From (s + 1) xs) → MatchOption (cond b (first_failing test (s + 1) xs) (Some s)) (AllPass test (x ∷ xs)) (From s (x ∷ xs))
      here true e rest = passed e (first_failing test (s + 1) xs) rest
      here false e rest = record { low = omega arith; high = omega arith; fails = ap test start ∙ e; before = λ q a b. absurd (omega arith) }

  -- what is found is the first element that fails the test, and where nothing is found all pass
  pub first_is_first : (xs : List A) (r : Option ℕ) → r ≡ first_failing test 1 xs → MatchOption r (AllPass test xs) (FirstFailing test d xs)
  first_is_first xs r e = subst (λ o. MatchOption o (AllPass test xs) (FirstFailing test d xs)) (sym e) (from_one (first_failing test 1 xs) (found 1 xs))
    where
      from_one : (o : Option ℕ) → MatchOption o (AllPass test xs) (From 1 xs) → MatchOption o (AllPass test xs) (FirstFailing test d xs)
      from_one None all = all
      from_one (Some p) f = let l = f.low in let h = f.high in record { some = f.low; inside = omega arith; fails = f.fails; before = f.before }

-- where all pass, nothing is found
pub all_pass_none : {A : Type 0} (test : A → Bool) (p : ℕ) (xs : List A) → AllPass test xs → first_failing test p xs ≡ None
all_pass_none test p [] all = refl
all_pass_none test p (x ∷ xs) all = cond-true _ _ _ all.0 ∙ all_pass_none test (p + 1) xs all.1

module _ {A : Type 0} (test : A → Bool) (xs : List A) (i : ℕ) (x : A) (inside : i < length xs) (is : x ≡ get_or xs i x) where
  opened : first_failing test (i + 1) (drop i xs) ≡ cond (test x) (first_failing test (i + 1 + 1) (drop (i + 1) xs)) (Some (i + 1))
  opened = at_drop_more (first_failing test (i + 1)) xs i x inside ∙ ap (λ y. cond (test y) (first_failing test (i + 1 + 1) (drop (i + 1) xs)) (Some (i + 1))) (sym is)

  -- an element that passes is passed over
  pub first_later : test x ≡ true → first_failing test (i + 1 + 1) (drop (i + 1) xs) ≡ first_failing test (i + 1) (drop i xs)
  first_later e = sym (opened ∙ cond-true _ _ _ e)

  -- one that fails is found
  pub first_here : test x ≡ false → first_failing test (i + 1) (drop i xs) ≡ Some (i + 1)
  first_here e = opened ∙ cond-false _ _ _ e
