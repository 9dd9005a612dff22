-- What a run laid on the shelf leaves, and where it stands.
use Rattle.std.proofs.Common.{◌≡◌, ℕ, ◌+◌, ◌≤◌, List, ◌++◌, length, take, drop, sym, refl, ap, ◌∙◌, ap₂, arith, length-append, length-drop}
use Rattle.std.proofs.lemmas.List.{append_assoc, drop_at, drop-drop, drop-take, length-take-le, take-append-le, take_at, take-take}
use Rattle.uses.specs.Holds.{laid, part}

module _ {K : Type 0} (shelf : List K) (at : ℕ) (run : List K) (fits : at + length run ≤ length shelf) where
  front : length (take at shelf) ≡ at
  front = length-take-le at shelf (omega arith)

  -- what lies below the run stays
  pub laid_below : (place size : ℕ) → place + size ≤ at → part (laid shelf at run) place size ≡ part shelf place size
  laid_below place size h =
      sym (drop-take place size (laid shelf at run))
      ∙ ap (drop place) (take-append-le (place + size) (take at shelf) (run ++ drop (at + length run) shelf) (let l = front in omega arith) ∙ take-take (place + size) at shelf h)
      ∙ drop-take place size shelf

  -- the run stands where it was laid
  pub laid_here : part (laid shelf at run) at (length run) ≡ run
  laid_here =
      ap (take (length run)) (drop_at (take at shelf) (run ++ drop (at + length run) shelf) at front)
      ∙ take_at run (drop (at + length run) shelf) (length run) refl

  -- the shelf is as long as it was
  pub length_laid : length (laid shelf at run) ≡ length shelf
  length_laid =
      let l = front in
      simp (length-append, length-drop) (omega arith)

-- a run laid right behind a front: front and run, and behind them the rest of what was brought
pub laid_behind : {K : Type 0} (front run brought : List K) → laid (front ++ drop (length front) brought) (length front) run ≡ (front ++ run) ++ drop (length (front ++ run)) brought
laid_behind front run brought =
    let n = length front in
    let shelf = front ++ drop n brought in
    let rest : drop (n + length run) shelf ≡ drop (length (front ++ run)) brought =
    sym (drop-drop (length run) n shelf)
    ∙ ap (drop (length run)) (drop_at front (drop n brought) n refl)
    ∙ drop-drop (length run) n brought
    ∙ ap (λ m. drop m brought) (sym (length-append front run)) in
    ap₂ ◌++◌ (take_at front (drop n brought) n refl) (ap (λ xs. run ++ xs) rest)
    ∙ sym (append_assoc front run (drop (length (front ++ run)) brought))
