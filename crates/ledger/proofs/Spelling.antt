-- A word as it is stored, and as it is spelled.
use Rattle.std.proofs.Common.{◌≡◌, ℕ, ◌+◌, ◌-◌, ◌<◌, ◌≤◌, List, ◌++◌, map, length, get_or, take, drop, set, sym, ap, ◌∙◌, arith, length-append, length-drop, length-take, min}
use lib.ListN.{length-map}
use Rattle.std.proofs.lemmas.List.Edits.{map_over_more}
use Rattle.std.proofs.lemmas.List.{get_or-append_right, get_or-map, get_or-take, length-replicate, take_at, get_or-drop, get_or_default}
use Rattle.tables.specs.Shape.{most_events}
use Rattle.tables.specs.Words.{event_of, events_of, letter_of, longest_word, Spelled}
use Rattle.ledger.specs.Padded.{padded}

-- ---- storing
-- what is stored of a word: its events come back, in 64 bytes, and each is one of the most events
module _ (word stored : List ℕ) (short : length word ≤ longest_word) (is : stored ≡ padded (events_of word)) where
  pub stored_word : take (length word) stored ≡ events_of word
  stored_word = ap (take (length word)) is ∙ take_at (events_of word) _ (length word) (length-map word event_of)

  pub stored_whole : length stored ≡ longest_word
  stored_whole = ap length is ∙ simp (length-append, length-drop, length-map, length-replicate) (omega arith)

  pub stored_few : Spelled word → (i : ℕ) → i < length word → get_or stored i 0 ≤ most_events
  stored_few spells i h =
      let e : get_or stored i 0 ≡ event_of (get_or word i 0) = sym (get_or-take (length word) stored i 0 h) ∙ ap (λ xs. get_or xs i 0) stored_word ∙ get_or-map event_of word i 0 0 h in
      let s = (spells i h).1 in
      omega arith

-- ---- spelling
-- of the first events of a word, copied to a run, one more has become a letter
pub letters_more : (size : ℕ) (events copied run : List ℕ) (i e : ℕ) → copied ≡ take size events → ((k : ℕ) → k < size → get_or events k 0 ≤ most_events) → i < length copied → run ≡ map letter_of (take i copied) ++ drop i copied → e ≡ min (letter_of (get_or run i 0)) 255 → set run i e ≡ map letter_of (take (i + 1) copied) ++ drop (i + 1) copied
letters_more size events copied run i e is few h inv letter =
    let long : length run ≡ length copied = ap length inv ∙ simp (length-append, length-map, length-take, length-drop) (omega arith) in
    let front : length (map letter_of (take i copied)) ≡ i = simp (length-map, length-take) (omega arith) in
    let inside : i + (i - i) < size = omega (arith, ap length is, length-take size events) in
    let here : get_or run i 0 ≡ get_or events (i + (i - i)) 0 = ap (λ xs. get_or xs i 0) inv ∙ get_or-append_right (map letter_of (take i copied)) (drop i copied) i i 0 front (omega arith) ∙ get_or-drop i copied (i - i) 0 ∙ ap (λ xs. get_or xs (i + (i - i)) 0) is ∙ get_or-take size events (i + (i - i)) 0 inside in
    let small = few (i + (i - i)) inside in
    let clear : e ≡ letter_of (get_or run i 0) = omega arith in
    ap (set run i) clear ∙ map_over_more letter_of copied run i (get_or run i 0) h inv (get_or_default run i 0 (get_or run i 0) (omega arith))
