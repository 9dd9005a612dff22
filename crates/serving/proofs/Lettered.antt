-- The word of a part, as it is copied and shown.
use Rattle.std.proofs.Common.{◌≡◌, ℕ, ◌-◌, ◌≤◌, Bool, true, false, cond, not, List, [], ◌∷◌, map, length, take, replicate, Some, None, Ok, IsAscii, Option, sym, refl, ap, ◌∙◌, subst, arith, MatchOption}
use lib.ListN.{length-map}
use Rattle.std.proofs.lemmas.Str.Ascii.{IsAscii-nil, IsAscii-cons}
use Rattle.std.proofs.lemmas.List.{take_at}
use Rattle.std.proofs.lemmas.Bool.{and_parts}
use Rattle.std.proofs.lemmas.Str.{IsAscii-append}
use Rattle.kinds.specs.declared.fault.Fault.{Fault}
use Rattle.kinds.specs.Faults.{or_refused}
use Rattle.tables.specs.Firsts.{AllPass, FirstFailing}
use Rattle.tables.specs.Shape.{most_events, one_to}
use Rattle.tables.specs.Words.{letter_of, longest_word}
use Rattle.tables.proofs.Firsts.{first_is_first}
use Rattle.tables.proofs.Limits.{one_to_from, one_to_parts}
use Rattle.ledger.specs.declared.asking.Comparison.TheVariants.{Same, Different}
use Rattle.ledger.specs.declared.line.Line.{Line}
use Rattle.ledger.specs.Ask.{ask_answer, between, by_part, lowest_between}
use Rattle.ledger.specs.Lines.{class_of}
use Rattle.ledger.specs.Parts.{HasPart, Kept, Parted, all_events, no_part, part_of, spelled, word_answer, word_run}
use Rattle.ledger.proofs.Keeping.{part_is, word_copied}
use Rattle.lines.proofs.Zeros.{zeros_ascii}

-- the letters of events are ASCII
letters_ascii : (k : ℕ) → k ≤ most_events → (w : List ℕ) → all_events k w ≡ true → IsAscii (map letter_of w)
letters_ascii k few [] all = IsAscii-nil
letters_ascii k few (e ∷ w) all =
    let both = and_parts (one_to k e) (all_events k w) all in
    let high = (one_to_parts k e both.0).1 in
    IsAscii-cons (letter_of e) (map letter_of w) (omega arith) (letters_ascii k few w both.1)

-- a part that is kept among n tables of k events, and a run of 64 bytes to which its word is copied
module _ (k n : ℕ) (few : k ≤ most_events) (ps : List Kept) (parts : Parted k n ps) (p : ℕ) (has : HasPart ps p) (run : List ℕ) (long : length run ≡ longest_word) where
  abbrev word : List ℕ
  word = (part_of ps p).word

  -- the copied word is shown by its letters
  pub letters_shown : (count : ℕ) (after shown : List ℕ) → Ok count ≡ word_answer ps p run → after ≡ word_run ps p run → (IsAscii after → count ≤ longest_word → shown ≡ take count after) → shown ≡ map letter_of word
  letters_shown count after shown answer copied shows =
      let is = part_is k n (part_of ps p) (parts p has) in
      let says = word_copied ps p run (one_to_from (length ps) p has.0 has.1) long (length word) (spelled word) refl refl in
      let size : count ≡ length word = cc in
      let spells : after ≡ spelled word = copied ∙ sym says.copied in
      let ascii : IsAscii after = subst IsAscii (sym spells) (IsAscii-append (map letter_of word) (replicate (longest_word - length word) 0) (letters_ascii k few word is.events) (zeros_ascii (longest_word - length word))) in
      let short = is.short in
      shows ascii (omega arith)
      ∙ ap (take count) spells
      ∙ take_at (map letter_of word) (replicate (longest_word - length word) 0) count (length-map word letter_of ∙ sym size)

-- two tables are told apart only by a part that there is
module _ (ls : List Line) (ps : List Kept) (a b p : ℕ) where
  abbrev test : Kept → Bool
  test q = not (between ls (class_of ls a) (class_of ls b) q)

  pub different_by_part : Ok (Different p) ≡ ask_answer ls ps a b → HasPart ps p
  different_by_part = go _ _ (lowest_between ls ps (class_of ls a) (class_of ls b)) (first_is_first test no_part ps _ refl)
    where
      go : (o : Option Fault) (same : Bool) (q : Option ℕ) → MatchOption q (AllPass test ps) (FirstFailing test no_part ps) → Ok (Different p) ≡ or_refused o (cond same Same (by_part q)) → HasPart ps p
      go (Some f) same q found e = let z : ◌≡◌ {A = ℕ} 0 1 = cc in absurd (omega arith)
      go None true q found e = let z : ◌≡◌ {A = ℕ} 0 1 = cc in absurd (omega arith)
      go None false None found e = let z : ◌≡◌ {A = ℕ} 0 1 = cc in absurd (omega arith)
      go None false (Some q) found e = let is : p ≡ q = cc in let low = found.some in let high = found.inside in (omega arith, omega arith)
