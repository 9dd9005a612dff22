-- What holds of a word and a strip where nothing was refused before the weighing.
use Rattle.std.proofs.Common.{◌≡◌, ℕ, ◌≤◌, Bool, true, false, eqb, leb, List, length, get_or, Some, None, Ok, Option, sym, refl, ◌∙◌, arith}
use Rattle.std.proofs.ByRecursion.{All-get_or}
use Rattle.std.proofs.lemmas.Bool.{leb-true, le-leb, eqb-true, eq-eqb}
use Rattle.kinds.specs.declared.fault.Fault.{Fault}
use Rattle.kinds.specs.declared.fault.Refusal.TheVariants.{WordLength, NotAnEvent, StripLength}
use Rattle.kinds.specs.Faults.{fault, unless, unless_found}
use Rattle.kinds.proofs.Refusing.{passed_test, found_none, test_passed, none_found}
use Rattle.tables.specs.Shape.{most_events}
use Rattle.tables.specs.Words.{event_of, is_event, AllEvents, Spelled, first_stray, longest_word, unless_word}
use Rattle.tables.specs.Strip.{strip_size}
use Rattle.tables.specs.Weighing.{weigh_fault, answered}
use Rattle.tables.proofs.Firsts.{all_pass_none, first_is_first}
use Rattle.tables.proofs.Limits.{one_to_parts}

-- no answer is a refusal
pub not_refused : {A : Type 0} (o : Option Fault) (a b : A) → Ok b ≡ answered o (Ok a) → o ≡ None
not_refused None a b e = refl
not_refused (Some f) a b e = let z : ◌≡◌ {A = ℕ} 0 1 = cc in absurd (omega arith)

-- a word of a book's events is spelled by events
pub spelled : (k : ℕ) (word : List ℕ) → k ≤ most_events → AllEvents k word → Spelled word
spelled k word few all i h =
    let parts = one_to_parts k (event_of (get_or word i 0)) (All-get_or (λ b. is_event k b ≡ true) word i 0 h all) in
    let low = parts.0 in
    let high = parts.1 in
    (low, omega arith)

-- ---- a word alone
-- a word that is refused is refused whatever comes behind it, and one that is not leaves the rest
module _ (k : ℕ) (word : List ℕ) (rest : Option Fault) where
  pub word_refused : (f : Fault) → unless_word k word None ≡ Some f → unless_word k word rest ≡ Some f
  word_refused f = go (leb (length word) longest_word) (first_stray k 1 word)
    where
      go : (b : Bool) (o : Option ℕ) → unless b (fault WordLength) (unless_found o NotAnEvent None) ≡ Some f → unless b (fault WordLength) (unless_found o NotAnEvent rest) ≡ Some f
      go true None e = cc
      go true (Some p) e = e
      go false o e = e

  pub word_passes : unless_word k word None ≡ None → unless_word k word rest ≡ rest
  word_passes = go (leb (length word) longest_word) (first_stray k 1 word)
    where
      go : (b : Bool) (o : Option ℕ) → unless b (fault WordLength) (unless_found o NotAnEvent None) ≡ None → unless b (fault WordLength) (unless_found o NotAnEvent rest) ≡ rest
      go true None e = refl
      go true (Some p) e = cc
      go false o e = cc

-- a word that is not refused is short and has events only, and such a word is not refused
module _ (k : ℕ) (word : List ℕ) (rest : Option Fault) where
  pub word_admitted : unless_word k word rest ≡ None → (length word ≤ longest_word) × AllEvents k word × (rest ≡ None)
  word_admitted none =
      let a = passed_test (leb (length word) longest_word) (fault WordLength) _ none in
      let b = found_none (first_stray k 1 word) NotAnEvent rest a.1 in
      (leb-true (length word) longest_word a.0, first_is_first (is_event k) 0 word None (sym b.0), b.1)

  pub word_admits : length word ≤ longest_word → AllEvents k word → unless_word k word rest ≡ rest
  word_admits short all = test_passed _ (fault WordLength) _ (le-leb (length word) longest_word short) ∙ none_found _ NotAnEvent rest (all_pass_none (is_event k) 1 word all)

-- ---- a word and a strip
-- what holds of them where nothing is refused
pub record Admitted (k : ℕ) (word : List ℕ) (strip : ℕ) : Type 0 where
  pub short : length word ≤ longest_word
  pub events : AllEvents k word
  pub strip_of_sixteen : strip ≡ strip_size

module _ (k : ℕ) (word : List ℕ) (strip : ℕ) where
  pub admitted : weigh_fault k word strip ≡ None → Admitted k word strip
  admitted none =
      let a = word_admitted k word _ none in
      record { short = a.0; events = a.1; strip_of_sixteen = eqb-true strip strip_size (passed_test (eqb strip strip_size) (fault StripLength) None a.2).0 }

  pub admits : Admitted k word strip → weigh_fault k word strip ≡ None
  admits a = word_admits k word _ a.short a.events ∙ test_passed _ (fault StripLength) None (eq-eqb strip strip_size a.strip_of_sixteen)

module _ (k : ℕ) (word : List ℕ) (strip : ℕ) (none : weigh_fault k word strip ≡ None) where
  -- each byte is an event
  pub admitted_events : AllEvents k word
  admitted_events = (admitted k word strip none).events

  -- the strip has its size
  pub admitted_strip : strip ≡ strip_size
  admitted_strip = (admitted k word strip none).strip_of_sixteen
