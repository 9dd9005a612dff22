-- The law of uses: what ask says at any point of any use of a book is true of all words, and is never withdrawn.
use Rattle.std.specs.Prelude.{◌≡◌, ℕ, ◌<◌, ◌≤◌, List, [], ◌∷◌, ◌++◌, length, drop, Ok, Result, ◌≢◌}
use Rattle.kinds.specs.declared.fault.Fault.{Fault}
use Rattle.kinds.specs.Numbers.{Numbers}
use Rattle.tables.specs.Layout.{value}
use Rattle.tables.specs.Weight.{weight}
use Rattle.tables.specs.Words.{longest_word}
use Rattle.sheets.specs.Alike.{WordOver}
use Rattle.ledger.specs.declared.asking.Comparison.{Comparison}
use Rattle.ledger.specs.declared.asking.Comparison.TheVariants.{Same, Different}
use Rattle.ledger.specs.Ask.{ask_answer}
use Rattle.ledger.specs.Parts.{part_of, spelled, word_answer, word_run}
use Rattle.uses.specs.Calls.{Effect, State}
use Rattle.uses.specs.History.{Between, History, Leads, Linked, Used, parts, standing, table, tables}
use Rattle.uses.specs.Holds.{Table}

-- the runs of some tables, one behind the other
abbrev pub runs : {K : Type 0} → List (Table K) → List K
runs [] = []
runs (t ∷ ts) = t.run ++ runs ts

-- there is a table i
abbrev pub There : {K : Type 0} → List (Effect K) → ℕ → Type 0
There es i = (1 ≤ i) × (i ≤ length (tables es))

-- what ask answers in a state
abbrev pub asked : {K : Type 0} → State K → ℕ → ℕ → Result Comparison Fault
asked s i j = ask_answer s.ledger.lines s.ledger.parts i j

-- the exact weight of a word of events in a table
abbrev pub weighs : {K : Type 0} (N : Numbers K) → Table K → List ℕ → N.exact.Value
weighs N t w = weight N.exact t.states (value N t.run) w

-- part p stands between tables i and j, and no lower part does
abbrev pub LowestBetween : {K : Type 0} → List (Effect K) → ℕ → ℕ → ℕ → Type 0
LowestBetween es p i j = Between es p i j × ((q : ℕ) → q < p → Between es q i j → ⊥)

-- what a book holds after the effects of a use: as many tables and parts, and on its shelf their runs in order, and behind these what was brought
pub record HoldsWhatWasGiven {K : Type 0} (brought : List K) (es : List (Effect K)) (s : State K) : Type 0 where
  pub as_many_tables : length s.ledger.lines ≡ length (tables es)
  pub as_many_parts : length s.ledger.parts ≡ length (parts es)
  pub shelf : s.shelf ≡ runs (tables es) ++ drop (length (runs (tables es))) brought

-- What an answer r of ask about tables i and j says, in a state s of a book with k events, after the effects es.
pub record AnswerTells {K : Type 0} (N : Numbers K) (k : ℕ) (es : List (Effect K)) (s : State K) (i j : ℕ) (r : Result Comparison Fault) : Type 0 where
  -- it is not refused
  pub never_refused : (c : Comparison) × (r ≡ Ok c)
  -- same exactly when the two are linked, and then every word over the events, of any length, weighs the same in both as entered
  pub same_only_when_linked : r ≡ Ok Same → Linked es i j
  pub same_whenever_linked : Linked es i j → r ≡ Ok Same
  pub linked_weigh_alike : Linked es i j → (w : List ℕ) → WordOver k w → weighs N (table es i) w ≡ weighs N (table es j) w
  -- different exactly when a part stands between the two, by the lowest such part
  pub different_only_by_the_lowest_part_between : (p : ℕ) → r ≡ Ok (Different p) → LowestBetween es p i j
  pub different_by_the_lowest_part_between : (p : ℕ) → LowestBetween es p i j → r ≡ Ok (Different p)
  pub different_whenever_a_part_stands_between : (p : ℕ) → Between es p i j → (q : ℕ) × (q ≤ p) × (r ≡ Ok (Different q))
  -- no part stands between linked tables
  pub no_part_between_linked : (p : ℕ) → Linked es i j → Between es p i j → ⊥
  -- the call word then gives the part's word in a run of 64 bytes, and this word weighs differently in the two as entered
  pub its_word :
      (p : ℕ)
      → r ≡ Ok (Different p)
      → (run : List ℕ)
      → length run ≡ longest_word
      → (word_answer s.ledger.parts p run ≡ Ok (length (part_of (parts es) p).word)) × (word_run s.ledger.parts p run ≡ spelled (part_of (parts es) p).word)
  pub its_word_weighs_differently : (p : ℕ) → r ≡ Ok (Different p) → weighs N (table es i) (part_of (parts es) p).word ≢ weighs N (table es j) (part_of (parts es) p).word
  -- never withdrawn: whatever calls follow, same stays same, and different stays different by that part or a lower one, either way round
  pub same_never_withdrawn : r ≡ Ok Same → (g : History K) (t : State K) → Leads N s g t → (asked t i j ≡ Ok Same) × (asked t j i ≡ Ok Same)
  pub different_never_withdrawn :
      (p : ℕ)
      → r ≡ Ok (Different p)
      → (g : History K) (t : State K)
      → Leads N s g t
      → (q : ℕ) × (q ≤ p) × (asked t i j ≡ Ok (Different q)) × (asked t j i ≡ Ok (Different q))

-- the law for one answer: whatever use leads from an opening to the state
abbrev pub LawAt : {K : Type 0} → Numbers K → State K → ℕ → ℕ → Result Comparison Fault → Type 0
LawAt {K} N s i j r =
    (k : ℕ) (brought : List K) (h : History K)
    → Used N k brought h s
    → There (standing h) i
    → There (standing h) j
    → HoldsWhatWasGiven brought (standing h) s × AnswerTells N k (standing h) s i j r

-- The law of uses, for a kind: at every point of every use, of every book, for any two of its tables.
abbrev pub LawOfUses : {K : Type 0} → Numbers K → Type 0
LawOfUses {K} N =
    (k : ℕ) (brought : List K) (h : History K) (s : State K)
    → Used N k brought h s
    → HoldsWhatWasGiven brought (standing h) s
    × ((i j : ℕ) → There (standing h) i → There (standing h) j → AnswerTells N k (standing h) s i j (asked s i j))
