-- Uses of a book: lists of calls with whether each was accepted, the states that they lead to, and what they tell.
use Rattle.std.specs.Prelude.{◌≡◌, ℕ, ◌-◌, ◌≤◌, Bool, cond, ◌⊎◌, List, [], ◌∷◌, ◌++◌, length, Some, None, Decides, Option, slice_index_or}
use Rattle.kinds.specs.Numbers.{Numbers}
use Rattle.tables.specs.Words.{events_of}
use Rattle.ledger.specs.Model.{opened}
use Rattle.ledger.specs.Parts.{Kept, part_of}
use Rattle.uses.specs.Calls.{Accepts, Call, Effect, State, done, effect_of, entered, joined, kept}
use Rattle.uses.specs.Holds.{Table}

-- A call, and whether it was accepted.
pub record Did (K : Type 0) : Type 0 where
  pub call : Call K
  pub ok : Bool

-- calls in the order in which they were made, the newest first
abbrev pub History : Type 0 → Type 0
History K = List (Did K)

-- ---- the states that a history leads to
abbrev pub done_if_any : {K : Type 0} → State K → Option (Effect K) → State K
done_if_any s None = s
done_if_any s (Some e) = done s e

-- the state after a call: an accepted one has its effect, a refused one leaves everything as it was
abbrev pub after : {K : Type 0} → State K → Did K → State K
after s d = cond d.ok (done_if_any s (effect_of d.call)) s

-- from state s the calls lead to state t: each found the book as the one before left it, and was accepted exactly when none of its refusals held
abbrev pub Leads : {K : Type 0} → Numbers K → State K → History K → State K → Type 0
Leads N s [] t = t ≡ s
Leads {K} N s (d ∷ h) t = (u : State K) × Leads N s h u × Decides d.ok (Accepts N u d.call) × (t ≡ after u d)

-- a book with k events, just opened over this shelf
abbrev pub opening : {K : Type 0} → ℕ → List K → State K
opening k brought = record { ledger = opened k; shelf = brought }

-- the calls lead from the opening to state s
abbrev pub Used : {K : Type 0} → Numbers K → ℕ → List K → History K → State K → Type 0
Used N k brought h s = Leads N (opening k brought) h s

-- a call leads on: whatever use led to state s, that use and this call, accepted or not, lead to state t
abbrev pub LeadsOn : {K : Type 0} → Numbers K → State K → Call K → Bool → State K → Type 0
LeadsOn {K} N s call ok t = (k : ℕ) (brought : List K) (h : History K) → Used N k brought h s → Used N k brought (record { call = call; ok = ok } ∷ h) t

-- whatever use led to state s leads to state t as well
abbrev pub StillUsed : {K : Type 0} → Numbers K → State K → State K → Type 0
StillUsed {K} N s t = (k : ℕ) (brought : List K) (h : History K) → Used N k brought h s → Used N k brought h t

-- ---- what a history tells, from its arguments and its accepted calls alone
abbrev pub onto : {K : Type 0} → Option (Effect K) → List (Effect K) → List (Effect K)
onto None es = es
onto (Some e) es = e ∷ es

-- the effects of the accepted calls, the newest first
abbrev pub standing : {K : Type 0} → History K → List (Effect K)
standing [] = []
standing (d ∷ h) = cond d.ok (onto (effect_of d.call) (standing h)) (standing h)

-- the tables that were entered, in their order
abbrev pub tables : {K : Type 0} → List (Effect K) → List (Table K)
tables [] = []
tables (entered n run ∷ es) = tables es ++ (record { states = n; run = run } ∷ [])
tables (joined a b ∷ es) = tables es
tables (kept a b w ∷ es) = tables es

-- the parts that were kept, in their order
abbrev pub parts : {K : Type 0} → List (Effect K) → List Kept
parts [] = []
parts (entered n run ∷ es) = parts es
parts (joined a b ∷ es) = parts es
parts (kept a b w ∷ es) = parts es ++ (record { first = a; second = b; word = events_of w } ∷ [])

-- one effect, or one of many, joined tables a and b
abbrev pub JoinedBy : {K : Type 0} → Effect K → ℕ → ℕ → Type 0
JoinedBy (entered n run) a b = ⊥
JoinedBy (joined x y) a b = (x ≡ a) × (y ≡ b)
JoinedBy (kept x y w) a b = ⊥

abbrev pub Joined : {K : Type 0} → List (Effect K) → ℕ → ℕ → Type 0
Joined [] a b = ⊥
Joined (e ∷ es) a b = JoinedBy e a b ⊎ Joined es a b

-- Two tables are linked: the least equivalence that holds of every joined pair.
pub data Linked {K : Type 0} (es : List (Effect K)) : ℕ → ℕ → Type 0 where
  itself : {a : ℕ} → Linked es a a
  direct : {a b : ℕ} → Joined es a b → Linked es a b
  back : {a b : ℕ} → Linked es a b → Linked es b a
  over : {a b c : ℕ} → Linked es a b → Linked es b c → Linked es a c

-- what stands where no table does
abbrev pub no_table : {K : Type 0} → Table K
no_table = record { states = 0; run = [] }

-- table i, counted from 1
abbrev pub table : {K : Type 0} → List (Effect K) → ℕ → Table K
table es i = slice_index_or (tables es) (i - 1) no_table

-- Part p, counted from 1, stands between tables i and j: one of its tables is linked to i and the other to j.
pub record Between {K : Type 0} (es : List (Effect K)) (p i j : ℕ) : Type 0 where
  pub some : 1 ≤ p
  pub there : p ≤ length (parts es)
  pub links :
      (Linked es (part_of (parts es) p).first i × Linked es (part_of (parts es) p).second j)
      ⊎ (Linked es (part_of (parts es) p).first j × Linked es (part_of (parts es) p).second i)
