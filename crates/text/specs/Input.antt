-- The input as lines, and as what is kept of a line while it arrives in pieces.
use Rattle.std.specs.Prelude.{◌≡◌, ℕ, suc, ◌+◌, Bool, true, false, cond, List, [], ◌∷◌, ◌++◌, map, length, take, drop, Some, None, Option, ◌==◌, nat_le}
use Rattle.std.specs.Option.{option_map}
use Rattle.text.specs.Split.{onto}

-- a line has at most 16,384 bytes with its line feed (byte 10)
abbrev pub most_bytes : ℕ
most_bytes = 16384

-- the lines of an input: each ends with its line feed, but for a last one that lacks it
abbrev pub lines_of : List ℕ → List (List ℕ)
lines_of [] = []
lines_of (b ∷ s) = cond (b == 10) ((b ∷ []) ∷ lines_of s) (onto b (lines_of s))

-- what stands before a line feed at the end
abbrev pub before_feed : List ℕ → Option (List ℕ)
before_feed [] = None
before_feed (b ∷ []) = cond (b == 10) (Some []) None
before_feed (b ∷ c ∷ l) = option_map (λ t. b ∷ t) (before_feed (c ∷ l))

-- the text of a line, unless it lacks its line feed or is too long
abbrev pub text_of : List ℕ → Option (List ℕ)
text_of l = cond (nat_le (length l) most_bytes) (before_feed l) None

-- what is kept of a line: one byte more than it may have is enough to tell that it is too long
abbrev pub kept : List ℕ → List ℕ
kept l = take (most_bytes + 1) l

-- the texts to come, where `held` is kept of the line that has begun and the input `s` is still unread
abbrev pub texts_from : List ℕ → List ℕ → List (Option (List ℕ))
texts_from held [] = cond (length held == 0) [] (text_of held ∷ [])
texts_from held (b ∷ s) = cond (b == 10) (text_of (kept (held ++ (b ∷ []))) ∷ texts_from [] s) (texts_from (kept (held ++ (b ∷ []))) s)

-- how many bytes of a piece belong to the line that has begun: up to its line feed, or all
abbrev pub span : List ℕ → ℕ
span [] = 0
span (b ∷ s) = cond (b == 10) 1 (suc (span s))

-- whether a piece ends the line
abbrev pub ends : List ℕ → Bool
ends [] = false
ends (b ∷ s) = cond (b == 10) true (ends s)

-- so many bytes of a piece end the line; or none do, and all belong to it
abbrev pub EndsAt : List ℕ → Option ℕ → Type 0
EndsAt piece (Some n) = (ends piece ≡ true) × (span piece ≡ n)
EndsAt piece None = (ends piece ≡ false) × (span piece ≡ length piece)

-- whatever an input is, its lines come out of it one by one, though no more than their first bytes are kept
abbrev pub KeepingIsEnough : Type 0
KeepingIsEnough = (input : List ℕ) → texts_from [] input ≡ map text_of (lines_of input)

-- whatever input follows a piece, what is kept before it and after it gives the same texts
abbrev pub SameTexts : List ℕ → List ℕ → List ℕ → Type 0
SameTexts held piece held' =
    (rest : List ℕ)
    → texts_from held (piece ++ rest)
    ≡ cond (ends piece) (text_of held' ∷ texts_from [] (drop (span piece) piece ++ rest)) (texts_from held' rest)
