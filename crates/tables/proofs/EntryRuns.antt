-- Runs whose numbers are all entries, as a caller of the weighing has them.
use Rattle.std.proofs.Common.{◌≡◌, ℕ, true, List, length, ap, ◌∙◌, inl, inr}
use Rattle.std.proofs.ByRecursion.{All-get_or}
use Rattle.std.proofs.lemmas.List.{get_or_past}
use Rattle.std.proofs.lemmas.Bool.{cases_lt}
use Rattle.kinds.specs.Numbers.{Numbers, is_entry, zero_of}
use Rattle.kinds.proofs.Answers.{entry_stored, zero_stored}
use Rattle.tables.specs.Entries.{AllEntries}
use Rattle.tables.specs.Layout.{number_at, Stored}

module _ {K : Type 0} (N : Numbers K) (run : List K) (entries : AllEntries N run) where
  -- what is read at any place is stored
  entries_read : (p : ℕ) → N.stored (number_at N run p) ≡ true
  entries_read p =
      elim (cases_lt p (length run)) [
        | inl inside ↦ entry_stored N (number_at N run p) (All-get_or (λ x. is_entry N x ≡ true) run p (zero_of N) inside entries)
        | inr past ↦ ap N.stored (get_or_past run p (zero_of N) past) ∙ zero_stored N
      ]

  -- every word can be weighed in a run of entries
  pub entries_stored : (n : ℕ) (w : List ℕ) → Stored N n run w
  entries_stored n w = record { starts = λ i h. entries_read _; ends = λ i h. entries_read _; steps = λ p l i h j k. entries_read _ }
