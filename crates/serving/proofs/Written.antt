-- A run whose front is written by a call, or left where the call is refused.
use Rattle.std.proofs.Common.{◌≡◌, ℕ, ◌≤◌, List, ◌++◌, length, take, drop, Some, None, Option, refl, ap, ◌∙◌, take-append-drop}
use Rattle.std.proofs.lemmas.List.{length-take-le}
use Rattle.kinds.specs.declared.fault.Fault.{Fault}
use Rattle.kinds.specs.Faults.{or_kept}
use Rattle.serving.specs.Chaining.{front_after}

module _ {K : Type 0} (table : List K) (size room : ℕ) (is : size ≡ room) (fits : size ≤ length table) where
  -- the front has the size that was asked for
  pub front_long : length (take size table) ≡ room
  front_long = length-take-le size table fits ∙ is

  -- front and rest together are the run with its front written
  pub front_written : (refuses : ℕ → Option Fault) (run out rest : List K) → out ≡ or_kept (refuses (length (take size table))) (take size table) run → rest ≡ drop size table → out ++ rest ≡ front_after (refuses room) room table run
  front_written refuses run out rest eo er =
      ap (λ o. o ++ rest) (eo ∙ ap (λ k. or_kept (refuses k) (take size table) run) front_long ∙ ap (λ k. or_kept (refuses room) (take k table) run) is)
      ∙ ap (λ r. or_kept (refuses room) (take room table) run ++ r) (er ∙ ap (λ k. drop k table) is)
      ∙ by_case (refuses room)
    where
      by_case : (o : Option Fault) → or_kept o (take room table) run ++ drop room table ≡ front_after o room table run
      by_case None = refl
      by_case (Some f) = take-append-drop room table
