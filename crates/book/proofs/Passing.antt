-- What a `?` hands on, what is told to one who reads a book, and what a ledger says of which the parts are known.
use Rattle.std.proofs.Common.{◌≡◌, List, Err, Result, ap, ◌∙◌, subst}
use Rattle.std.specs.Prelude.{IsErrAnd}
use Rattle.ledger.specs.declared.ledger.Ledger.{Ledger}
use Rattle.ledger.specs.Model.{Model}
use Rattle.std.proofs.lemmas.Result.{err_from_is_err_and}

-- a refusal goes on as it is
pub handed_on : {T E : Type 0} (r : Result T E) (f : E) → IsErrAnd r (λ g. g ≡ f) → r ≡ Err f
handed_on r f e = let p = err_from_is_err_and r e in p.1 ∙ ap Err p.2

-- what holds of the ledger and the shelf that a reader is given holds of the book's
pub to_book : {K : Type 0} (P : Ledger → List K → Type 0) {l m : Ledger} {s t : List K} → l ≡ m → s ≡ t → P l s → P m t
to_book P {l = l} {t = t} ledger shelf p = subst (λ x. P x t) ledger (subst (P l) shelf p)

-- a ledger says what its events, lines and parts are
pub model_is : (m n : Model) → m.events ≡ n.events → m.lines ≡ n.lines → m.parts ≡ n.parts → m ≡ n
model_is m n events lines parts =
    ap (λ k. record { events = k; lines = m.lines; parts = m.parts }) events
    ∙ ap (λ ls. record { events = n.events; lines = ls; parts = m.parts }) lines
    ∙ ap (λ ps. record { events = n.events; lines = n.lines; parts = ps }) parts
