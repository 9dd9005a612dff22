-- What an answer of weighing is, from what the path says.
use Rattle.std.proofs.Common.{◌≡◌, ℕ, List, Some, None, Ok, Err, Option, Result, sym, refl, ap, ◌∙◌, subst}
use Rattle.kinds.specs.declared.fault.Fault.{Fault}
use Rattle.kinds.specs.Numbers.{Numbers, Says}
use Rattle.kinds.proofs.Answers.{says_said}
use Rattle.tables.specs.Words.{events_of}
use Rattle.tables.specs.Layout.{value, Stored}
use Rattle.tables.specs.Path.{path_answer}
use Rattle.tables.specs.Range.{Ranged}
use Rattle.tables.specs.Strip.{PathSays}
use Rattle.tables.specs.Weighing.{path_number, word_weight, answered, Refused, IsWeight, IsRanged}
use Rattle.tables.proofs.Ranges.{path_is_weight, path_refuses_exactly_where_it_does_not_fit}

module _ {K : Type 0} (N : Numbers K) (n : ℕ) (run : List K) (word : List ℕ) (r : Result K Fault) where
  abbrev t : ℕ → N.exact.Value
  t = value N run

  abbrev w : List ℕ
  w = events_of word

  says_weight : (r : Result K Fault) → Says N (path_answer N n t w) r → IsWeight N n run word r
  says_weight (Ok x) h =
      let e : N.read x ≡ word_weight N n run word = path_is_weight N n t w (N.read x) h.0 in
      (sym (N.ties.write_read x h.1) ∙ ap N.write e, ap N.fits (sym e) ∙ N.ties.stored_fits x h.1)
  says_weight (Err f) h = tt

  says_ranged : (r : Result K Fault) → Says N (path_answer N n t w) r → IsRanged N n run word r
  says_ranged (Ok x) h = subst (Ranged N n t w) h.0 (path_refuses_exactly_where_it_does_not_fit N n t w)
  says_ranged (Err f) h = subst (Ranged N n t w) h (path_refuses_exactly_where_it_does_not_fit N n t w)

  -- the answer is the early refusal, or what the path gives
  pub weighed_answer : (o : Option Fault) → Refused o r → (o ≡ None → PathSays N n run w r) → Stored N n run w → r ≡ answered o (path_number N n run word)
  weighed_answer None early says stored = says_said N _ r (says refl stored)
  weighed_answer (Some f) early says stored = early f refl

  -- a number that is answered is the weight's
  pub weighed_weight : (o : Option Fault) → Refused o r → (o ≡ None → PathSays N n run w r) → Stored N n run w → IsWeight N n run word r
  weighed_weight None early says stored = says_weight r (says refl stored)
  weighed_weight (Some f) early says stored = subst (IsWeight N n run word) (sym (early f refl)) tt

  -- where nothing is refused early, there is an answer exactly if all fits
  pub weighed_ranged : (o : Option Fault) → (o ≡ None → PathSays N n run w r) → Stored N n run w → o ≡ None → IsRanged N n run word r
  weighed_ranged o says stored none = says_ranged r (says none stored)
