-- What a number that an operation answers says of exact values.
use Rattle.std.proofs.Common.{◌≡◌, Bool, true, false, cond, Ok, Err, Result, sym, refl, ap, ◌∙◌, subst}
use Rattle.kinds.specs.declared.fault.Fault.{Fault}
use Rattle.kinds.specs.declared.fault.Refusal.TheVariants.{OutOfRange}
use Rattle.kinds.specs.Faults.{fault}
use Rattle.kinds.specs.Numbers.{Numbers, answer, checked, said, Says, zero_of, is_entry}

module _ {K : Type 0} (n : Numbers K) where
  -- an operation's answer says its checked exact result
  pub answer_says : (v : n.exact.Value) (r : Result K Fault) → r ≡ answer n v → Says n (checked n v) r
  answer_says v r e = subst (Says n (checked n v)) (sym e) (by_case (n.fits v) refl)
    where
      by_case : (b : Bool) → n.fits v ≡ b → Says n (cond b (Ok v) (Err (fault OutOfRange))) (cond b (Ok (n.write v)) (Err (fault OutOfRange)))
      by_case true f = (ap Ok (sym (n.ties.read_write v f)), n.ties.write_stored v f)
      by_case false f = refl

  -- only one answer says what c does
  pub says_said : (c : Result n.exact.Value Fault) (r : Result K Fault) → Says n c r → r ≡ said n c
  says_said c (Ok x) h = ap Ok (sym (n.ties.write_read x h.1)) ∙ ap (said n) (sym h.0)
  says_said c (Err e) h = ap (said n) (sym h)

  -- a number was answered
  pub says_ok : {c : Result n.exact.Value Fault} {r : Result K Fault} (x : K) → Says n c r → r ≡ Ok x → (c ≡ Ok (n.read x)) × (n.stored x ≡ true)
  says_ok {c} x h e = subst (Says n c) e h

  -- a refusal was answered
  pub says_err : {c : Result n.exact.Value Fault} {r : Result K Fault} (f : Fault) → Says n c r → r ≡ Err f → c ≡ Err f
  says_err {c} f h e = subst (Says n c) e h

  pub zero_fits : n.fits n.exact.zero ≡ true
  zero_fits = n.ties.entry_fits n.exact.zero n.ties.zero_entry

  pub zero_stored : n.stored (zero_of n) ≡ true
  zero_stored = n.ties.write_stored n.exact.zero zero_fits

  pub zero_read : n.read (zero_of n) ≡ n.exact.zero
  zero_read = n.ties.read_write n.exact.zero zero_fits

  -- the number of an entry is stored
  pub entry_stored : (x : K) → is_entry n x ≡ true → n.stored x ≡ true
  entry_stored x h = by_case (n.stored x) h
    where
      by_case : (b : Bool) → cond b (n.entry (n.read x)) false ≡ true → b ≡ true
      by_case true q = refl
      by_case false q = q
