use Rattle.std.proofs.Common.{◌≡◌, length, drop, sym, ap, ◌∙◌, arith, ltb-false}
use lib.Seq.{drop-length}
use Rattle.text.specs.Numerals.{further}
use Rattle.text.proofs.Decimals.{Shaped, shaped_reads, six_digits}
use Rattle.text.proofs.numbers.magnitude.Goals as goal

pub returns : goal.returns
returns c =
    let s = c.args.s.now in
    let shape : Shaped s = record { some = omega (arith, ltb-false); few = c.if-s-gt6.false; lead = λ e. absurd (c.in_default-mark_of.not-Zero (c.mark_of.ensures ∙ rw e)) } in
    let end : c.loop-b.b-index ≡ length s = omega arith in
    record {
      value = sym (shaped_reads s shape ∙ c.loop-b.invariant.0 ∙ ap (λ i. further c.loop-b.n (drop i s)) end ∙ ap (further c.loop-b.n) (drop-length s));
      bound = six_digits c.loop-b.n c.loop-b.b-index (omega arith) c.loop-b.invariant.1;
    }
