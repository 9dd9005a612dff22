use Rattle.std.proofs.Common.{◌≡◌, ◌+◌, ◌≤◌, length, is_ok, vec_items, sym, ap, ◌∙◌, subst, arith}
use Rattle.std.proofs.ResultArms.{chosen}
use Rattle.text.specs.Input.{most_bytes, span, SameTexts}
use Rattle.text.proofs.Pieces.{cut_after, same_texts, used_is}
use Rattle.text.proofs.input.LineBuffer.take.Goals as goal

pub returns : goal.returns
returns c =
    let was = vec_items c.args.self.now.bytes in
    let piece = c.args.piece.now in
    let pushed = chosen _ _ _ _ c.extend_from_slice.ensures.items (ap is_ok c.in_ok-extend_from_slice.was) in
    let used : c.unwrap_or-used.result ≡ span piece = c.unwrap_or-used.ensures ∙ used_is piece _ c.up_to_feed-end.ensures.value in
    let short : length was ≤ most_bytes + 1 = omega (arith, c.args.self.now.bytes.ok.0) in
    let held = pushed ∙ cut_after was piece 16385 (span piece) c.min.result short (omega (arith, c.args.self.now.bytes.ok.0, used)) in
    record {
      value = c.up_to_feed-end.ensures.value;
      held = held;
      same_texts = subst (SameTexts was piece) (sym held) (same_texts piece was short);
    }
