use Rattle.std.proofs.Common.{◌≡◌, ◌-◌, length, take, drop, arith, ap, sym, ◌∙◌}
use Rattle.std.proofs.lemmas.List.{length-drop, drop-drop}
use Rattle.std.proofs.Math.Seq.{take-add}
use Rattle.header_fields.specs.Lines.{lines_of}
use Rattle.header_fields.proofs.Grouping.{begins_some, begins_apart, first_apart, field_begins, end_behind, folded_apart, folded_some, carried_more}
use Rattle.header_fields.proofs.fields.field_len.Goals as goal

pub loop-rest-init : goal.loop-rest-init
loop-rest-init c =
    let bytes = c.args.bytes.now in
    let n = c.line_len-passed.result in
    let some = begins_some bytes c.requires in
    let line = c.line_len-passed.ensures.line some in
    let apart = first_apart bytes (take n bytes) (lines_of (drop n bytes)) some (begins_apart bytes c.requires) line in
    record {
      rest = c.after-rest.ensures;
      within = c.line_len-passed.ensures.within;
      more = c.line_len-passed.ensures.some some;
      fields = rw c.after-rest.ensures (field_begins bytes (take n bytes) (drop n bytes) apart line);
      end = rw c.after-rest.ensures (end_behind bytes (take n bytes) (drop n bytes) apart line);
    }

pub loop-rest-preserved : goal.loop-rest-preserved
loop-rest-preserved c =
    let bytes = c.args.bytes.now in
    let p = c.loop-rest.passed in
    let rest = c.loop-rest.rest.now in
    let inv = c.loop-rest.invariant in
    let m = c.line_len-more.result in
    let folded = sym c.is_folded.ensures ∙ c.loop-rest-test.true in
    let some = folded_some rest folded in
    let line = c.line_len-more.ensures.line some in
    let apart = first_apart rest (take m rest) (lines_of (drop m rest)) some (folded_apart rest folded) line in
    let left : length rest ≡ length bytes - p = ap length inv.rest ∙ length-drop p bytes in
    record {
      rest = c.after-rest-in-loop-rest.ensures ∙ ap (drop m) inv.rest ∙ drop-drop m p bytes;
      within = omega (arith, c.line_len-more.ensures.within, left, inv.within);
      more = omega (arith, inv.more);
      fields = rw (c.after-rest-in-loop-rest.ensures, take-add p m bytes, sym inv.rest) (inv.fields ∙ carried_more (take p bytes) rest (take m rest) (drop m rest) folded apart line);
      end = rw c.after-rest-in-loop-rest.ensures (inv.end ∙ end_behind rest (take m rest) (drop m rest) apart line);
    }
