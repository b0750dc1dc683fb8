use Rattle.std.proofs.Common.{◌≡◌, ◌∙◌, ◌+◌, ◌<◌, true, List, sym, ap, subst, arith, get_or, drop, length}
use Rattle.verb_core.specs.declared.mailbox.BoxId.{BoxId}
use Rattle.verb_core.specs.declared.mailbox.Mailbox.{Mailbox}
use Rattle.verb_core.specs.Mailboxes.{put_all}
use Rattle.verb_core.specs.Boxes.{is_rising, change_row}
use Rattle.mail_rows.specs.declared.change.Put.{Put}
use Rattle.box_store.specs.Effects.{put_each}
use Rattle.box_store.proofs.GrowLaws.{Growing, put_read, put-step, growing_next}
use Rattle.box_store.proofs.WorkLaws.{rising_changed}
use Rattle.box_store.proofs.work.put_each.Goals as goal

pub loop-place-preserved : goal.loop-place-preserved
loop-place-preserved c =
    let puts : List Put = c.args.puts.now in
    let within : c.loop-place.place < length c.args.puts.now = omega arith in
    let is : c.put_into.new.rows.items ≡ change_row (get_or c.args.puts.now c.loop-place.place c.index-puts-place.result).mailbox (put_all (get_or c.args.puts.now c.loop-place.place c.index-puts-place.result).mail) c.loop-place.rows.items =
    put_read c.args.puts.now c.loop-place.place c.index-puts-place.result c.bytes.result.now c.as_slice.result.now c.loop-place.rows.items c.put_into.new.rows.items c.index-puts-place.is c.bytes.ensures.value c.as_slice.ensures c.put_into.ensures.rows in
    record {
      rows = ap (put_each (drop (c.loop-place.place + 1) c.args.puts.now)) is ∙ put-step c.args.puts.now c.loop-place.place c.index-puts-place.result c.loop-place.rows.items within ∙ c.loop-place.invariant.rows;
      rising = subst (λ (rs : List (BoxId × Mailbox)). is_rising rs ≡ true) (sym is) (rising_changed _ _ c.loop-place.rows.items c.loop-place.invariant.rising);
      spares = subst (λ (rs : List (BoxId × Mailbox)). Growing (drop (c.loop-place.place + 1) c.args.puts.now) (drop (c.loop-place.place + 1) c.put_into.new.spares) rs) (sym is)
          (growing_next c.args.puts.now c.loop-place.place c.index-puts-place.result c.loop-place.spares c.put_into.new.spares c.loop-place.rows.items within c.loop-place.invariant.spares c.put_into.ensures.later);
    }
