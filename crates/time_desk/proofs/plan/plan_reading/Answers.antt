use Rattle.std.proofs.Common.{◌≡◌, ◌⊎◌, ◌∙◌, List, ap, false, sym, subst}
use Rattle.verb_core.specs.declared.item.Item.{Item}
use Rattle.mail_desk.specs.Held.{Held}
use Rattle.desk_journal.specs.Lasting.{PastTold}
use Rattle.desk_journal.specs.Telling.{HoldsHeld}
use Rattle.time_desk.specs.Replaying.{some_deliver}
use Rattle.time_desk.proofs.Delivering.{deliveries_cause, deliveries_due, honest_as, tells_deliveries}
use Rattle.time_desk.proofs.Telling.{tells_timeline}
use Rattle.time_desk.proofs.plan.plan_reading.Goals as goal

pub plan_behind-requires-clause-texts : goal.plan_behind-requires-clause-texts
plan_behind-requires-clause-texts g c =
    let r = c.of-reading.ensures in
    tells_deliveries g.D.Disk.told c.of-reading.result c.all_items-items.result.now c.args.desk.now.kept.timeline c.all_items-items.ensures c.stands.ensures.timeline.apart
    (tells_timeline g.D.Disk.told c.of-reading.result c.args.past.now c.args.desk.now _ r.past.1 r.desk r.replaces (r.cycle ∙ c.next.ensures) r.failed c.stands.ensures.timeline.apart c.requires.noted c.stands.ensures.undone)

-- a plan brings no texts of its own
pub returns-clause-text : goal.returns-clause-text
returns-clause-text g c = λ told is.
    let r = c.of-reading.ensures in
    let desk = c.args.desk.now in
    let disk = g.D.Disk.told c.args.past.now.disk in
    c.plan_behind.ensures.text
    (honest_as g.D.Disk.told c.of-reading.result c.all_items-items.result.now disk desk (ap (λ (p : PastTold g.row.D.Denot). g.D.Disk.told p.disk) r.past.1) r.desk
    (subst (λ (items : List Item). HoldsHeld disk desk ⊎ (some_deliver items ≡ false)) (sym c.all_items-items.ensures) told)) is
