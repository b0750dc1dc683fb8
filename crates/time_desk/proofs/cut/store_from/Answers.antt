use Rattle.std.proofs.Common.{rules, ◌≡◌, ◌⊎◌, ◌∙◌, List, ap, inl, inr, false, true, drop, take, sym, subst}
use Rattle.verb_core.specs.declared.item.Item.{Item}
use Rattle.mail_desk.specs.Held.{Held}
use Rattle.replay_crew.specs.Hearing.{TellsAll, TellsOf}
use Rattle.repair_desk.proofs.Everywhere.{taken}
use Rattle.desk_journal.specs.Lasting.{PastTold}
use Rattle.desk_journal.specs.Telling.{HoldsHeld, reading_told}
use Rattle.time_desk.specs.Replaying.{ToldOr, delivered_told, some_deliver}
use Rattle.time_desk.specs.Unfiltered.{are_unfiltered}
use Rattle.mail_desk.proofs.Timelines.{apart_front}
use Rattle.time_desk.proofs.Delivering.{deliveries_cause, deliveries_due, honest_as, store_told, tells_deliveries}
use Rattle.time_desk.proofs.Telling.{tells_timeline}
use Rattle.time_desk.proofs.cut.store_from.Goals as goal

pub led_behind-requires-clause-texts : goal.led_behind-requires-clause-texts
led_behind-requires-clause-texts g c =
    let r = c.of-reading.ensures in
    let t = c.args.desk.now.kept.timeline in
    let items : c.split_at.result.0.now ≡ take c.args.place t = search rules in
    tells_deliveries g.D.Disk.told c.of-reading.result c.split_at.result.0.now (take c.args.place t) items (apart_front t c.args.place c.stands.ensures.timeline.apart)
    (taken (TellsOf (reading_told g.D.Disk.told c.of-reading.result)) c.args.place t
    (tells_timeline g.D.Disk.told c.of-reading.result c.args.past.now c.args.desk.now _ r.past.1 r.desk r.replaces (r.cycle ∙ c.next.ensures) r.failed c.stands.ensures.timeline.apart c.requires.noted c.stands.ensures.undone))

-- with texts as they were stored, or without any
pub returns-in-Ok-clause-store : goal.returns-in-Ok-clause-store
returns-in-Ok-clause-store g c = λ told is.
    let told_by = g.D.Disk.told in
    let desk = c.args.desk.now in
    let first = c.args.first in
    let t = desk.kept.timeline in
    let r = c.of-reading.ensures in
    let items : c.split_at.result.0.now ≡ take c.args.place t = search rules in
    let disk_is = ap (λ (p : PastTold g.row.D.Denot). told_by p.disk) r.past.1 in
    store_told (HoldsHeld (told_by c.args.past.now.disk) desk) (are_unfiltered first.store.store (drop first.count (take c.args.place t))) (some_deliver (take c.args.place t))
    (λ h. c.led_behind.ensures.store
    (honest_as told_by c.of-reading.result c.split_at.result.0.now (told_by c.args.past.now.disk) desk disk_is r.desk
    (subst (λ (xs : List Item). ToldOr (HoldsHeld (told_by c.args.past.now.disk) desk) (some_deliver xs)) (sym items) h)) is)
    (λ unfiltered. c.led_behind.ensures.unread unfiltered is) told
