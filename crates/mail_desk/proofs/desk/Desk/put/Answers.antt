use Rattle.std.specs.List.{AllByRecursion}
use Rattle.std.proofs.Common.{◌≡◌, ◌<◌, ◌+◌, List, [], ◌∷◌, ◌++◌, ap, refl, subst, sym, ◌∙◌}
use Rattle.verb_core.specs.declared.item.Item.{Item}
use Rattle.verb_core.specs.Items.{text_in}
use Rattle.mail_desk.specs.Desk.{IsDesk}
use Rattle.mail_desk.specs.Entering.{CanEnter, ready_of}
use Rattle.mail_desk.specs.Held.{Held, marks_kept}
use Rattle.store_kept.specs.Kept.{Kept, kept_from, performed}
use Rattle.store_kept.specs.Texts.{items_behind}
use Rattle.mail_desk.specs.Timeline.{SizesOf}
use Rattle.mail_desk.proofs.BodyTexts.{sizes_on}
use Rattle.mail_desk.proofs.Going.{desk_goes_on}
use Rattle.mail_desk.proofs.Stampings.{rise_alike}
use Rattle.mail_desk.proofs.Timelines.{lower, others_below}
use Rattle.mail_desk.proofs.desk.Desk.put.Goals as goal

pub push-requires-clause-higher : goal.push-requires-clause-higher
push-requires-clause-higher c =
    let d = c.self.inside in
    let can = subst (λ (h : Held). CanEnter (ready_of c.args.stored c.args.made) h) (sym c.self.view_is) c.requires in
    subst (λ (i : Item). AllByRecursion (λ (j : Item). j.number < i.number) d.timeline.items) (sym can.stored) (lower d.next d.timeline.items c.args.stored c.self.invariant.desk.below can.number)

pub change_stamps-requires-clause-rising : goal.change_stamps-requires-clause-rising
change_stamps-requires-clause-rising c =
    let d = c.self.inside in
    rise_alike d.stamps d.store.store.boxes c.self.invariant.desk.stamps c.self.invariant.desk.valid.rising

pub change_stamps-requires-clause-spare : goal.change_stamps-requires-clause-spare
change_stamps-requires-clause-spare c = let can = subst (λ (h : Held). CanEnter (ready_of c.args.stored c.args.made) h) (sym c.self.view_is) c.requires in can.spare

pub invariant_of-self : goal.invariant_of-self
invariant_of-self c =
    let d = c.self.inside in
    let item = c.args.stored in
    let desk = c.self.invariant.desk in
    let kept : Kept = kept_from d.base d.store.store d.timeline.items d.stamps d.next d.reports.items (marks_kept d.since d.taken d.shelf.marks) d.deep d.undone in
    let can = subst (λ (h : Held). CanEnter (ready_of c.args.stored c.args.made) h) (sym c.self.view_is) c.requires in
    let pushed : c.push.new.self.items ≡ d.timeline.items ++ item ∷ [] = c.push.ensures ∙ ap (λ (i : Item). d.timeline.items ++ i ∷ []) can.stored in
    let stored = c.apply_alone-shown.ensures.store ∙ can.does in
    let stamped = c.change_stamps.ensures ∙ can.stamps in
    let grown : performed kept item ≡ kept_from d.base c.apply_alone-shown.new.self.store c.push.new.self.items c.change_stamps.new.stamps (d.next + 1) d.reports.items (marks_kept (d.since + 1) d.taken c.note_stored.new.shelf.marks) d.deep d.undone =
    sym (λ j. kept_from d.base (stored j) (pushed j) (stamped j) (d.next + 1) d.reports.items (marks_kept (d.since + 1) d.taken (c.note_stored.ensures.marks j)) d.deep d.undone) in
    record {
      desk = subst (λ (k : Kept). IsDesk k) grown (desk_goes_on c.mail_is_kept.ensures c.steps_keep_validity.ensures.step c.stamps_name_mailboxes.ensures.after c.what_can_come_back_stays.ensures.items kept item desk can.formed can.number can.left);
      sizes = subst (λ (t : List Item). SizesOf c.note_stored.new.shelf.notes d.base.texts (t ++ items_behind d.undone)) (sym pushed)
          (sizes_on d.timeline.items (items_behind d.undone) item c.args.place c.args.from d.shelf.notes c.note_stored.new.shelf.notes (others_below d.next d.timeline.items item desk.below can.number) (text_in item.deed) refl c.note_stored.ensures.notes d.base.texts c.self.invariant.sizes);
    }

pub returns-clause-kept : goal.returns-clause-kept
returns-clause-kept c =
    let d = c.self.inside in
    let item = c.args.stored in
    let kept : Kept = kept_from d.base d.store.store d.timeline.items d.stamps d.next d.reports.items (marks_kept d.since d.taken d.shelf.marks) d.deep d.undone in
    let can = subst (λ (h : Held). CanEnter (ready_of c.args.stored c.args.made) h) (sym c.self.view_is) c.requires in
    let pushed : c.push.new.self.items ≡ d.timeline.items ++ item ∷ [] = c.push.ensures ∙ ap (λ (i : Item). d.timeline.items ++ i ∷ []) can.stored in
    let stored = c.apply_alone-shown.ensures.store ∙ can.does in
    let stamped = c.change_stamps.ensures ∙ can.stamps in
    let grown : ◌≡◌ {A = Kept} (kept_from d.base c.apply_alone-shown.new.self.store c.push.new.self.items c.change_stamps.new.stamps (d.next + 1) d.reports.items (marks_kept (d.since + 1) d.taken c.note_stored.new.shelf.marks) d.deep d.undone) (performed kept item) =
    λ j. kept_from d.base (stored j) (pushed j) (stamped j) (d.next + 1) d.reports.items (marks_kept (d.since + 1) d.taken (c.note_stored.ensures.marks j)) d.deep d.undone in
    grown ∙ ap (λ (h : Held). performed h.kept item) c.self.view_is
