use Rattle.std.proofs.Common.{◌≡◌, ◌<◌, ◌++◌, List, Result, IfOk, ap, refl, subst, sym, ◌∙◌, ◌-◌, length, option_map, vec_len, vec_capacity}
use Rattle.undo_base.specs.declared.memory.NoMemory.{NoMemory}
use Rattle.verb_core.specs.declared.conf.House.{House}
use Rattle.verb_core.specs.declared.item.Item.{Item}
use Rattle.verb_core.specs.declared.item.Shown.{Shown}
use Rattle.verb_core.specs.declared.mailbox.Body.{Body}
use Rattle.verb_core.specs.Items.{IsWellFormed}
use Rattle.verb_core.specs.Stamps.{stamps_after}
use Rattle.verb_core.specs.Step.{step}
use Rattle.verb_core.specs.Store.{MailStore}
use Rattle.stored_items.specs.Stored.{step_text}
use Rattle.shelf.specs.declared.note.Note.{Note}
use Rattle.shelf.specs.Notes.{size_of}
use Rattle.mail_desk.specs.declared.ready.Made.{Made}
use Rattle.mail_desk.specs.Desk.{IsDesk}
use Rattle.mail_desk.specs.Entering.{CanEnter, ready_of}
use Rattle.mail_desk.specs.Held.{Held, marks_kept}
use Rattle.store_kept.specs.Kept.{Kept, kept_from, store_of}
use Rattle.store_kept.specs.Texts.{items_behind, text_with}
use Rattle.mail_desk.proofs.desk.Desk.make_ready.Goals.{in-Ok, in-Err}
use Rattle.mail_desk.proofs.desk.Desk.make_ready.Goals as goal

pub make_room-requires-clause-formed : goal.make_room-requires-clause-formed
make_room-requires-clause-formed c =
    let house = c.self.invariant.desk.house_is ∙ ap (λ (h : Held). h.kept.house) c.self.view_is in
    subst (λ (h : House). IsWellFormed h c.args.item.now) (sym house) c.requires.formed

pub invariant_of-self : goal.invariant_of-self
invariant_of-self c =
    let d = c.self.inside in
    let made = c.make_room.ensures in
    let same : ◌≡◌ {A = Kept} (kept_from d.base c.make_room.new.store.store c.make_room.new.timeline.items d.stamps d.next d.reports.items (marks_kept d.since d.taken c.make_room.new.shelf.marks) d.deep d.undone) (kept_from d.base d.store.store d.timeline.items d.stamps d.next d.reports.items (marks_kept d.since d.taken d.shelf.marks) d.deep d.undone) =
    λ j. kept_from d.base (made.store j) (made.timeline j) d.stamps d.next d.reports.items (marks_kept d.since d.taken (made.marks j)) d.deep d.undone in
    record {
      desk = subst (λ (k : Kept). IsDesk k) (sym same) c.self.invariant.desk;
      sizes = λ body. ap (λ (n : List (Body × Note)). size_of n body) made.shelf ∙ c.self.invariant.sizes body ∙ ap (λ (t : List Item). option_map length (text_with d.base.texts (t ++ items_behind d.undone) body)) (sym made.timeline);
    }

pub returns-clause-kept : goal.returns-clause-kept
returns-clause-kept c =
    let d = c.self.inside in
    let made = c.make_room.ensures in
    let same : ◌≡◌ {A = Kept} (kept_from d.base c.make_room.new.store.store c.make_room.new.timeline.items d.stamps d.next d.reports.items (marks_kept d.since d.taken c.make_room.new.shelf.marks) d.deep d.undone) (kept_from d.base d.store.store d.timeline.items d.stamps d.next d.reports.items (marks_kept d.since d.taken d.shelf.marks) d.deep d.undone) =
    λ j. kept_from d.base (made.store j) (made.timeline j) d.stamps d.next d.reports.items (marks_kept d.since d.taken (made.marks j)) d.deep d.undone in
    same ∙ ap (λ (h : Held). h.kept) c.self.view_is

pub returns-clause-ready : goal.returns-clause-ready
returns-clause-ready c =
    let d = c.self.inside in
    let new = c.make_room.new in
    let item = c.args.item.now in
    let text = c.args.text.now in
    let s = d.store.store in
    let stamps = c.in_ok-stamps.stamps in
    let held : Kept → Held = λ k. record { kept = k; notes = new.shelf.notes; marks = new.shelf.marks; room = record { store = new.store; items = new.timeline.room; notes = new.shelf.room; reports = vec_capacity d.reports - vec_len d.reports; marks = new.shelf.keeps } } in
    let kept : Kept = kept_from d.base d.store.store d.timeline.items d.stamps d.next d.reports.items (marks_kept d.since d.taken d.shelf.marks) d.deep d.undone in
    let now : Kept = kept_from d.base new.store.store new.timeline.items d.stamps d.next d.reports.items (marks_kept d.since d.taken new.shelf.marks) d.deep d.undone in
    let of_room = c.make_room.ensures in
    let same : ◌≡◌ {A = Kept} kept now =
    sym (λ j. kept_from d.base (of_room.store j) (of_room.timeline j) d.stamps d.next d.reports.items (marks_kept d.since d.taken (of_room.marks j)) d.deep d.undone) in
    let alike : step_text s item text ≡ step s item = subst (λ (h : Held). step_text (store_of h.kept) item text ≡ step (store_of h.kept) item) (sym c.self.view_is) c.requires.alike in
    let given : step_text s c.item.result.now text ≡ step s item = ap (λ (i : Item). step_text s i text) c.item.ensures ∙ c.stored_items_do_alike.ensures.without s item text ∙ alike in
    elim c.match-make_room.branch [
      | in-Ok w ↦
          let room = w.in-Ok.ensures in
          let made : Made = record { effect = w.in-Ok.effect; stamps = stamps } in
          let enters : CanEnter (ready_of item made) (held kept) = record {
            formed = subst (λ (h : Held). IsWellFormed h.kept.house item) (sym c.self.view_is) c.requires.formed;
            stored = refl;
            number = subst (λ (h : Held). item.number ≡ h.kept.next) (sym c.self.view_is) c.requires.number;
            left = subst (λ (h : Held). h.kept.next < 4194304) (sym c.self.view_is) c.requires.left;
            does = room.does ∙ ap (λ (after : MailStore × Shown). after.0) alike;
            shows = room.shows ∙ ap (λ (after : MailStore × Shown). after.1) alike;
            spare = c.in_ok-stamps.ensures.spare;
            stamps = c.in_ok-stamps.ensures.changes text ∙ (λ j. stamps_after (c.item.ensures j).number (given j).0.boxes d.stamps);
            effect = room.ready;
            items = room.items;
            notes = room.notes;
          } in
          subst (λ (r : Result Made NoMemory). IfOk r (λ made. CanEnter (ready_of item made) (held now))) (sym w.result-is) (subst (λ (k : Kept). CanEnter (ready_of item made) (held k)) same enters)
      | in-Err w ↦ subst (λ (r : Result Made NoMemory). IfOk r (λ made. CanEnter (ready_of item made) (held now))) (sym w.result-is) tt
    ]
