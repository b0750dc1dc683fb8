use Rattle.std.proofs.Common.{◌≡◌, ◌+◌, ◌<◌, ◌≤◌, ◌-◌, ◌++◌, IfOk, List, ap, length, option_map, subst, sym, vec_len, vec_capacity, ◌∙◌, arith}
use Rattle.verb_core.specs.declared.item.Item.{Item}
use Rattle.verb_core.specs.declared.mailbox.Body.{Body}
use Rattle.store_kept.specs.Kept.{Kept, kept_from}
use Rattle.store_kept.specs.Texts.{items_behind, text_with}
use Rattle.shelf.specs.Notes.{Noted, note_of}
use Rattle.mail_desk.specs.declared.remake.Remade.{Remade}
use Rattle.mail_desk.specs.Desk.{IsDesk}
use Rattle.mail_desk.specs.Held.{Held, marks_kept}
use Rattle.mail_desk.specs.Noting.{renoted}
use Rattle.mail_desk.specs.Remaking.{FitsIn, LeavesUndone, asked_left}
use Rattle.mail_desk.specs.Timeline.{SizesOf}
use Rattle.mail_desk.proofs.BodyTexts.{all_noted}
use Rattle.mail_desk.proofs.Readied.{through}
use Rattle.mail_desk.proofs.Remades.{remakes, some_room}
use Rattle.mail_desk.proofs.desk.Desk.remake.Goals as goal

abbrev shelf_of : Remade → Noted
shelf_of made = made.shelf

pub noted_with_room-shelf-requires-clause-from : goal.noted_with_room-shelf-requires-clause-from
noted_with_room-shelf-requires-clause-from c =
    let fits = subst (λ (h : Held). FitsIn h.kept c.args.left) (sym c.self.view_is) c.requires.fits in
    omega (arith, fits.from, fits.place)

pub noted_with_room-shelf-requires-clause-place : goal.noted_with_room-shelf-requires-clause-place
noted_with_room-shelf-requires-clause-place c = let fits = subst (λ (h : Held). FitsIn h.kept c.args.left) (sym c.self.view_is) c.requires.fits in fits.place

pub noted_with_room-shelf-requires-clause-apart : goal.noted_with_room-shelf-requires-clause-apart
noted_with_room-shelf-requires-clause-apart c = let fits = subst (λ (h : Held). FitsIn h.kept c.args.left) (sym c.self.view_is) c.requires.fits in fits.timeline.apart

pub noted_with_room-shelf-requires-clause-noted : goal.noted_with_room-shelf-requires-clause-noted
noted_with_room-shelf-requires-clause-noted c = all_noted c.self.inside.shelf.notes c.self.inside.base.texts c.self.inside.timeline.items (items_behind c.self.inside.undone) c.self.invariant.sizes

pub invariant_of-self : goal.invariant_of-self
invariant_of-self c =
    let d = c.self.inside in
    let noted = c.noted_with_room-shelf in
    let same : ◌≡◌ {A = Kept} (kept_from d.base d.store.store noted.new.timeline.items d.stamps d.next noted.new.reports.items (marks_kept d.since d.taken d.shelf.marks) d.deep d.undone) (kept_from d.base d.store.store d.timeline.items d.stamps d.next d.reports.items (marks_kept d.since d.taken d.shelf.marks) d.deep d.undone) =
    λ j. kept_from d.base d.store.store (noted.ensures.items j) d.stamps d.next (noted.ensures.same j) (marks_kept d.since d.taken d.shelf.marks) d.deep d.undone in
    record {
      desk = subst (λ (k : Kept). IsDesk k) (sym same) c.self.invariant.desk;
      sizes = λ body. c.self.invariant.sizes body ∙ ap (λ (t : List Item). option_map length (text_with d.base.texts (t ++ items_behind d.undone) body)) (sym noted.ensures.items);
    }

pub returns-clause-kept : goal.returns-clause-kept
returns-clause-kept c =
    let d = c.self.inside in
    let noted = c.noted_with_room-shelf in
    let same : ◌≡◌ {A = Kept} (kept_from d.base d.store.store noted.new.timeline.items d.stamps d.next noted.new.reports.items (marks_kept d.since d.taken d.shelf.marks) d.deep d.undone) (kept_from d.base d.store.store d.timeline.items d.stamps d.next d.reports.items (marks_kept d.since d.taken d.shelf.marks) d.deep d.undone) =
    λ j. kept_from d.base d.store.store (noted.ensures.items j) d.stamps d.next (noted.ensures.same j) (marks_kept d.since d.taken d.shelf.marks) d.deep d.undone in
    same ∙ ap (λ (h : Held). h.kept) c.self.view_is

pub returns-clause-remakes : goal.returns-clause-remakes
returns-clause-remakes c =
    let d = c.self.inside in
    let left = c.args.left in
    let noted = c.noted_with_room-shelf in
    let made = c.completed in
    let kept : Kept = kept_from d.base d.store.store noted.new.timeline.items d.stamps d.next noted.new.reports.items (marks_kept d.since d.taken d.shelf.marks) d.deep d.undone in
    let held : Held = record {
      kept = kept_from d.base d.store.store noted.new.timeline.items d.stamps d.next noted.new.reports.items (marks_kept d.since d.taken d.shelf.marks) d.deep d.undone;
      notes = d.shelf.notes;
      marks = d.shelf.marks;
      room = record { store = d.store; items = noted.new.timeline.room; notes = d.shelf.room; reports = vec_capacity noted.new.reports - vec_len noted.new.reports; marks = d.shelf.keeps };
    } in
    let same : ◌≡◌ {A = Kept} (kept_from d.base d.store.store d.timeline.items d.stamps d.next d.reports.items (marks_kept d.since d.taken d.shelf.marks) d.deep d.undone) kept =
    sym (λ j. kept_from d.base d.store.store (noted.ensures.items j) d.stamps d.next (noted.ensures.same j) (marks_kept d.since d.taken d.shelf.marks) d.deep d.undone) in
    let was : c.args.self.now.kept ≡ kept = sym (ap (λ (h : Held). h.kept) c.self.view_is) ∙ same in
    let items : c.args.self.now.kept.timeline ≡ kept.timeline = ap (λ (k : Kept). k.timeline) was in
    let notes = through made.result shelf_of noted.result made.ensures.shelf
    (λ (p : Noted). (body : Body) → note_of p.notes body ≡ renoted d.shelf.notes c.args.fresh.now d.base.texts (asked_left d.timeline.items left) body) noted.ensures.notes in
    let sizes = through made.result shelf_of noted.result made.ensures.shelf (λ (p : Noted). SizesOf p.notes d.base.texts (asked_left d.timeline.items left)) noted.ensures.sizes in
    remakes made.result c.args.self.now held c.args.key left c.args.fresh.now (subst (λ (k : Kept). IsDesk k) same c.self.invariant.desk) (subst (λ (k : Kept). FitsIn k left) was c.requires.fits) (subst (λ (k : Kept). LeavesUndone k left) was c.requires.undone) items
    made.ensures.left made.ensures.key
    (subst (λ (h : Held). IfOk made.result (λ made. (body : Body) → note_of made.shelf.notes body ≡ renoted h.notes c.args.fresh.now h.kept.texts (asked_left h.kept.timeline left) body)) c.self.view_is notes)
    (subst (λ (t : List Item). IfOk made.result (λ remade. SizesOf remade.shelf.notes d.base.texts (asked_left t left))) (sym noted.ensures.items) sizes)
    made.ensures.none (subst (λ (t : List Item). IfOk made.result (λ made. vec_len made.later + (length t - left.place) ≤ vec_capacity made.later)) c.as_slice.ensures made.ensures.room)
    (through made.result shelf_of noted.result made.ensures.shelf (λ (p : Noted). length left.behind ≤ noted.new.timeline.room) noted.ensures.places)
    (through made.result shelf_of noted.result made.ensures.shelf (λ (p : Noted). 0 < vec_capacity noted.new.reports - vec_len noted.new.reports)
    (some_room noted.result (vec_len noted.new.reports) (vec_capacity noted.new.reports) noted.ensures.room))
