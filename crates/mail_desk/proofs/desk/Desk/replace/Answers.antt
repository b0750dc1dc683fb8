use Rattle.std.proofs.Common.{◌≡◌, ℕ, ◌+◌, ◌++◌, List, ap, length, map, option_map, Some, None, subst, sym, ◌∙◌}
use Rattle.std.specs.Prelude.{if◌then◌else◌}
use Rattle.verb_core.specs.declared.item.Item.{Item}
use Rattle.verb_core.specs.declared.mailbox.Body.{Body}
use Rattle.seal_log.specs.declared.place.Place.{Place}
use Rattle.store_kept.specs.Kept.{Kept, kept_from, not_behind}
use Rattle.store_kept.specs.Texts.{items_behind, text_with}
use Rattle.shelf.specs.declared.note.Note.{Note}
use Rattle.shelf.specs.Notes.{size_of}
use Rattle.mail_desk.specs.Desk.{IsDesk}
use Rattle.mail_desk.specs.Held.{Held, marks_kept}
use Rattle.mail_desk.specs.Remaking.{CanReplace, remade_as, undone_left}
use Rattle.mail_desk.proofs.desk.Desk.replace.Goals as goal

-- what can be withdrawn
undone_is : (c : goal.After-put_report) → c.put-2.new.place ≡ undone_left c.self.inside.timeline.items c.args.remade.left
undone_is c =
    let left = c.args.remade.left in
    c.put-2.ensures ∙ c.undone.ensures
    ∙ ap (λ (later : List Item). if left.undoes then Some (record { cycle = left.report.cycle; point = left.report.point; later = later; position = left.place; placed = left.placed }) else None) c.go_on-later.ensures.later

-- what is kept is the outcome
left_is : (c : goal.After-put_report) →
    let d = c.self.inside in
    kept_from d.base c.put.new.place.store c.go_on-later.new.self.items c.put-3.new.place c.args.remade.left.next c.put_report.new.reports.items
    (marks_kept (d.since + c.args.remade.left.entered) d.taken c.forget_after.new.self.marks) d.deep c.put-2.new.place
    ≡ remade_as (kept_from d.base d.store.store d.timeline.items d.stamps d.next d.reports.items (marks_kept d.since d.taken d.shelf.marks) d.deep d.undone) c.args.remade
left_is c =
    let d = c.self.inside in
    let made = c.args.remade in
    let places = c.forget_after.ensures.positions ∙ ap (λ (ms : List (ℕ × Place)). not_behind made.left.place (map (λ (m : ℕ × Place). m.0) ms)) c.take_notes.ensures.marks in
    let undone = undone_is c in
    λ j. kept_from d.base (c.put.ensures j).store (c.go_on-later.ensures.items j) (c.put-3.ensures j) made.left.next (c.put_report.ensures j)
    (record { since = d.since + made.left.entered; taken = d.taken; places = places j }) d.deep (undone j)

pub go_on-later-requires-clause-from : goal.go_on-later-requires-clause-from
go_on-later-requires-clause-from c = let can = subst (λ (h : Held). CanReplace c.args.remade h) (sym c.self.view_is) c.requires in can.from

pub go_on-later-requires-clause-room : goal.go_on-later-requires-clause-room
go_on-later-requires-clause-room c = let can = subst (λ (h : Held). CanReplace c.args.remade h) (sym c.self.view_is) c.requires in can.items

pub go_on-later-requires-clause-place : goal.go_on-later-requires-clause-place
go_on-later-requires-clause-place c = let can = subst (λ (h : Held). CanReplace c.args.remade h) (sym c.self.view_is) c.requires in can.place

pub go_on-later-requires-clause-none : goal.go_on-later-requires-clause-none
go_on-later-requires-clause-none c = let can = subst (λ (h : Held). CanReplace c.args.remade h) (sym c.self.view_is) c.requires in can.none

pub go_on-later-requires-clause-more : goal.go_on-later-requires-clause-more
go_on-later-requires-clause-more c = let can = subst (λ (h : Held). CanReplace c.args.remade h) (sym c.self.view_is) c.requires in can.room

pub invariant_of-self : goal.invariant_of-self
invariant_of-self c =
    let can = subst (λ (h : Held). CanReplace c.args.remade h) (sym c.self.view_is) c.requires in
    record {
      desk = subst (λ (k : Kept). IsDesk k) (sym (left_is c)) can.desk;
      sizes = λ body. ap (λ (n : List (Body × Note)). size_of n body) (c.forget_after.ensures.notes ∙ c.take_notes.ensures.notes) ∙ can.sizes body
          ∙ sym (λ j. option_map length (text_with c.self.inside.base.texts (c.go_on-later.ensures.items j ++ items_behind (undone_is c j)) body));
    }

pub returns-clause-kept : goal.returns-clause-kept
returns-clause-kept c = left_is c ∙ ap (λ (h : Held). remade_as h.kept c.args.remade) c.self.view_is
