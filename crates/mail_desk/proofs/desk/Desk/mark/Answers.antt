use Rattle.std.proofs.Common.{ℕ, List, ap, length, ◌∙◌}
use Rattle.store_kept.specs.Kept.{Kept, kept_from, passed, placed}
use Rattle.mail_desk.specs.Held.{Held, marks_kept}
use Rattle.mail_desk.proofs.desk.Desk.mark.Goals as goal

-- with other places of snapshots
abbrev with_places : Kept → List ℕ → Kept
with_places kept places = record kept { marks = record kept.marks { places = places } }

pub returns-clause-kept : goal.returns-clause-kept
returns-clause-kept c =
    let d = c.self-2.inside in
    ap (with_places (kept_from d.base d.store.store d.timeline.items d.stamps d.next d.reports.items (marks_kept d.since d.taken d.shelf.marks) d.deep d.undone)) c.keep.ensures.positions
    ∙ ap (λ (h : Held). with_places h.kept (placed c.len-position.result h.kept.marks.places)) c.self-2.view_is
    ∙ ap (λ (k : Kept). with_places k (placed c.len-position.result k.marks.places)) c.count_mark.ensures.kept
    ∙ ap (λ (n : ℕ). with_places (record c.args.self.now.kept { marks = passed c.args.self.now.kept.marks }) (placed n c.args.self.now.kept.marks.places))
    (c.len-position.ensures.value ∙ ap (λ (h : Held). length h.kept.timeline) c.self.view_is)
