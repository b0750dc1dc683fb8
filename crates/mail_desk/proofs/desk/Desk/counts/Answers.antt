use Rattle.std.proofs.Common.{◌≡◌, ℕ, ◌∙◌, List, ap, arith, length, min, subst}
use Rattle.std.specs.List.{count_by, sum_by}
use Rattle.std.proofs.lemmas.List.Sums.{count_by-le-length}
use Rattle.verb_core.specs.declared.conf.House.{House}
use Rattle.verb_core.specs.declared.item.Item.{Item}
use Rattle.verb_core.specs.declared.mailbox.BoxId.{BoxId}
use Rattle.verb_core.specs.Boxes.{mail_at}
use Rattle.verb_core.specs.Deeds.{is_notice}
use Rattle.mail_desk.specs.Counting.{counts_of, most, most_cycles}
use Rattle.mail_desk.specs.declared.counts.Counts.{Counts}
use Rattle.mail_desk.specs.Held.{Held, marks_kept}
use Rattle.store_kept.specs.Kept.{Kept, Reports, kept_from}
use Rattle.mail_desk.proofs.Counted.{messages_named}
use Rattle.mail_desk.proofs.desk.Desk.counts.Goals as goal

pub overflow_cast-result : goal.overflow_cast-result
overflow_cast-result c =
    omega (arith, c.len.ensures.few, c.self.invariant.desk.next)

pub overflow_cast-result-2 : goal.overflow_cast-result-2
overflow_cast-result-2 c =
    let d = c.self.inside in
    let desk = c.self.invariant.desk in
    let no_more = count_by-le-length (λ (i : Item). is_notice i.deed) d.timeline.items in
    let notices = c.notices_in.ensures ∙ ap (count_by (λ (i : Item). is_notice i.deed)) c.as_slice-3.ensures in
    omega (arith, c.len.ensures, no_more, desk.next, notices)

pub returns : goal.returns
returns c =
    let d = c.self.inside in
    let desk = c.self.invariant.desk in
    let kept : Kept = kept_from d.base d.store.store d.timeline.items d.stamps d.next d.reports.items (marks_kept d.since d.taken d.shelf.marks) d.deep d.undone in
    let by_name : c.messages_in.result ≡ min (sum_by (λ (r : BoxId × ℕ). length (mail_at r.0 d.store.store.boxes)) d.stamps) most =
    subst (λ (rows : List (BoxId × ℕ)). c.messages_in.result ≡ min (sum_by (λ (r : BoxId × ℕ). length (mail_at r.0 d.store.store.boxes)) rows) most) c.as_slice-2.ensures c.messages_in.ensures in
    let notices = c.notices_in.ensures ∙ ap (count_by (λ (i : Item). is_notice i.deed)) c.as_slice-3.ensures in
    let messages = by_name ∙ ap (λ (n : ℕ). min n most) (messages_named d.stamps d.store.store.boxes desk.valid.rising desk.stamps) in
    let cycles : c.cycles_in.result ≡ min (length d.reports.items) most_cycles = c.cycles_in.ensures ∙ ap (λ (l : Reports). min (length l) most_cycles) c.as_slice.ensures.value in
    let counted : ◌≡◌ {A = Counts} (record { cycles = c.cycles_in.result; items = c.len.result; messages = c.messages_in.result; next = d.next; notices = c.notices_in.result; users = c.len-2.result }) (counts_of kept) =
    λ j. record { cycles = cycles j; items = c.len.ensures.value j; messages = messages j; next = d.next; notices = notices j; users = (c.len-2.ensures ∙ ap (λ (h : House). length h.accounts) c.house.ensures.value) j } in
    counted ∙ ap (λ (h : Held). counts_of h.kept) c.self.view_is
