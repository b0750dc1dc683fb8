use Rattle.std.proofs.Common.{◌≡◌, List, ap, ◌∙◌, sym}
use Rattle.undo_base.specs.declared.keys.User.{User}
use Rattle.verb_core.specs.Aims.{sought}
use Rattle.verb_core.specs.Items.{actor}
use Rattle.verb_core.specs.Stamps.{stamps_after}
use Rattle.verb_core.specs.Step.{new_mail, step_text}
use Rattle.mail_desk.specs.declared.restamp.StampChange.{StampChange}
use Rattle.mail_desk.specs.Stamping.{all_changed, changes_by}
use Rattle.mail_desk.proofs.Stampings.{changes_are, stamps_by_deed, same_actor}
use Rattle.mail_desk.proofs.restamp.stamp_changes.Goals as goal

pub returns-clause-changes : goal.returns-clause-changes
returns-clause-changes c text =
    let s = c.args.store.now.store in
    let i = c.args.item.now in
    let stamps = c.args.stamps.now in
    let u = actor i.by i.deed in
    let laws = c.stamps_name_mailboxes.ensures in
    let is = stamps_by_deed laws.after laws.each i.number u i.deed (λ index. new_mail u i s.boxes index i.deed) (sought s text i.by i.deed).aims s.boxes stamps c.requires.valid.rising c.requires.valid.superiors c.requires.named in
    let list = c.in_ok-list.list.items in
    let user = c.unwrap_or-user.result in
    let made : all_changed i.number user list stamps ≡ stamps_after i.number (step_text s i text).0.boxes stamps =
    ap (λ (l : List StampChange). all_changed i.number user l stamps) c.in_ok-list.ensures
    ∙ ap (λ (v : User). all_changed i.number v (changes_by v i.deed s.boxes) stamps) c.unwrap_or-user.ensures
    ∙ same_actor i.number i.by i.deed s.boxes stamps ∙ sym is in
    changes_are c.with_spare.result i.number user list stamps (stamps_after i.number (step_text s i text).0.boxes stamps) c.with_spare.ensures.changes made
