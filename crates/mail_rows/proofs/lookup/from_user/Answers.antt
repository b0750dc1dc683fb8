use Rattle.std.proofs.Common.{◌∙◌, ℕ, ap, drop, rules}
use Rattle.std.proofs.lemmas.List.Sorted.{IsPartitionPoint-from_clause}
use Rattle.verb_core.specs.declared.mailbox.BoxId.{BoxId}
use Rattle.verb_core.specs.declared.mailbox.Mailbox.{Mailbox}
use Rattle.verb_core.specs.Boxes.{same_user}
use Rattle.mail_rows.specs.Inferiors.{is_earlier}
use Rattle.mail_rows.proofs.AliasOrder.{counted}
use Rattle.mail_rows.proofs.RowRuns.{drop_first, first_parted, users_together}
use Rattle.mail_rows.proofs.lookup.from_user.Goals as goal

pub returns : goal.returns
returns c =
    let facts = c.partition_point.ensures in
    let u = c.args.user in
    let test : BoxId × Mailbox → _ = λ r. is_earlier u r.0 in
    c.after.ensures
    ∙ ap (λ (n : ℕ). drop n c.args.rows.now) (counted test c.args.rows.now c.partition_point.result facts.bound
    (IsPartitionPoint-from_clause test c.args.rows.now c.partition_point.result facts.partitioned (first_parted (is_earlier u) (λ q. same_user u q.user) (users_together u) c.args.rows.now c.requires) (λ a r f called. search rules)))
    ∙ drop_first (is_earlier u) c.args.rows.now
