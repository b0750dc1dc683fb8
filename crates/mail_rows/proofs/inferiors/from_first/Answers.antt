use Rattle.std.proofs.Common.{◌∙◌, ℕ, ap, drop, rules}
use Rattle.std.proofs.lemmas.List.Sorted.{IsPartitionPoint-from_clause}
use Rattle.verb_core.specs.declared.mailbox.BoxId.{BoxId}
use Rattle.verb_core.specs.declared.mailbox.Mailbox.{Mailbox}
use Rattle.mail_rows.specs.Inferiors.{is_under, stands_first}
use Rattle.mail_rows.proofs.AliasOrder.{counted}
use Rattle.mail_rows.proofs.RowRuns.{drop_first, first_parted}
use Rattle.mail_rows.proofs.Runs.{inferiors_together}
use Rattle.mail_rows.proofs.inferiors.from_first.Goals as goal

pub returns : goal.returns
returns c =
    let facts = c.partition_point.ensures in
    let u = c.args.user in
    let name = c.args.name.now in
    let test : BoxId × Mailbox → _ = λ r. stands_first u name r.0 in
    c.after.ensures
    ∙ ap (λ (n : ℕ). drop n c.args.rows.now) (counted test c.args.rows.now c.partition_point.result facts.bound
    (IsPartitionPoint-from_clause test c.args.rows.now c.partition_point.result facts.partitioned (first_parted (stands_first u name) (is_under u name) (inferiors_together u name) c.args.rows.now c.requires) (λ a r f called. search rules)))
    ∙ drop_first (stands_first u name) c.args.rows.now
