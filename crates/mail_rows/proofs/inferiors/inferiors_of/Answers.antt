use Rattle.std.proofs.Common.{◌∙◌, List, ap, subst, sym, take, rules}
use Rattle.std.specs.List.Sorted.{IsPartitionedBy}
use Rattle.std.proofs.lemmas.List.Sorted.{IsPartitionPoint-from_clause}
use Rattle.verb_core.specs.declared.mailbox.BoxId.{BoxId}
use Rattle.verb_core.specs.declared.mailbox.Mailbox.{Mailbox}
use Rattle.mail_rows.specs.Inferiors.{is_under, stands_first}
use Rattle.mail_rows.proofs.AliasOrder.{counted}
use Rattle.mail_rows.proofs.ConfLaws.{front}
use Rattle.mail_rows.proofs.RowRuns.{passes_parted, run_is}
use Rattle.mail_rows.proofs.Runs.{inferiors_together}
use Rattle.mail_rows.proofs.inferiors.inferiors_of.Goals as goal

pub returns : goal.returns
returns c =
    let facts = c.partition_point.ensures in
    let u = c.args.user in
    let name = c.args.name.now in
    let rows = c.args.rows.now in
    let rest = c.from_first-rest.result.now in
    let test : BoxId × Mailbox → _ = λ r. is_under u name r.0 in
    let parted : IsPartitionedBy test rest = subst (λ (rs : List (BoxId × Mailbox)). IsPartitionedBy test rs) (sym c.from_first-rest.ensures) (passes_parted (stands_first u name) (is_under u name) (inferiors_together u name) rows c.requires) in
    c.before-2.ensures
    ∙ ap (take c.partition_point.result) c.from_first-rest.ensures
    ∙ run_is (stands_first u name) (is_under u name) (inferiors_together u name) rows c.partition_point.result c.requires
    (counted test rest c.partition_point.result facts.bound (IsPartitionPoint-from_clause test rest c.partition_point.result facts.partitioned parted (λ a r f called. search rules))
    ∙ ap (front test) c.from_first-rest.ensures)
