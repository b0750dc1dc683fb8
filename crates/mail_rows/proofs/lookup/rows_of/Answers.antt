use Rattle.std.proofs.Common.{◌∙◌, List, ap, subst, sym, take, rules}
use Rattle.std.specs.List.Sorted.{IsPartitionedBy}
use Rattle.std.proofs.lemmas.List.Sorted.{IsPartitionPoint-from_clause}
use Rattle.verb_core.specs.declared.mailbox.BoxId.{BoxId}
use Rattle.verb_core.specs.declared.mailbox.Mailbox.{Mailbox}
use Rattle.verb_core.specs.Boxes.{same_user}
use Rattle.mail_rows.specs.Inferiors.{is_earlier}
use Rattle.mail_rows.proofs.AliasOrder.{counted}
use Rattle.mail_rows.proofs.ConfLaws.{front}
use Rattle.mail_rows.proofs.RowRuns.{passes_parted, run_is, users_together}
use Rattle.mail_rows.proofs.lookup.rows_of.Goals as goal

pub returns : goal.returns
returns c =
    let facts = c.partition_point.ensures in
    let u = c.args.user in
    let rows = c.args.rows.now in
    let rest = c.from_user-rest.result.now in
    let test : BoxId × Mailbox → _ = λ r. same_user u r.0.user in
    let parted : IsPartitionedBy test rest = subst (λ (rs : List (BoxId × Mailbox)). IsPartitionedBy test rs) (sym c.from_user-rest.ensures) (passes_parted (is_earlier u) (λ q. same_user u q.user) (users_together u) rows c.requires) in
    c.before-2.ensures
    ∙ ap (take c.partition_point.result) c.from_user-rest.ensures
    ∙ run_is (is_earlier u) (λ q. same_user u q.user) (users_together u) rows c.partition_point.result c.requires
    (counted test rest c.partition_point.result facts.bound (IsPartitionPoint-from_clause test rest c.partition_point.result facts.partitioned parted (λ a r f called. search rules))
    ∙ ap (front test) c.from_user-rest.ensures)
