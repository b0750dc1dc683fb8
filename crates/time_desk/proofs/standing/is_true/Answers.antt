use Rattle.std.proofs.Common.{◌≡◌, ◌∙◌, ap, subst}
use Rattle.std.specs.Prelude.{bytes_eq}
use Rattle.verb_bytes.specs.declared.journal.JournalRecord.TheVariants.{Snapshot}
use Rattle.verb_bytes.specs.Spelling.{HasSpelling, record_bytes}
use Rattle.desk_journal.specs.Records.{snapshot_record}
use Rattle.time_desk.proofs.Standings.{if_ok, true_by_bytes}
use Rattle.time_desk.proofs.standing.is_true.Goals as goal

pub returns-in-Ok-clause-truth : goal.returns-in-Ok-clause-truth
returns-in-Ok-clause-truth c =
    let kept = c.args.desk.now.kept in
    let what = Snapshot c.args.items c.args.conf.now c.args.rows.now in
    let made = c.store.result.now.store in
    let own : Snapshot c.args.items made.conf made.boxes ≡ snapshot_record kept = λ j. Snapshot (c.requires.items j) (c.store.ensures.value j).conf (c.store.ensures.value j).boxes in
    let spelled = subst HasSpelling own c.in-Ok.ensures.spelled in
    if_ok c.has_bytes.result _ _
    (λ same is. is ∙ ap (bytes_eq (record_bytes what)) (c.in-Ok.ensures.text ∙ ap record_bytes own)
    ∙ true_by_bytes c.one_spelling.ensures.one_record kept c.args.items c.args.conf.now c.args.rows.now c.requires.spelled spelled) c.has_bytes.ensures
