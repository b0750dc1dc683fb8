use Rattle.std.proofs.Common.{◌++◌, take, subst, sym, ℕ, List}
use Rattle.std.proofs.lemmas.List.{map-append}
use Rattle.seal_log.specs.Journal.{StandsForFront}
use Rattle.verb_bytes.specs.Spelling.{record_bytes}
use Rattle.desk_journal.specs.Records.{payloads_of}
use Rattle.journal_laws.proofs.Lasting.{can_join}
use Rattle.journal_laws.proofs.laws.desks_run.Goals as goal

pub returns-clause-run : goal.returns-clause-run
returns-clause-run g c = λ records added failed old new it.
    record { began = it.began; stand = can_join old.kept new.kept added failed (it.seals.kept it.texts) it.seals.could }

pub returns-clause-front : goal.returns-clause-front
returns-clause-front g c = λ records added failed old new image it front.
    let leaves = c.crashes_leave_states.ensures.each records added failed old new image it.began it.texts it.seals front in (
      leaves.kept,
      (leaves.count, leaves.state_is),
      record { records = records ++ take leaves.count (added ++ failed); stands = leaves.stands; state_is = leaves.state_is },
    )

pub returns-clause-crashed : goal.returns-clause-crashed
returns-clause-crashed g c = λ records added failed old new image it settled since.
    let any = it.seals.on_disk.any_moment (payloads_of records) settled in
    let front : StandsForFront (payloads_of records) (payloads_of (added ++ failed)) image =
    subst (λ (l : List (List ℕ)). StandsForFront (payloads_of records) l image) (sym (map-append record_bytes added failed)) (any.each image since) in
    let leaves = c.crashes_leave_states.ensures.each records added failed old new image it.began it.texts it.seals front in (
      leaves.kept,
      (leaves.count, leaves.state_is),
      record { records = records ++ take leaves.count (added ++ failed); stands = leaves.stands; state_is = leaves.state_is },
    )
