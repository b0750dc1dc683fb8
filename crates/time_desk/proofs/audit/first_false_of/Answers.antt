use Rattle.std.proofs.Common.{◌≡◌, ◌∙◌, ℕ, false, List, Some, length, subst, sym, ap}
use Rattle.seal_log.specs.Journal.{sealed}
use Rattle.seal_log.specs.Loading.{places_from}
use Rattle.desk_journal.specs.Going.{read_on}
use Rattle.desk_journal.specs.Records.{payloads_of}
use Rattle.desk_journal.specs.Stored.{TextsHeld}
use Rattle.time_desk.specs.Auditing.{false_or_behind, false_record}
use Rattle.time_desk.specs.Standing.{FrontBreaksFor}
use Rattle.time_desk.proofs.Judging.{breaks_none, found_behind, not_damaged}
use Rattle.time_desk.proofs.Unread.{breaks_unread, found_unread, told_of_all}
use Rattle.time_desk.proofs.Standings.{if_ok}
use Rattle.time_desk.proofs.Audits.{cause_with_front, still_found}
use Rattle.time_desk.proofs.audit.first_false_of.Goals as goal

pub returns-in-Ok-clause-found : goal.returns-in-Ok-clause-found
returns-in-Ok-clause-found g c records kept is held are =
    let o = c.in-Ok.ensures.opened (payloads_of records) held are in
    let f = found_behind c.one_spelling.ensures.one_record records kept c.in-Ok.desk.kept _ is o in
    let texts = subst (λ (ps : List (List ℕ)). TextsHeld (g.D.Disk.told c.begin_at.new.past.disk) ps c.in-Ok.desk.kept c.in-Ok.desk.notes c.in-Ok.desk.marks) f.all (c.in-Ok.ensures.texts (payloads_of records) held are) in
    still_found c.with_front.result c.first_false-found.result (λ found. found ≡ false_record records) c.with_front.ensures.same (
    if_ok c.first_false-found.result _ _ (λ found same. same ∙ sym f.is)
    (c.first_false-found.ensures.found (payloads_of o.records) f.more kept texts (c.after-others.ensures ∙ o.places_are ∙ ap (places_from (length (sealed (payloads_of o.records)))) f.others_are) f.leaves))

pub returns-in-Ok-clause-still : goal.returns-in-Ok-clause-still
returns-in-Ok-clause-still g c =
    read_on g.D.Disk.told c.args.past.now c.first_false-found.new.past c.with_front.new.past
    (read_on g.D.Disk.told c.args.past.now c.begin_at.new.past c.first_false-found.new.past c.begin_at.ensures.still c.first_false-found.ensures.still) c.with_front.ensures.still

pub returns-in-Ok-clause-cause : goal.returns-in-Ok-clause-cause
returns-in-Ok-clause-cause g c =
    cause_with_front g.D.Disk.told c.args.past.now c.begin_at.new.past c.first_false-found.new.past c.with_front.new.past c.first_false-found.result c.with_front.result
    c.in-Ok.ensures.ok c.begin_at.ensures.still.reads.reads.reliable c.first_false-found.ensures.still.reads.reads.reliable c.first_false-found.ensures.cause c.with_front.ensures.read c.with_front.ensures.fault

pub returns-in-Err-Damaged-clause-found : goal.returns-in-Err-Damaged-clause-found
returns-in-Err-Damaged-clause-found g c records kept is held are =
    not_damaged c.in-Err-Damaged.field-0 c.in-Err-Damaged.place c.in-Err-Damaged.field-0-is
    (breaks_none c.one_spelling.ensures.one_record records kept c.args.past.now.end c.in-Err-Damaged.field-0 is (c.in-Err-Damaged.ensures.bad (payloads_of records) held are))

pub returns-in-Ok-clause-unread : goal.returns-in-Ok-clause-unread
returns-in-Ok-clause-unread g c payloads records u held are =
    let o = c.in-Ok.ensures.opened payloads held are in
    let f = found_unread c.one_spelling.ensures.one_record payloads records c.in-Ok.desk.kept _ u o in
    let texts = subst (λ (ps : List (List ℕ)). TextsHeld (g.D.Disk.told c.begin_at.new.past.disk) ps c.in-Ok.desk.kept c.in-Ok.desk.notes c.in-Ok.desk.marks) o.split (c.in-Ok.ensures.texts payloads held are) in
    still_found c.with_front.result c.first_false-found.result (λ found. found ≡ false_or_behind records) c.with_front.ensures.same (
    if_ok c.first_false-found.result _ _ (λ found is. told_of_all records o.records o.others c.in-Ok.desk.kept found f is)
    (c.first_false-found.ensures.unread (payloads_of o.records) o.others f.more texts (c.after-others.ensures ∙ o.places_are) f.leads))

pub returns-in-Err-Damaged-clause-unread : goal.returns-in-Err-Damaged-clause-unread
returns-in-Err-Damaged-clause-unread g c payloads records u held are =
    ap Some c.in-Err-Damaged.place-is
    ∙ breaks_unread c.one_spelling.ensures.one_record payloads records c.args.past.now.end c.in-Err-Damaged.place u
    (subst (FrontBreaksFor false c.args.past.now.end payloads) c.in-Err-Damaged.field-0-is (c.in-Err-Damaged.ensures.bad payloads held are))

pub returns-in-Err-NotFormatted-clause-unread : goal.returns-in-Err-NotFormatted-clause-unread
returns-in-Err-NotFormatted-clause-unread g c payloads records u held are =
    absurd (subst (FrontBreaksFor false c.args.past.now.end payloads) c.in-Err-NotFormatted.field-0-is (c.in-Err-NotFormatted.ensures.bad payloads held are))
