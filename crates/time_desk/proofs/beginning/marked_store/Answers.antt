use Rattle.std.proofs.Common.{◌≡◌, ◌∙◌, IfOk, None, Option, Some, ap, subst, sym}
use Rattle.std.specs.Prelude.{option_map}
use Rattle.box_store.specs.declared.store.Store.{Store}
use Rattle.verb_bytes.specs.declared.journal.JournalRecord.{JournalRecord}
use Rattle.verb_core.specs.Store.{MailStore}
use Rattle.time_desk.specs.Serving.{SpelledBy, bytes_at, store_in}
use Rattle.desk_journal.specs.Stored.{snapshot_at}
use Rattle.time_desk.proofs.Servings.{own_store, serves_by}
use Rattle.time_desk.proofs.Standings.{if_ok}
use Rattle.time_desk.proofs.beginning.marked_store.Goals as goal

pub returns-in-Ok-Some-clause-found : goal.returns-in-Ok-Some-clause-found
returns-in-Ok-Some-clause-found g c = λ payloads held lies.
    let kept = c.args.desk.now.kept in
    let both : ◌≡◌ {A = Option JournalRecord} (Some c.in-Ok-Some.what) (Some (snapshot_at kept c.args.count)) = sym c.in-Ok-Some.field-0-is ∙ c.in-Ok-Some.ensures.found payloads (snapshot_at kept c.args.count) held lies.spelled lies.lies in
    let is : c.in-Ok-Some.what ≡ snapshot_at kept c.args.count = cc both in
    let own = own_store kept c.args.count (λ house conf rows valid. (c.rows_make_valid_stores.ensures.valid house conf rows).1 valid) (c.fronts_serve.ensures c.args.count) in
    subst (λ (o : Option MailStore). IfOk c.store_of_record.result (λ found. option_map {T = Store} {U = MailStore} (λ store. store.store) found ≡ o)) (ap (store_in kept c.args.count) is ∙ own)
    c.store_of_record.ensures.exact

pub returns-in-Ok-Some-clause-read : goal.returns-in-Ok-Some-clause-read
returns-in-Ok-Some-clause-read g c = λ honest.
    let kept = c.args.desk.now.kept in
    let bytes = bytes_at (g.D.Disk.told c.args.past.now.disk) c.args.place in
    let spells = subst (SpelledBy bytes) c.in-Ok-Some.field-0-is (c.in-Ok-Some.ensures.read honest) in
    if_ok c.store_of_record.result _ _
    (λ found is. serves_by c.one_spelling.ensures.one_record kept c.args.count bytes c.in-Ok-Some.what spells (option_map {T = Store} {U = MailStore} (λ store. store.store) found) is)
    c.store_of_record.ensures.exact

pub returns-in-Ok-None-clause-found : goal.returns-in-Ok-None-clause-found
returns-in-Ok-None-clause-found g c = λ payloads held lies.
    let kept = c.args.desk.now.kept in
    let wrong : ◌≡◌ {A = Option JournalRecord} None (Some (snapshot_at kept c.args.count)) = sym c.in-Ok-None.field-0-is ∙ c.in-Ok-None.ensures.found payloads (snapshot_at kept c.args.count) held lies.spelled lies.lies in
    absurd (cc wrong)

pub returns-in-Ok-None-clause-read : goal.returns-in-Ok-None-clause-read
returns-in-Ok-None-clause-read g c = λ honest what spells.
    absurd (subst (SpelledBy (bytes_at (g.D.Disk.told c.args.past.now.disk) c.args.place)) c.in-Ok-None.field-0-is (c.in-Ok-None.ensures.read honest) what spells)
