use Rattle.std.proofs.Common.{ℕ, List, Option, [], ◌++◌, append-nil, inl, is_some, map, take, ap, refl, subst, sym, ◌∙◌}
use Rattle.std.specs.List.{cons_option, list_all}
use Rattle.undo_base.specs.declared.keys.User.{User}
use Rattle.verb_core.specs.declared.mailbox.BoxId.{BoxId}
use Rattle.verb_core.specs.Live.{is_users}
use Rattle.verb_core.specs.Store.{is_known}
use Rattle.mail_loop.specs.Asked.{HaveSealed}
use Rattle.mail_loop.specs.Took.{Submits, taken_by}
use Rattle.mail_loop.proofs.Commands.{asker_known, asker_of, home_in}
use Rattle.mail_loop.proofs.Dialogs.{house_stays}
use Rattle.mail_loop.proofs.Sealed.{did_submit, unsealed}
use Rattle.mail_loop.proofs.Taken.{none_gone_of, noted_unless_done, noted_where_done}
use Rattle.mail_loop.proofs.asking.ask_desk.Goals as goal

pub submit-outcome-requires-clause-by : goal.submit-outcome-requires-clause-by
submit-outcome-requires-clause-by g c = asker_of c.asker-by.result (is_users c.args.ask) (c.requires.user ∙ ap (λ (u : Option User). is_some u) (sym c.asker-by.ensures))

pub submit-outcome-requires-clause-known : goal.submit-outcome-requires-clause-known
submit-outcome-requires-clause-known g c =
    let house = c.args.desk.now.kept.house in
    ap (λ (u : Option User). list_all (is_known house) (cons_option u [])) c.asker-by.ensures ∙ asker_known g.S.Speaks.speech house c.args.session.now c.requires.home

pub returns-in-Err-clause-did : goal.returns-in-Err-clause-did
returns-in-Err-clause-did g c = (tt, refl, inl (unsealed g.D.Disk.told c.seals_join.ensures.nothing c.args.desk.now))

-- what was noted is left out again
pub returns-in-Err-clause-noted : goal.returns-in-Err-clause-noted
returns-in-Err-clause-noted g c =
    let gone = c.args.reply.now.gone in
    ap (λ (ids : List BoxId). record c.args.reply.now { gone = ids })
    (c.keep_first.ensures ∙ ap (λ (n : ℕ). take n c.note.new.gone) c.len-before.ensures ∙ c.in-Err.ensures.err ∙ sym (append-nil gone) ∙ ap (λ (ids : List BoxId). gone ++ ids) (sym (none_gone_of c.args.desk.now.kept)))

pub returns-then-is_err-clause-did : goal.returns-then-is_err-clause-did
returns-then-is_err-clause-did g c =
    let submit = c.submit-outcome in
    let S = HaveSealed g.D.Disk.told c.args.desk.now submit.new.self in
    subst (λ (u : Option User). Submits S c.args.at c.args.desk.now.kept u c.args.ask submit.new.self.kept submit.result) c.asker-by.ensures
    (did_submit g.D.Disk.told c.args.at c.asker-by.result c.args.ask c.args.desk.now submit.new.self submit.result c.requires.sealed submit.ensures.reads
    submit.ensures.ok submit.ensures.sealed submit.ensures.err submit.ensures.why submit.ensures.finds_memory submit.ensures.wants)

pub returns-then-is_err-clause-house : goal.returns-then-is_err-clause-house
returns-then-is_err-clause-house g c =
    let submit = c.submit-outcome in
    house_stays (HaveSealed g.D.Disk.told c.args.desk.now submit.new.self) c.args.desk.now.kept submit.new.self.kept c.args.at c.asker-by.result c.args.ask submit.result
    (did_submit g.D.Disk.told c.args.at c.asker-by.result c.args.ask c.args.desk.now submit.new.self submit.result c.requires.sealed submit.ensures.reads
    submit.ensures.ok submit.ensures.sealed submit.ensures.err submit.ensures.why submit.ensures.finds_memory submit.ensures.wants)

pub returns-then-is_err-clause-home : goal.returns-then-is_err-clause-home
returns-then-is_err-clause-home g c =
    let submit = c.submit-outcome in
    let kept = c.args.desk.now.kept in
    home_in g.S.Speaks.speech kept.house submit.new.self.kept.house c.args.session.now
    (house_stays (HaveSealed g.D.Disk.told c.args.desk.now submit.new.self) kept submit.new.self.kept c.args.at c.asker-by.result c.args.ask submit.result
    (did_submit g.D.Disk.told c.args.at c.asker-by.result c.args.ask c.args.desk.now submit.new.self submit.result c.requires.sealed submit.ensures.reads
    submit.ensures.ok submit.ensures.sealed submit.ensures.err submit.ensures.why submit.ensures.finds_memory submit.ensures.wants)) c.requires.home

pub returns-else-is_err-clause-did : goal.returns-else-is_err-clause-did
returns-else-is_err-clause-did g c =
    let submit = c.submit-outcome in
    let S = HaveSealed g.D.Disk.told c.args.desk.now submit.new.self in
    subst (λ (u : Option User). Submits S c.args.at c.args.desk.now.kept u c.args.ask submit.new.self.kept submit.result) c.asker-by.ensures
    (did_submit g.D.Disk.told c.args.at c.asker-by.result c.args.ask c.args.desk.now submit.new.self submit.result c.requires.sealed submit.ensures.reads
    submit.ensures.ok submit.ensures.sealed submit.ensures.err submit.ensures.why submit.ensures.finds_memory submit.ensures.wants)

pub returns-else-is_err-clause-house : goal.returns-else-is_err-clause-house
returns-else-is_err-clause-house g c =
    let submit = c.submit-outcome in
    house_stays (HaveSealed g.D.Disk.told c.args.desk.now submit.new.self) c.args.desk.now.kept submit.new.self.kept c.args.at c.asker-by.result c.args.ask submit.result
    (did_submit g.D.Disk.told c.args.at c.asker-by.result c.args.ask c.args.desk.now submit.new.self submit.result c.requires.sealed submit.ensures.reads
    submit.ensures.ok submit.ensures.sealed submit.ensures.err submit.ensures.why submit.ensures.finds_memory submit.ensures.wants)

pub returns-else-is_err-clause-home : goal.returns-else-is_err-clause-home
returns-else-is_err-clause-home g c =
    let submit = c.submit-outcome in
    let kept = c.args.desk.now.kept in
    home_in g.S.Speaks.speech kept.house submit.new.self.kept.house c.args.session.now
    (house_stays (HaveSealed g.D.Disk.told c.args.desk.now submit.new.self) kept submit.new.self.kept c.args.at c.asker-by.result c.args.ask submit.result
    (did_submit g.D.Disk.told c.args.at c.asker-by.result c.args.ask c.args.desk.now submit.new.self submit.result c.requires.sealed submit.ensures.reads
    submit.ensures.ok submit.ensures.sealed submit.ensures.err submit.ensures.why submit.ensures.finds_memory submit.ensures.wants)) c.requires.home

pub returns-then-is_err-clause-noted : goal.returns-then-is_err-clause-noted
returns-then-is_err-clause-noted g c =
    let submit = c.submit-outcome in
    let by = c.asker-by.result in
    let did = did_submit g.D.Disk.told c.args.at by c.args.ask c.args.desk.now submit.new.self submit.result c.requires.sealed submit.ensures.reads
    submit.ensures.ok submit.ensures.sealed submit.ensures.err submit.ensures.why submit.ensures.finds_memory submit.ensures.wants in
    let noted = c.in_default.ensures.ok ∙ ap (λ (ids : List BoxId). c.args.reply.now.gone ++ taken_by by c.args.ask ids) (ap (map (λ (r : BoxId × ℕ). r.0)) c.as_slice.ensures ∙ c.stamps.ensures.named) in
    ap (λ (ids : List BoxId). record c.args.reply.now { gone = ids })
    (noted_unless_done (HaveSealed g.D.Disk.told c.args.desk.now submit.new.self) c.args.desk.now.kept submit.new.self.kept c.args.at by c.args.ask submit.result
    c.args.reply.now.gone c.note.new.gone c.keep_first-then-is_err.new.self c.len-before.result (sym c.is_err.ensures.value ∙ c.if-is_err.true) did noted c.len-before.ensures c.keep_first-then-is_err.ensures)

pub returns-else-is_err-clause-noted : goal.returns-else-is_err-clause-noted
returns-else-is_err-clause-noted g c =
    let submit = c.submit-outcome in
    let by = c.asker-by.result in
    let did = did_submit g.D.Disk.told c.args.at by c.args.ask c.args.desk.now submit.new.self submit.result c.requires.sealed submit.ensures.reads
    submit.ensures.ok submit.ensures.sealed submit.ensures.err submit.ensures.why submit.ensures.finds_memory submit.ensures.wants in
    let noted = c.in_default.ensures.ok ∙ ap (λ (ids : List BoxId). c.args.reply.now.gone ++ taken_by by c.args.ask ids) (ap (map (λ (r : BoxId × ℕ). r.0)) c.as_slice.ensures ∙ c.stamps.ensures.named) in
    ap (λ (ids : List BoxId). record c.args.reply.now { gone = ids })
    (noted_where_done (HaveSealed g.D.Disk.told c.args.desk.now submit.new.self) c.args.desk.now.kept submit.new.self.kept c.args.at by c.args.ask submit.result
    c.args.reply.now.gone c.note.new.gone (sym c.is_err.ensures.value ∙ c.if-is_err.false) c.stands.ensures.valid
    (asker_of by (is_users c.args.ask) (c.requires.user ∙ ap (λ (u : Option User). is_some u) (sym c.asker-by.ensures))) did noted)
