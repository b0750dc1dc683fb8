use Rattle.std.proofs.Common.{◌≡◌, ℕ, Bool, false, Option, Some, refl, ap, sym, subst}
use Rattle.std.specs.Prelude.{IsTrue}
use Rattle.std.specs.Option.{option_map_or}
use Rattle.serde_json.specs.Data.{Data}
use Rattle.console_replies.specs.Bodies.{body_data}
use Rattle.verb_core.specs.declared.mailbox.Body.{Body}
use Rattle.store_kept.specs.Texts.{has_text_kept, text_kept}
use Rattle.desk_journal.specs.Stored.{is_recorded}
use Rattle.console_session.specs.Answers.{answer, body_at, found, is_text_recorded}
use Rattle.console_session.specs.Hearing.{TellsFound, TellsRead}
use Rattle.console_session.proofs.Texts.{has_one, none_there, text_there, there}
use Rattle.console_session.proofs.routes.tell_body.Goals as goal

pub tell_text-requires : goal.tell_text-requires
tell_text-requires g c =
    let kept = c.args.desk.now.kept in
    subst (λ (b : Body). IsTrue (has_text_kept kept b)) (sym c.body_of.ensures) (has_one kept c.args.number c.in-Some.rev (sym c.in-Some.ensures))

pub returns-in-Some-clause-told : goal.returns-in-Some-clause-told
returns-in-Some-clause-told g c =
    let old = c.args.desk.now in
    let new = c.tell_text.new.desk in
    let r = c.tell_text.result in
    let it = there old.kept.timeline c.args.number c.in-Some.rev (sym c.in-Some.ensures) in
    let text_is = subst (λ (b : Body). text_kept old.kept b ≡ Some it.text) (sym c.body_of.ensures) (text_there old.kept (body_at c.args.number c.in-Some.rev) it.text it.text_is) in
    let told = subst (λ (b : Body). TellsRead g.D.Disk.told (is_recorded old.kept old.kept.timeline b) (answer 200 (body_data it.text b.rev)) old new r) c.body_of.ensures (c.tell_text.ensures.told it.text text_is) in
    let recorded = ap (λ (o : Option ℕ). option_map_or (λ (rev : ℕ). is_recorded old.kept old.kept.timeline (body_at c.args.number rev)) o false) c.in-Some.ensures in
    subst (λ (o : Option Data). TellsFound g.D.Disk.told (is_text_recorded old.kept c.args.number) o (found o) old new r) (sym it.found)
    (subst (λ (b : Bool). TellsRead g.D.Disk.told b (answer 200 (body_data it.text c.in-Some.rev)) old new r) recorded told)

pub returns-in-None-clause-told : goal.returns-in-None-clause-told
returns-in-None-clause-told g c =
    let old = c.args.desk.now in
    subst (λ (o : Option Data). TellsFound g.D.Disk.told (is_text_recorded old.kept c.args.number) o (found o) old old c.tell_none.result) (sym (none_there old.kept.timeline c.args.number (sym c.in-None.ensures))) (refl, c.tell_none.ensures)
