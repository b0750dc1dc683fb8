use Rattle.std.proofs.Common.{◌≡◌, Ok, true, true≢false, refl, sym, subst, ◌∙◌, ◌||◌}
use Rattle.std.specs.Cmp.{first_so}
use Rattle.verb_core.specs.declared.conf.House.{House}
use Rattle.verb_core.specs.Store.{MailStore}
use Rattle.store_kept.specs.Kept.{Kept, store_of}
use Rattle.shelf.specs.Notes.{size_of}
use Rattle.imap_session.specs.declared.dialog.Dialog.{Dialog}
use Rattle.imap_session.specs.Dialog.{follows_view, is_at_home, is_said, is_view_current, stays_current, without_memory}
use Rattle.mail_loop.specs.declared.out.Out.{Out}
use Rattle.mail_loop.specs.Asked.{HaveSealed}
use Rattle.mail_loop.specs.Turn.{Turn}
use Rattle.mail_loop.specs.Session.{followed, is_said as only_says}
use Rattle.mail_loop.specs.Hindrance.{Hindrance, Refused, under}
use Rattle.mail_loop.specs.ImapTurn.{imap_speech, memory_told}
use Rattle.mail_loop.specs.Took.{AreThere, AsksAs, IsNext, Takes}
use Rattle.mail_loop.specs.ImapTook.{IsAnswered, obeyed_under}
use Rattle.mail_loop.proofs.Commands.{asks_as_of, next_of, said_as_of, there_of}
use Rattle.mail_loop.proofs.ImapTurns.{answered_turn, command_is, command_turn}
use Rattle.mail_loop.proofs.Sealed.{unsealed}
use Rattle.mail_loop.proofs.Telling.{lifted_turn}
use Rattle.mail_loop.proofs.imap_turn.take_command.Goals as goal

pub take_known-requires-clause-current : goal.take_known-requires-clause-current
take_known-requires-clause-current g c = λ h. subst (λ (s : MailStore). is_view_current s c.args.session.now ≡ true) (sym c.store-store.ensures.value) (c.requires.current h)

pub take_known-requires-clause-house : goal.take_known-requires-clause-house
take_known-requires-clause-house g c = c.house-house.ensures.sound

pub take_known-requires-clause-valid : goal.take_known-requires-clause-valid
take_known-requires-clause-valid g c = c.store-store.ensures.valid

pub take_known-requires-clause-home : goal.take_known-requires-clause-home
take_known-requires-clause-home g c = subst (λ (h : House). is_at_home h c.args.session.now ≡ true) (sym c.house-house.ensures.value) c.requires.home

pub take_known-requires-clause-free : goal.take_known-requires-clause-free
take_known-requires-clause-free g c = c.requires.free

pub follow-requires-clause-stays : goal.follow-requires-clause-stays
follow-requires-clause-stays g c = c.requires.stays

pub follow-requires-clause-home : goal.follow-requires-clause-home
follow-requires-clause-home g c = subst (λ (h : House). is_at_home h c.take_known.new.self ≡ true) c.house-house.ensures.value c.take_known.ensures.stays

pub follow-requires-clause-sealed : goal.follow-requires-clause-sealed
follow-requires-clause-sealed g c = c.requires.sealed

pub returns-in-Ok-clause-free : goal.returns-in-Ok-clause-free
returns-in-Ok-clause-free g c = c.follow.ensures.free

pub returns-in-Ok-clause-home : goal.returns-in-Ok-clause-home
returns-in-Ok-clause-home g c = c.follow.ensures.home

pub returns-in-Ok-clause-house : goal.returns-in-Ok-clause-house
returns-in-Ok-clause-house g c = c.follow.ensures.house

pub returns-in-Err-clause-free : goal.returns-in-Err-clause-free
returns-in-Err-clause-free g c = c.answer.ensures.free

pub returns-in-Err-clause-home : goal.returns-in-Err-clause-home
returns-in-Err-clause-home g c =
    let house = c.args.desk.now.kept.house in
    c.answer.ensures.home house (subst (λ (h : House). is_at_home h c.take_known.new.self ≡ true) c.house-house.ensures.value c.take_known.ensures.stays)

pub returns-in-Err-clause-house : goal.returns-in-Err-clause-house
returns-in-Err-clause-house g c = refl

pub returns-in-Err-clause-current : goal.returns-in-Err-clause-current
returns-in-Err-clause-current g c = λ wrong. absurd (true≢false (sym wrong))

pub follow-requires-clause-awaited : goal.follow-requires-clause-awaited
follow-requires-clause-awaited g c = subst (λ (o : Out). IsNext imap_speech o c.take_known.new.self) (sym c.of_imap.ensures) (next_of c.in-Ok.out c.take_known.new.self c.in-Ok.ensures.next)

pub follow-requires-clause-user : goal.follow-requires-clause-user
follow-requires-clause-user g c = subst (λ (o : Out). AsksAs imap_speech o c.take_known.new.self) (sym c.of_imap.ensures) (asks_as_of c.in-Ok.out c.take_known.new.self c.in-Ok.ensures.user)

pub follow-requires-clause-there : goal.follow-requires-clause-there
follow-requires-clause-there g c =
    subst (λ (o : Out). AreThere c.args.desk.now.kept o) (sym c.of_imap.ensures)
    (there_of c.args.desk.now.kept c.store-store.result.now.store c.in-Ok.out c.store-store.ensures.value c.in-Ok.ensures.reads c.stands.ensures.texts)

pub returns-in-Ok-clause-turn : goal.returns-in-Ok-clause-turn
returns-in-Ok-clause-turn g c =
    let kept = c.args.desk.now.kept in
    let d = c.args.session.now in
    let e = c.take_known.new.self in
    let is = command_is kept c.house-house.result.now c.store-store.result.now.store (size_of c.shelf-sizes.result.now.notes) c.upgraded-deep.result d e c.args.command.now c.in-Ok.out
    c.house-house.ensures.value c.store-store.ensures.value c.shelf-sizes.ensures.sizes c.upgraded-deep.ensures c.in-Ok.ensures.ok in
    command_turn (HaveSealed g.D.Disk.told c.args.desk.now c.follow.new.desk) c.args.at kept c.follow.new.desk.kept c.args.command.now c.in-Ok.out d e c.follow.new.session c.args.reply.now c.follow.new.reply is
    (subst (λ (o : Out). (h : Hindrance) × Takes (HaveSealed g.D.Disk.told c.args.desk.now c.follow.new.desk) (under h c.args.at kept (λ desk. followed imap_speech desk kept o e)) c.args.reply.now c.follow.new.desk.kept c.follow.new.session c.follow.new.reply)
    c.of_imap.ensures c.follow.ensures.turn)

pub returns-in-Err-clause-turn : goal.returns-in-Err-clause-turn
returns-in-Err-clause-turn g c =
    let desk = c.args.desk.now in
    let d = c.args.session.now in
    let left = without_memory c.args.command.now.what d in
    let old = c.args.reply.now in
    let new = c.answer.new in
    let text = c.no_memory.result in
    let f : Hindrance → Turn Dialog = λ h. obeyed_under h c.args.at desk.kept d (Ok c.args.command.now) in
    lifted_turn (HaveSealed g.D.Disk.told desk desk) f old desk.kept new.session new.reply (unsealed g.D.Disk.told c.seals_join.ensures.nothing desk)
    (answered_turn (memory_told c.args.command.now.tag) text desk.kept left new.session old new.reply f Refused c.no_memory.ensures refl refl
    (subst (λ (e : Dialog). IsAnswered text e old new.session new.reply) c.in-Err.ensures.err c.answer.ensures.answered))

pub returns-in-Ok-clause-current : goal.returns-in-Ok-clause-current
returns-in-Ok-clause-current g c = λ h.
    let stays : stays_current c.args.current.now c.args.command.now.what c.in-Ok.out ≡ true = sym c.stays_current.ensures ∙ h in
    let said = first_so (is_said c.in-Ok.out) (c.args.current.now || follows_view c.args.command.now.what) stays in
    let still = c.follow.ensures.still (subst (λ (o : Out). only_says o ≡ true) (sym c.of_imap.ensures) (said_as_of c.in-Ok.out said)) in
    let before : is_view_current (store_of c.args.desk.now.kept) c.take_known.new.self ≡ true =
    subst (λ (s : MailStore). is_view_current s c.take_known.new.self ≡ true) c.store-store.ensures.value (c.in-Ok.ensures.current stays) in
    let kept : is_view_current (store_of c.follow.new.desk.kept) c.take_known.new.self ≡ true =
    subst (λ (kept : Kept). is_view_current (store_of kept) c.take_known.new.self ≡ true) (sym still.0) before in
    subst (λ (d : Dialog). is_view_current (store_of c.follow.new.desk.kept) d ≡ true) (sym still.1) kept
