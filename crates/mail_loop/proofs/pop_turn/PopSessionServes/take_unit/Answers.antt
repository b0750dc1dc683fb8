use Rattle.std.proofs.Common.{◌≡◌, true, ap, map, refl, subst, sym, ◌∙◌}
use Rattle.verb_core.specs.declared.conf.House.{House}
use Rattle.verb_core.specs.declared.mailbox.BoxId.{BoxId}
use Rattle.verb_core.specs.declared.mailbox.Mailbox.{Mailbox}
use Rattle.verb_core.specs.Store.{MailStore}
use Rattle.shelf.specs.Notes.{size_of}
use Rattle.mail_desk.proofs.Stampings.{rise_alike}
use Rattle.pop_session.specs.Dialog.{is_at_home}
use Rattle.mail_loop.specs.Asked.{HaveSealed}
use Rattle.mail_loop.proofs.PopTurns.{line_is, line_turn, out_of_memory_line, there_of}
use Rattle.mail_loop.proofs.Sealed.{unsealed}
use Rattle.mail_loop.proofs.pop_turn.PopSessionServes.take_unit.Goals as goal

-- the stamps' names are those of the mailboxes, which rise
pub take-requires-clause-rising : goal.take-requires-clause-rising
take-requires-clause-rising g c =
    rise_alike c.stamps-stamps.result.now c.store-store.result.now.store.boxes
    (c.stamps-stamps.ensures.named ∙ ap (λ (s : MailStore). map (λ (r : BoxId × Mailbox). r.0) s.boxes) (sym c.store-store.ensures.value))
    c.store-store.ensures.valid.rising

pub take-requires-clause-house : goal.take-requires-clause-house
take-requires-clause-house g c = c.house-house.ensures.sound

pub take-requires-clause-valid : goal.take-requires-clause-valid
take-requires-clause-valid g c = c.store-store.ensures.valid

pub take-requires-clause-home : goal.take-requires-clause-home
take-requires-clause-home g c = subst (λ (h : House). is_at_home h c.args.self.now ≡ true) (sym c.house-house.ensures.value) c.requires.home

pub take-requires-clause-free : goal.take-requires-clause-free
take-requires-clause-free g c = c.requires.free

pub obey-requires-clause-next : goal.obey-requires-clause-next
obey-requires-clause-next g c = c.in-Ok.ensures.next

pub obey-requires-clause-user : goal.obey-requires-clause-user
obey-requires-clause-user g c = c.in-Ok.ensures.user

pub obey-requires-clause-stays : goal.obey-requires-clause-stays
obey-requires-clause-stays g c = c.requires.stays

pub obey-requires-clause-home : goal.obey-requires-clause-home
obey-requires-clause-home g c = subst (λ (h : House). is_at_home h c.take.new.self ≡ true) c.house-house.ensures.value c.take.ensures.stays

pub obey-requires-clause-sealed : goal.obey-requires-clause-sealed
obey-requires-clause-sealed g c = c.requires.sealed

pub returns-in-Ok-clause-free : goal.returns-in-Ok-clause-free
returns-in-Ok-clause-free g c = c.obey.ensures.free

pub returns-in-Ok-clause-home : goal.returns-in-Ok-clause-home
returns-in-Ok-clause-home g c = c.obey.ensures.home

pub returns-in-Ok-clause-house : goal.returns-in-Ok-clause-house
returns-in-Ok-clause-house g c = c.obey.ensures.house

pub returns-in-Ok-clause-current : goal.returns-in-Ok-clause-current
returns-in-Ok-clause-current g c = λ now. refl

pub returns-clause-home : goal.returns-clause-home
returns-clause-home g c = subst (λ (h : House). is_at_home h c.take.new.self ≡ true) c.house-house.ensures.value c.take.ensures.stays

pub returns-clause-house : goal.returns-clause-house
returns-clause-house g c = refl

pub returns-clause-current : goal.returns-clause-current
returns-clause-current g c = λ now. refl

pub obey-requires-clause-there : goal.obey-requires-clause-there
obey-requires-clause-there g c =
    there_of c.args.desk.now.kept c.store-store.result.now.store c.in-Ok.out c.store-store.ensures.value c.in-Ok.ensures.reads c.stands.ensures.texts

pub returns-in-Ok-clause-turn : goal.returns-in-Ok-clause-turn
returns-in-Ok-clause-turn g c =
    let kept = c.args.desk.now.kept in
    let d = c.args.self.now in
    let e = c.take.new.self in
    let new = c.obey.new in
    line_turn (HaveSealed g.D.Disk.told c.args.desk.now new.desk) c.args.at kept new.desk.kept c.args.users.now d e new.session c.args.line c.in-Ok.out c.args.reply.now new.reply
    (line_is kept c.house-house.result.now c.store-store.result.now.store c.stamps-stamps.result.now (size_of c.shelf-sizes.result.now.notes) c.args.users.now d e c.args.line c.in-Ok.out
    c.house-house.ensures.value c.store-store.ensures.value c.stamps-stamps.ensures.value c.shelf-sizes.ensures.sizes c.in-Ok.ensures.ok)
    c.obey.ensures.turn

pub returns-clause-turn : goal.returns-clause-turn
returns-clause-turn g c =
    let desk = c.args.desk.now in
    let old = c.args.reply.now in
    let new = c.say.new.reply in
    let users = c.args.users.now in
    let d = c.args.self.now in
    let line = c.args.line in
    out_of_memory_line (HaveSealed g.D.Disk.told desk desk) c.args.at desk.kept users d c.take.new.self line c.memory_text.result.now old new c.in-Err.ensures.err c.memory_text.ensures
    (unsealed g.D.Disk.told c.seals_join.ensures.nothing desk) c.say.ensures
