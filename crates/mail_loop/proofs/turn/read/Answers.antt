use Rattle.std.proofs.Common.{◌≡◌, true, List, ap, subst, sym, ◌∙◌}
use Rattle.verb_core.specs.declared.mailbox.Body.{Body}
use Rattle.store_kept.specs.Kept.{Kept}
use Rattle.mail_loop.specs.declared.out.Out.TheVariants.{Read}
use Rattle.mail_loop.specs.Asked.{HaveSealed}
use Rattle.mail_loop.specs.Hindrance.{Hindrance, under}
use Rattle.mail_loop.specs.Session.{followed, is_home}
use Rattle.mail_loop.specs.Took.{ReadsOutOfMemory, Takes}
use Rattle.mail_loop.proofs.TextsRead.{awaited_on, texts_answered, texts_unanswered}
use Rattle.mail_loop.proofs.turn.read.Goals as goal

pub go_on-requires-clause-awaited : goal.go_on-requires-clause-awaited
go_on-requires-clause-awaited g c = awaited_on g.S.Speaks.speech c.texts-texts.result c.in-Ok.out c.take_texts.new.self c.in-Ok.ensures.next

pub go_on-requires-clause-home : goal.go_on-requires-clause-home
go_on-requires-clause-home g c =
    let speech = g.S.Speaks.speech in
    let home = subst (λ (k : Kept). is_home speech k.house c.args.session.now ≡ true) (sym c.texts-texts.ensures.still.kept) c.requires.home in
    c.take_texts.ensures.home c.texts-texts.new.self.kept.house home

pub go_on-requires-clause-sealed : goal.go_on-requires-clause-sealed
go_on-requires-clause-sealed g c = c.texts-texts.ensures.still.closed ∙ c.requires.sealed

pub returns-in-Ok-clause-house : goal.returns-in-Ok-clause-house
returns-in-Ok-clause-house g c = c.go_on.ensures.house ∙ ap (λ (k : Kept). k.house) c.texts-texts.ensures.still.kept

pub returns-in-Ok-clause-turn : goal.returns-in-Ok-clause-turn
returns-in-Ok-clause-turn g c =
    let speech = g.S.Speaks.speech in
    let told = g.D.Disk.told in
    let join = c.seals_join.ensures in
    let texts = c.texts-texts in
    let kept = c.args.desk.now.kept in
    let d = c.args.session.now in
    let new = c.go_on.new in
    subst (λ (bodies : List Body). (h : Hindrance) × Takes (HaveSealed told c.args.desk.now new.desk) (under h c.args.at kept (λ desk. followed speech desk kept (Read bodies) d)) c.args.reply.now new.desk.kept new.session new.reply) c.as_slice.ensures
    (texts_answered told speech join.still join.then c.args.at c.args.desk.now texts.new.self new.desk c.as_slice.result.now texts.result c.in-Ok.out d c.take_texts.new.self new.session c.args.reply.now new.reply
    c.requires.reading c.requires.stays texts.ensures.still texts.ensures.cause texts.ensures.due texts.ensures.texts texts.ensures.count texts.ensures.memory
    c.in-Ok.ensures.ok c.in-Ok.ensures.next c.go_on.ensures.still c.go_on.ensures.turn)

pub returns-in-Err-clause-house : goal.returns-in-Err-clause-house
returns-in-Err-clause-house g c = ap (λ (k : Kept). k.house) c.texts-texts.ensures.still.kept

pub returns-in-Err-clause-home : goal.returns-in-Err-clause-home
returns-in-Err-clause-home g c =
    let speech = g.S.Speaks.speech in
    let house = c.texts-texts.new.self.kept.house in
    let home = subst (λ (k : Kept). is_home speech k.house c.args.session.now ≡ true) (sym c.texts-texts.ensures.still.kept) c.requires.home in
    c.read_out_of_memory.ensures.home house (c.take_texts.ensures.home house home)

pub returns-in-Err-clause-turn : goal.returns-in-Err-clause-turn
returns-in-Err-clause-turn g c =
    let speech = g.S.Speaks.speech in
    let told = g.D.Disk.told in
    let join = c.seals_join.ensures in
    let texts = c.texts-texts in
    let kept = c.args.desk.now.kept in
    let d = c.args.session.now in
    let old = c.args.reply.now in
    let new = c.read_out_of_memory.new in
    subst (λ (bodies : List Body). (h : Hindrance) × Takes (HaveSealed told c.args.desk.now texts.new.self) (under h c.args.at kept (λ desk. followed speech desk kept (Read bodies) d)) old texts.new.self.kept new.session new.reply) c.as_slice.ensures
    (texts_unanswered told speech join.still join.then join.nothing c.args.at c.args.desk.now texts.new.self c.as_slice.result.now texts.result d new.session old new.reply
    c.requires.reading texts.ensures.still texts.ensures.cause texts.ensures.due texts.ensures.texts texts.ensures.count texts.ensures.memory
    (subst (λ (e : g.row.S.Denot). ReadsOutOfMemory speech texts.new.self.kept e old new.session new.reply) c.in-Err.ensures.err (c.read_out_of_memory.ensures.read texts.new.self.kept)))
