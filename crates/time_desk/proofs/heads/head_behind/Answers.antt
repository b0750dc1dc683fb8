use Rattle.std.proofs.Common.{◌≡◌, ◌+◌, ◌-◌, ℕ, ◌∙◌, ap, refl, sym, subst, arith}
use Rattle.std.proofs.lemmas.Result.{err_from_is_err_and}
use Rattle.std.specs.Int.{w32, to_be_bytes}
use Rattle.std.specs.Prelude.{slice_range}
use Rattle.desk_journal.proofs.Staying.{holds_on}
use Rattle.time_desk.specs.Standing.{FailsReading, ReadCounts}
use Rattle.time_desk.proofs.Headed.{front_begins, front_long, number_behind}
use Rattle.time_desk.proofs.Standings.{if_err_from, unread_counts, unread_fails}
use Rattle.time_desk.proofs.heads.head_behind.Goals as goal

pub head_around-requires-clause-least : goal.head_around-requires-clause-least
head_around-requires-clause-least g c = front_long c.args.first.now c.in-Some.front.now c.args.hole.from c.requires.least c.requires.front c.in-Some.ensures.front

pub returns-clause-read : goal.returns-clause-read
returns-clause-read g c payloads payload holds lies begins =
    let hole = c.args.hole in
    let first = c.args.first.now in
    let front = c.in-Some.front.now in
    let end : ℕ = hole.from + hole.length in
    let whole : end + (c.args.place.length - end) ≡ c.args.place.length = omega (arith, c.requires.within) in
    let now = holds_on (g.D.Disk.told c.args.past.now.disk) (g.D.Disk.told c.read.new.self.disk) payloads c.read.ensures.still.reads holds in
    c.head_around.ensures.read payloads payload now lies (front_begins payload first front hole.from c.requires.least c.requires.front begins c.in-Some.ensures.front)
    (number_behind payload first front (to_be_bytes w32 hole.length) hole.from c.requires.least c.requires.front begins c.in-Some.ensures.front (c.in-Some.ensures.number refl))
    (c.in_ok-back.ensures.payload payloads payload holds lies ∙ ap (λ (n : ℕ). slice_range payload end n) whole)

pub returns-in_err-back-clause-bad : goal.returns-in_err-back-clause-bad
returns-in_err-back-clause-bad g c =
    let p = err_from_is_err_and c.from_residual.result c.from_residual.ensures.1 in
    if_err_from c.from_residual.result (FailsReading ⊥ c.args.place.gate) p.0 _ p.1 p.2 (unread_fails ⊥ c.args.place.gate c.in_err-back.field-0.0)

pub returns-in_err-back-clause-fault : goal.returns-in_err-back-clause-fault
returns-in_err-back-clause-fault g c =
    let p = err_from_is_err_and c.from_residual.result c.from_residual.ensures.1 in
    if_err_from c.from_residual.result (ReadCounts (g.D.Disk.told c.args.past.now.disk) (g.D.Disk.told c.read.new.self.disk)) p.0 _ p.1 p.2
    (unread_counts (g.D.Disk.told c.args.past.now.disk) (g.D.Disk.told c.read.new.self.disk) c.in_err-back.field-0.0 c.in_err-back.ensures.cause)
