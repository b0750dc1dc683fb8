use Rattle.std.proofs.Common.{◌≡◌, ◌+◌, ◌-◌, arith, subst}
use Rattle.imap_stream.proofs.Readings.{end_sound, end_takes}
use Rattle.imap_stream.specs.Reading.{IsWithin}
use Rattle.imap_stream.proofs.reader.end.Goals as goal

pub returns-clause-ok : goal.returns-clause-ok
returns-clause-ok c =
    let r = c.args.reader.now in
    let place = c.args.place in
    let count : r.given + place - r.given ≡ place = omega arith in
    rw c.requires.awaits (end_takes r.begun c.end_line.new.begun c.awaits_after.result c.args.bytes.now r.given place c.in_ok-next.next c.requires.sound.begun c.requires.end
    (rw count at c.in_ok-next.ensures.ok) c.awaits_after.ensures)

pub returns-clause-sound : goal.returns-clause-sound
returns-clause-sound c =
    let r = c.args.reader.now in
    end_sound r.begun c.end_line.new.begun c.awaits_after.result c.args.bytes.now _ r.given c.args.place c.in_ok-next.next (subst (λ a. IsWithin a r.begun) c.requires.awaits c.requires.sound.limits) c.requires.end
    c.in_ok-next.ensures.ok c.awaits_after.ensures
