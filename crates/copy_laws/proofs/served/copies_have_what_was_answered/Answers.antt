use Rattle.std.proofs.Common.{◌++◌}
use Rattle.mail_loop.specs.Acknowledged.{kept_at, sealed_in, steps_of}
use Rattle.copy_laws.proofs.Answered.{answered_cut, answered_whole}
use Rattle.copy_laws.proofs.served.copies_have_what_was_answered.Goals as goal

pub returns-clause-whole : goal.returns-clause-whole
returns-clause-whole g c = λ records first course before w after disk look looks last split reads ends.
    let told = g.D.Disk.told in
    answered_whole c.one_reading.ensures.payloads (records ++ sealed_in before ++ w.sealed) (kept_at first (steps_of before) w.step) (told disk) (told w.telling.disk).moment
    (last before w after split) look looks reads c.copies_stand.ensures.whole ends

pub returns-clause-cut : goal.returns-clause-cut
returns-clause-cut g c = λ records first course before w after disk look looks last split reads long.
    let told = g.D.Disk.told in
    answered_cut c.one_reading.ensures.payloads (records ++ sealed_in before ++ w.sealed) (kept_at first (steps_of before) w.step) (told disk) (told w.telling.disk).moment
    (last before w after split) look looks reads c.copies_stand.ensures.cut long
