use Rattle.std.proofs.Common.{refl, arith, w8, w16}
use Rattle.std.proofs.lemmas.Int.{to_z_pos}
use Rattle.civil_dates.proofs.DayLemmas.{made_day}
use Rattle.civil_dates.proofs.days.moment_of.Goals as goal

pub returns-clause-real : goal.returns-clause-real
returns-clause-real c =
    let d = c.args.day in
    let parts = rw (to_z_pos w16 d.year (omega arith), to_z_pos w8 d.month (omega arith), to_z_pos w8 d.day (omega arith)) at c.in-Ok.ensures.value in
    (λ _. (made_day c.in-Ok.date d.year d.month d.day parts).0, λ _. refl)
