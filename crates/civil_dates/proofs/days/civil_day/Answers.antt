use Rattle.std.proofs.Common.{sym, subst, ◌≡◌, pos, rules, arith, FitsSigned, w16, to_z-of_z}
use Rattle.jiff_core.specs.Date.{epoch_day}
use Rattle.jiff_core.proofs.SignedLemmas.{signed_arith}
use Rattle.civil_dates.specs.Days.{IsDay}
use Rattle.civil_dates.proofs.WalkLemmas.{civil_day_is}
use Rattle.civil_dates.proofs.DayLemmas.{parts_of_day}
use Rattle.civil_dates.proofs.days.civil_day.Goals as goal

pub returns-clause-day : goal.returns-clause-day
returns-clause-day c =
    let e : epoch_day c.unwrap-date.result ≡ pos c.args.days = search rules in
    let fits : FitsSigned w16 c.unwrap-date.result.year = omega (arith, signed_arith) in
    rw (c.unsigned_abs.ensures.value, to_z-of_z fits) (parts_of_day c.unwrap-date.result c.args.days c.requires e)

pub returns-clause-calendar : goal.returns-clause-calendar
returns-clause-calendar c =
    let e : epoch_day c.unwrap-date.result ≡ pos c.args.days = search rules in
    let fits : FitsSigned w16 c.unwrap-date.result.year = omega (arith, signed_arith) in
    rw (c.unsigned_abs.ensures.value, to_z-of_z fits) (subst (IsDay c.args.days) (sym (parts_of_day c.unwrap-date.result c.args.days c.requires e)) (civil_day_is c.args.days c.requires))
