use Rattle.civil_dates.proofs.WalkLemmas.{civil_day_is}
use Rattle.civil_dates.proofs.days.in_calendar.Goals as goal

pub returns : goal.returns
returns c = civil_day_is
