use Rattle.std.proofs.Common.{◌≡◌, ◌∙◌, List, ℕ, Some, None, subst, sym}
use Rattle.seal_log.specs.Settled.{Holds}
use Rattle.desk_journal.proofs.Staying.{holds_on}
use Rattle.time_desk.specs.Fronts.{SecondIs}
use Rattle.time_desk.specs.Standing.{FrontBreaksFor}
use Rattle.time_desk.proofs.Settled.{anew_held, anew_opens, breaks_second, opens_anew}
use Rattle.time_desk.proofs.Standings.{if_err}
use Rattle.time_desk.proofs.front.begin_with.Goals as goal
use Rattle.store_kept.specs.Kept.{new_desk}

pub returns-in-Ok-None-clause-opened : goal.returns-in-Ok-None-clause-opened
returns-in-Ok-None-clause-opened g c payloads holds are first =
    anew_opens c.begin_anew.result payloads c.args.places.now (new_desk c.args.house c.args.conf) c.begin_anew.ensures.kept c.begin_anew.ensures.one
    (opens_anew c.records_begin_with_their_kind.ensures payloads c.args.places.now c.args.house c.args.conf are first (subst (SecondIs payloads) c.in-Ok-None.field-0-is (c.in-Ok-None.ensures.base payloads holds are)))

pub returns-in-Err-clause-bad : goal.returns-in-Err-clause-bad
returns-in-Err-clause-bad g c payloads holds are first =
    breaks_second payloads c.args.house c.args.conf c.args.cut c.args.past.now.end c.in-Err.fault first (c.in-Err.ensures.bad payloads c.args.house c.args.conf holds are)
