use Rattle.std.proofs.Common.{subst}
use Rattle.seal_log.specs.Loading.{IsNotFormatted}
use Rattle.seal_log.specs.Log.{end_gate, is_cut}
use Rattle.seal_log.proofs.Looks.{not_formatted}
use Rattle.seal_log.proofs.loading.find.Goals as goal

pub returns-then-is_empty-clause-found : goal.returns-then-is_empty-clause-found
returns-then-is_empty-clause-found g c honest =
    let seen = c.in_ok-seen.seen in
    let none = c.is_empty.ensures.0 c.if-is_empty.true in
    subst IsNotFormatted (c.len.ensures.look.content honest)
    (not_formatted (g.D.Disk.told c.len.new.self).content (end_gate seen.end) seen.places (is_cut seen.end) (c.in_ok-seen.ensures.found (c.len.ensures.look.honest honest)) none.0 none.1)
