use Rattle.std.proofs.Common.{arith}
use Rattle.mail_desk.proofs.Timelines.{few}
use Rattle.time_desk.proofs.beginning.position_of.Goals as goal

-- a timeline has fewer items than the next number
pub overflow_cast-result : goal.overflow_cast-result
overflow_cast-result c =
    let kept = c.args.desk.now.kept in
    let stands = c.stands.ensures in
    omega (arith, few kept.next kept.timeline stands.timeline.apart stands.below, stands.next, c.requires)
