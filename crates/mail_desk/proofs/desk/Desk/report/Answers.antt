use Rattle.std.proofs.Common.{IsTrue, subst, sym}
use Rattle.store_kept.specs.Kept.{Reports, is_by_key}
use Rattle.mail_desk.proofs.desk.Desk.report.Goals as goal

pub report_of-requires : goal.report_of-requires
report_of-requires c = subst (λ (l : Reports). IsTrue (is_by_key l)) (sym c.as_slice.ensures.value) c.self.invariant.desk.reports
