use Rattle.std.proofs.Common.{ℕ, List, sym, rules}
use Rattle.std.proofs.lemmas.Fn.{always_returns_same}
use Rattle.paradox.specs.declared.reports.Report.{Report}
use Rattle.store_kept.specs.Kept.{key_cmp}
use Rattle.store_kept.proofs.Rows.{report_found, report_missing}
use Rattle.store_kept.proofs.reports.report_of.Goals as goal

-- the closure compares a row with the key
pub returns-in-Ok : goal.returns-in-Ok
returns-in-Ok c =
    let equal = c.in-Ok.ensures.position (λ (r : List ℕ × Report). key_cmp r.0 c.args.key.now) (always_returns_same _ _ _ (λ a r f called. (search rules, search rules))) in
    sym (report_found c.args.key.now c.args.reports.now c.requires c.in-Ok.place c.in-Ok.ensures.bound equal c.index-reports-place.result)

pub returns-in-Err : goal.returns-in-Err
returns-in-Err c =
    let parted = c.in-Err.ensures.position (λ (r : List ℕ × Report). key_cmp r.0 c.args.key.now) (always_returns_same _ _ _ (λ a r f called. (search rules, search rules))) in
    sym (report_missing c.args.key.now c.args.reports.now c.requires c.in-Err.field-0 parted)
