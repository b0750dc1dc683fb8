use Rattle.std.proofs.Common.{ap, ◌∙◌, length, take_while}
use Rattle.store_kept.specs.Kept.{Reports}
use Rattle.store_kept.specs.Places.{stands_before}
use Rattle.store_kept.proofs.Rows.{report_placed}
use Rattle.store_kept.proofs.reports.put_report.Goals as goal

-- the others, with the report between
pub returns : goal.returns
returns c =
    c.insert_within.ensures
    ∙ report_placed c.args.key c.args.report c.args.reports.now.items c.drop_report.new.reports.items c.place_for-place.result c.requires.rising c.drop_report.ensures.items
    (c.place_for-place.ensures.value ∙ ap (λ (l : Reports). length (take_while (stands_before c.args.key) l)) c.as_slice.ensures.value)
