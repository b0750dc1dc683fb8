use Rattle.std.proofs.Common.{arith, ◌/◌, ◌%◌, append_assoc}
use Rattle.std.proofs.lemmas.Result.{IfOk-weaker}
use Rattle.civil_dates.proofs.TextLemmas.{zero_padded, space_padded}
use Rattle.civil_dates.proofs.dates.imap_date_of.Goals as goal

pub returns : goal.returns
returns c =
    let s = c.args.second in
    IfOk-weaker c.format.result _ _ (λ text e.
    simp append_assoc (rw (
      c.laid_out.ensures,
      c.laid_out-2.ensures,
      c.laid_out-3.ensures,
      c.laid_out-4.ensures,
      space_padded c.args.day.day (omega arith),
      zero_padded (s / 3600) (omega arith),
      zero_padded (s / 60 % 60) (omega arith),
      zero_padded (s % 60) (omega arith),
      c.month_letters-month.ensures,
    ) at e)) c.format.ensures.ok
