use Rattle.std.proofs.Common.{ap, sym, ◌∙◌}
use Rattle.std.proofs.lemmas.List.{drop_all}
use Rattle.mail_desk.specs.Founding.{are_stamps_of}
use Rattle.mail_desk.proofs.Foundings.{stamps_none}
use Rattle.mail_desk.proofs.founding.name_rows.Goals as goal

pub returns : goal.returns
returns c =
    c.is_empty.ensures ∙ stamps_none c.loop-row.left.now ∙ ap (are_stamps_of c.loop-row.left.now) (sym (drop_all c.loop-row.row-index c.args.rows.now c.loop-row-test.false)) ∙ c.loop-row.invariant
