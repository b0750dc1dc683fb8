use Rattle.std.proofs.Common.{◌∙◌, List, ℕ, sym, ap, bytes_eq}
use Rattle.verb_core.specs.Names.{inbox}
use Rattle.mail_rows.specs.Inferiors.{rows_under}
use Rattle.mail_rows.proofs.Runs.{overlong_row}
use Rattle.mail_rows.proofs.inferiors.is_overlong.Goals as goal

pub returns : goal.returns
returns c =
    overlong_row c.args.user c.args.source.now c.args.target.now c.args.rows.now c.inferiors_of.result.now c.gets_too_long.result
    (ap (λ (n : List ℕ). bytes_eq n inbox) (sym c.bytes.ensures.value) ∙ sym c.if-is_inbox.ensures) (sym c.if-is_there.ensures)
    (c.inferiors_of.ensures ∙ ap (λ (n : List ℕ). rows_under c.args.user n c.args.rows.now) c.bytes-2.ensures.value) c.gets_too_long.ensures
