use Rattle.std.proofs.Common.{◌∙◌, ◌++◌, List, ap, sym}
use Rattle.std.proofs.lemmas.List.{append-nil}
use Rattle.std.proofs.lemmas.Result.{on_ok_weaker}
use Rattle.mail_rows.specs.declared.change.FlagChange.{FlagChange}
use Rattle.mail_rows.proofs.KeyPlaces.{changes_missing, changes_read}
use Rattle.mail_rows.proofs.flags.push_found.Goals as goal

pub returns-in-None : goal.returns-in-None
returns-in-None c =
    sym (append-nil c.args.changes.now)
    ∙ ap (λ (cs : List FlagChange). c.args.changes.now ++ cs) (sym (changes_missing c.args.how c.args.given 0 c.args.key c.args.entries.now c.in-None.ensures))

pub returns-in-Some : goal.returns-in-Some
returns-in-Some c = on_ok_weaker c.push.result (λ e.
    e ∙ ap (λ (cs : List FlagChange). c.args.changes.now ++ cs)
    (changes_read c.args.how c.args.given c.args.key c.args.entries.now c.in-Some.place _ c.flags_after.result c.requires c.in-Some.ensures c.flags_after.ensures)) c.push.ensures.ok
