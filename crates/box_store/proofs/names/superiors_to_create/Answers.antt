use Rattle.std.proofs.Common.{◌≡◌, ◌∙◌, ◌-◌, ℕ, List, IfOk, ap, subst, take, length}
use Rattle.verb_core.specs.Names.{superiors}
use Rattle.box_store.specs.Plans.{missing_of}
use Rattle.box_store.proofs.Renames.{but_the_last}
use Rattle.box_store.proofs.names.superiors_to_create.Goals as goal

pub returns : goal.returns
returns c =
    subst (λ (ns : List (List ℕ)). IfOk c.missing_of.result (λ missing. missing ≡ missing_of c.args.user ns c.args.rows.now))
    (c.but_last.ensures ∙ ap (λ (ns : List (List ℕ)). take (length ns - 1) ns) (c.as_slice.ensures ∙ c.in_ok-names.ensures) ∙ but_the_last (superiors c.args.mailbox.now) c.args.mailbox.now)
    c.missing_of.ensures
