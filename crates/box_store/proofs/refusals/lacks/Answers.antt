use Rattle.std.proofs.Common.{◌∙◌, ap, ap₂, nat_lt, length, List}
use Rattle.undo_base.specs.declared.keys.Key.{Key}
use Rattle.verb_core.specs.Mailboxes.{there}
use Rattle.box_store.proofs.KeysThere.{fewer-there}
use Rattle.box_store.proofs.refusals.lacks.Goals as goal

pub returns : goal.returns
returns c =
    ap₂ nat_lt (c.len.ensures ∙ ap length (c.in_ok-found.ensures ∙ ap (λ (keys : List Key). there c.args.entries.now keys) c.as_slice.ensures)) c.len-2.ensures
    ∙ fewer-there c.args.entries.now c.args.keys.now
