use Rattle.std.proofs.Common.{◌∙◌, List, ap}
use Rattle.undo_base.specs.declared.keys.Key.{Key}
use Rattle.verb_core.specs.declared.mailbox.Entry.{Entry}
use Rattle.mail_rows.specs.Indexed.{found_at}
use Rattle.mail_rows.proofs.key_index.KeyIndex.find_near.Goals as goal

pub returns : goal.returns
returns c = c.look_up_near.ensures ∙ ap (λ (index : List (Key × Entry)). found_at index c.args.key) c.self.view_is
