use Rattle.std.proofs.Common.{◌≡◌, ◌∙◌, true, sym}
use Rattle.store_kept.specs.Kept.{store_of}
use Rattle.stored_items.specs.Stored.{whole}
use Rattle.desk_journal.specs.Records.{can_follow}
use Rattle.time_desk.proofs.Headed.{follows_whole, unlooked}
use Rattle.time_desk.proofs.Soundness.{follows_formed}
use Rattle.time_desk.proofs.lying.enter_lying.Goals as goal

-- the item with its text can follow
pub enter_lying-requires-clause-formed : goal.enter_lying-requires-clause-formed
enter_lying-requires-clause-formed c =
    let kept = c.args.desk.now.kept in
    let can : can_follow kept (whole c.args.item c.args.lying.text) ≡ true = follows_whole kept c.args.item c.args.lying.text ∙ sym c.can_follow.ensures ∙ c.if-not-can_follow.false in
    (follows_formed kept (whole c.args.item c.args.lying.text) can).0

pub enter_lying-requires-clause-unlooked : goal.enter_lying-requires-clause-unlooked
enter_lying-requires-clause-unlooked c = unlooked (store_of c.args.desk.now.kept) c.args.item.deed c.requires.unfiltered
