use Rattle.std.proofs.Common.{List, ℕ, sym, subst, true, ◌≡◌}
use Rattle.verb_core.specs.declared.mailbox.BoxId.{BoxId}
use Rattle.verb_core.specs.Boxes.{is_rising}
use Rattle.repair_desk.proofs.Stamped.{rising_named}
use Rattle.repair_desk.proofs.renewing.renew.Goals as goal

pub renewed_stamps-requires : goal.renewed_stamps-requires
renewed_stamps-requires c =
    subst (λ (rs : List (BoxId × ℕ)). is_rising rs ≡ true) (sym c.as_slice.ensures)
    (rising_named c.args.stamps.now c.args.before.now.store.boxes c.requires.named c.boxes-named.ensures.rising)
