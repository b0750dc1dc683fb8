use Rattle.std.proofs.Common.{◌∙◌, ap}
use Rattle.verb_core.specs.Boxes.{box_of, is_rising, row_at}
use Rattle.mail_desk.specs.Held.{Held}
use Rattle.mail_desk.proofs.Stampings.{rise_alike}
use Rattle.mail_desk.proofs.desk.Desk.stamp.Goals as goal

-- the stamps' names are those of the mailboxes, which rise
pub find_stamp-requires : goal.find_stamp-requires
find_stamp-requires c =
    let desk = c.self.invariant.desk in
    ap is_rising c.as_slice.ensures ∙ rise_alike c.self.inside.stamps c.self.inside.store.store.boxes desk.stamps desk.valid.rising

pub returns : goal.returns
returns c =
    c.find_stamp.ensures ∙ ap (row_at (box_of c.args.user c.args.name.now)) c.as_slice.ensures ∙ ap (λ (h : Held). row_at (box_of c.args.user c.args.name.now) h.kept.stamps) c.self.view_is
