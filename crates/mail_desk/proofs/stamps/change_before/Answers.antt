use Rattle.std.proofs.Common.{◌≡◌, ◌∙◌, ◌++◌, ap, reverse, subst, sym, true}
use Rattle.verb_core.specs.Boxes.{is_rising}
use Rattle.mail_desk.specs.Stamping.{StampRows, all_changed}
use Rattle.mail_desk.proofs.LaterRows.{changed_before, rising_front}
use Rattle.mail_desk.proofs.stamps.change_before.Goals as goal

pub change_all-requires-clause-rising : goal.change_all-requires-clause-rising
change_all-requires-clause-rising c =
    rising_front c.set_aside.new.rows.items (reverse c.set_aside.new.aside.items) (subst (λ (rs : StampRows). is_rising rs ≡ true) (sym c.set_aside.ensures.rows) c.requires.rising)

pub returns : goal.returns
returns c =
    let later = reverse c.set_aside.new.aside.items in
    let front = c.set_aside.new.rows.items in
    c.put_back.ensures ∙ ap (λ (rs : StampRows). rs ++ later) c.change_all.ensures.rows
    ∙ sym (changed_before c.args.number c.args.user c.args.changes.items front later c.set_aside.ensures.later)
    ∙ ap (all_changed c.args.number c.args.user c.args.changes.items) c.set_aside.ensures.rows
