use Rattle.std.proofs.Common.{◌≡◌, ◌+◌, ◌≤◌, ◌∙◌, ap, sym, subst, length, cond, vec_len, vec_capacity, arith}
use Rattle.verb_core.specs.Boxes.{is_rising}
use Rattle.verb_core.specs.Step.{Boxes}
use Rattle.verb_core.proofs.RowLists.{rising-all_created}
use Rattle.box_store.specs.Effects.{renamed_by}
use Rattle.box_store.proofs.work.rename_below.Goals as goal

pub create_all-requires-clause-room : goal.create_all-requires-clause-room
create_all-requires-clause-room c = omega (arith, c.requires.room)

pub rename-requires-clause-rising : goal.rename-requires-clause-rising
rename-requires-clause-rising c = rw c.create_all.ensures.rows (rising-all_created c.args.user c.args.made c.args.rows.now.items c.requires.rising)

pub rename-requires-clause-room : goal.rename-requires-clause-room
rename-requires-clause-room c = λ e.
    let room = subst (λ b. vec_len c.args.rows.now + (length c.args.made + cond b 1 0) ≤ vec_capacity c.args.rows.now) e c.requires.room in
    omega (arith, room, c.create_all.ensures.len, c.create_all.ensures.capacity)

pub returns : goal.returns
returns c = c.rename.ensures ∙ ap (λ (rs : Boxes). renamed_by c.args.user c.args.source.now c.args.target c.args.moves rs) c.create_all.ensures.rows
