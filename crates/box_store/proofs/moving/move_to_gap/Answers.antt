use Rattle.std.proofs.Common.{arith}
use Rattle.verb_core.specs.Boxes.{box_of}
use Rattle.mail_rows.proofs.PlaceLaws.{gap_within}
use Rattle.box_store.proofs.RowMoves.{behind_is, before_is}
use Rattle.box_store.proofs.moving.move_to_gap.Goals as goal

pub move_behind-requires-clause-within : goal.move_behind-requires-clause-within
move_behind-requires-clause-within c = gap_within (box_of c.args.user c.args.name) c.args.rows.now c.args.to c.requires.gap

pub returns-then-from-to : goal.returns-then-from-to
returns-then-from-to c = λ d.
    behind_is c.args.user c.args.name c.args.rows.now c.move_behind.new.rows c.args.from c.args.to d c.requires.rising c.if-from-to.true c.requires.gap (c.requires.own d) c.move_behind.ensures

pub returns-else-from-to : goal.returns-else-from-to
returns-else-from-to c = λ d.
    before_is c.args.user c.args.name c.args.rows.now c.move_before.new.rows c.args.from c.args.to d c.requires.rising (omega (arith, c.if-from-to.false)) c.requires.within c.requires.gap (c.requires.own d) c.move_before.ensures
