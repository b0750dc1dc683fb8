use Rattle.std.proofs.Common.{sym}
use Rattle.box_store.proofs.Making.{refused_are_none}
use Rattle.box_store.proofs.rows.are_whole.Goals as goal

-- rows that are refused can't stand, or some are missing
pub returns-in-Some : goal.returns-in-Some
returns-in-Some c = sym (refused_are_none c.args.house.now c.args.rows.now c.in-Some.field-0 (c.rows_fault.ensures.some c.in-Some.field-0 c.in-Some.is))
