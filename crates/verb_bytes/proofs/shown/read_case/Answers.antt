use Rattle.std.proofs.Common.{◌≡◌, Ok, refl, arith}
use Rattle.verb_core.specs.declared.item.Shown.TheVariants.{Nothing}
use Rattle.verb_bytes.specs.declared.kinds.TheConstants.{LAST_SHOWN}
use Rattle.verb_bytes.specs.Reading.{shown_cases}
use Rattle.verb_bytes.proofs.Cases.{same_case}
use Rattle.verb_bytes.proofs.shown.read_case.Goals as goal

pub returns-in-0 : goal.returns-in-0
returns-in-0 c = same_case (shown_cases c.args.most) c.args.cursor.now.rest.now c.args.cursor.now.rest.now c.args.kind 0 (Ok Nothing) c.in-0.is refl

pub returns-in-1 : goal.returns-in-1
returns-in-1 c = same_case (shown_cases c.args.most) c.args.cursor.now.rest.now c.read_seen.new.cursor.rest.now c.args.kind 1 c.read_seen.result c.in-1.is c.read_seen.ensures

pub returns-in-2 : goal.returns-in-2
returns-in-2 c = same_case (shown_cases c.args.most) c.args.cursor.now.rest.now c.read_names.new.cursor.rest.now c.args.kind 2 c.read_names.result c.in-2.is c.read_names.ensures

pub returns-in-3 : goal.returns-in-3
returns-in-3 c = same_case (shown_cases c.args.most) c.args.cursor.now.rest.now c.read_count.new.cursor.rest.now c.args.kind 3 c.read_count.result c.in-3.is c.read_count.ensures

pub returns-in-4 : goal.returns-in-4
returns-in-4 c = same_case (shown_cases c.args.most) c.args.cursor.now.rest.now c.read_done.new.cursor.rest.now c.args.kind 4 c.read_done.result c.in-4.is c.read_done.ensures

pub returns-in-5 : goal.returns-in-5
returns-in-5 c = same_case (shown_cases c.args.most) c.args.cursor.now.rest.now c.read_copied.new.cursor.rest.now c.args.kind 5 c.read_copied.result c.in-5.is c.read_copied.ensures

pub returns-in-6 : goal.returns-in-6
returns-in-6 c = same_case (shown_cases c.args.most) c.args.cursor.now.rest.now c.read_put.new.cursor.rest.now c.args.kind 6 c.read_put.result c.in-6.is c.read_put.ensures

pub returns-in-7 : goal.returns-in-7
returns-in-7 c = same_case (shown_cases c.args.most) c.args.cursor.now.rest.now c.read_left.new.cursor.rest.now c.args.kind 7 c.read_left.result c.in-7.is c.read_left.ensures

pub returns-in-8 : goal.returns-in-8
returns-in-8 c = same_case (shown_cases c.args.most) c.args.cursor.now.rest.now c.read_went.new.cursor.rest.now c.args.kind 8 c.read_went.result c.in-8.is c.read_went.ensures

pub returns-in_default : goal.returns-in_default
returns-in_default c =
    let last : c.args.kind ≡ LAST_SHOWN = omega arith in
    same_case (shown_cases c.args.most) c.args.cursor.now.rest.now c.read_moved.new.cursor.rest.now c.args.kind LAST_SHOWN c.read_moved.result last c.read_moved.ensures
