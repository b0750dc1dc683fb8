use Rattle.std.proofs.Common.{◌≡◌, arith}
use Rattle.verb_bytes.specs.declared.kinds.TheConstants.{LAST_ACT}
use Rattle.verb_bytes.specs.Reading.{act_cases}
use Rattle.verb_bytes.proofs.Cases.{this_case}
use Rattle.verb_bytes.proofs.acts.read_case.Goals as goal

pub returns-in-1 : goal.returns-in-1
returns-in-1 c = this_case 1 (act_cases c.args.most) c.args.cursor.now.rest.now c.read_set_alias.new.cursor.rest.now c.args.kind 1 c.read_set_alias.result c.in-1.is c.read_set_alias.ensures

pub returns-in-2 : goal.returns-in-2
returns-in-2 c = this_case 1 (act_cases c.args.most) c.args.cursor.now.rest.now c.read_drop_alias.new.cursor.rest.now c.args.kind 2 c.read_drop_alias.result c.in-2.is c.read_drop_alias.ensures

pub returns-in-3 : goal.returns-in-3
returns-in-3 c = this_case 1 (act_cases c.args.most) c.args.cursor.now.rest.now c.read_set_filter.new.cursor.rest.now c.args.kind 3 c.read_set_filter.result c.in-3.is c.read_set_filter.ensures

pub returns-in-4 : goal.returns-in-4
returns-in-4 c = this_case 1 (act_cases c.args.most) c.args.cursor.now.rest.now c.read_drop_filter.new.cursor.rest.now c.args.kind 4 c.read_drop_filter.result c.in-4.is c.read_drop_filter.ensures

pub returns-in-5 : goal.returns-in-5
returns-in-5 c = this_case 1 (act_cases c.args.most) c.args.cursor.now.rest.now c.read_remove.new.cursor.rest.now c.args.kind 5 c.read_remove.result c.in-5.is c.read_remove.ensures

pub returns-in-6 : goal.returns-in-6
returns-in-6 c = this_case 1 (act_cases c.args.most) c.args.cursor.now.rest.now c.read_give.new.cursor.rest.now c.args.kind 6 c.read_give.result c.in-6.is c.read_give.ensures

pub returns-in_default : goal.returns-in_default
returns-in_default c =
    let last : c.args.kind ≡ LAST_ACT = omega arith in
    this_case 1 (act_cases c.args.most) c.args.cursor.now.rest.now c.read_set_scoped.new.cursor.rest.now c.args.kind LAST_ACT c.read_set_scoped.result last c.read_set_scoped.ensures
