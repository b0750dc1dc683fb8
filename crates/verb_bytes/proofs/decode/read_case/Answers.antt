use Rattle.std.proofs.Common.{◌≡◌, arith}
use Rattle.verb_bytes.specs.declared.kinds.TheConstants.{LAST_RECORD}
use Rattle.verb_bytes.specs.Reading.{record_cases}
use Rattle.verb_bytes.proofs.Cases.{this_case}
use Rattle.verb_bytes.proofs.decode.read_case.Goals as goal

pub returns-in-0 : goal.returns-in-0
returns-in-0 c = this_case 0 record_cases c.args.cursor.now.rest.now c.read_house.new.cursor.rest.now c.args.kind 0 c.read_house.result c.in-0.is c.read_house.ensures

pub returns-in-1 : goal.returns-in-1
returns-in-1 c = this_case 0 record_cases c.args.cursor.now.rest.now c.read_verb.new.cursor.rest.now c.args.kind 1 c.read_verb.result c.in-1.is c.read_verb.ensures

pub returns-in-2 : goal.returns-in-2
returns-in-2 c = this_case 0 record_cases c.args.cursor.now.rest.now c.read_operator.new.cursor.rest.now c.args.kind 2 c.read_operator.result c.in-2.is c.read_operator.ensures

pub returns-in-3 : goal.returns-in-3
returns-in-3 c = this_case 0 record_cases c.args.cursor.now.rest.now c.read_cycle.new.cursor.rest.now c.args.kind 3 c.read_cycle.result c.in-3.is c.read_cycle.ensures

pub returns-in-4 : goal.returns-in-4
returns-in-4 c = this_case 0 record_cases c.args.cursor.now.rest.now c.read_snapshot.new.cursor.rest.now c.args.kind 4 c.read_snapshot.result c.in-4.is c.read_snapshot.ensures

pub returns-in-5 : goal.returns-in-5
returns-in-5 c = this_case 0 record_cases c.args.cursor.now.rest.now c.read_upgrade.new.cursor.rest.now c.args.kind 5 c.read_upgrade.result c.in-5.is c.read_upgrade.ensures

pub returns-in-6 : goal.returns-in-6
returns-in-6 c = this_case 0 record_cases c.args.cursor.now.rest.now c.read_scoped_snapshot.new.cursor.rest.now c.args.kind 6 c.read_scoped_snapshot.result c.in-6.is c.read_scoped_snapshot.ensures

pub returns-in-7 : goal.returns-in-7
returns-in-7 c = this_case 0 record_cases c.args.cursor.now.rest.now c.read_withdraw.new.cursor.rest.now c.args.kind 7 c.read_withdraw.result c.in-7.is c.read_withdraw.ensures

pub returns-in-8 : goal.returns-in-8
returns-in-8 c = this_case 0 record_cases c.args.cursor.now.rest.now c.read_base.new.cursor.rest.now c.args.kind 8 c.read_base.result c.in-8.is c.read_base.ensures

pub returns-in-9 : goal.returns-in-9
returns-in-9 c = this_case 0 record_cases c.args.cursor.now.rest.now c.read_text.new.cursor.rest.now c.args.kind 9 c.read_text.result c.in-9.is c.read_text.ensures

pub returns-in_default : goal.returns-in_default
returns-in_default c =
    let last : c.args.kind ≡ LAST_RECORD = omega arith in
    this_case 0 record_cases c.args.cursor.now.rest.now c.read_kept_record.new.cursor.rest.now c.args.kind LAST_RECORD c.read_kept_record.result last c.read_kept_record.ensures
