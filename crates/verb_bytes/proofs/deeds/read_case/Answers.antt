use Rattle.std.proofs.Common.{◌≡◌, arith}
use Rattle.verb_bytes.specs.declared.kinds.TheConstants.{LAST_KEPT_DEED}
use Rattle.verb_bytes.specs.Reading.{deed_cases}
use Rattle.verb_bytes.proofs.Cases.{this_case}
use Rattle.verb_bytes.proofs.deeds.read_case.Goals as goal

pub returns-in-1 : goal.returns-in-1
returns-in-1 c = this_case 1 (deed_cases c.args.most) c.args.cursor.now.rest.now c.read_deliver.new.cursor.rest.now c.args.kind 1 c.read_deliver.result c.in-1.is c.read_deliver.ensures

pub returns-in-2 : goal.returns-in-2
returns-in-2 c = this_case 1 (deed_cases c.args.most) c.args.cursor.now.rest.now c.read_append.new.cursor.rest.now c.args.kind 2 c.read_append.result c.in-2.is c.read_append.ensures

pub returns-in-3 : goal.returns-in-3
returns-in-3 c = this_case 1 (deed_cases c.args.most) c.args.cursor.now.rest.now c.read_fetch.new.cursor.rest.now c.args.kind 3 c.read_fetch.result c.in-3.is c.read_fetch.ensures

pub returns-in-4 : goal.returns-in-4
returns-in-4 c = this_case 1 (deed_cases c.args.most) c.args.cursor.now.rest.now c.read_store.new.cursor.rest.now c.args.kind 4 c.read_store.result c.in-4.is c.read_store.ensures

pub returns-in-5 : goal.returns-in-5
returns-in-5 c = this_case 1 (deed_cases c.args.most) c.args.cursor.now.rest.now c.read_copy.new.cursor.rest.now c.args.kind 5 c.read_copy.result c.in-5.is c.read_copy.ensures

pub returns-in-6 : goal.returns-in-6
returns-in-6 c = this_case 1 (deed_cases c.args.most) c.args.cursor.now.rest.now c.read_listing.new.cursor.rest.now c.args.kind 6 c.read_listing.result c.in-6.is c.read_listing.ensures

pub returns-in-7 : goal.returns-in-7
returns-in-7 c = this_case 1 (deed_cases c.args.most) c.args.cursor.now.rest.now c.read_status.new.cursor.rest.now c.args.kind 7 c.read_status.result c.in-7.is c.read_status.ensures

pub returns-in-8 : goal.returns-in-8
returns-in-8 c = this_case 1 (deed_cases c.args.most) c.args.cursor.now.rest.now c.read_select.new.cursor.rest.now c.args.kind 8 c.read_select.result c.in-8.is c.read_select.ensures

pub returns-in-9 : goal.returns-in-9
returns-in-9 c = this_case 1 (deed_cases c.args.most) c.args.cursor.now.rest.now c.read_expunge.new.cursor.rest.now c.args.kind 9 c.read_expunge.result c.in-9.is c.read_expunge.ensures

pub returns-in-10 : goal.returns-in-10
returns-in-10 c = this_case 1 (deed_cases c.args.most) c.args.cursor.now.rest.now c.read_close.new.cursor.rest.now c.args.kind 10 c.read_close.result c.in-10.is c.read_close.ensures

pub returns-in-11 : goal.returns-in-11
returns-in-11 c = this_case 1 (deed_cases c.args.most) c.args.cursor.now.rest.now c.read_create.new.cursor.rest.now c.args.kind 11 c.read_create.result c.in-11.is c.read_create.ensures

pub returns-in-12 : goal.returns-in-12
returns-in-12 c = this_case 1 (deed_cases c.args.most) c.args.cursor.now.rest.now c.read_rename.new.cursor.rest.now c.args.kind 12 c.read_rename.result c.in-12.is c.read_rename.ensures

pub returns-in-13 : goal.returns-in-13
returns-in-13 c = this_case 1 (deed_cases c.args.most) c.args.cursor.now.rest.now c.read_delete.new.cursor.rest.now c.args.kind 13 c.read_delete.result c.in-13.is c.read_delete.ensures

pub returns-in-14 : goal.returns-in-14
returns-in-14 c = this_case 1 (deed_cases c.args.most) c.args.cursor.now.rest.now c.read_act_deed.new.cursor.rest.now c.args.kind 14 c.read_act_deed.result c.in-14.is c.read_act_deed.ensures

pub returns-in_default : goal.returns-in_default
returns-in_default c =
    let last : c.args.kind ≡ LAST_KEPT_DEED = omega arith in
    this_case 1 (deed_cases c.args.most) c.args.cursor.now.rest.now c.read_notice.new.cursor.rest.now c.args.kind LAST_KEPT_DEED c.read_notice.result last c.read_notice.ensures
