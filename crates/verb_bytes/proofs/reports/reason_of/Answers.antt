use Rattle.std.proofs.Common.{◌≡◌, Ok, refl, arith}
use Rattle.paradox.specs.declared.words.Reason.TheVariants as reason
use Rattle.verb_bytes.specs.declared.kinds.TheConstants.{LAST_REASON}
use Rattle.verb_bytes.specs.Reading.{reason_cases}
use Rattle.verb_bytes.proofs.Cases.{this_case}
use Rattle.verb_bytes.proofs.reports.reason_of.Goals as goal

pub returns-in-0 : goal.returns-in-0
returns-in-0 c = this_case 0 reason_cases c.args.cursor.now.rest.now c.args.cursor.now.rest.now c.args.byte 0 (Ok reason.Missing) c.in-0.is refl

pub returns-in-1 : goal.returns-in-1
returns-in-1 c = this_case 0 reason_cases c.args.cursor.now.rest.now c.args.cursor.now.rest.now c.args.byte 1 (Ok reason.Changed) c.in-1.is refl

pub returns-in-2 : goal.returns-in-2
returns-in-2 c = this_case 0 reason_cases c.args.cursor.now.rest.now c.args.cursor.now.rest.now c.args.byte 2 (Ok reason.NoName) c.in-2.is refl

pub returns-in-3 : goal.returns-in-3
returns-in-3 c = this_case 0 reason_cases c.args.cursor.now.rest.now c.args.cursor.now.rest.now c.args.byte 3 (Ok reason.Fewer) c.in-3.is refl

pub returns-in-4 : goal.returns-in-4
returns-in-4 c = this_case 0 reason_cases c.args.cursor.now.rest.now c.args.cursor.now.rest.now c.args.byte 4 (Ok reason.Redirected) c.in-4.is refl

pub returns-in-5 : goal.returns-in-5
returns-in-5 c = this_case 0 reason_cases c.args.cursor.now.rest.now c.args.cursor.now.rest.now c.args.byte 5 (Ok reason.Left) c.in-5.is refl

pub returns-in-6 : goal.returns-in-6
returns-in-6 c = this_case 0 reason_cases c.args.cursor.now.rest.now c.args.cursor.now.rest.now c.args.byte 6 (Ok reason.Renamed) c.in-6.is refl

pub returns-in-7 : goal.returns-in-7
returns-in-7 c = this_case 0 reason_cases c.args.cursor.now.rest.now c.args.cursor.now.rest.now c.args.byte 7 (Ok reason.Moved) c.in-7.is refl

pub returns-in_default : goal.returns-in_default
returns-in_default c =
    let last : c.args.byte ≡ LAST_REASON = omega arith in
    this_case 0 reason_cases c.args.cursor.now.rest.now c.args.cursor.now.rest.now c.args.byte LAST_REASON (Ok reason.Withdrawn) last refl
