use Rattle.std.proofs.Common.{◌≡◌, Ok, refl, arith}
use Rattle.paradox.specs.declared.words.Verb.TheVariants as verb
use Rattle.verb_bytes.specs.declared.kinds.TheConstants.{LAST_DEED}
use Rattle.verb_bytes.specs.Reading.{verb_cases}
use Rattle.verb_bytes.proofs.Cases.{this_case}
use Rattle.verb_bytes.proofs.reports.verb_of.Goals as goal

pub returns-in-1 : goal.returns-in-1
returns-in-1 c = this_case 1 verb_cases c.args.cursor.now.rest.now c.args.cursor.now.rest.now c.args.kind 1 (Ok verb.Deliver) c.in-1.is refl

pub returns-in-2 : goal.returns-in-2
returns-in-2 c = this_case 1 verb_cases c.args.cursor.now.rest.now c.args.cursor.now.rest.now c.args.kind 2 (Ok verb.Append) c.in-2.is refl

pub returns-in-3 : goal.returns-in-3
returns-in-3 c = this_case 1 verb_cases c.args.cursor.now.rest.now c.args.cursor.now.rest.now c.args.kind 3 (Ok verb.Fetch) c.in-3.is refl

pub returns-in-4 : goal.returns-in-4
returns-in-4 c = this_case 1 verb_cases c.args.cursor.now.rest.now c.args.cursor.now.rest.now c.args.kind 4 (Ok verb.Store) c.in-4.is refl

pub returns-in-5 : goal.returns-in-5
returns-in-5 c = this_case 1 verb_cases c.args.cursor.now.rest.now c.args.cursor.now.rest.now c.args.kind 5 (Ok verb.Copy) c.in-5.is refl

pub returns-in-6 : goal.returns-in-6
returns-in-6 c = this_case 1 verb_cases c.args.cursor.now.rest.now c.args.cursor.now.rest.now c.args.kind 6 (Ok verb.List) c.in-6.is refl

pub returns-in-7 : goal.returns-in-7
returns-in-7 c = this_case 1 verb_cases c.args.cursor.now.rest.now c.args.cursor.now.rest.now c.args.kind 7 (Ok verb.Status) c.in-7.is refl

pub returns-in-8 : goal.returns-in-8
returns-in-8 c = this_case 1 verb_cases c.args.cursor.now.rest.now c.args.cursor.now.rest.now c.args.kind 8 (Ok verb.Select) c.in-8.is refl

pub returns-in-9 : goal.returns-in-9
returns-in-9 c = this_case 1 verb_cases c.args.cursor.now.rest.now c.args.cursor.now.rest.now c.args.kind 9 (Ok verb.Expunge) c.in-9.is refl

pub returns-in-10 : goal.returns-in-10
returns-in-10 c = this_case 1 verb_cases c.args.cursor.now.rest.now c.args.cursor.now.rest.now c.args.kind 10 (Ok verb.Close) c.in-10.is refl

pub returns-in-11 : goal.returns-in-11
returns-in-11 c = this_case 1 verb_cases c.args.cursor.now.rest.now c.args.cursor.now.rest.now c.args.kind 11 (Ok verb.Create) c.in-11.is refl

pub returns-in-12 : goal.returns-in-12
returns-in-12 c = this_case 1 verb_cases c.args.cursor.now.rest.now c.args.cursor.now.rest.now c.args.kind 12 (Ok verb.Rename) c.in-12.is refl

pub returns-in_default : goal.returns-in_default
returns-in_default c =
    let last : c.args.kind ≡ LAST_DEED = omega arith in
    this_case 1 verb_cases c.args.cursor.now.rest.now c.args.cursor.now.rest.now c.args.kind LAST_DEED (Ok verb.Delete) last refl
