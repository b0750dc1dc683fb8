use Rattle.std.proofs.Common.{◌∙◌, ap, subst, arith}
use Rattle.std.proofs.lemmas.List.{take_all}
use Rattle.std.specs.Str.{str_to_ascii_lowercase}
use Rattle.mail_sections.specs.Listed.{AreShort}
use Rattle.mail_sections.proofs.Listing.{holds_more, short_more}
use Rattle.mail_sections.proofs.listed.lowered.Goals as goal

pub loop-name-preserved : goal.loop-name-preserved
loop-name-preserved c =
    let names = c.args.names.now in
    let i = c.loop-name.name-index in
    let name = c.name-item.result in
    let more = c.loop-name-test.true in
    let key = c.in_ok-to_ascii_lowercase.field-0 in
    let lower = c.in_ok-to_ascii_lowercase.ensures.ok ∙ ap str_to_ascii_lowercase c.bytes.ensures.value in
    record {
      holds = holds_more c.loop-name.lower c.insert.new.self key names i name more c.name-item.is lower c.in_ok-insert.ensures.keys c.loop-name.invariant.holds;
      short = short_more names i name more c.name-item.is c.bytes.ensures.name.most c.loop-name.invariant.short;
    }

pub returns-clause-short : goal.returns-clause-short
returns-clause-short c = subst AreShort (take_all c.loop-name.name-index c.args.names.now (omega (arith, c.loop-name-test.false))) c.loop-name.invariant.short
