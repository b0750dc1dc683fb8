use Rattle.std.proofs.Common.{drop, ap, sym, ◌∙◌}
use Rattle.memchr.specs.Find.{is_byte2}
use Rattle.search_verb.specs.Occurs.{begins_with as with_begin}
use Rattle.search_verb.specs.Occurs.{occurs_in}
use Rattle.search_verb.proofs.Finding.{jumped, none_left, found_here, one_behind, some_from}
use Rattle.search_verb.proofs.occurs.occurs_from.Goals as goal

pub returns-then-begins_with : goal.returns-then-begins_with
returns-then-begins_with c =
    let string = c.args.string.now in
    let rest = c.loop-place.rest.now in
    let jump = jumped c.args.first c.to_ascii_lowercase-low.result c.to_ascii_uppercase-high.result string rest c.memchr2.result c.in-Some.place c.requires.some c.requires.first c.to_ascii_lowercase-low.ensures.value c.to_ascii_uppercase-high.ensures.value c.memchr2.ensures c.in-Some.is in
    let here = ap (with_begin string) (sym c.after-here.ensures) ∙ sym c.begins_with.ensures ∙ c.if-begins_with.true in
    sym (c.loop-place.invariant ∙ jump ∙ found_here string (drop c.in-Some.place rest) here)

pub loop-place-preserved : goal.loop-place-preserved
loop-place-preserved c =
    let string = c.args.string.now in
    let rest = c.loop-place.rest.now in
    let place = c.in-Some.place in
    let jump = jumped c.args.first c.to_ascii_lowercase-low.result c.to_ascii_uppercase-high.result string rest c.memchr2.result place c.requires.some c.requires.first c.to_ascii_lowercase-low.ensures.value c.to_ascii_uppercase-high.ensures.value c.memchr2.ensures c.in-Some.is in
    let not = ap (with_begin string) (sym c.after-here.ensures) ∙ sym c.begins_with.ensures ∙ c.if-begins_with.false in
    let some = some_from (is_byte2 c.to_ascii_lowercase-low.result c.to_ascii_uppercase-high.result) rest c.memchr2.result place c.memchr2.ensures c.in-Some.is in
    c.loop-place.invariant ∙ jump ∙ one_behind string (drop place rest) some not ∙ ap (occurs_in string) (ap (drop 1) (sym c.after-here.ensures) ∙ sym c.after-rest.ensures)

pub returns : goal.returns
returns c =
    let string = c.args.string.now in
    let rest = c.loop-place.rest.now in
    sym (c.loop-place.invariant ∙ none_left c.args.first c.to_ascii_lowercase-low.result c.to_ascii_uppercase-high.result string rest c.memchr2.result c.requires.some c.requires.first c.to_ascii_lowercase-low.ensures.value c.to_ascii_uppercase-high.ensures.value c.memchr2.ensures c.in_default.is)
