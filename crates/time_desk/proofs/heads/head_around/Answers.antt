use Rattle.std.proofs.Common.{◌≡◌, ◌+◌, ◌∙◌, ℕ, List, length, ap, arith}
use Rattle.time_desk.proofs.Headed.{a_head, head_long, in_parts}
use Rattle.time_desk.proofs.heads.head_around.Goals as goal

pub returns-in-Some-clause-head : goal.returns-in-Some-clause-head
returns-in-Some-clause-head g c =
    a_head (record { what = c.in-Some.what; text = c.unread.result; from = c.args.hole.from }) c.args.front.now c.bytes.result.now c.args.hole.length
    c.in-Some.ensures.spelled c.in-Some.ensures.hole c.in-Some.ensures.plain c.in-Some.ensures.around c.unread.ensures.count c.requires.least c.holes_are_filled.ensures.lies

pub returns-in-Some-clause-long : goal.returns-in-Some-clause-long
returns-in-Some-clause-long g c =
    let whole : c.args.hole.from + c.args.hole.length + length c.args.back.now ≡ c.args.place.length = c.ends_record.ensures c.if-not-ends_record.false in
    let same : length c.bytes.result.now ≡ length c.args.back.now = ap (λ (l : List ℕ). length l) c.bytes.ensures.value in
    head_long (record { what = c.in-Some.what; text = c.unread.result; from = c.args.hole.from }) c.args.front.now c.bytes.result.now c.args.hole.length c.args.place.length
    c.in-Some.ensures.around c.unread.ensures.count (omega (arith, whole, same, c.requires.least))

pub returns-in-Some-clause-read : goal.returns-in-Some-clause-read
returns-in-Some-clause-read g c payloads payload holds lies begins number behind =
    let text_is = c.unread.ensures.payload payloads payload holds lies in
    let around = c.in-Some.ensures.around c.unread.result c.unread.ensures.count in
    (around.0, in_parts payload c.args.front.now c.unread.result c.bytes.result.now c.args.hole.from c.args.hole.length c.args.place.length lies.count_is c.requires.least c.requires.within begins number text_is c.unread.ensures.count (c.bytes.ensures.value ∙ behind) ∙ around.1)
