use Rattle.std.proofs.Common.{◌≡◌, ◌<◌, arith, length, get_or, subst}
use Rattle.std.proofs.lemmas.List.{get_or_default}
use Rattle.imap_stream.specs.declared.picks.Span.{Span}
use Rattle.imap_stream.proofs.Joining.{Joined, joined_none, joined_more, joined_all}
use Rattle.imap_stream.proofs.picks.join.Goals as goal

pub loop-span-init : goal.loop-span-init
loop-span-init c = rw c.new-places.ensures (joined_none c.args.spans.now c.args.count)

pub loop-span-preserved : goal.loop-span-preserved
loop-span-preserved c =
    let spans = c.args.spans.now in
    let i = c.loop-span.span-index in
    let none : Span = record { from = 0; to = 0 } in
    let s : Span = get_or spans i none in
    let inside : i < length spans = omega arith in
    let is : s ≡ get_or spans i s = get_or_default spans i none s inside in
    joined_more spans i s c.loop-span.places c.add_span.new.places c.loop-span.next c.in_ok-next.next c.args.count c.requires.sorted inside is (c.requires.within i none inside)
    c.in_ok-next.ensures.old c.in_ok-next.ensures.new c.loop-span.invariant

pub returns : goal.returns
returns c =
    let spans = c.args.spans.now in
    let end : c.loop-span.span-index ≡ length spans = omega arith in
    joined_all spans c.loop-span.places c.loop-span.next c.args.count (subst (λ i. Joined spans i c.loop-span.places c.loop-span.next c.args.count) end c.loop-span.invariant)
