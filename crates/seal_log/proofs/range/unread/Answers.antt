use Rattle.std.proofs.Common.{◌∙◌, ℕ, ◌+◌, ◌≤◌, ap, arith, length}
use Rattle.std.specs.Prelude.{slice_range}
use Rattle.seal_log.specs.Unread.{bytes_there}
use Rattle.seal_log.proofs.Ranges.{range_of_payload}
use Rattle.seal_log.proofs.Unreads.{length-range, length-there, there_is}
use Rattle.seal_log.proofs.range.unread.Goals as goal

pub shown_by-requires : goal.shown_by-requires
shown_by-requires g c = length-there (g.D.Disk.told c.args.disk.now).content (c.args.place.gate + 5 + c.from.result) c.args.count

pub returns-clause-count : goal.returns-clause-count
returns-clause-count g c =
    ap length c.shown_by.ensures ∙ length-there (g.D.Disk.told c.args.disk.now).content (c.args.place.gate + 5 + c.from.result) c.args.count

pub returns-clause-payload : goal.returns-clause-payload
returns-clause-payload g c payloads payload held lies =
    let content = (g.D.Disk.told c.args.disk.now).content in
    let front = held.front content (g.met.D.Disk.tells_truth c.args.disk.now held.honest).content_is_image in
    let place = c.args.place in
    let from = c.args.from in
    let count = c.args.count in
    let range = range_of_payload payloads place.gate place.length payload content front.0 from count lies front.1 c.requires.range in
    let fits : from + count ≤ length payload = omega (arith, c.requires.range, lies.count_is) in
    c.shown_by.ensures
    ∙ ap (λ (n : ℕ). bytes_there content (place.gate + 5 + n) count) c.from.ensures
    ∙ there_is content (slice_range payload from (from + count)) (place.gate + 5 + from) count range (length-range payload from count fits)
