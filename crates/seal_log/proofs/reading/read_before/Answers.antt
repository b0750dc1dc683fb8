use Rattle.std.proofs.Common.{◌∙◌, ◌≡◌, ◌+◌, arith}
use Rattle.std.proofs.lemmas.Grind.{common_steps}
use Rattle.std.specs.List.{slice_range}
use Rattle.seal_log.proofs.Ranges.{range_of_payload}
use Rattle.seal_log.proofs.reading.read_before.Goals as goal

pub returns-clause-bytes : goal.returns-clause-bytes
returns-clause-bytes g c = grind (arith, common_steps)

pub returns-clause-payload : goal.returns-clause-payload
returns-clause-payload g c payloads payload held lies =
    let content = (g.D.Disk.told c.args.disk.now).content in
    let front = held.front content (g.met.D.Disk.tells_truth c.args.disk.now held.honest).content_is_image in
    let start = c.args.place.gate + 5 + c.args.from in
    let read : c.from_vec.result ≡ slice_range content start (start + c.args.length) = returns-clause-bytes g c held.honest in
    read ∙ range_of_payload payloads c.args.place.gate c.args.place.length payload content front.0 c.args.from c.args.length lies front.1 c.requires.range
