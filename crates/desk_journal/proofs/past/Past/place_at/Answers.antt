use Rattle.std.proofs.Common.{◌≡◌, ◌≤◌, ◌+◌, ◌^◌, ◌<◌, ℕ, List, ◌∙◌, ap, sym, subst, Some, Option, Result, Ok, Err, IfOk}
use Rattle.std.specs.Int.{to_be_bytes, w32}
use Rattle.seal_log.specs.declared.fault.ReadFault.{ReadFault}
use Rattle.seal_log.specs.declared.place.Place.{Place}
use Rattle.seal_log.specs.Settled.{Holds}
use Rattle.desk_journal.specs.Lasting.{PastTold}
use Rattle.desk_journal.proofs.Lengths.{length_is, length_there}
use Rattle.desk_journal.proofs.past.Past.place_at.Goals.{in-Ok, in-Err}
use Rattle.desk_journal.proofs.past.Past.place_at.Goals as goal

pub returns-clause-place : goal.returns-clause-place
returns-clause-place g c = elim c.match-length_at.branch [
  | in-Ok w ↦ λ payloads count payload held lies fits within.
      let there : Holds (g.D.Disk.told c.self.inside.disk) payloads = subst (λ (p : PastTold g.row.D.Denot). Holds (g.D.Disk.told p.disk) payloads) (sym c.self.view_is) held in
      let before : c.args.gate + 5 + count ≤ c.self.inside.end = subst (λ (p : PastTold g.row.D.Denot). c.args.gate + 5 + count ≤ p.end) (sym c.self.view_is) within in
      let content = (g.D.Disk.told c.self.inside.disk).content in
      let front = there.front content (g.met.D.Disk.tells_truth c.self.inside.disk there.honest).content_is_image in
      let bytes : to_be_bytes w32 w.in-Ok.length ≡ to_be_bytes w32 count = sym (w.in-Ok.ensures.number there.honest) ∙ length_there payloads c.args.gate count payload content front.0 lies front.1 in
      let is : w.in-Ok.length ≡ count = length_is w.in-Ok.length count w.in-Ok.ensures.fits fits bytes in
      subst (λ (r : Result (Option Place) ReadFault). IfOk r (λ found. found ≡ Some (record { gate = c.args.gate; length = count }))) (sym w.result-is)
      (w.place_before.ensures.there (subst (λ (n : ℕ). c.args.gate + 5 + n ≤ c.self.inside.end) (sym is) before) ∙ ap (λ n. Some (record { gate = c.args.gate; length = n })) is)
  | in-Err w ↦ λ payloads count payload held lies fits within.
      subst (λ (r : Result (Option Place) ReadFault). IfOk r (λ found. found ≡ Some (record { gate = c.args.gate; length = count }))) (sym w.result-is) tt
]
