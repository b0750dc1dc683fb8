use Rattle.std.proofs.Common.{◌≡◌, ◌≤◌, ◌+◌, ◌-◌, ℕ, List, ◌∙◌, ap, length, take, subst, sym, arith}
use Rattle.std.proofs.lemmas.Result.{err_from_is_err_and}
use Rattle.std.proofs.lemmas.List.{length-take}
use Rattle.desk_journal.proofs.Staying.{holds_on}
use Rattle.time_desk.specs.Standing.{FailsReading, ReadCounts}
use Rattle.time_desk.proofs.Standings.{if_err_from, unread_counts, unread_fails}
use Rattle.time_desk.proofs.heads.head_at.Goals as goal

-- the first bytes begin it, however many were asked for
begins : (payload first : List ℕ) (count : ℕ) → first ≡ take (0 + count - 0) payload → count ≤ length payload → first ≡ take (length first) payload
begins payload first count is within =
    let long : length first ≡ length (take (0 + count - 0) payload) = ap (λ (l : List ℕ). length l) is in
    let same : 0 + count - 0 ≡ length first = omega (arith, long, within, length-take (0 + count - 0) payload) in
    is ∙ ap (λ (n : ℕ). take n payload) same

pub returns-in-Some-clause-read : goal.returns-in-Some-clause-read
returns-in-Some-clause-read g c payloads payload holds lies =
    let now = holds_on (g.D.Disk.told c.args.past.now.disk) (g.D.Disk.told c.read.new.self.disk) payloads c.read.ensures.still.reads holds in
    let first = c.in_ok-first.first in
    let is : first ≡ take (0 + 512 - 0) payload = c.in_ok-first.ensures.payload payloads payload holds lies in
    c.head_behind.ensures.read payloads payload now lies (subst (λ (l : List ℕ). l ≡ take (length l) payload) (sym c.bytes-start.ensures.value) (begins payload first 512 is (omega (arith, lies.count_is, c.if-place-le-SHORT.false))))

pub returns-in_err-first-clause-bad : goal.returns-in_err-first-clause-bad
returns-in_err-first-clause-bad g c =
    let p = err_from_is_err_and c.from_residual.result c.from_residual.ensures.1 in
    if_err_from c.from_residual.result (FailsReading ⊥ c.args.place.gate) p.0 _ p.1 p.2 (unread_fails ⊥ c.args.place.gate c.in_err-first.field-0.0)

pub returns-in_err-first-clause-fault : goal.returns-in_err-first-clause-fault
returns-in_err-first-clause-fault g c =
    let p = err_from_is_err_and c.from_residual.result c.from_residual.ensures.1 in
    if_err_from c.from_residual.result (ReadCounts (g.D.Disk.told c.args.past.now.disk) (g.D.Disk.told c.read.new.self.disk)) p.0 _ p.1 p.2
    (unread_counts (g.D.Disk.told c.args.past.now.disk) (g.D.Disk.told c.read.new.self.disk) c.in_err-first.field-0.0 c.in_err-first.ensures.cause)
