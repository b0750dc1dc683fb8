use Rattle.std.proofs.Common.{◌≡◌, ◌++◌, ◌+◌, ◌==◌, ◌&&◌, ◌∙◌, Bool, List, ℕ, ap, length, subst, sym}
use Rattle.std.specs.Prelude.{if◌then◌else◌}
use Rattle.seal_log.specs.Settled.{Holds}
use Rattle.desk_journal.specs.Records.{payloads_of}
use Rattle.desk_journal.proofs.Staying.{holds_on}
use Rattle.time_desk.specs.Fronts.{FoundStored, LacksOrEnds, fore_in}
use Rattle.time_desk.specs.Standing.{Fails}
use Rattle.time_desk.proofs.Founding.{has_second, length_places}
use Rattle.time_desk.proofs.Settled.{breaks_based, breaks_stopped, found_held, none_stored, opens_based, places_after, second_gate}
use Rattle.time_desk.proofs.front.begin_on.Goals as goal

pub returns-in-Ok-settled_at-clause-opened : goal.returns-in-Ok-settled_at-clause-opened
returns-in-Ok-settled_at-clause-opened g c payloads holds are b =
    let here = subst (Holds (g.D.Disk.told c.args.past.now.disk)) b.split holds in
    let later = c.after.ensures ∙ places_after c.args.places.now payloads b.others b.records 2 are b.split (sym b.two) in
    let went = c.in-Ok.ensures.went b.records b.others here later b.is_fore in
    opens_based c.records_begin_with_their_kind.ensures payloads c.args.places.now c.args.founding c.go_on.new.founding b c.in-Ok.count went c.in-Ok-settled_at.desk.kept are c.in-Ok-settled_at.ensures.kept

pub returns-in-Ok-settled_at-clause-texts : goal.returns-in-Ok-settled_at-clause-texts
returns-in-Ok-settled_at-clause-texts g c payloads holds are b =
    let here = subst (Holds (g.D.Disk.told c.args.past.now.disk)) b.split holds in
    let later = c.after.ensures ∙ places_after c.args.places.now payloads b.others b.records 2 are b.split (sym b.two) in
    let stored = c.in-Ok.ensures.stored b.records b.others here later (none_stored payloads (payloads_of b.records ++ b.others) c.args.founding b) in
    found_held (g.D.Disk.told c.go_on.new.past.disk) payloads c.go_on.new.founding c.in-Ok-settled_at.desk.kept c.in-Ok-settled_at.desk.notes c.in-Ok-settled_at.desk.marks
    (holds_on (g.D.Disk.told c.args.past.now.disk) (g.D.Disk.told c.go_on.new.past.disk) payloads c.go_on.ensures.still.reads holds)
    (subst (λ (ps : List (List ℕ)). FoundStored ps c.go_on.new.founding) (sym b.split) stored) c.in-Ok.ensures.grounded
    c.in-Ok-settled_at.ensures.kept_is c.in-Ok-settled_at.ensures.notes c.in-Ok-settled_at.ensures.marks

pub returns-in-Err-settled_at-clause-bad : goal.returns-in-Err-settled_at-clause-bad
returns-in-Err-settled_at-clause-bad g c payloads holds are b =
    let here = subst (Holds (g.D.Disk.told c.args.past.now.disk)) b.split holds in
    let later = c.after.ensures ∙ places_after c.args.places.now payloads b.others b.records 2 are b.split (sym b.two) in
    let went = c.in-Ok.ensures.went b.records b.others here later b.is_fore in
    let there = c.ends_there-ends_cut.result in
    let gate = c.nth-gate.result.gate in
    let all : length c.args.places.now ≡ length payloads = ap length are ∙ length_places 0 payloads in
    breaks_based c.records_begin_with_their_kind.ensures payloads c.args.places.now c.args.founding c.go_on.new.founding b c.in-Ok.count went c.args.cut c.args.past.now.end gate there c.in-Err-settled_at.fault
    (c.ends_there-ends_cut.ensures ∙ ap (λ (n : ℕ). c.args.cut && (c.in-Ok.count + 2 == n)) all)
    (second_gate payloads c.args.founding b c.nth-gate.result (has_second payloads c.args.places.now c.nth-gate.result are c.nth-gate.ensures))
    (subst (λ (n : ℕ). Fails (LacksOrEnds (fore_in c.go_on.new.founding) there) (if there then n else gate) c.in-Err-settled_at.fault) c.go_on.ensures.still.end c.in-Err-settled_at.ensures.bad)

pub returns-in-Err-clause-bad : goal.returns-in-Err-clause-bad
returns-in-Err-clause-bad g c payloads holds are b =
    let here = subst (Holds (g.D.Disk.told c.args.past.now.disk)) b.split holds in
    let later = c.after.ensures ∙ places_after c.args.places.now payloads b.others b.records 2 are b.split (sym b.two) in
    breaks_stopped payloads c.args.founding b c.args.cut c.args.past.now.end c.in-Err.fault (c.in-Err.ensures.bad b.records b.others here later b.is_fore)
