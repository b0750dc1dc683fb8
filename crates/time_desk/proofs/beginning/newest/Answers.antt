use Rattle.std.proofs.Common.{◌≡◌, ◌∙◌, ◌-◌, ◌≤◌, List, None, Option, Some, ap, arith, length, refl, subst}
use Rattle.std.specs.Prelude.{option_map, slice_index_or}
use Rattle.desk_journal.specs.Going.{read_on}
use Rattle.box_store.specs.declared.store.Store.{Store}
use Rattle.verb_core.specs.Store.{MailStore}
use Rattle.time_desk.specs.Serving.{ServesBy, bytes_at}
use Rattle.desk_journal.specs.Stored.{MarkLies, store_at}
use Rattle.time_desk.proofs.Servings.{Mark, last_mark, mark_at, none_left, none_serves, none_stored, passed_on, serves_last, serves_still, some_store}
use Rattle.desk_journal.proofs.Staying.{holds_on}
use Rattle.time_desk.proofs.beginning.newest.Goals as goal

pub returns-in-Ok-Some-clause-newest : goal.returns-in-Ok-Some-clause-newest
returns-in-Ok-Some-clause-newest g c = λ payloads held lies.
    let xs = c.args.marks.now in
    let d : Mark = (0, record { gate = 0; length = 0 }) in
    let k = c.loop-i.i - 1 in
    let m : Mark = slice_index_or xs k d in
    let kept = c.args.desk.now.kept in
    let at_end = c.loop-i.invariant.first payloads held lies in (
      m.1,
      last_mark xs c.loop-i.i d at_end (omega arith),
      some_store (λ (s : Store). s.store) c.in-Ok-Some.field-0 c.in-Ok-Some.store (store_at kept m.0) c.in-Ok-Some.field-0-is
          (c.in-Ok-Some.ensures.found payloads (holds_on (g.D.Disk.told c.args.past.now.disk) (g.D.Disk.told c.loop-i.past.disk) payloads c.loop-i.invariant.still.reads held) (mark_at (MarkLies payloads kept) xs k d (omega (arith, at_end)) lies)),
    )

pub loop-i-preserved : goal.loop-i-preserved
loop-i-preserved g c =
    let xs = c.args.marks.now in
    let d : Mark = (0, record { gate = 0; length = 0 }) in
    let k = c.loop-i.i - 1 in
    let m : Mark = slice_index_or xs k d in
    let kept = c.args.desk.now.kept in
    record {
      still = read_on g.D.Disk.told c.args.past.now c.loop-i.past c.marked_store.new.past c.loop-i.invariant.still c.in-Ok-None.ensures.still;
      none = c.in-Ok-None.ensures.cause.ok ∙ c.loop-i.invariant.none;
      within = omega (arith, c.loop-i.invariant.within);
      passed = λ honest.
          let old = g.D.Disk.told c.args.past.now.disk in
          let mid = g.D.Disk.told c.loop-i.past.disk in
          let reads = c.loop-i.invariant.still.reads in
          passed_on old kept xs c.loop-i.i d (omega arith) c.loop-i.invariant.within
          (serves_still kept m old mid None (reads.reads.content honest)
          (subst (λ (o : Option Store). ServesBy kept m.0 (bytes_at mid m.1) (option_map {T = Store} {U = MailStore} (λ store. store.store) o)) c.in-Ok-None.field-0-is (c.in-Ok-None.ensures.read (reads.reads.honest honest))))
          (c.loop-i.invariant.passed honest);
      first = λ payloads held lies.
          let at_end = c.loop-i.invariant.first payloads held lies in
          absurd (none_stored (λ (s : Store). s.store) c.in-Ok-None.field-0 (store_at kept m.0) c.in-Ok-None.field-0-is
          (c.in-Ok-None.ensures.found payloads (holds_on (g.D.Disk.told c.args.past.now.disk) (g.D.Disk.told c.loop-i.past.disk) payloads c.loop-i.invariant.still.reads held) (mark_at (MarkLies payloads kept) xs k d (omega (arith, at_end)) lies)));
    }

pub returns-clause-newest : goal.returns-clause-newest
returns-clause-newest g c = λ payloads held lies. none_left c.args.marks.now c.loop-i.i (c.loop-i.invariant.first payloads held lies) (omega arith)

-- the one that was found, and those behind it
pub returns-in-Ok-Some-clause-passes : goal.returns-in-Ok-Some-clause-passes
returns-in-Ok-Some-clause-passes g c = λ honest.
    let xs = c.args.marks.now in
    let d : Mark = (0, record { gate = 0; length = 0 }) in
    let m : Mark = slice_index_or xs (c.loop-i.i - 1) d in
    let kept = c.args.desk.now.kept in
    let old = g.D.Disk.told c.args.past.now.disk in
    let mid = g.D.Disk.told c.loop-i.past.disk in
    let reads = c.loop-i.invariant.still.reads in
    serves_last old kept xs c.loop-i.i d (omega arith) c.loop-i.invariant.within (record { store = c.in-Ok-Some.store; count = m.0 }) refl
    (serves_still kept m old mid (Some c.in-Ok-Some.store.store) (reads.reads.content honest)
    (subst (λ (o : Option Store). ServesBy kept m.0 (bytes_at mid m.1) (option_map {T = Store} {U = MailStore} (λ store. store.store) o)) c.in-Ok-Some.field-0-is (c.in-Ok-Some.ensures.read (reads.reads.honest honest))))
    (c.loop-i.invariant.passed honest)

pub returns-clause-passes : goal.returns-clause-passes
returns-clause-passes g c = λ honest.
    none_serves (g.D.Disk.told c.args.past.now.disk) c.args.desk.now.kept c.args.marks.now c.loop-i.i (omega arith) (c.loop-i.invariant.passed honest)

pub returns-in-Ok-Some-clause-few : goal.returns-in-Ok-Some-clause-few
returns-in-Ok-Some-clause-few g c = λ place all.
    mark_at (λ (m : Mark). m.0 ≤ place) c.args.marks.now (c.loop-i.i - 1) (0, record { gate = 0; length = 0 }) (omega (arith, c.loop-i.invariant.within)) all

-- where none is marked none is looked at
pub returns-in-Ok-Some-clause-none : goal.returns-in-Ok-Some-clause-none
returns-in-Ok-Some-clause-none g c = λ none. absurd (let empty : length c.args.marks.now ≡ 0 = ap (λ (xs : List Mark). length xs) none in omega (arith, empty, c.loop-i.invariant.within))

pub returns-in-Err-clause-none : goal.returns-in-Err-clause-none
returns-in-Err-clause-none g c = λ none. absurd (let empty : length c.args.marks.now ≡ 0 = ap (λ (xs : List Mark). length xs) none in omega (arith, empty, c.loop-i.invariant.within))
