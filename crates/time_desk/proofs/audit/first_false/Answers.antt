use Rattle.std.proofs.Common.{◌≡◌, ◌⊎◌, inl, inr, ◌++◌, ◌∙◌, ℕ, Bool, true, false, length, subst, sym}
use Rattle.seal_log.specs.Journal.{sealed}
use Rattle.desk_journal.specs.Going.{read_on}
use Rattle.desk_journal.specs.Records.{payloads_of}
use Rattle.desk_journal.specs.Stored.{AreNoted}
use Rattle.time_desk.specs.Auditing.{Judges}
use Rattle.time_desk.proofs.Judging.{next_left, none_left}
use Rattle.time_desk.proofs.Unread.{first_unread, next_unread, some_unread}
use Rattle.time_desk.proofs.audit.first_false.Goals as goal

-- one of two
pick : {A B P : Type 0} → A ⊎ B → (A → P) → (B → P) → P
pick (inl a) f g = f a
pick (inr b) f g = g b

true_not_false : {P : Type 0} (truth : Bool) → truth ≡ true → truth ≡ false → P
true_not_false truth is other = let clash : ◌≡◌ {A = Bool} true false = sym is ∙ other in absurd (cc clash)

pub loop-place-preserved : goal.loop-place-preserved
loop-place-preserved g c = record {
  still = read_on g.D.Disk.told c.args.past.now c.loop-place.past c.judge.new.past c.loop-place.invariant.still c.judge.ensures.still;
  none_failed = c.in-Ok-true.ensures.cause.ok ∙ c.loop-place.invariant.none_failed;
  left = λ before records kept texts are leaves.
      let all = before ++ payloads_of records in
      let next = next_left all c.args.places.now c.loop-place.place-index (record { gate = 0; length = 0 }) c.args.desk.now.kept c.loop-place.desk.kept kept (length (sealed before)) records c.loop-place-test.true
      (c.loop-place.invariant.left before records kept texts are leaves) in
      next.goes c.judge.new.desk.kept (subst (λ (b : Bool). Judges c.loop-place.desk.kept next.what b c.judge.new.desk.kept) c.in-Ok-true.field-0-test
      (c.in-Ok-true.ensures.judged all next.what (c.loop-place.invariant.texts before records kept texts are leaves) next.lies next.spelled));
  texts = λ before records kept texts are leaves.
      let all = before ++ payloads_of records in
      let next = next_left all c.args.places.now c.loop-place.place-index (record { gate = 0; length = 0 }) c.args.desk.now.kept c.loop-place.desk.kept kept (length (sealed before)) records c.loop-place-test.true
      (c.loop-place.invariant.left before records kept texts are leaves) in
      c.in-Ok-true.ensures.texts all next.what (c.loop-place.invariant.texts before records kept texts are leaves) next.lies next.spelled c.in-Ok-true.field-0-test;
  left_unread = λ before payloads records texts are u.
      let held = c.loop-place.invariant.texts_unread before payloads records texts are u in
      pick (next_unread (before ++ payloads) c.args.places.now c.loop-place.place-index (record { gate = 0; length = 0 }) c.args.desk.now.kept c.loop-place.desk.kept (length (sealed before)) records u.2.payload
      (length (sealed (before ++ payloads_of records))) c.loop-place-test.true (c.loop-place.invariant.left_unread before payloads records texts are u))
      (λ bad. true_not_false c.in-Ok-true.field-0 c.in-Ok-true.field-0-test (c.in-Ok-true.ensures.unread (before ++ payloads) u.2.payload held.held bad.lies u.2.none))
      (λ next. next.goes c.judge.new.desk.kept (subst (λ (b : Bool). Judges c.loop-place.desk.kept next.what b c.judge.new.desk.kept) c.in-Ok-true.field-0-test
      (c.in-Ok-true.ensures.judged (before ++ payloads) next.what held next.lies next.spelled)));
  texts_unread = λ before payloads records texts are u.
      let held = c.loop-place.invariant.texts_unread before payloads records texts are u in
      pick (next_unread (before ++ payloads) c.args.places.now c.loop-place.place-index (record { gate = 0; length = 0 }) c.args.desk.now.kept c.loop-place.desk.kept (length (sealed before)) records u.2.payload
      (length (sealed (before ++ payloads_of records))) c.loop-place-test.true (c.loop-place.invariant.left_unread before payloads records texts are u))
      (λ bad. true_not_false c.in-Ok-true.field-0 c.in-Ok-true.field-0-test (c.in-Ok-true.ensures.unread (before ++ payloads) u.2.payload held.held bad.lies u.2.none))
      (λ next. c.in-Ok-true.ensures.texts (before ++ payloads) next.what held next.lies next.spelled c.in-Ok-true.field-0-test);
  noted = subst (λ (n : ℕ). AreNoted n c.judge.new.desk) (sym c.judge.ensures.still.end) (c.in-Ok-true.ensures.noted c.in-Ok-true.field-0-test);
}

pub returns-in-Ok-false-clause-found : goal.returns-in-Ok-false-clause-found
returns-in-Ok-false-clause-found g c before records kept texts are leaves =
    let all = before ++ payloads_of records in
    let next = next_left all c.args.places.now c.loop-place.place-index (record { gate = 0; length = 0 }) c.args.desk.now.kept c.loop-place.desk.kept kept (length (sealed before)) records c.loop-place-test.true
    (c.loop-place.invariant.left before records kept texts are leaves) in
    next.stops c.judge.new.desk.kept (subst (λ (b : Bool). Judges c.loop-place.desk.kept next.what b c.judge.new.desk.kept) c.in-Ok-false.field-0-test
    (c.in-Ok-false.ensures.judged all next.what (c.loop-place.invariant.texts before records kept texts are leaves) next.lies next.spelled))

pub returns-clause-found : goal.returns-clause-found
returns-clause-found g c before records kept texts are leaves =
    none_left (before ++ payloads_of records) c.args.places.now c.loop-place.place-index c.args.desk.now.kept c.loop-place.desk.kept kept (length (sealed before)) records c.loop-place-test.false
    (c.loop-place.invariant.left before records kept texts are leaves)

pub returns-in-Ok-false-clause-unread : goal.returns-in-Ok-false-clause-unread
returns-in-Ok-false-clause-unread g c before payloads records texts are u =
    let held = c.loop-place.invariant.texts_unread before payloads records texts are u in
    pick (next_unread (before ++ payloads) c.args.places.now c.loop-place.place-index (record { gate = 0; length = 0 }) c.args.desk.now.kept c.loop-place.desk.kept (length (sealed before)) records u.2.payload
    (length (sealed (before ++ payloads_of records))) c.loop-place-test.true (c.loop-place.invariant.left_unread before payloads records texts are u))
    (λ bad. bad.told)
    (λ next. next.stops c.judge.new.desk.kept (subst (λ (b : Bool). Judges c.loop-place.desk.kept next.what b c.judge.new.desk.kept) c.in-Ok-false.field-0-test
    (c.in-Ok-false.ensures.judged (before ++ payloads) next.what held next.lies next.spelled)))

pub returns-clause-unread : goal.returns-clause-unread
returns-clause-unread g c before payloads records texts are u =
    some_unread (before ++ payloads) c.args.places.now c.loop-place.place-index c.args.desk.now.kept c.loop-place.desk.kept (length (sealed before)) records u.2.payload (length (sealed (before ++ payloads_of records)))
    c.loop-place-test.false (c.loop-place.invariant.left_unread before payloads records texts are u)
