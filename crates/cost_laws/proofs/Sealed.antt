-- How many records are sealed for an event.
use Rattle.std.proofs.Common.{◌≡◌, ℕ, ◌+◌, ◌*◌, ◌≤◌, arith, inl, Bool, true, false, cond, List, [], ◌∷◌, length, min, Option, Some, ap, sym, subst, ◌∙◌}
use Rattle.undo_outside.specs.Disk.{DiskTold}
use Rattle.undo_outside.specs.declared.event.What.{What}
use Rattle.undo_outside.specs.declared.event.What.TheVariants.{Bytes}
use Rattle.console_head.specs.Request.{Stage}
use Rattle.store_kept.specs.Kept.{Kept, snapshotted}
use Rattle.desk_journal.specs.Lasting.{Lasting}
use Rattle.desk_journal.specs.Records.{snapshot_record}
use Rattle.desk_journal.specs.Stored.{HoldsTexts}
use Rattle.mail_loop.specs.Acknowledged.{Stretch, Went, behind, turned}
use Rattle.mail_loop.specs.Hindrance.{Hindrance}
use Rattle.mail_loop.specs.Machine.{Keeping, IsKept, IsPassed, IsUnkept, IsOutOfMemory, Outcome, answers, delivered, hears, hears_at, is_snapshot_due, outcome, seat_at, with_snapshot}
use Rattle.mail_loop.specs.TurnCounts.{both_counted, wanting}
use Rattle.mail_loop.specs.State.{Seat, Smtp, Imap, Http, Pop, State}
use Rattle.cost_laws.specs.Items.{PerformsFew, items_a_unit}
use Rattle.cost_laws.specs.Units.{EndIn, IsOfMail, IsServed}
use Rattle.cost_laws.proofs.Events.{event_performs}
use Rattle.cost_laws.proofs.Performing.{performs_none}
use Rattle.cost_laws.proofs.Records.{items_further, one_if, progress, records_further}

none_end : (bytes : List ℕ) → 2 * 0 ≤ length bytes + 1
none_end bytes = omega arith

-- bytes that find no memory, or find some
heard_performs : (no_memory : Bool) (hs : List Hindrance) (stage : Stage) (at : ℕ) (s : State) (conn : ℕ) (seat : Seat) (bytes : List ℕ) → IsOfMail seat → IsServed seat
    → PerformsFew seat bytes s.kept (hears no_memory hs stage at s conn seat bytes).state.kept
heard_performs true hs stage at s conn seat bytes mail served = record { units = 0; end_in = none_end bytes; performs = performs_none (0 * items_a_unit seat) s.kept }
heard_performs false hs stage at s conn seat bytes mail served = event_performs hs stage at conn s seat bytes mail served

answered_performs : (what : What) (no_memory : Bool) (hs : List Hindrance) (stage : Stage) (at : ℕ) (s : State) (conn : ℕ) (seat : Seat) (bytes : List ℕ) → what ≡ Bytes bytes
    → seat_at conn s.seats ≡ Some seat → IsOfMail seat → IsServed seat → PerformsFew seat bytes s.kept (answers what no_memory hs stage at s conn).state.kept
answered_performs what no_memory hs stage at s conn seat bytes is there mail served =
    subst (λ (w : What). PerformsFew seat bytes s.kept (answers w no_memory hs stage at s conn).state.kept) (sym is)
    (subst (λ (o : Option Seat). PerformsFew seat bytes s.kept (hears_at o no_memory hs stage at s conn bytes).state.kept) (sym there)
    (heard_performs no_memory hs stage at s conn seat bytes mail served))

-- no more records lead there than items were performed
one_each : (n items units octets : ℕ) → n ≤ items → items ≤ units * 1 → 2 * units ≤ octets + 1 → 2 * n ≤ 1 * (octets + 1)
one_each n items units octets a b c = omega (arith, a, b, c)

two_each : (n items units octets : ℕ) → n ≤ items → items ≤ units * 2 → 2 * units ≤ octets + 1 → 2 * n ≤ 2 * (octets + 1)
two_each n items units octets a b c = omega (arith, a, b, c)

none_each : (n items units octets : ℕ) → n ≤ items → items ≤ units * 0 → 2 * n ≤ 0 * (octets + 1)
none_each n items units octets a b = omega (arith, a, b)

by_items : (seat : Seat) (bytes : List ℕ) (n items units : ℕ) → n ≤ items → items ≤ units * items_a_unit seat → EndIn units bytes → 2 * n ≤ items_a_unit seat * (length bytes + 1)
by_items (Smtp unserved d) bytes n items units a b c = one_each n items units (length bytes) a b c
by_items (Imap stream d) bytes n items units a b c = one_each n items units (length bytes) a b c
by_items (Http came) bytes n items units a b c = none_each n items units (length bytes) a b
by_items (Pop unserved d) bytes n items units a b c = two_each n items units (length bytes) a b c

no_more_than : (a b n m : ℕ) → a + n ≤ b → b ≡ a + m → n ≤ m
no_more_than a b n m le same = omega (arith, le, same)

no_more : (seat : Seat) (bytes : List ℕ) (n : ℕ) (old new : Kept) → progress old + n ≤ progress new → PerformsFew seat bytes old new → 2 * n ≤ items_a_unit seat * (length bytes + 1)
no_more seat bytes n old new le p =
    by_items seat bytes n (length p.performs.items) p.units
    (no_more_than (progress old) (progress new) n (length p.performs.items) le (ap progress p.performs.kept ∙ items_further old p.performs.items)) p.performs.few p.end_in

-- a snapshot is one record at most
one_on : (n : ℕ) → n ≤ n + 1
one_on n = omega arith

taken_on : (n t d : ℕ) → n + (t + 1) + d ≤ (n + t + d) + 1
taken_on n t d = omega arith

by_due : (b : Bool) (o p : Outcome) → progress p.state.kept ≤ progress o.state.kept + 1 → progress (cond b p o).state.kept ≤ progress o.state.kept + 1
by_due true o p h = h
by_due false o p h = one_on (progress o.state.kept)

snapshot_one : (k : Keeping) (o : Outcome) → progress (with_snapshot k o).state.kept ≤ progress o.state.kept + 1
snapshot_one IsPassed o = one_on (progress o.state.kept)
snapshot_one IsKept o = by_due (is_snapshot_due o) o (record o { state = record { kept = snapshotted o.state.kept; seats = o.state.seats } })
    (taken_on o.state.kept.next o.state.kept.marks.taken (one_if o.state.kept.deep))
snapshot_one IsUnkept o = by_due (is_snapshot_due o) o (record o { unsealed = snapshot_record o.state.kept ∷ [] }) (one_on (progress o.state.kept))
snapshot_one IsOutOfMemory o = by_due (is_snapshot_due o) o (record o { counts = both_counted o.counts (wanting 1) }) (one_on (progress o.state.kept))

on_the_same : (a a' b b' n : ℕ) → a + n ≤ b → a ≡ a' → b ≡ b' → a' + n ≤ b'
on_the_same a a' b b' n le p q = omega (arith, le, p, q)

one_behind : (a a' b b' n : ℕ) → a + n ≤ b → a ≡ a' → b ≡ b' → b' ≤ a' + 1 → n ≤ 1
one_behind a a' b b' n le p q one = omega (arith, le, p, q, one)

module _ {D : Type 0} (told : D → DiskTold) (s : State) (old : Lasting D) (w : Stretch D) (went : Went told s old w) (same : old.kept ≡ s.kept) (holds : HoldsTexts told old) where
  pub sealed_few : (seat : Seat) (bytes : List ℕ) → w.step.event.what ≡ Bytes bytes → seat_at w.step.event.conn s.seats ≡ Some seat → IsOfMail seat → IsServed seat
      → 2 * length w.sealed ≤ items_a_unit seat * (length bytes + 1)
  sealed_few seat bytes is there mail served =
      let h = w.step.hindrances in
      let p : PerformsFew seat bytes s.kept (turned s w.step).state.kept =
      answered_performs w.step.event.what h.unfed h.turns h.stage (min w.step.event.at 253402300799) s w.step.event.conn seat bytes is there mail served in
      let r : progress old.kept + length w.sealed ≤ progress w.telling.kept = records_further old.kept w.telling.kept w.sealed (went.turns.kept (inl holds)) in
      let a : progress old.kept ≡ progress s.kept = ap progress same in
      let b : progress w.telling.kept ≡ progress (turned s w.step).state.kept = ap progress went.telling_is in
      no_more seat bytes (length w.sealed) s.kept (turned s w.step).state.kept (on_the_same _ _ _ _ (length w.sealed) r a b) p

  pub snapshots_few : w.after.kept ≡ (behind s w.step).kept → length w.snapshot ≤ 1
  snapshots_few is =
      let h = w.step.hindrances in
      let a = turned s w.step in
      let r : progress w.telling.kept + length w.snapshot ≤ progress w.after.kept = records_further w.telling.kept w.after.kept w.snapshot (went.keeps.kept (inl (went.turns.texts holds))) in
      let b : progress w.telling.kept ≡ progress a.state.kept = ap progress went.telling_is in
      let c : progress w.after.kept ≡ progress (behind s w.step).kept = ap progress is in
      let one : progress (behind s w.step).kept ≤ progress a.state.kept + 1 = snapshot_one h.keeping (outcome a (delivered h.deliveries a.state.seats a.replies)) in
      one_behind _ _ _ _ (length w.snapshot) r b c one
