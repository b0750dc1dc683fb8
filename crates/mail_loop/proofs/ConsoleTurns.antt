-- A console's bytes are heard as the machine hears them.
use Rattle.std.proofs.Common.{◌≡◌, ℕ, true, false, List, [], ◌∷◌, ◌++◌, None, Some, Ok, refl, ap, subst, sym, ◌∙◌}
use Rattle.std.specs.Option.{option_map}
use Rattle.undo_outside.specs.Disk.{DiskTold}
use Rattle.verb_bytes.specs.declared.journal.JournalRecord.{JournalRecord}
use Rattle.store_kept.specs.Kept.{Kept}
use Rattle.desk_journal.specs.Lasting.{Lasting}
use Rattle.mail_loop.specs.TurnCounts.{TurnCounts, none_counted}
use Rattle.console_session.specs.declared.reply.After.{After}
use Rattle.console_session.specs.declared.reply.After.TheVariants.{Waits, Closes, Stops, Fails, Rewinds, Upgrades}
use Rattle.console_session.specs.declared.reply.Reply.{Reply}
use Rattle.console_session.specs.Hearing.{Hears, IsUnfed, AreServed}
use Rattle.console_session.specs.Hindrance as console
use Rattle.console_session.specs.ConsoleTurn.{asked_of}
use Rattle.mail_loop.specs.declared.aftermath.Aftermath.TheVariants.{Quiet}
use Rattle.mail_loop.specs.State.{Seats, State, Http}
use Rattle.mail_loop.specs.Asked.{HaveSealed}
use Rattle.mail_loop.specs.ConsoleTurn.{ConsoleReading, left_by, of_console, sequel_of}
use Rattle.mail_loop.specs.Hindrance.{Hindrance, Clear, Refused, Unread, UnreadRefused, UnreadUnheard, Misled, Unheard, Unanswered, Unsealed, Untold, Unwritten, UnwrittenUnheard}
use Rattle.mail_loop.specs.Machine.{heard}
use Rattle.mail_loop.specs.Took.{answered_alone, turned_as}
use Rattle.mail_loop.proofs.Sealed.{Nothing, unsealed}
use Rattle.mail_loop.proofs.Stretch.{HeardAlone}

-- the hindrance of a turn, as the machine has it
abbrev as_of : console.Hindrance → Hindrance
as_of console.Clear = Clear
as_of console.Refused = Refused
as_of console.Unheard = Unheard
as_of console.Unanswered = Unanswered
as_of console.Unsealed = Unsealed
as_of console.Untold = Untold
as_of console.Unwritten = Unwritten
as_of console.UnwrittenUnheard = UnwrittenUnheard
as_of console.Unread = Unread
as_of console.UnreadRefused = UnreadRefused
as_of console.UnreadUnheard = UnreadUnheard
as_of (console.Misread said left) = Misled said left

as_it_is : (h : console.Hindrance) → of_console (as_of h) ≡ h
as_it_is console.Clear = refl
as_it_is console.Refused = refl
as_it_is console.Unheard = refl
as_it_is console.Unanswered = refl
as_it_is console.Unsealed = refl
as_it_is console.Untold = refl
as_it_is console.Unwritten = refl
as_it_is console.UnwrittenUnheard = refl
as_it_is console.Unread = refl
as_it_is console.UnreadRefused = refl
as_it_is console.UnreadUnheard = refl
as_it_is (console.Misread said left) = refl

-- the connection stays open where it waits, and is closed else
by_after : (conn : ℕ) (said : List ℕ) (after : After) (kept : Kept) (seats : Seats) (failed : List JournalRecord) (counts : TurnCounts) (readings : List ConsoleReading) (all came : List ℕ)
    → (after ≡ Waits → came ≡ all)
    → heard conn (record {
      said = said;
      state = record { kept = kept; seats = seats };
      seat = option_map Http (left_by after all);
      aftermath = (sequel_of after).aftermath;
      unsealed = failed;
      counts = counts;
      consoles = record { readings = readings; stops = (sequel_of after).stops };
    }) ≡ answered_alone conn (turned_as conn (record { said = said; after = after })) kept failed counts readings (Http came) seats
by_after conn said Waits kept seats failed counts readings all came waits =
    ap (λ (b : List ℕ). heard conn (record {
      said = said;
      state = record { kept = kept; seats = seats };
      seat = Some (Http b);
      aftermath = Quiet;
      unsealed = failed;
      counts = counts;
      consoles = record { readings = readings; stops = false };
    })) (sym (waits refl))
by_after conn said Closes kept seats failed counts readings all came waits = refl
by_after conn said Stops kept seats failed counts readings all came waits = refl
by_after conn said Fails kept seats failed counts readings all came waits = refl
by_after conn said Rewinds kept seats failed counts readings all came waits = refl
by_after conn said Upgrades kept seats failed counts readings all came waits = refl

-- what a console's session made of its bytes is what the machine makes of them
pub console_heard : {D : Type 0} → (told : D → DiskTold) → Nothing told → (at : ℕ) (came came' bytes : List ℕ) (conn : ℕ) (seats : Seats) (old new : Lasting D) (r : Reply)
    → Hears told at came bytes old new r → (r.after ≡ Waits → came' ≡ came ++ bytes)
    → HeardAlone (HaveSealed told old new) at old.kept seats conn (Http came) bytes (turned_as conn r) new.kept (Http came')
console_heard {D} told nothing at came came' bytes conn seats old new r (IsUnfed is same) waits =
    subst (λ (n : Lasting D). HeardAlone (HaveSealed told old n) at old.kept seats conn (Http came) bytes (turned_as conn r) n.kept (Http came')) (sym same)
    (subst (λ (q : Reply). HeardAlone (HaveSealed told old old) at old.kept seats conn (Http came) bytes (turned_as conn q) old.kept (Http came')) (sym is)
    (true, [], Ok None, [], none_counted, unsealed told nothing old, [], tt, refl))
console_heard {D} told nothing at came came' bytes conn seats old new r (AreServed stage says serves) waits =
    let turn = serves.turn_is in
    let t = console.hindered serves.hindrance at old.kept (asked_of old.kept.house stage) in
    let counts : TurnCounts = record { reads = t.reads; out_of_memory = t.out_of_memory } in
    let reading : ConsoleReading = record { bytes = came ++ bytes; stage = stage } in
    let readings = reading ∷ [] in
    let s : State = record { kept = old.kept; seats = seats } in (
      false,
      as_of serves.hindrance ∷ [],
      stage,
      t.unsealed,
      counts,
      (t.sealed, turn.seals, record { reads = turn.read; out_of_memory = turn.out_of_memory }),
      readings,
      (says, tt),
      ap (λ (h : console.Hindrance).
          let u = console.hindered h at old.kept (asked_of old.kept.house stage) in
          heard conn (record {
            said = u.said;
            state = record { kept = u.kept; seats = seats };
            seat = option_map Http (left_by u.after (came ++ bytes));
            aftermath = (sequel_of u.after).aftermath;
            unsealed = u.unsealed;
            counts = record { reads = u.reads; out_of_memory = u.out_of_memory };
            consoles = record { readings = readings; stops = (sequel_of u.after).stops };
          })) (as_it_is serves.hindrance)
          ∙ by_after conn t.said t.after t.kept seats t.unsealed counts readings (came ++ bytes) came' (λ e. waits (ap (λ (q : Reply). q.after) turn.reply_is ∙ e))
          ∙ ap (λ (q : Reply). answered_alone conn (turned_as conn q) t.kept t.unsealed counts readings (Http came') seats) (sym turn.reply_is)
          ∙ ap (λ (k : Kept). answered_alone conn (turned_as conn r) k t.unsealed counts readings (Http came') seats) (sym turn.kept),
    )

-- the house is as it was
pub console_house : {D : Type 0} → (told : D → DiskTold) (at : ℕ) (came bytes : List ℕ) (old new : Lasting D) (r : Reply) → Hears told at came bytes old new r
    → new.kept.house ≡ old.kept.house
console_house {D} told at came bytes old new r (IsUnfed is same) = ap (λ (l : Lasting D). l.kept.house) same
console_house told at came bytes old new r (AreServed stage says serves) = serves.turn_is.seals.house
