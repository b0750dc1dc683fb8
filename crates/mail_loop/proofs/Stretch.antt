-- Turns of a stretch of a stream: those so far, and those to come.
use Rattle.std.proofs.Common.{◌≡◌, ℕ, Bool, true, false, is_none, List, [], ◌∷◌, ◌++◌, None, Some, Option, MatchOption, Ok, refl, ap, subst, sym, ◌∙◌}
use Rattle.std.specs.Option.{option_map}
use Rattle.std.proofs.lemmas.List.{append-nil, append_assoc}
use Rattle.undo_base.specs.declared.keys.User.{User}
use Rattle.verb_core.specs.declared.mailbox.BoxId.{BoxId}
use Rattle.mail_loop.specs.declared.reply.Reply.{Reply}
use Rattle.store_kept.specs.Kept.{Kept}
use Rattle.verb_bytes.specs.declared.journal.JournalRecord.{JournalRecord}
use Rattle.mail_loop.specs.TurnCounts.{TurnCounts, both_counted, none_counted}
use Rattle.mail_loop.specs.State.{Pop, Seat, Seats, State, beside as besides}
use Rattle.mail_loop.specs.Turn.{Turn, says}
use Rattle.pop_session.specs.declared.dialog.Dialog.{Dialog as PopDialog}
use Rattle.mail_loop.specs.PopTurn.{in_use, pop_beside}
use Rattle.mail_loop.specs.Session.{Speech, Took, followed, session_by}
use Rattle.mail_loop.specs.Hindrance.{Hindrance, Clear, Unheard, service}
use Rattle.mail_loop.specs.Turns.{Outcome, Heard, after, goes_on, turns, outcome_of, heard_by, hears_seat, hears_turns, pop_source}
use Rattle.console_head.specs.Request.{Stage}
use Rattle.mail_loop.specs.declared.reply.Turned.{Turned}
use Rattle.mail_loop.specs.ConsoleTurn.{AreSaid, ConsoleReading, no_consoles}
use Rattle.mail_loop.specs.Afterwards.{taking}
use Rattle.mail_loop.specs.Machine.{heard, heard_if_fed, hears, seated, told_others, with_reply}
use Rattle.mail_loop.proofs.Sealed.{no_more, none_before, counts_regroup}
use Rattle.mail_loop.specs.Took.{ServesNone, Takes, TellsTurns, seat_left, answered_alone, going_on_with}
use Rattle.mail_loop.proofs.PopTurns.{same_heard}
use Rattle.mail_loop.proofs.Units.{turn_at}

-- what is kept, beside seats that no turn touches
abbrev beside : Seats → Kept → State
beside seats kept = record { kept = kept; seats = seats }

-- a turn of a kind of session that touches no other connection; it may see them
abbrev pub alone : {D U : Type 0} → (Seats → Hindrance → Kept → D → U → Turn D) → Hindrance → State → D → U → Outcome D
alone one h s d u = outcome_of s (one s.seats h s.kept d u)

-- what the turns of all leave
abbrev all_turns : {D U : Type 0} → (Seats → Hindrance → Kept → D → U → Turn D) → Seats → List Hindrance → Kept → D → List U → Outcome D
all_turns one seats hs kept d us = turns (alone one) hs (beside seats kept) d us

-- an outcome of such turns
abbrev leaving : {D : Type 0} → Seats → List ℕ → List BoxId → List JournalRecord → TurnCounts → Kept → Option D → Outcome D
leaving seats said boxes failed counts kept o =
    record { said = said; state = record { kept = kept; seats = seats }; dialog = o; gone = boxes; unsealed = failed; counts = counts }

-- an outcome of such turns, whose answers are a reply's
abbrev pub left : {D : Type 0} → Seats → Reply → Kept → List JournalRecord → TurnCounts → Option D → Outcome D
left seats reply kept failed counts o = leaving seats reply.said reply.gone failed counts kept o

nothing_more : {D : Type 0} → (seats : Seats) (reply : Reply) (counts : TurnCounts) (kept : Kept) (o : Option D)
    → leaving seats (reply.said ++ []) (reply.gone ++ []) [] (both_counted counts none_counted) kept o ≡ left seats reply kept [] counts o
nothing_more seats reply counts kept o = λ j. leaving seats (append-nil reply.said j) (append-nil reply.gone j) [] (none_before counts j) kept o

-- what is to come after a reply's answers, and after what was read for them
abbrev pub behind : {D : Type 0} → Reply → TurnCounts → Outcome D → Outcome D
behind reply counts o = after reply.said reply.gone [] counts o

-- the turns of all leave what is in the reply, of which so many could not read, and then what the turns of those to come leave
pub record SoFar {D U : Type 0} (one : Seats → Hindrance → Kept → D → U → Turn D) (seats : Seats) (kept : Kept) (d : D) (all : List U) (reply : Reply) (counts : TurnCounts) (kept' : Kept) (d' : D) (us : List U) : Type 0 where
  pub before : List Hindrance
  pub split : (more : List Hindrance) → turns (alone one) (before ++ more) (record { kept = kept; seats = seats }) d all
      ≡ behind reply counts (turns (alone one) more (record { kept = kept'; seats = seats }) d' us)

pub so_far_none : {D U : Type 0} → (one : Seats → Hindrance → Kept → D → U → Turn D) (seats : Seats) (kept : Kept) (d : D) (us : List U) (conn : ℕ) (reply : Reply)
    → reply ≡ record { conn = conn; said = []; closes = false; gone = [] } → SoFar one seats kept d us reply none_counted kept d us
so_far_none one seats kept d us conn reply empty =
    subst (λ (r : Reply). SoFar one seats kept d us r none_counted kept d us) (sym empty) (record {
      before = [];
      split = λ more. let o = all_turns one seats more kept d us in λ j. record o { counts = sym (no_more o.counts) j };
    })

-- all turns, up to the next, which leaves the dialog o
up_to : {D U : Type 0} → (one : Seats → Hindrance → Kept → D → U → Turn D) (seats : Seats) (kept : Kept) (d : D) (all : List U) (reply : Reply) (counts : TurnCounts) (kept' : Kept) (d' : D) (u : U) (us : List U)
    → (s : SoFar one seats kept d all reply counts kept' d' (u ∷ us)) → (h : Hindrance) (more : List Hindrance) (o : Option D)
    → (one seats h kept' d' u).dialog ≡ o
    → all_turns one seats ((s.before ++ h ∷ []) ++ more) kept d all
    ≡ behind reply counts (goes_on (alone one h (beside seats kept') d' u) o (λ s e. turns (alone one) more s e us))
up_to one seats kept d all reply counts kept' d' u us s h more o e =
    ap (λ hs. all_turns one seats hs kept d all) (append_assoc s.before (h ∷ []) more) ∙ s.split (h ∷ more)
    ∙ ap (λ p. behind reply counts (goes_on (alone one h (beside seats kept') d' u) p (λ s e. turns (alone one) more s e us))) e

-- one turn more, after which the connection is open
pub so_far_more : {D U : Type 0} → (S : List JournalRecord → TurnCounts → Type 0) (one : Seats → Hindrance → Kept → D → U → Turn D) (seats : Seats) (kept : Kept) (d : D) (all : List U) (kept' : Kept) (d' : D) (u : U) (us : List U)
    (new : Kept) (e : D) (old reply : Reply) (counts : TurnCounts)
    → SoFar one seats kept d all old counts kept' d' (u ∷ us) → (h : Hindrance) → Takes S (one seats h kept' d' u) old new e reply → reply.closes ≡ false
    → SoFar one seats kept d all reply (both_counted counts (one seats h kept' d' u).counts) new e us
so_far_more {D} {U} S one seats kept d all kept' d' u us new e old reply counts s h took stays = by_dialog (one seats h kept' d' u).dialog refl took.dialog_is
  where
    by_dialog : (o : Option D) → (one seats h kept' d' u).dialog ≡ o → MatchOption o (reply.closes ≡ true) (λ f. (e ≡ f) × (reply.closes ≡ false) × ((one seats h kept' d' u).unsealed ≡ []))
        → SoFar one seats kept d all reply (both_counted counts (one seats h kept' d' u).counts) new e us
    by_dialog None is shut = absurd (let wrong : true ≡ false = sym shut ∙ stays in cc)
    by_dialog (Some f) is goes = record {
      before = s.before ++ h ∷ [];
      split = λ more.
          let turn = one seats h kept' d' u in
          up_to one seats kept d all old counts kept' d' u us s h more (Some f) is
          ∙ ap (λ (failed : List JournalRecord). behind old counts (after turn.said turn.gone failed turn.counts (all_turns one seats more turn.kept f us))) goes.2
          ∙ regroup more f
          ∙ ap (λ said. after said (old.gone ++ turn.gone) [] (both_counted counts turn.counts) (all_turns one seats more turn.kept f us)) (sym took.said)
          ∙ ap (λ boxes. after reply.said boxes [] (both_counted counts turn.counts) (all_turns one seats more turn.kept f us)) (sym took.gone)
          ∙ ap (λ k. behind reply (both_counted counts turn.counts) (all_turns one seats more k f us)) (sym took.kept_is)
          ∙ ap (λ g. behind reply (both_counted counts turn.counts) (all_turns one seats more new g us)) (sym goes.0);
    }
      where
        regroup : (more : List Hindrance) (f : D)
            → behind old counts (after (one seats h kept' d' u).said (one seats h kept' d' u).gone [] (one seats h kept' d' u).counts (all_turns one seats more (one seats h kept' d' u).kept f us))
            ≡ after (old.said ++ (one seats h kept' d' u).said) (old.gone ++ (one seats h kept' d' u).gone) [] (both_counted counts (one seats h kept' d' u).counts)
            (all_turns one seats more (one seats h kept' d' u).kept f us)
        regroup more f =
            let t = all_turns one seats more (one seats h kept' d' u).kept f us in
            λ j. record {
              said = sym (append_assoc old.said (one seats h kept' d' u).said t.said) j;
              state = t.state;
              dialog = t.dialog;
              gone = sym (append_assoc old.gone (one seats h kept' d' u).gone t.gone) j;
              unsealed = t.unsealed;
              counts = sym (counts_regroup counts (one seats h kept' d' u).counts t.counts) j;
            }

-- the last turn, after which the connection is closed
pub closed_after : {D U : Type 0} → (S : List JournalRecord → TurnCounts → Type 0) (one : Seats → Hindrance → Kept → D → U → Turn D) (seats : Seats) (kept : Kept) (d : D) (all : List U) (kept' : Kept) (d' : D) (u : U) (us : List U)
    (new : Kept) (e : D) (old reply : Reply) (counts : TurnCounts)
    → SoFar one seats kept d all old counts kept' d' (u ∷ us) → (h : Hindrance) → Takes S (one seats h kept' d' u) old new e reply → reply.closes ≡ true
    → (hs : List Hindrance) × (turns (alone one) hs (record { kept = kept; seats = seats }) d all ≡ left seats reply new (one seats h kept' d' u).unsealed (both_counted counts (one seats h kept' d' u).counts) None)
closed_after {D} {U} S one seats kept d all kept' d' u us new e old reply counts s h took shut = by_dialog (one seats h kept' d' u).dialog refl took.dialog_is
  where
    by_dialog : (o : Option D) → (one seats h kept' d' u).dialog ≡ o → MatchOption o (reply.closes ≡ true) (λ f. (e ≡ f) × (reply.closes ≡ false) × ((one seats h kept' d' u).unsealed ≡ []))
        → (hs : List Hindrance) × (turns (alone one) hs (record { kept = kept; seats = seats }) d all ≡ left seats reply new (one seats h kept' d' u).unsealed (both_counted counts (one seats h kept' d' u).counts) None)
    by_dialog None is shuts = (
      (s.before ++ h ∷ []) ++ [],
      up_to one seats kept d all old counts kept' d' u us s h [] None is
          ∙ ap (λ (said : List ℕ). leaving seats said (old.gone ++ (one seats h kept' d' u).gone) (one seats h kept' d' u).unsealed (both_counted counts (one seats h kept' d' u).counts) (one seats h kept' d' u).kept None) (sym took.said)
          ∙ ap (λ (boxes : List BoxId). leaving seats reply.said boxes (one seats h kept' d' u).unsealed (both_counted counts (one seats h kept' d' u).counts) (one seats h kept' d' u).kept None) (sym took.gone)
          ∙ ap (λ (k : Kept). left seats reply k (one seats h kept' d' u).unsealed (both_counted counts (one seats h kept' d' u).counts) None) (sym took.kept_is),
    )
    by_dialog (Some f) is goes = absurd (let wrong : true ≡ false = sym shut ∙ goes.1 in cc)

-- a turn for which no memory is found, and which is lost
pub unheard : {D U : Type 0} → (one : Seats → Hindrance → Kept → D → U → Turn D) (seats : Seats) (kept : Kept) (d : D) (all : List U) (reply : Reply) (counts : TurnCounts) (kept' : Kept) (d' : D) (us : List U)
    → SoFar one seats kept d all reply counts kept' d' us → (us ≡ [] → ⊥)
    → ((u : U) → one seats Unheard kept' d' u ≡ record { said = []; kept = kept'; dialog = None; gone = []; unsealed = []; counts = none_counted })
    → (hs : List Hindrance) × (turns (alone one) hs (record { kept = kept; seats = seats }) d all ≡ left seats reply kept' [] counts None)
unheard one seats kept d all reply counts kept' d' [] s some lost = absurd (some refl)
unheard {D} one seats kept d all reply counts kept' d' (u ∷ us) s some lost = (
  s.before ++ Unheard ∷ [],
  s.split (Unheard ∷ [])
      ∙ ap (λ (t : Turn D). behind reply counts (goes_on (outcome_of (beside seats kept') t) t.dialog (λ s e. turns (alone one) [] s e us))) (lost u)
      ∙ nothing_more seats reply counts kept' None,
)

-- no turn is to come, or one that says nothing
abbrev pub IsQuiet : {D U : Type 0} → (Seats → Hindrance → Kept → D → U → Turn D) → Seats → Kept → D → List U → Type 0
IsQuiet one seats kept d [] = Unit {0}
IsQuiet one seats kept d (u ∷ []) = one seats Clear kept d u ≡ says [] kept d
IsQuiet one seats kept d (u ∷ v ∷ us) = ⊥

-- all that is to come says nothing
pub all_served : {D U : Type 0} → (one : Seats → Hindrance → Kept → D → U → Turn D) (seats : Seats) (kept : Kept) (d : D) (all : List U) (reply : Reply) (counts : TurnCounts) (kept' : Kept) (d' : D) (us : List U)
    → SoFar one seats kept d all reply counts kept' d' us → IsQuiet one seats kept' d' us
    → (hs : List Hindrance) × (turns (alone one) hs (record { kept = kept; seats = seats }) d all ≡ left seats reply kept' [] counts (Some d'))
all_served one seats kept d all reply counts kept' d' [] s quiet = (s.before ++ [], s.split [] ∙ nothing_more seats reply counts kept' (Some d'))
all_served {D} one seats kept d all reply counts kept' d' (u ∷ []) s quiet = (
  s.before ++ [],
  s.split [] ∙ ap (λ (t : Turn D). behind reply counts (goes_on (outcome_of (beside seats kept') t) t.dialog (λ s e. turns (alone one) [] s e []))) quiet
      ∙ nothing_more seats reply counts kept' (Some d'),
)
all_served one seats kept d all reply counts kept' d' (u ∷ v ∷ us) s quiet = absurd quiet

-- a session serves nothing of these units
pub quiet_units : {D U : Type 0} → (speech : Speech D) (takes : List User → ℕ → Kept → D → U → Took D) (runs_out_of_memory : Kept → D → U → Turn D) (users : List User) (at conn : ℕ) (seats : Seats) (kept : Kept) (d : D) (us : List U)
    → ServesNone takes us → IsQuiet (turn_at (session_by speech (takes users) runs_out_of_memory) at conn) seats kept d us
quiet_units speech takes runs_out_of_memory users at conn seats kept d [] none = tt
quiet_units {D} speech takes runs_out_of_memory users at conn seats kept d (u ∷ []) none = ap (λ (t : Took D). followed speech (service at kept) kept t.out t.dialog) (none users at kept d)
quiet_units speech takes runs_out_of_memory users at conn seats kept d (u ∷ v ∷ us) none = none

-- what the turns say is what the connection is told
pub told_by : {D U : Type 0} → (one : Seats → Hindrance → Kept → D → U → Turn D) (seat_of : D → Seat) (seats : Seats) (kept : Kept) (d : D) (all : List U) (conn : ℕ) (reply : Reply)
    (kept' : Kept) (failed : List JournalRecord) (counts : TurnCounts) (seat : Seat) (o : Option D) (S : List JournalRecord → TurnCounts → Type 0)
    → reply.conn ≡ conn
    → (hs : List Hindrance) × (turns (alone one) hs (record { kept = kept; seats = seats }) d all ≡ left seats reply kept' failed counts o)
    → option_map seat_of o ≡ seat_left reply.closes seat → S failed counts
    → (hs : List Hindrance) × (failed : List JournalRecord) × (counts : TurnCounts) × S failed counts
    × TellsTurns (heard_by seat_of (turns (alone one) hs (record { kept = kept; seats = seats }) d all)) seats conn reply kept' failed counts seat
told_by one seat_of seats kept d all conn reply kept' failed counts seat o S same (hs, is) left_is seals = (
  hs,
  failed,
  counts,
  seals,
  record {
    conn_is = same;
    heard_is = ap (heard_by seat_of) is
        ∙ ap (λ (s : Option Seat). record { said = reply.said; state = record { kept = kept'; seats = seats }; seat = s; aftermath = taking reply.gone; unsealed = failed; counts = counts; consoles = no_consoles }) left_is;
  },
)

none_left : (closes : Bool) (seat : Seat) → is_none (seat_left closes seat) ≡ closes
none_left true seat = refl
none_left false seat = refl

-- the answers of the turns are the one reply
pub heard_alone : (h : Heard) (seats : Seats) (conn : ℕ) (reply : Reply) (kept : Kept) (failed : List JournalRecord) (counts : TurnCounts) (seat : Seat)
    → TellsTurns h seats conn reply kept failed counts seat
    → heard conn h ≡ answered_alone conn (going_on_with reply) kept failed counts [] seat seats
heard_alone h seats conn reply kept failed counts seat t =
    ap (heard conn) t.heard_is
    ∙ ap (λ (b : Bool). record {
      state = record { kept = kept; seats = seated conn (seat_left reply.closes seat) seats };
      replies = with_reply (record { conn = conn; said = reply.said; closes = b }) (told_others conn (taking reply.gone) (seated conn (seat_left reply.closes seat) seats));
      unsealed = failed;
      counts = counts;
      consoles = no_consoles;
    }) (none_left reply.closes seat)
    ∙ ap (λ (n : ℕ). record {
      state = record { kept = kept; seats = seated conn (seat_left reply.closes seat) seats };
      replies = with_reply (record { conn = n; said = reply.said; closes = reply.closes }) (told_others conn (taking reply.gone) (seated conn (seat_left reply.closes seat) seats));
      unsealed = failed;
      counts = counts;
      consoles = no_consoles;
    }) (sym t.conn_is)

-- the seat of a connection that stays open
pub seat_stays : (closes : Bool) (seat seat' : Seat) → closes ≡ false → seat ≡ seat' → Some seat ≡ seat_left closes seat'
seat_stays true seat seat' wrong e = absurd (let w : true ≡ false = wrong in cc)
seat_stays false seat seat' open' e = ap Some e

-- the seat of a connection that is closed
pub seat_goes : (closes : Bool) (seat : Seat) → closes ≡ true → ◌≡◌ {A = Option Seat} None (seat_left closes seat)
seat_goes true seat shut = refl
seat_goes false seat shut = absurd (let w : false ≡ true = shut in cc)

-- The bytes of a connection are heard, and this is its reply. This is whether serving is asked to stop, what is kept, the record whose sealing
-- failed, what could not be read, and its seat then.
abbrev pub HeardAlone : (List JournalRecord → TurnCounts → Type 0) → ℕ → Kept → Seats → ℕ → Seat → List ℕ → Turned → Kept → Seat → Type 0
HeardAlone S at kept seats conn seat bytes turned kept' seat' =
    (no_memory : Bool) × (hs : List Hindrance) × (stage : Stage) × (failed : List JournalRecord) × (counts : TurnCounts) × S failed counts × (readings : List ConsoleReading) × AreSaid readings
    × (hears no_memory hs stage at (record { kept = kept; seats = seats }) conn seat bytes
    ≡ answered_alone conn turned kept' failed counts readings seat' seats)

-- The turns of the bytes that came, where they found memory, are in the one reply. This is what is kept, and the seat then.
abbrev pub HeardTurns : (List JournalRecord → TurnCounts → Type 0) → Kept → Seats → ℕ → (List Hindrance → Heard) → Turned → Kept → Seat → Type 0
HeardTurns S kept seats conn heard turned kept' seat' =
    (no_memory : Bool) × (hs : List Hindrance) × (failed : List JournalRecord) × (counts : TurnCounts) × S failed counts
    × (heard_if_fed no_memory conn (record { kept = kept; seats = seats }) (heard hs) ≡ answered_alone conn turned kept' failed counts [] seat' seats)

-- these turns are in the reply
abbrev pub ToldTurns : (List JournalRecord → TurnCounts → Type 0) → Seats → ℕ → (List Hindrance → Heard) → Reply → Kept → Seat → Type 0
ToldTurns S seats conn heard reply kept' seat' =
    (hs : List Hindrance) × (failed : List JournalRecord) × (counts : TurnCounts) × S failed counts × TellsTurns (heard hs) seats conn reply kept' failed counts seat'

-- the bytes found memory
pub turns_told : (S : List JournalRecord → TurnCounts → Type 0) (kept : Kept) (seats : Seats) (conn : ℕ) (h : List Hindrance → Heard) (reply : Reply) (turned : Turned) (kept' : Kept) (seat' : Seat)
    → turned ≡ going_on_with reply
    → ToldTurns S seats conn h reply kept' seat' → HeardTurns S kept seats conn h turned kept' seat'
turns_told S kept seats conn h reply turned kept' seat' is (hs, failed, counts, seals, tells) = (
  false,
  hs,
  failed,
  counts,
  seals,
  heard_alone (h hs) seats conn reply kept' failed counts seat' tells ∙ ap (λ (t : Turned). answered_alone conn t kept' failed counts [] seat' seats) (sym is),
)

-- no memory was found for them
pub turns_unfed : (S : List JournalRecord → TurnCounts → Type 0) (kept : Kept) (seats : Seats) (conn : ℕ) (h : List Hindrance → Heard) (reply : Reply) (turned : Turned) (seat' : Seat)
    → reply ≡ record { conn = conn; said = []; closes = true; gone = [] } → turned ≡ going_on_with reply → S [] none_counted → HeardTurns S kept seats conn h turned kept seat'
turns_unfed S kept seats conn h reply turned seat' empty is seals =
    (true, [], [], none_counted, seals, sym (ap (λ (t : Turned). answered_alone conn t kept [] none_counted [] seat' seats) (is ∙ ap going_on_with empty)))

-- a connection that speaks in turns is heard
pub turns_heard : (S : List JournalRecord → TurnCounts → Type 0) (stage : Stage) (at : ℕ) (kept : Kept) (seats : Seats) (conn : ℕ) (seat : Seat) (bytes : List ℕ) (turned : Turned) (kept' : Kept) (seat' : Seat)
    → HeardTurns S kept seats conn (λ hs. hears_seat hs stage at (record { kept = kept; seats = seats }) conn seat bytes) turned kept' seat' → HeardAlone S at kept seats conn seat bytes turned kept' seat'
turns_heard S stage at kept seats conn seat bytes turned kept' seat' (b, hs, failed, counts, seals, is) = (b, hs, stage, failed, counts, seals, [], tt, is)

-- the turns of a POP3 client, whose session sees the others
pub told_same : (S : List JournalRecord → TurnCounts → Type 0) (at : ℕ) (kept : Kept) (seats : Seats) (conn : ℕ) (stream : List ℕ) (d : PopDialog) (bytes : List ℕ) (turned : Turned) (kept' : Kept) (seat' : Seat)
    → HeardTurns S kept seats conn (λ hs. hears_turns pop_source (pop_beside (in_use (besides conn seats))) hs at (record { kept = kept; seats = seats }) conn d (stream ++ bytes)) turned kept' seat'
    → HeardTurns S kept seats conn (λ hs. hears_seat hs (Ok None) at (record { kept = kept; seats = seats }) conn (Pop stream d) bytes) turned kept' seat'
told_same S at kept seats conn stream d bytes turned kept' seat' (b, hs, failed, counts, seals, is) =
    (b, hs, failed, counts, seals, ap (heard_if_fed b conn (record { kept = kept; seats = seats })) (same_heard at conn hs (record { kept = kept; seats = seats }) d (stream ++ bytes)) ∙ is)

pub heard_same : (S T : List JournalRecord → TurnCounts → Type 0) (at : ℕ) (kept : Kept) (seats : Seats) (conn : ℕ) (seat seat0 : Seat) (bytes : List ℕ) (turned turned0 : Turned) (kept' kept0 : Kept) (seat' seat'' : Seat)
    → seat ≡ seat0 → turned0 ≡ turned → kept0 ≡ kept' → seat'' ≡ seat' → ((failed : List JournalRecord) (counts : TurnCounts) → S failed counts → T failed counts)
    → HeardAlone S at kept seats conn seat bytes turned kept' seat' → HeardAlone T at kept seats conn seat0 bytes turned0 kept0 seat''
heard_same S T at kept seats conn seat seat0 bytes turned turned0 kept' kept0 seat' seat'' s r k t then (b, hs, stage, failed, counts, seals, readings, said, is) = (
  b,
  hs,
  stage,
  failed,
  counts,
  then failed counts seals,
  readings,
  said,
  ap (λ (x : Seat). hears b hs stage at (record { kept = kept; seats = seats }) conn x bytes) (sym s) ∙ is
      ∙ ap (λ (x : Turned). answered_alone conn x kept' failed counts readings seat' seats) (sym r)
      ∙ ap (λ (x : Kept). answered_alone conn turned0 x failed counts readings seat' seats) (sym k)
      ∙ ap (λ (x : Seat). answered_alone conn turned0 kept0 failed counts readings x seats) (sym t),
)
