-- What the code does for an event is what the machine does.
use Rattle.std.specs.Prelude.{if◌then◌else◌}
use Rattle.std.proofs.Common.{◌≡◌, ◌&&◌, ℕ, min, Bool, true, false, nat_le, not, List, [], ◌∷◌, None, Some, Option, Result, Ok, Err, inl, inr, refl, ap, subst, sym, ◌∙◌}
use Rattle.std.specs.Ordering.{nat_cmp}
use Rattle.std.specs.Map.{lookup, remove_entry, set_value}
use Rattle.std.specs.BTreeMap.{is_at}
use Rattle.undo_base.specs.declared.memory.NoMemory.{NoMemory as WantOfMemory}
use Rattle.undo_outside.specs.declared.event.Event.{Event}
use Rattle.undo_outside.specs.declared.event.What.{What}
use Rattle.undo_outside.specs.declared.event.What.TheVariants.{Joined, Bytes, Left, Idle, End}
use Rattle.verb_core.specs.Names.{is_empty}
use Rattle.undo_outside.specs.Calls.{LinkTold}
use Rattle.console_head.specs.Request.{Stage}
use Rattle.mail_loop.specs.declared.reply.Turned.{Turned}
use Rattle.mail_loop.specs.ConsoleTurn.{AreSaid}
use Rattle.store_kept.specs.Kept.{Kept, snapshotted}
use Rattle.verb_bytes.specs.declared.journal.JournalRecord.{JournalRecord}
use Rattle.mail_loop.specs.TurnCounts.{TurnCounts, both_counted, none_counted, wanting}
use Rattle.desk_journal.specs.Records.{snapshot_record}
use Rattle.mail_loop.specs.State.{Seat, Seats, State}
use Rattle.mail_loop.specs.Hindrance.{Hindrance}
use Rattle.mail_loop.specs.Machine.{Delivery, Keeping, IsKept, IsPassed, IsUnkept, IsOutOfMemory, Outcome, told_others, ignored, unfed, with_reply, Hindrances, Reply, Answered, answered, answers, hears_at, seat_at, seated, after_reply, delivered, happens, is_end, is_snapshot_due, outcome, unwritten_by, with_snapshot}
use Rattle.mail_loop.specs.Stands.{reply_of}
use Rattle.mail_loop.specs.Took.{seat_left}
use Rattle.mail_loop.specs.Did.{AreLicensed, Sends, Leads, Answers, kept_by, unclosed_by, unkept_by}
use Rattle.mail_loop.proofs.Links.{goes_none, none_licensed}
use Rattle.mail_loop.proofs.Sealed.{added_if, no_more, none_before}
use Rattle.mail_loop.proofs.Seats.{remove_set}
use Rattle.mail_loop.proofs.Stretch.{HeardAlone}

-- any event but the end
pub no_end : (w : What) → (w ≡ End → ⊥) → is_end w ≡ false
no_end (Joined role) other = refl
no_end (Bytes bytes) other = refl
no_end Left other = refl
no_end Idle other = refl
no_end End other = absurd (other refl)

-- bytes for a connection that is not open
pub bytes_ignored : {T : Type 0} → (S : List JournalRecord → TurnCounts → Type 0) (conn at : ℕ) (kept : Kept) (es es' : Seats) (bytes : List ℕ) (view : T → List Reply) (stops : T → Bool) (answer : T)
    → None ≡ lookup (is_at (nat_cmp conn)) es → es' ≡ es → view answer ≡ [] → stops answer ≡ false → S [] none_counted
    → (b : Bool) × (hs : List Hindrance) × (stage : Stage)
    × Answers S (hears_at (seat_at conn es) b hs stage at (record { kept = kept; seats = es }) conn bytes) kept es' view stops (Ok answer)
bytes_ignored S conn at kept es es' bytes view stops answer absent same none goes seals = (
  false,
  [],
  Ok None,
  subst (λ (o : Option Seat). Answers S (hears_at o false [] (Ok None) at (record { kept = kept; seats = es }) conn bytes) kept es' view stops (Ok answer)) absent
      ((refl, same, none, goes), seals, tt),
)

-- the seats after a connection's turns, which is then forgotten where it is closed
seats_after : (conn : ℕ) (es lent es' : Seats) (seat : Seat) (closes : Bool)
    → lent ≡ set_value (is_at (nat_cmp conn)) es seat → es' ≡ after_reply (not closes) conn lent → es' ≡ seated conn (seat_left closes seat) es
seats_after conn es lent es' seat false wrote kept = kept ∙ wrote
seats_after conn es lent es' seat true wrote kept =
    let test = is_at (nat_cmp conn) in
    kept ∙ ap (remove_entry test) wrote ∙ remove_set test es seat

-- memory was wanted before bytes were served
pub bytes_unserved : {T : Type 0} → (S : List JournalRecord → TurnCounts → Type 0) (conn at : ℕ) (kept : Kept) (es : Seats) (bytes : List ℕ) (view : T → List Reply) (stops : T → Bool)
    (w : WantOfMemory) (result : Result T WantOfMemory) → result ≡ Err w → S [] none_counted
    → (b : Bool) × (hs : List Hindrance) × (stage : Stage)
    × Answers S (hears_at (seat_at conn es) b hs stage at (record { kept = kept; seats = es }) conn bytes) kept es view stops result
bytes_unserved {T} S conn at kept es bytes view stops w result out_of_memory seals = (true, [], Ok None, by_seat (seat_at conn es))
  where
    by_seat : (o : Option Seat) → Answers S (hears_at o true [] (Ok None) at (record { kept = kept; seats = es }) conn bytes) kept es view stops result
    by_seat None = subst (λ (r : Result T WantOfMemory). Answers S (ignored (record { kept = kept; seats = es })) kept es view stops r) (sym out_of_memory) ((refl, refl, refl), seals, tt)
    by_seat (Some seat) = subst (λ (r : Result T WantOfMemory). Answers S (unfed conn (record { kept = kept; seats = es })) kept es view stops r) (sym out_of_memory) ((refl, refl, refl), seals, tt)

-- bytes for an open connection
pub bytes_heard : {T : Type 0} → (S : List JournalRecord → TurnCounts → Type 0) (conn at : ℕ) (kept kept' : Kept) (es lent es' : Seats) (s s' : Seat) (bytes : List ℕ) (turned : Turned)
    (view : T → List Reply) (stops : T → Bool) (answer : T)
    → Some s ≡ lookup (is_at (nat_cmp conn)) es
    → lent ≡ set_value (is_at (nat_cmp conn)) es s'
    → es' ≡ after_reply (not turned.closes) conn lent
    → HeardAlone S at kept es conn s bytes turned kept' s'
    → view answer ≡ with_reply (reply_of turned) (told_others conn turned.aftermath es')
    → stops answer ≡ turned.stops
    → (b : Bool) × (hs : List Hindrance) × (stage : Stage)
    × Answers S (hears_at (seat_at conn es) b hs stage at (record { kept = kept; seats = es }) conn bytes) kept' es' view stops (Ok answer)
bytes_heard S conn at kept kept' es lent es' s s' bytes turned view stops answer present wrote stays (b, hs, stage, failed, counts, seals, readings, said, e) those stop =
    let whole = ap (λ (o : Option Seat). hears_at o b hs stage at (record { kept = kept; seats = es }) conn bytes) (sym present) ∙ e in
    let left_is = seats_after conn es lent es' s' turned.closes wrote stays in (
      b,
      hs,
      stage,
      subst (λ (a : Answered). Answers S a kept' es' view stops (Ok answer)) (sym whole) (
        (refl, left_is, those ∙ ap (λ (l : Seats). with_reply (reply_of turned) (told_others conn turned.aftermath l)) left_is, stop),
        seals,
        said,
      ),
    )

-- memory was wanted before a string was sent
pub leads_out_of_memory : (S : List JournalRecord → TurnCounts → Type 0) (W : Hindrances → Type 0) (told : LinkTold) (s : State) (event : Event) (b : Bool) (hs : List Hindrance) (stage : Stage) (kept : Kept) (seats : Seats) (w : WantOfMemory) (result : Result Bool WantOfMemory)
    → result ≡ Err w → kept ≡ (answered b hs stage s event).state.kept → (answered b hs stage s event).unsealed ≡ [] → (answered b hs stage s event).counts ≡ none_counted → kept ≡ s.kept
    → S (answered b hs stage s event).unsealed (answered b hs stage s event).counts → AreSaid (answered b hs stage s event).consoles.readings
    → ((ds : List Delivery) → W (record { unfed = b; turns = hs; stage = stage; deliveries = ds; keeping = IsPassed }))
    → (h : Hindrances) × (unclosed : ℕ) × AreLicensed h.deliveries unclosed told told × Leads S unclosed h.keeping s.kept (happens h s event) told told kept seats result × W h
leads_out_of_memory S W told s event b hs stage kept seats w result out_of_memory same none quiet undone seals said goes =
    let h : Hindrances = record { unfed = b; turns = hs; stage = stage; deliveries = []; keeping = IsPassed } in (
      h,
      0,
      none_licensed told told refl refl,
      subst (λ (r : Result Bool WantOfMemory). Leads S 0 IsPassed s.kept (happens h s event) told told kept seats r) (sym out_of_memory) (record {
        did = record { notes = []; goes = goes_none told; whole = ((happens h s event).notes, refl, inl (refl, refl, none, quiet, sym same ∙ undone)) };
        kept_is = same;
        seats_are = tt;
        closed = tt;
        passed = refl;
        seals = seals;
        read = said;
      }),
      goes [],
    )

-- ---- the snapshot after the strings

-- what a snapshot leaves, where one is due and where none is
abbrev snapped : Keeping → Bool → Outcome → Outcome
snapped IsKept true o = record o { state = record { kept = snapshotted o.state.kept; seats = o.state.seats } }
snapped IsPassed true o = o
snapped IsUnkept true o = record o { unsealed = snapshot_record o.state.kept ∷ [] }
snapped IsOutOfMemory true o = record o { counts = both_counted o.counts (wanting 1) }
snapped k false o = o

snapped_is : (k : Keeping) (o : Outcome) (due : Bool) → is_snapshot_due o ≡ due → with_snapshot k o ≡ snapped k due o
snapped_is IsKept o true e = rw e refl
snapped_is IsPassed o true e = refl
snapped_is IsUnkept o true e = rw e refl
snapped_is IsOutOfMemory o true e = rw e refl
snapped_is IsKept o false e = rw e refl
snapped_is IsPassed o false e = refl
snapped_is IsUnkept o false e = rw e refl
snapped_is IsOutOfMemory o false e = rw e refl

-- an event led to this before its snapshot, and to this with it
leads_snapped : (S T : List JournalRecord → TurnCounts → Type 0) (n : ℕ) (before : Kept) (o : Outcome) (old new : LinkTold) (mid after : Kept) (seats : Seats) (stops : Bool) (k : Keeping) (due : Bool)
    → Leads T n IsPassed before o old new mid seats (Ok stops) → after ≡ (if due then kept_by k mid else mid) → S (if due then unkept_by k mid else o.unsealed) (if due then both_counted o.counts (wanting (unwritten_by k)) else o.counts)
    → (due ≡ true → o.unsealed ≡ []) → Leads S n k before (snapped k due o) old new after seats (Ok stops)
leads_snapped S T n before o old new mid after seats stops IsKept true l kept seals none = record {
  did = record { notes = l.did.notes; goes = l.did.goes; whole = l.did.whole };
  kept_is = kept ∙ ap snapshotted l.kept_is;
  seats_are = l.seats_are;
  closed = l.closed;
  passed = tt;
  seals = subst (λ (u : List JournalRecord). S u o.counts) (sym (none refl)) (subst (λ (c : TurnCounts). S [] c) (none_before o.counts) seals);
  read = l.read;
}
leads_snapped S T n before o old new mid after seats stops IsPassed true l kept seals none = record {
  did = record { notes = l.did.notes; goes = l.did.goes; whole = l.did.whole };
  kept_is = kept ∙ l.kept_is;
  seats_are = l.seats_are;
  closed = l.closed;
  passed = tt;
  seals = subst (λ (u : List JournalRecord). S u o.counts) (sym (none refl)) (subst (λ (c : TurnCounts). S [] c) (none_before o.counts) seals);
  read = l.read;
}
leads_snapped S T n before o old new mid after seats stops IsUnkept true l kept seals none = record {
  did = record { notes = l.did.notes; goes = l.did.goes; whole = l.did.whole };
  kept_is = kept ∙ l.kept_is;
  seats_are = l.seats_are;
  closed = l.closed;
  passed = tt;
  seals = subst (λ (q : Kept). S (snapshot_record q ∷ []) o.counts) l.kept_is (subst (λ (c : TurnCounts). S (snapshot_record mid ∷ []) c) (none_before o.counts) seals);
  read = l.read;
}
leads_snapped S T n before o old new mid after seats stops IsOutOfMemory true l kept seals none = record {
  did = record { notes = l.did.notes; goes = l.did.goes; whole = l.did.whole };
  kept_is = kept ∙ l.kept_is;
  seats_are = l.seats_are;
  closed = l.closed;
  passed = tt;
  seals = subst (λ (u : List JournalRecord). S u (both_counted o.counts (wanting 1))) (sym (none refl)) seals;
  read = l.read;
}
leads_snapped S T n before o old new mid after seats stops k false l kept seals none = record {
  did = record { notes = l.did.notes; goes = l.did.goes; whole = l.did.whole };
  kept_is = kept ∙ l.kept_is;
  seats_are = l.seats_are;
  closed = l.closed;
  passed = tt;
  seals = seals;
  read = l.read;
}

empty_none : (xs : List JournalRecord) (t : Bool) → (is_empty xs && t) ≡ true → xs ≡ []
empty_none [] t e = refl
empty_none (x ∷ xs) t e = absurd (let wrong : false ≡ true = e in cc)

-- an event was answered, its strings were sent, and the snapshot that is due was taken or not
pub leads_on : (S T : List JournalRecord → TurnCounts → Type 0) (W : Hindrances → Type 0) (old new : LinkTold) (s : State) (event : Event) (b : Bool) (hs : List Hindrance) (stage : Stage) (mid after : Kept) (seats' : Seats) (stops : Bool)
    (k : Keeping) (due : Bool)
    → (ds : List Delivery) × AreLicensed ds 0 old new
    × Leads T 0 IsPassed s.kept (outcome (answered b hs stage s event) (delivered ds (answered b hs stage s event).state.seats (answered b hs stage s event).replies)) old new mid seats' (Ok stops)
    → (is_empty (answered b hs stage s event).unsealed && nat_le 1024 (answered b hs stage s event).state.kept.marks.since) ≡ due
    → after ≡ (if due then kept_by k mid else mid) → S (if due then unkept_by k mid else (answered b hs stage s event).unsealed)
    (if due then both_counted (answered b hs stage s event).counts (wanting (unwritten_by k)) else (answered b hs stage s event).counts)
    → ((ds : List Delivery) → W (record { unfed = b; turns = hs; stage = stage; deliveries = ds; keeping = k }))
    → (h : Hindrances) × (unclosed : ℕ) × AreLicensed h.deliveries unclosed old new × Leads S unclosed h.keeping s.kept (happens h s event) old new after seats' (Ok stops) × W h
leads_on S T W old new s event b hs stage mid after seats' stops k due (ds, licensed, leads) is_due kept seals goes =
    let h : Hindrances = record { unfed = b; turns = hs; stage = stage; deliveries = ds; keeping = k } in
    let a = answered b hs stage s event in
    let o = outcome a (delivered ds a.state.seats a.replies) in
    let here = snapped_is k o due is_due in (
      h,
      0,
      licensed,
      subst (λ (q : Outcome). Leads S 0 k s.kept q old new after seats' (Ok stops)) (sym here)
          (leads_snapped S T 0 s.kept o old new mid after seats' stops k due leads kept seals
          (λ e. empty_none a.unsealed (nat_le 1024 a.state.kept.marks.since) (is_due ∙ e))),
      goes ds,
    )

-- ---- the end

-- the end changes nothing
pub end_ignored : (s : State) (event : Event) → is_end event.what ≡ true → answered false [] (Ok None) s event ≡ ignored s
end_ignored s event = by_what event.what
  where
    by_what : (what : What) → is_end what ≡ true → answers what false [] (Ok None) (min event.at 253402300799) s event.conn ≡ ignored s
    by_what End e = refl
    by_what (Joined role) e = absurd (let wrong : false ≡ true = e in cc)
    by_what (Bytes bytes) e = absurd (let wrong : false ≡ true = e in cc)
    by_what Left e = absurd (let wrong : false ≡ true = e in cc)
    by_what Idle e = absurd (let wrong : false ≡ true = e in cc)

-- the end came, and the snapshot that is due was taken or not
pub leads_end : (S T : List JournalRecord → TurnCounts → Type 0) (W : Hindrances → Type 0) (told : LinkTold) (s : State) (event : Event) (after : Kept) (k : Keeping) (due : Bool)
    → is_end event.what ≡ true → nat_le 1024 s.kept.marks.since ≡ due → after ≡ (if due then kept_by k s.kept else s.kept)
    → S (if due then unkept_by k s.kept else []) (if due then wanting (unwritten_by k) else none_counted) → T [] none_counted
    → ((ds : List Delivery) → W (record { unfed = false; turns = []; stage = Ok None; deliveries = ds; keeping = k }))
    → (h : Hindrances) × (unclosed : ℕ) × AreLicensed h.deliveries unclosed told told × Leads S unclosed h.keeping s.kept (happens h s event) told told after s.seats (Ok false) × W h
leads_end S T W told s event after k due ends is_due kept seals none goes =
    let is = sym (end_ignored s event ends) in
    leads_on S T W told told s event false [] (Ok None) s.kept after s.seats false k due (
      [],
      none_licensed told told refl refl,
      subst (λ (a : Answered). Leads T 0 IsPassed s.kept (outcome a (delivered [] a.state.seats a.replies)) told told s.kept s.seats (Ok false)) is (record {
        did = record { notes = []; goes = goes_none told; whole = refl };
        kept_is = refl;
        seats_are = (refl, refl);
        closed = refl;
        passed = tt;
        seals = none;
        read = tt;
      }),
    )
    (subst (λ (a : Answered). (is_empty a.unsealed && nat_le 1024 a.state.kept.marks.since) ≡ due) is is_due)
    kept
    (subst (λ (a : Answered). S (if due then unkept_by k s.kept else a.unsealed) (if due then both_counted a.counts (wanting (unwritten_by k)) else a.counts)) is
    (subst (λ (c : TurnCounts). S (if due then unkept_by k s.kept else []) c)
    (sym (no_more (if due then wanting (unwritten_by k) else none_counted)) ∙ added_if due none_counted (unwritten_by k)) seals))
    goes

-- ---- strings

-- an event was answered, and its strings were sent
pub leads_by : (S : List JournalRecord → TurnCounts → Type 0) (old new : LinkTold) (s : State) (event : Event) (b : Bool) (hs : List Hindrance) (stage : Stage) (kept : Kept) (seats seats' : Seats) (rs : List Reply)
    (stops : Bool) (sent : Result (Unit {0}) WantOfMemory) (x : Unit {0})
    → kept ≡ (answered b hs stage s event).state.kept → seats ≡ (answered b hs stage s event).state.seats → rs ≡ (answered b hs stage s event).replies
    → stops ≡ (answered b hs stage s event).consoles.stops
    → (ds : List Delivery) × AreLicensed ds (unclosed_by sent) old new × Sends (delivered ds seats rs) old new seats' sent → sent ≡ Ok x
    → S (answered b hs stage s event).unsealed (answered b hs stage s event).counts → AreSaid (answered b hs stage s event).consoles.readings
    → (ds : List Delivery) × AreLicensed ds 0 old new
    × Leads S 0 IsPassed s.kept (outcome (answered b hs stage s event) (delivered ds (answered b hs stage s event).state.seats (answered b hs stage s event).replies)) old new kept seats' (Ok stops)
leads_by S old new s event b hs stage kept seats seats' rs stops sent x same open' replies stop (ds, licensed, sends) ok seals said =
    let a = answered b hs stage s event in
    let out : Sends (delivered ds a.state.seats a.replies) old new seats' (Ok x) =
    subst (λ (r : Result (Unit {0}) WantOfMemory). Sends (delivered ds a.state.seats a.replies) old new seats' r) ok
    (subst (λ l. Sends (delivered ds l a.replies) old new seats' sent) open' (subst (λ q. Sends (delivered ds seats q) old new seats' sent) replies sends)) in (
      ds,
      subst (λ (r : Result (Unit {0}) WantOfMemory). AreLicensed ds (unclosed_by r) old new) ok licensed,
      record {
        did = record { notes = out.did.notes; goes = out.did.goes; whole = out.did.whole };
        kept_is = same;
        seats_are = (out.seats_are, stop);
        closed = refl;
        passed = tt;
        seals = seals;
        read = said;
      },
    )

-- an event was answered, and memory was wanted for its strings
pub leads_cut : (S : List JournalRecord → TurnCounts → Type 0) (W : Hindrances → Type 0) (old new : LinkTold) (s : State) (event : Event) (b : Bool) (hs : List Hindrance) (stage : Stage) (kept : Kept) (seats seats' : Seats) (rs : List Reply)
    (sent : Result (Unit {0}) WantOfMemory) (w v : WantOfMemory)
    → kept ≡ (answered b hs stage s event).state.kept → seats ≡ (answered b hs stage s event).state.seats → rs ≡ (answered b hs stage s event).replies
    → (ds : List Delivery) × AreLicensed ds (unclosed_by sent) old new × Sends (delivered ds seats rs) old new seats' sent → sent ≡ Err w
    → S (answered b hs stage s event).unsealed (answered b hs stage s event).counts → AreSaid (answered b hs stage s event).consoles.readings
    → ((ds : List Delivery) → W (record { unfed = b; turns = hs; stage = stage; deliveries = ds; keeping = IsPassed }))
    → (h : Hindrances) × (unclosed : ℕ) × AreLicensed h.deliveries unclosed old new × Leads S unclosed h.keeping s.kept (happens h s event) old new kept seats' (Err v) × W h
leads_cut S W old new s event b hs stage kept seats seats' rs sent w v same open' replies (ds, licensed, sends) bad seals said goes =
    let h : Hindrances = record { unfed = b; turns = hs; stage = stage; deliveries = ds; keeping = IsPassed } in
    let a = answered b hs stage s event in
    let out : Sends (delivered ds a.state.seats a.replies) old new seats' (Err w) =
    subst (λ (r : Result (Unit {0}) WantOfMemory). Sends (delivered ds a.state.seats a.replies) old new seats' r) bad
    (subst (λ l. Sends (delivered ds l a.replies) old new seats' sent) open' (subst (λ q. Sends (delivered ds seats q) old new seats' sent) replies sends)) in (
      h,
      1,
      subst (λ (r : Result (Unit {0}) WantOfMemory). AreLicensed ds (unclosed_by r) old new) bad licensed,
      record {
        did = record { notes = out.did.notes; goes = out.did.goes; whole = (out.did.whole.0, out.did.whole.1, inr (refl, out.did.whole.2)) };
        kept_is = same;
        seats_are = tt;
        closed = tt;
        passed = refl;
        seals = seals;
        read = said;
      },
      goes ds,
    )
