-- What the link did, call after call.
use Rattle.std.proofs.Common.{◌≡◌, ℕ, zero, suc, ◌+◌, Bool, true, false, not, List, [], ◌∷◌, ◌++◌, None, Some, Option, Result, Ok, Err, refl, ap, subst, sym, ◌∙◌, arith, add-zero, zero-add}
use Rattle.std.proofs.lemmas.List.{append-nil, append_assoc}
use Rattle.undo_outside.specs.declared.fault.Fault.{Fault}
use Rattle.undo_outside.specs.declared.fault.Fault.TheVariants.{Failed, NoMemory}
use Rattle.undo_outside.specs.declared.event.LinkNote.{LinkNote}
use Rattle.undo_outside.specs.declared.event.LinkNote.TheVariants.{Closed, Sent}
use Rattle.undo_outside.specs.Calls.{LinkTold, Rose, RoseOnce, Wants, then_told, Sends as LinkSends}
use Rattle.undo_base.specs.declared.memory.NoMemory.{NoMemory as WantOfMemory}
use Rattle.mail_loop.specs.Machine.{Delivery, Arrives, IsMissed, IsLeftOut, Reply, string_notes, close_notes, reply_notes, after_reply, delivered, remains}
use Rattle.mail_loop.specs.State.{Seats}
use Rattle.desk_journal.specs.Reading.{Counted, RoseAtLeast}
use Rattle.mail_loop.specs.Did.{Goes, AreLicensed, StopsAtClose, Told, Replied, Did, Sends, left_out_by, left_out_of, missed_by, missed_of, unclosed_by}

-- nothing more is told
pub then_told-nil : {A : Type 0} (told : Option (List A)) → then_told told [] ≡ told
then_told-nil None = refl
then_told-nil (Some xs) = ap Some (append-nil xs)

pub then_told-append : {A : Type 0} (told : Option (List A)) (xs ys : List A) → then_told (then_told told xs) ys ≡ then_told told (xs ++ ys)
then_told-append None xs ys = refl
then_told-append (Some zs) xs ys = ap Some (append_assoc zs xs ys)

pub goes_none : (t : LinkTold) → Goes t t []
goes_none t = record { log = sym (then_told-nil t.log); coming = refl; faults = refl; reliable = refl }

pub goes_on_goes : (a b c : LinkTold) (xs ys : List LinkNote) → Goes a b xs → Goes b c ys → Goes a c (xs ++ ys)
goes_on_goes a b c xs ys g h = record {
  log = h.log ∙ ap (λ l. then_told l ys) g.log ∙ then_told-append a.log xs ys;
  coming = h.coming ∙ g.coming;
  faults = h.faults ∙ g.faults;
  reliable = h.reliable ∙ g.reliable;
}

-- a count that rose by some and then by more
pub rose_add : (m n a b c : ℕ) → RoseAtLeast m a b → RoseAtLeast n b c → RoseAtLeast (m + n) a c
rose_add zero n a b c e r = subst (λ k. RoseAtLeast k a c) (sym (zero-add n)) (subst (λ x. RoseAtLeast n x c) e r)
rose_add (suc m) zero a b c r e = subst (λ k. RoseAtLeast k a c) (sym (add-zero (suc m))) (subst (λ x. RoseAtLeast (suc m) a x) (sym e) r)
rose_add (suc m) (suc n) a b c (r, r') (q, q') =
    let whole : suc m + suc n ≡ suc (m + suc n) = omega arith in
    subst (λ k. RoseAtLeast k a c) (sym whole) (omega arith, omega arith)

-- a count that rose
pub rose_one : (a b : ℕ) → Rose a b → RoseAtLeast (1 + 0) a b
rose_one a b (r, q) = (r, q)

-- a count that stood, rose by one, or rose by some and then by more
pub counted_none : (a b : ℕ) → b ≡ a → Counted 0 a b
counted_none a b e = (e, omega (arith, e))

pub counted_one : (a b : ℕ) → RoseOnce a b → Counted 1 a b
counted_one a b (r, u) = (rose_one a b r, u)

pub counted_add : (m n a b c : ℕ) → Counted m a b → Counted n b c → Counted (m + n) a c
counted_add m n a b c (r, u) (q, v) = (rose_add m n a b c r q, omega (arith, u, v))

pub none_licensed : (a b : LinkTold) → b.missed ≡ a.missed → b.out_of_memory ≡ a.out_of_memory → AreLicensed [] 0 a b
none_licensed a b e f = record { rose = e; out_of_memory = counted_none a.out_of_memory b.out_of_memory f; reliable = λ _. refl }

-- one string more
pub licensed_more : (d : Delivery) (ds : List Delivery) (n : ℕ) (a b c : LinkTold) → AreLicensed (d ∷ []) 0 a b → b.is_reliable ≡ a.is_reliable → AreLicensed ds n b c → AreLicensed (d ∷ ds) n a c
licensed_more d ds n a b c l same m = record {
  rose = subst (λ k. RoseAtLeast (k + missed_of ds) a.missed c.missed) (add-zero (missed_by d)) (rose_add (missed_by d + 0) (missed_of ds) a.missed b.missed c.missed l.rose m.rose);
  out_of_memory =
      let whole : ((left_out_by d + 0) + 0) + (left_out_of ds + n) ≡ (left_out_by d + left_out_of ds) + n = omega arith in
      subst (λ k. Counted k a.out_of_memory c.out_of_memory) whole (counted_add ((left_out_by d + 0) + 0) (left_out_of ds + n) a.out_of_memory b.out_of_memory c.out_of_memory l.out_of_memory m.out_of_memory);
  reliable = λ e. let one = l.reliable e in let more = m.reliable (same ∙ e) in omega arith;
}

-- a close more found no memory
unclosed_more : (d : Delivery) (a b c : LinkTold) → AreLicensed (d ∷ []) 0 a b → Wants b c → AreLicensed (d ∷ []) 1 a c
unclosed_more d a b c l (e, once) = record {
  rose = subst (λ m. RoseAtLeast (missed_of (d ∷ [])) a.missed m) (sym (ap (λ (t : LinkTold). t.missed) e)) l.rose;
  out_of_memory =
      let whole : ((left_out_by d + 0) + 0) + 1 ≡ (left_out_by d + 0) + 1 = omega arith in
      subst (λ k. Counted k a.out_of_memory c.out_of_memory) whole (counted_add ((left_out_by d + 0) + 0) 1 a.out_of_memory b.out_of_memory c.out_of_memory l.out_of_memory (counted_one b.out_of_memory c.out_of_memory once));
  reliable = l.reliable;
}

-- a string arrives or is left out
arrives_licensed : (a b : LinkTold) → b.missed ≡ a.missed → b.out_of_memory ≡ a.out_of_memory → AreLicensed (Arrives ∷ []) 0 a b
arrives_licensed a b e f = record { rose = e; out_of_memory = counted_none a.out_of_memory b.out_of_memory f; reliable = λ _. refl }

left_out_licensed : (a b : LinkTold) → b.missed ≡ a.missed → RoseOnce a.out_of_memory b.out_of_memory → AreLicensed (IsLeftOut ∷ []) 0 a b
left_out_licensed a b e once = record { rose = e; out_of_memory = counted_one a.out_of_memory b.out_of_memory once; reliable = λ _. refl }

-- a note more in the log, and nothing else
pub one_note : (old new : LinkTold) (note : LinkNote) → new ≡ record old { log = then_told old.log (note ∷ []); out_of_memory_last = false } → Goes old new (note ∷ [])
one_note old new note e = record {
  log = ap (λ (t : LinkTold). t.log) e;
  coming = ap (λ (t : LinkTold). t.coming) e;
  faults = ap (λ (t : LinkTold). t.faults) e;
  reliable = ap (λ (t : LinkTold). t.is_reliable) e;
}

-- a call that found no memory leaves no note
wanted_none : (old new : LinkTold) → Wants old new → Goes old new []
wanted_none old new (e, once) = record {
  log = ap (λ (t : LinkTold). t.log) e ∙ sym (then_told-nil old.log);
  coming = ap (λ (t : LinkTold). t.coming) e;
  faults = ap (λ (t : LinkTold). t.faults) e;
  reliable = ap (λ (t : LinkTold). t.is_reliable) e;
}

-- nothing to say
pub told_nothing : (told : LinkTold) (r : Reply) → r.said ≡ [] → Told told told r (not r.closes)
told_nothing told r none = record {
  delivery = Arrives;
  licensed = arrives_licensed told told refl refl;
  stays_is = ap (λ said. remains Arrives said r.closes) (sym none);
  goes = subst (λ said. Goes told told (string_notes Arrives r.conn said)) (sym none) (goes_none told);
}

-- the string went out
pub told_sent : (old new : LinkTold) (conn : ℕ) (said : List ℕ) (closes : Bool) → (said ≡ [] → ⊥) → LinkSends old new conn said (Ok tt)
    → Told old new (record { conn = conn; said = said; closes = closes }) (not closes)
told_sent old new conn [] closes some sent = absurd (some refl)
told_sent old new conn (b ∷ bytes) closes some sent = record {
  delivery = Arrives;
  licensed = arrives_licensed old new (ap (λ (t : LinkTold). t.missed) sent) (ap (λ (t : LinkTold). t.out_of_memory) sent);
  stays_is = refl;
  goes = one_note old new (Sent conn (b ∷ bytes)) sent;
}

-- the string was missed, or no memory was found for it
pub told_not : (old new : LinkTold) (conn : ℕ) (said : List ℕ) (closes : Bool) (fault : Fault) → (said ≡ [] → ⊥) → LinkSends old new conn said (Err fault)
    → Told old new (record { conn = conn; said = said; closes = closes }) false
told_not old new conn [] closes fault some sent = absurd (some refl)
told_not old new conn (b ∷ bytes) closes Failed some sent = record {
  delivery = IsMissed;
  licensed = record {
    rose = rose_one old.missed new.missed sent.1;
    out_of_memory = counted_none old.out_of_memory new.out_of_memory (ap (λ (t : LinkTold). t.out_of_memory) sent.0);
    reliable = λ e. absurd (let wrong : true ≡ false = sym e ∙ sent.2 in cc);
  };
  stays_is = refl;
  goes = record {
    log = ap (λ (t : LinkTold). t.log) sent.0;
    coming = ap (λ (t : LinkTold). t.coming) sent.0;
    faults = ap (λ (t : LinkTold). t.faults) sent.0;
    reliable = ap (λ (t : LinkTold). t.is_reliable) sent.0;
  };
}
told_not old new conn (b ∷ bytes) closes NoMemory some sent = record {
  delivery = IsLeftOut;
  licensed = left_out_licensed old new (ap (λ (t : LinkTold). t.missed) sent.0) sent.1;
  stays_is = refl;
  goes = wanted_none old new sent;
}

-- a reply behind which its connection stays open
pub replied_open : (old new : LinkTold) (r : Reply) (stays : Bool) → stays ≡ true → Told old new r stays → Replied old new r (Ok true)
replied_open old new r stays open' t =
    let string = string_notes t.delivery r.conn r.said in
    let last : true ≡ remains t.delivery r.said r.closes = sym open' ∙ t.stays_is in
    (t.delivery, t.licensed, last, subst (λ n. Goes old new n) (sym (append-nil string) ∙ ap (λ b. string ++ close_notes r.conn b) last) t.goes)

-- a reply behind which its connection is closed
pub replied_closed : (old mid new : LinkTold) (r : Reply) (stays : Bool) → stays ≡ false → Told old mid r stays → new ≡ record mid { log = then_told mid.log (Closed r.conn ∷ []); out_of_memory_last = false }
    → Replied old new r (Ok false)
replied_closed old mid new r stays shut t is =
    let string = string_notes t.delivery r.conn r.said in
    let last : false ≡ remains t.delivery r.said r.closes = sym shut ∙ t.stays_is in (
      t.delivery,
      record {
        rose = subst (λ m. RoseAtLeast (missed_of (t.delivery ∷ [])) old.missed m) (sym (ap (λ (l : LinkTold). l.missed) is)) t.licensed.rose;
        out_of_memory = subst (λ m. Counted (left_out_of (t.delivery ∷ []) + 0) old.out_of_memory m) (sym (ap (λ (l : LinkTold). l.out_of_memory) is)) t.licensed.out_of_memory;
        reliable = t.licensed.reliable;
      },
      last,
      subst (λ n. Goes old new n) (ap (λ b. string ++ close_notes r.conn b) last) (goes_on_goes old mid new string (Closed r.conn ∷ []) t.goes (one_note mid new (Closed r.conn) is)),
    )

-- a reply whose close found no memory
pub replied_unclosed : (old mid new : LinkTold) (r : Reply) (stays : Bool) (w : WantOfMemory) (result : Result Bool WantOfMemory) → result ≡ Err w → stays ≡ false
    → Told old mid r stays → Wants mid new → Replied old new r result
replied_unclosed old mid new r stays w result failed closes t wants =
    let string = string_notes t.delivery r.conn r.said in
    let last : remains t.delivery r.said r.closes ≡ false = sym t.stays_is ∙ closes in
    subst (Replied old new r) (sym failed) (
      t.delivery,
      unclosed_more t.delivery old mid new t.licensed wants,
      Closed r.conn ∷ [],
      string,
      ap (λ b. string ++ close_notes r.conn b) last,
      subst (λ n. Goes old new n) (append-nil string) (goes_on_goes old mid new string [] t.goes (wanted_none mid new wants)),
      record { conn = r.conn; rest = []; more_is = refl; out_of_memory_last = ap (λ (t : LinkTold). t.out_of_memory_last) wants.0 },
    )

-- the link did more after this
did_more : (P : List LinkNote → Type 0) (all more : List LinkNote) (old mid new : LinkTold) (result : Result (Unit {0}) WantOfMemory)
    → Goes old mid all → Did (λ notes left. P left) more mid new result → Did (λ notes left. P left) (all ++ more) old new result
did_more P all more old mid new (Ok x) g d = record {
  notes = all ++ d.notes;
  goes = goes_on_goes old mid new all d.notes g d.goes;
  whole = ap (λ n. all ++ n) d.whole;
}
did_more P all more old mid new (Err e) g d = record {
  notes = all ++ d.notes;
  goes = goes_on_goes old mid new all d.notes g d.goes;
  whole = (d.whole.0, ap (λ n. all ++ n) d.whole.1 ∙ sym (append_assoc all d.notes d.whole.0), d.whole.2);
}

-- no reply is to be sent
sends_none : (told : LinkTold) (seats seats' : Seats) → seats' ≡ seats
    → (ds : List Delivery) × AreLicensed ds 0 told told × Sends (delivered ds seats []) told told seats' (Ok tt)
sends_none told seats seats' same =
    ([], none_licensed told told refl refl, record { did = record { notes = []; goes = goes_none told; whole = refl }; seats_are = same })

-- a reply went out, and then the others
sends_more : (old mid new : LinkTold) (seats seats1 seats2 : Seats) (r : Reply) (rs : List Reply) (stays : Bool) (result : Result (Unit {0}) WantOfMemory)
    → Replied old mid r (Ok stays) → seats1 ≡ after_reply stays r.conn seats
    → (ds : List Delivery) × AreLicensed ds (unclosed_by result) mid new × Sends (delivered ds seats1 rs) mid new seats2 result
    → (ds : List Delivery) × AreLicensed ds (unclosed_by result) old new × Sends (delivered ds seats (r ∷ rs)) old new seats2 result
sends_more old mid new seats seats1 seats2 r rs stays result (d, licensed, is, goes) kept (ds, more, s) =
    let same : seats1 ≡ after_reply (remains d r.said r.closes) r.conn seats = kept ∙ ap (λ b. after_reply b r.conn seats) is in
    let s' = subst (λ l. Sends (delivered ds l rs) mid new seats2 result) same s in (
      d ∷ ds,
      licensed_more d ds (unclosed_by result) old mid new licensed goes.reliable more,
      record {
        did = did_more (λ left. StopsAtClose left new) (reply_notes d r) (delivered ds (after_reply (remains d r.said r.closes) r.conn seats) rs).notes old mid new result goes s'.did;
        seats_are = s'.seats_are;
      },
    )

-- a reply's close found no memory
sends_stopped : (old new : LinkTold) (seats seats2 : Seats) (r : Reply) (rs : List Reply) (w v : WantOfMemory) (result : Result (Unit {0}) WantOfMemory) → result ≡ Err v
    → Replied old new r (Err w)
    → (ds : List Delivery) × AreLicensed ds (unclosed_by result) old new × Sends (delivered ds seats (r ∷ rs)) old new seats2 result
sends_stopped old new seats seats2 r rs w v result failed (d, licensed, more, notes, e, goes, stops) =
    let rest = (delivered [] (after_reply (remains d r.said r.closes) r.conn seats) rs).notes in (
      d ∷ [],
      subst (λ (q : Result (Unit {0}) WantOfMemory). AreLicensed (d ∷ []) (unclosed_by q) old new) (sym failed) licensed,
      subst (λ q. Sends (delivered (d ∷ []) seats (r ∷ rs)) old new seats2 q) (sym failed)
          (record {
            did = record {
              notes = notes;
              goes = goes;
              whole = (
                more ++ rest,
                ap (λ n. n ++ rest) e ∙ append_assoc notes more rest,
                record { conn = stops.conn; rest = stops.rest ++ rest; more_is = ap (λ n. n ++ rest) stops.more_is; out_of_memory_last = stops.out_of_memory_last },
              );
            };
            seats_are = tt;
          }),
    )

-- ---- replies in a loop

-- the strings of these replies went out, or as far as memory was found
abbrev pub SendsAll : List Reply → Seats → LinkTold → LinkTold → Seats → Result (Unit {0}) WantOfMemory → Type 0
SendsAll rs seats old new seats' result = (ds : List Delivery) × AreLicensed ds (unclosed_by result) old new × Sends (delivered ds seats rs) old new seats' result

-- what the replies that are left lead to from now on is what all lead to
abbrev pub SendsOn : LinkTold → LinkTold → Seats → Seats → List Reply → List Reply → Type 0
SendsOn old mid seats seats1 left all =
    (new : LinkTold) (seats' : Seats) (result : Result (Unit {0}) WantOfMemory) → SendsAll left seats1 mid new seats' result → SendsAll all seats old new seats' result

-- one reply more went out
pub sends_on_more : (old mid mid' : LinkTold) (seats seats1 seats2 : Seats) (r : Reply) (left rs all : List Reply) (stays : Bool) → left ≡ r ∷ rs
    → Replied mid mid' r (Ok stays) → seats2 ≡ after_reply stays r.conn seats1
    → SendsOn old mid seats seats1 left all → SendsOn old mid' seats seats2 rs all
sends_on_more old mid mid' seats seats1 seats2 r left rs all stays is replied kept before new seats' result s =
    before new seats' result (subst (λ (l : List Reply). SendsAll l seats1 mid new seats' result) (sym is) (sends_more mid mid' new seats1 seats2 seats' r rs stays result replied kept s))

-- all went out
pub sends_on_all : (old mid : LinkTold) (seats seats1 : Seats) (left all : List Reply) → left ≡ [] → SendsOn old mid seats seats1 left all → SendsAll all seats old mid seats1 (Ok tt)
sends_on_all old mid seats seats1 left all none before =
    before mid seats1 (Ok tt) (subst (λ (l : List Reply). SendsAll l seats1 mid mid seats1 (Ok tt)) (sym none) (sends_none mid seats1 seats1 refl))

-- the close of the next found no memory
pub sends_on_stopped : (old mid new : LinkTold) (seats seats1 seats' : Seats) (r : Reply) (left rs all : List Reply) (w v : WantOfMemory) (result : Result (Unit {0}) WantOfMemory) → left ≡ r ∷ rs
    → result ≡ Err v → Replied mid new r (Err w) → SendsOn old mid seats seats1 left all → SendsAll all seats old new seats' result
sends_on_stopped old mid new seats seats1 seats' r left rs all w v result is failed replied before =
    before new seats' result (subst (λ (l : List Reply). SendsAll l seats1 mid new seats' result) (sym is) (sends_stopped mid new seats1 seats' r rs w v result failed replied))
