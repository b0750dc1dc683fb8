-- A unit that wants texts: they were read, or not.
use Rattle.std.proofs.Common.{◌≡◌, ◌⊎◌, ℕ, suc, Bool, IfOk, IsTrue, Result, true, false, true≢false, cond, ◌||◌, List, [], ◌∷◌, length, unwrap_or, Ok, Err, refl, ap, subst, sym, ◌∙◌, inl, inr, arith}
use Rattle.std.specs.Prelude.{IsErrOf}
use Rattle.std.specs.Coded.{codes}
use Rattle.undo_outside.specs.Disk.{DiskTold, ReadFailed}
use Rattle.seal_log.specs.declared.fault.ReadFault.{ReadFault}
use Rattle.seal_log.specs.declared.fault.ReadFault.TheVariants.{Disk, NoMemory}
use Rattle.verb_core.specs.declared.mailbox.Body.{Body}
use Rattle.verb_bytes.specs.declared.journal.JournalRecord.{JournalRecord}
use Rattle.seal_log.specs.Causes.{ReadAtCause}
use Rattle.mail_loop.specs.declared.out.Out.{Out}
use Rattle.mail_loop.specs.declared.out.Out.TheVariants.{Say, Read, Submit, Bye}
use Rattle.store_kept.specs.Kept.{Kept}
use Rattle.store_kept.specs.Texts.{text_kept, texts_kept}
use Rattle.desk_journal.specs.Lasting.{Lasting}
use Rattle.desk_journal.specs.Reading.{IsStill, Reads, ReadsWell, none_read, wrong_once}
use Rattle.mail_loop.specs.TurnCounts.{TurnCounts, read_so, wanting}
use Rattle.desk_journal.specs.Stored.{HoldsTexts, is_recorded}
use Rattle.desk_journal.specs.Telling.{with_memory}
use Rattle.console_session.proofs.Deciding.{IsSame, decided}
use Rattle.mail_loop.specs.declared.reply.Reply.{Reply}
use Rattle.mail_loop.specs.Asked.{HaveSealed}
use Rattle.mail_loop.specs.Session.{Speech, followed, is_said, submits, took}
use Rattle.mail_loop.specs.Turn.{Turn, reading}
use Rattle.mail_loop.specs.Hindrance.{Hindrance, Misread, Service, misread, some_recorded, under}
use Rattle.mail_loop.specs.Took.{GoesOn, IsAwaitedLast, IsNext, IsOnlySaid, IsTold, ReadsNone, ReadsOutOfMemory, Takes, TakesTexts, given, reads_of}
use Rattle.mail_loop.proofs.Dialogs.{given_turn, quiet_submits, read_not, right_turn, submits_same, textless_turn, unread_turn, wrong_turn}
use Rattle.mail_loop.proofs.Sealed.{Nothing, Still, Then, chained_after, failed_sealed, still_sealed, unsealed, wrong_sealed}

-- two lists of texts are the same, or they are not
texts_decided : (x y : List (List ℕ)) → IsSame x y
texts_decided x y = decided (Prim.hlevel (codes)) x y

-- ---- the texts of those in memory

-- where no record has one, they are those that are kept
all_kept : (kept : Kept) (bodies : List Body) (texts : List (List ℕ)) → length texts ≡ length bodies → some_recorded kept bodies ≡ false → with_memory kept bodies texts ≡ texts_kept kept bodies
all_kept kept [] texts count none = refl
all_kept kept (body ∷ bodies) [] count none = absurd (let wrong : 0 ≡ suc (length bodies) = count in omega (arith, wrong))
all_kept kept (body ∷ bodies) (text ∷ texts) count none =
    let apart = neither (is_recorded kept kept.timeline body) (some_recorded kept bodies) none in
    let rest = all_kept kept bodies texts (let size : suc (length texts) ≡ suc (length bodies) = count in omega (arith, size)) apart.1 in
    λ j. cond (apart.0 j) text (unwrap_or (text_kept kept body) []) ∷ rest j
  where
    neither : (a b : Bool) → (a || b) ≡ false → (a ≡ false) × (b ≡ false)
    neither true b e = absurd (true≢false e)
    neither false b e = (refl, e)

-- others are given only where a record has some
other_recorded : (kept : Kept) (bodies : List Body) (texts : List (List ℕ)) → length texts ≡ length bodies → with_memory kept bodies texts ≡ texts → (texts ≡ texts_kept kept bodies → ⊥) → some_recorded kept bodies ≡ true
other_recorded kept bodies texts count memory other = by (some_recorded kept bodies) refl
  where
    by : (b : Bool) → some_recorded kept bodies ≡ b → b ≡ true
    by true e = refl
    by false e = absurd (other (sym memory ∙ all_kept kept bodies texts count e))

-- ---- what a session gives, with its texts or where it wants none

module _ {D : Type 0} (speech : Speech D) where
  -- what wants no texts is awaited, and followed, as what has them
  pub awaited_unread : (out : Out) (d : D) → ((bodies : List Body) → out ≡ Read bodies → ⊥) → IsNext speech out d → IsAwaitedLast speech out d
  awaited_unread (Say said) d unread is = is
  awaited_unread (Bye said) d unread is = is
  awaited_unread (Read bodies) d unread is = absurd (unread bodies refl)
  awaited_unread (Submit ask) d unread is = is

  unread_as : (desk : Service) (kept : Kept) (out : Out) (d : D) → ((bodies : List Body) → out ≡ Read bodies → ⊥) → submits speech desk kept out d ≡ followed speech desk kept out d
  unread_as desk kept (Say said) d unread = refl
  unread_as desk kept (Bye said) d unread = refl
  unread_as desk kept (Read bodies) d unread = absurd (unread bodies refl)
  unread_as desk kept (Submit ask) d unread = refl

  pub unread_followed : (S : List JournalRecord → TurnCounts → Type 0) (at : ℕ) (kept kept' : Kept) (out : Out) (d e : D) (old new : Reply) → ((bodies : List Body) → out ≡ Read bodies → ⊥)
      → (h : Hindrance) × Takes S (under h at kept (λ desk. submits speech desk kept out d)) old kept' e new
      → (h : Hindrance) × Takes S (under h at kept (λ desk. followed speech desk kept out d)) old kept' e new
  unread_followed S at kept kept' out d e old new unread t =
      subst (λ (f : Service → Turn D). (h : Hindrance) × Takes S (under h at kept f) old kept' e new) (λ j desk. unread_as desk kept out d unread j) t

  -- with its texts, or without them, a session wants none again
  pub awaited_on : (texts : Result (List (List ℕ)) ReadFault) (out : Out) (d : D) → GoesOn speech texts out d → IsAwaitedLast speech out d
  awaited_on (Ok texts) out d is = is
  awaited_on (Err why) (Say said) d is = is
  awaited_on (Err why) (Bye said) d wrong = absurd wrong
  awaited_on (Err why) (Read bodies) d wrong = absurd wrong
  awaited_on (Err why) (Submit ask) d wrong = absurd wrong

  pub said_alone : (out : Out) (d : D) → IsOnlySaid speech out d → is_said out ≡ true
  said_alone (Say said) d is = refl
  said_alone (Bye said) d wrong = absurd wrong
  said_alone (Read bodies) d wrong = absurd wrong
  said_alone (Submit ask) d wrong = absurd wrong

-- ---- texts that were read, and handed to the session

module _ {D : Type 0} (speech : Speech D) where
  -- a service that gives other texts, of which a record has some
  as_misread : (kept : Kept) (bodies : List Body) (texts : List (List ℕ)) (d : D) → some_recorded kept bodies ≡ true → with_memory kept bodies texts ≡ texts → (desk : Service)
      → followed speech (misread kept texts desk) kept (Read bodies) d ≡ reading wrong_once (given speech kept texts d desk)
  as_misread kept bodies texts d due memory desk =
      let m = misread kept texts desk in
      let u = speech.heard d (m.texts bodies) in
      ap (λ (t : Turn D). reading (m.reads bodies) t) (submits_same speech desk m.texts m.reads kept u.out u.dialog)
      ∙ ap (λ (b : Bool). let v = speech.heard d (Ok (cond b (with_memory kept bodies texts) (texts_kept kept bodies))) in reading (cond b wrong_once none_read) (submits speech desk kept v.out v.dialog)) due
      ∙ ap (λ (ts : List (List ℕ)). let v = speech.heard d (Ok ts) in reading wrong_once (submits speech desk kept v.out v.dialog)) memory

  module _ (S S' : List JournalRecord → TurnCounts → Type 0) (at : ℕ) (kept kept' : Kept) (bodies : List Body) (texts : List (List ℕ)) (d e : D) (old new : Reply) (memory : with_memory kept bodies texts ≡ texts) where
    -- where texts were read so before, S' holds of that and of the rest
    abbrev AsRead : Reads → Type 0
    AsRead r = (failed : List JournalRecord) (n : ℕ) → S failed (wanting n) → S' failed (record { reads = r; out_of_memory = n })

    -- they were those of the items in force, or others
    by_texts : AsRead none_read → (texts ≡ texts_kept kept bodies) ⊎ ((some_recorded kept bodies ≡ true) × AsRead wrong_once) → (h : Hindrance) → Takes S (under h at kept (given speech kept texts d)) old kept' e new
        → (h' : Hindrance) × Takes S' (under h' at kept (λ desk. followed speech desk kept (Read bodies) d)) old kept' e new
    by_texts none (inl right) h t =
        right_turn speech S S' at kept kept' e old new bodies d none h (subst (λ (x : List (List ℕ)). Takes S (under h at kept (given speech kept x d)) old kept' e new) right t)
    by_texts none (inr (due, wrong)) h t =
        let u = speech.heard d (Ok texts) in (
          Misread texts h,
          subst (λ (f : Service → Turn D). Takes S' (under h at kept f) old kept' e new) (λ j desk. sym (as_misread kept bodies texts d due memory desk) j)
              (wrong_turn speech S S' at kept kept' e old new none wrong h (given speech kept texts d) (λ desk. quiet_submits speech desk kept u.out u.dialog) t),
        )

    texts_turn : speech.takes_texts d ≡ true → AsRead none_read → (texts ≡ texts_kept kept bodies) ⊎ ((some_recorded kept bodies ≡ true) × AsRead wrong_once) → TakesTexts speech S at kept texts d old kept' e new
        → (h : Hindrance) × Takes S' (under h at kept (λ desk. followed speech desk kept (Read bodies) d)) old kept' e new
    texts_turn awaits none which (inl (h, t)) = by_texts none which h t
    texts_turn awaits none which (inr (t, same, seals)) =
        subst (λ (k : Kept). (h : Hindrance) × Takes S' (under h at kept (λ desk. followed speech desk kept (Read bodies) d)) old k e new) (sym same)
        (textless_turn speech S' at kept bodies d e old new awaits (none [] 0 seals) t)

module _ {D Dialog : Type 0} (told : D → DiskTold) (speech : Speech Dialog) where
  -- the texts came, and were handed to the session
  pub texts_given : Still told → Then told → (at : ℕ) (a b c : Lasting D) (bodies : List Body) (texts : List (List ℕ)) (d e : Dialog) (old new : Reply) → speech.takes_texts d ≡ true
      → IsStill told a b → ReadsWell told a b → (HoldsTexts told a → texts ≡ texts_kept a.kept bodies) → length texts ≡ length bodies → with_memory a.kept bodies texts ≡ texts
      → TakesTexts speech (HaveSealed told b c) at b.kept texts d old c.kept e new
      → (h : Hindrance) × Takes (HaveSealed told a c) (under h at a.kept (λ desk. followed speech desk a.kept (Read bodies) d)) old c.kept e new
  texts_given still then at a b c bodies texts d e old new awaits is well given count memory t =
      texts_turn speech (HaveSealed told b c) (HaveSealed told a c) at a.kept c.kept bodies texts d e old new memory awaits all (which (texts_decided texts (texts_kept a.kept bodies)))
      (subst (λ (k : Kept). TakesTexts speech (HaveSealed told b c) at k texts d old c.kept e new) is.kept t)
    where
      all : (failed : List JournalRecord) (n : ℕ) → HaveSealed told b c failed (wanting n) → HaveSealed told a c failed (wanting n)
      all failed n seals = chained_after told then a b c failed (wanting n) (still_sealed told still a b is well) seals

      which : IsSame texts (texts_kept a.kept bodies)
          → (texts ≡ texts_kept a.kept bodies)
          ⊎ ((some_recorded a.kept bodies ≡ true) × ((failed : List JournalRecord) (n : ℕ) → HaveSealed told b c failed (wanting n) → HaveSealed told a c failed (record { reads = wrong_once; out_of_memory = n })))
      which (inl same) = inl same
      which (inr other) = inr (other_recorded a.kept bodies texts count memory other, λ failed n seals. wrong_sealed told a c failed n (λ holds. other (given holds)) (all failed n seals))

  -- why texts did not come is told to the session: where the disk is why, a record has one of them
  pub texts_unread : Still told → (at : ℕ) (a b : Lasting D) (bodies : List Body) (why : ReadFault) (d e : Dialog) (old new : Reply) → speech.takes_texts d ≡ true
      → IsStill told a b → (why ≡ Disk → some_recorded a.kept bodies ≡ true) → (why ≡ Disk → ReadFailed (told a.disk) (told b.disk)) → (why ≡ NoMemory → ReadsWell told a b)
      → ReadsNone speech why b.kept d old e new
      → (h : Hindrance) × Takes (HaveSealed told a b) (under h at a.kept (λ desk. followed speech desk a.kept (Read bodies) d)) old b.kept e new
  texts_unread still at a b bodies why d e old new awaits is due cause well t =
      subst (λ (k : Kept). (h : Hindrance) × Takes (HaveSealed told a b) (under h at a.kept (λ desk. followed speech desk a.kept (Read bodies) d)) old k e new) (sym is.kept)
      (unread_turn speech (HaveSealed told a b) at a.kept bodies why d e old new awaits due (counts why cause well)
      (subst (λ (k : Kept). ReadsNone speech why k d old e new) is.kept t))
    where
      counts : (w : ReadFault) → (w ≡ Disk → ReadFailed (told a.disk) (told b.disk)) → (w ≡ NoMemory → ReadsWell told a b) → HaveSealed told a b [] (read_so (reads_of w))
      counts Disk failed stood = failed_sealed told still a b is (failed refl)
      counts NoMemory failed stood = still_sealed told still a b is (stood refl)

  -- what the session makes of its texts, or of why they did not come, and what follows from that
  pub texts_answered : Still told → Then told → (at : ℕ) (a b c : Lasting D) (bodies : List Body) (texts : Result (List (List ℕ)) ReadFault) (out : Out) (d e f : Dialog) (old new : Reply) → speech.takes_texts d ≡ true → old.closes ≡ false
      → IsStill told a b → ReadAtCause (told a.disk) (told b.disk) texts → (IsErrOf texts Disk → IsTrue (some_recorded a.kept bodies))
      → (HoldsTexts told a → IfOk texts (λ ts. ts ≡ texts_kept a.kept bodies)) → IfOk texts (λ ts. length ts ≡ length bodies) → IfOk texts (λ ts. with_memory a.kept bodies ts ≡ ts)
      → speech.heard d texts ≡ took out e → GoesOn speech texts out e → (is_said out ≡ true → (c ≡ b) × (f ≡ e) × IsTold out old new)
      → (h : Hindrance) × Takes (HaveSealed told b c) (under h at b.kept (λ desk. submits speech desk b.kept out e)) old c.kept f new
      → (h : Hindrance) × Takes (HaveSealed told a c) (under h at a.kept (λ desk. followed speech desk a.kept (Read bodies) d)) old c.kept f new
  texts_answered still then at a b c bodies (Ok texts) out d e f old new awaits stays is cause due holds count memory heard next said turn =
      texts_given still then at a b c bodies texts d f old new awaits is cause.ok holds count memory
      (given_turn speech (HaveSealed told b c) at b.kept c.kept texts out d e f old new heard turn)
  texts_answered still then at a b c bodies (Err why) out d e f old new awaits stays is cause due holds count memory heard next said turn =
      let (same, ends, says) = said (said_alone speech out e next) in
      subst (λ (x : Lasting D). (h : Hindrance) × Takes (HaveSealed told a x) (under h at a.kept (λ desk. followed speech desk a.kept (Read bodies) d)) old x.kept f new) (sym same)
      (subst (λ (x : Dialog). (h : Hindrance) × Takes (HaveSealed told a b) (under h at a.kept (λ desk. followed speech desk a.kept (Read bodies) d)) old b.kept x new) (sym ends)
      (texts_unread still at a b bodies why d e old new awaits is (λ w. due (ap Err w)) (λ w. cause.disk (ap Err w)) (λ w. cause.no_memory (ap Err w)) (read_not speech why b.kept d e out old new stays heard says)))

  -- no memory was found for what the session makes of them
  pub texts_unanswered : Still told → Then told → Nothing told → (at : ℕ) (a b : Lasting D) (bodies : List Body) (texts : Result (List (List ℕ)) ReadFault) (d e : Dialog) (old new : Reply) → speech.takes_texts d ≡ true
      → IsStill told a b → ReadAtCause (told a.disk) (told b.disk) texts → (IsErrOf texts Disk → IsTrue (some_recorded a.kept bodies))
      → (HoldsTexts told a → IfOk texts (λ ts. ts ≡ texts_kept a.kept bodies)) → IfOk texts (λ ts. length ts ≡ length bodies) → IfOk texts (λ ts. with_memory a.kept bodies ts ≡ ts)
      → ReadsOutOfMemory speech b.kept d old e new
      → (h : Hindrance) × Takes (HaveSealed told a b) (under h at a.kept (λ desk. followed speech desk a.kept (Read bodies) d)) old b.kept e new
  texts_unanswered still then nothing at a b bodies (Ok texts) d e old new awaits is cause due holds count memory t =
      texts_given still then at a b b bodies texts d e old new awaits is cause.ok holds count memory (inr (t, refl, unsealed told nothing b))
  texts_unanswered still then nothing at a b bodies (Err why) d e old new awaits is cause due holds count memory t =
      texts_unread still at a b bodies why d e old new awaits is (λ w. due (ap Err w)) (λ w. cause.disk (ap Err w)) (λ w. cause.no_memory (ap Err w)) (inr t)
