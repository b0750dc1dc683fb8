-- What comes of a call keeps what holds of each dialog, and says which call is due.
use Rattle.std.proofs.Common.{◌≡◌, ℕ, ◌≤◌, ◌+◌, ◌-◌, Bool, ◌||◌, true, false, cond, nat_lt, List, [], ◌∷◌, length, filter, find, take, refl, Option, None, Some, Result, Ok, Err, is_some, sym, ap, ◌∙◌, subst, true≢false, arith, option_map}
use Rattle.std.specs.Cmp.{first_so, second_so}
use Rattle.std.specs.Prelude.{unwrap_or, IfOk, OnErr}
use Rattle.std.specs.List.{list_all, list_any, position_or_len, suffix_len}
use Rattle.smtp_lines.specs.Parts.{is_space, trimmed}
use Rattle.std.specs.Ordering.{eq_by_cmp}
use Rattle.std.proofs.lemmas.Bool.{ltb-false}
use Rattle.std.proofs.lemmas.List.{length-drop, length-map, length-set, length-take-le}
use Rattle.undo_base.specs.declared.keys.Key.{Key}
use Rattle.undo_base.specs.declared.keys.User.{User}
use Rattle.seal_log.specs.declared.fault.ReadFault.{ReadFault}
use Rattle.smtp_lines.specs.declared.line.SmtpLine.{SmtpLine}
use Rattle.verb_core.specs.declared.ask.SubmitFault.{SubmitFault}
use Rattle.verb_core.specs.declared.ask.SubmitFault.TheVariants.{Refused as WasRefused, Disk, Closed}
use Rattle.verb_core.specs.declared.conf.House.{House}
use Rattle.verb_core.specs.declared.item.Item.{Item}
use Rattle.verb_core.specs.declared.mailbox.Body.{Body}
use Rattle.verb_core.specs.declared.mailbox.BoxId.{BoxId}
use Rattle.verb_core.specs.declared.mailbox.Entry.{Entry}
use Rattle.verb_core.specs.declared.mailbox.Mailbox.{Mailbox}
use Rattle.verb_core.specs.Boxes.{box_cmp, box_of, mail_at, row_at, same_user}
use Rattle.verb_core.specs.Live.{mail_of}
use Rattle.verb_core.specs.Mailboxes.{entry_of, same_key}
use Rattle.verb_core.specs.Names.{inbox}
use Rattle.verb_core.specs.Store.{MailStore, is_known}
use Rattle.pop_session.specs.declared.answer.Answer.{Answer}
use Rattle.pop_session.specs.declared.answer.Answer.TheVariants.{Closing, DiskFault, Marked, TooMany}
use Rattle.pop_session.specs.declared.command.Command.{Command}
use Rattle.pop_session.specs.declared.command.Command.TheVariants as command
use Rattle.pop_session.specs.declared.dialog.Awaits.{Awaits}
use Rattle.pop_session.specs.declared.dialog.Awaits.TheVariants.{Nothing, Text, Outcome}
use Rattle.pop_session.specs.declared.dialog.Dialog.{Dialog}
use Rattle.pop_session.specs.declared.dialog.Pending.{Pending}
use Rattle.pop_session.specs.declared.dialog.Pending.TheVariants as on
use Rattle.pop_session.specs.declared.dialog.Stage.{Stage}
use Rattle.pop_session.specs.declared.dialog.Stage.TheVariants.{Authorization, Transaction}
use Rattle.pop_session.specs.declared.dialog.Wanted.{Wanted}
use Rattle.pop_session.specs.declared.maildrop.Detail.{Detail}
use Rattle.pop_session.specs.declared.maildrop.Detail.TheVariants.{Octets, UniqueId}
use Rattle.pop_session.specs.declared.maildrop.Maildrop.{Maildrop}
use Rattle.pop_session.specs.declared.maildrop.Message.{Message}
use Rattle.pop_session.specs.declared.out.PopOut.{PopOut}
use Rattle.pop_session.specs.declared.out.PopOut.TheVariants.{Say}
use Rattle.pop_session.specs.Command.{Reading, argument_of, command_of, is_too_long}
use Rattle.pop_session.specs.Maildrop.{detail_answer, keys_of, maildrop_of, marked_keys, message_at, with_mark, without_marks}
use Rattle.pop_session.specs.Dialog.{AsksAsUser, IsNext, ReadsOf, Took, on_message, asks, ends, fetch_of, give_password, done, heard, heard_in, hears, is_outcome, is_text, refused_in, settle, user_pending, holds_all, is_at_home, is_free, leave, log_in, mark, nameless, obey, read_text, retrieve, says, settle_in, tell, took, turn, undone_in, with_messages}
use Rattle.pop_session.specs.Sound.{IsSmallDrop, IsSoundDialog, IsStage, held_in, held_of, messages_in}

-- ---- what a store holds

held_found : (test : Body → Bool) (p : Entry → Bool) (es : List Entry) (e : Entry) → list_all (λ (x : Entry). test x.body) es ≡ true → find p es ≡ Some e → test e.body ≡ true
held_found test p [] e held found = absurd (true≢false (sym (ap is_some found)))
held_found test p (x ∷ es) e held found = by_test (p x) found (λ is. held_found test p es e (second_so _ _ held) is)
  where
    by_test : (b : Bool) → cond b (Some x) (find p es) ≡ Some e → (find p es ≡ Some e → test e.body ≡ true) → test e.body ≡ true
    by_test true is later = subst (λ (o : Option Entry). unwrap_or (option_map (λ (y : Entry). test y.body) o) true ≡ true) is (first_so _ _ held)
    by_test false is later = later is

held_mail : (test : Body → Bool) (id : BoxId) (rows : List (BoxId × Mailbox)) → holds_all test rows ≡ true → list_all (λ (x : Entry). test x.body) (mail_at id rows) ≡ true
held_mail test id [] held = refl
held_mail test id (r ∷ rows) held =
    elim (eq_by_cmp box_cmp id r.0) as (λ b. list_all (λ (x : Entry). test x.body) (unwrap_or (option_map (λ (m : Mailbox). m.entries) (cond b (Some r.1) (row_at id rows))) []) ≡ true) [
      | true ↦ first_so _ _ held
      | false ↦ held_mail test id rows (second_so _ _ held)
    ]

-- a filter keeps no more than there was
kept_fewer : {X : Type 0} (test : X → Bool) (xs : List X) → length (filter test xs) ≤ length xs
kept_fewer test [] = omega arith
kept_fewer test (x ∷ xs) = elim (test x) as (λ b. length (cond b (x ∷ filter test xs) (filter test xs)) ≤ length (x ∷ xs)) [
  | true ↦ omega (arith, kept_fewer test xs)
  | false ↦ omega (arith, kept_fewer test xs)
]

marked_fewer : (messages : List Message) → length messages ≤ 65536 → length (marked_keys messages) ≤ 65536
marked_fewer messages small =
    let same : length (marked_keys messages) ≡ length (filter (λ (m : Message). m.marked) messages) = length-map (filter (λ (m : Message). m.marked) messages) (λ (m : Message). m.key) in
    omega (arith, same, kept_fewer (λ (m : Message). m.marked) messages, small)

second_false : (a b : Bool) → (a || b) ≡ false → b ≡ false
second_false true b h = absurd (true≢false h)
second_false false b h = h

-- what stands in a line is no longer than the line
argument_short : (line : SmtpLine) → is_too_long line ≡ false → length (argument_of line) ≤ 1022
argument_short line fits =
    let bytes = line.bytes in
    let cut = length bytes - suffix_len is_space bytes in
    let place = position_or_len is_space (trimmed bytes) + 1 in
    let behind : length (argument_of line) ≡ length (take cut bytes) - place = length-drop place (take cut bytes) in
    let front : length (take cut bytes) ≡ cut = length-take-le cut bytes (omega arith) in
    let small : length bytes ≤ 1022 = ltb-false 1022 (length bytes) (second_false line.long _ fits) in
    omega (arith, behind, front, small)

-- ---- one line

pub record IsFine (house : House) (s : MailStore) (old : Dialog) (t : Took) : Type 0 where
  pub sound : IsSoundDialog t.dialog
  pub next : IsNext t.out t.dialog
  pub user : AsksAsUser t.out t.dialog
  pub reads : ReadsOf s t.out
  pub home : is_at_home house old ≡ true → is_at_home house t.dialog ≡ true

-- a stage, and nothing is awaited
abbrev resting : Stage → Dialog
resting stage = record { stage = stage; awaits = Nothing }

sound_at : (stage : Stage) → IsStage stage → IsSoundDialog (resting stage)
sound_at stage is = record { stage = is; awaits = tt; user = λ h. absurd (true≢false h); login = λ h. absurd (true≢false (sym h)) }

module _ (house : House) (s : MailStore) where
  fine_end : (old : Dialog) (answer : Answer) → IsFine house s old (ends answer)
  fine_end old answer = record { sound = sound_at (Authorization None) tt; next = refl; user = tt; reads = tt; home = λ h. refl }

  fine_out : (old : Dialog) (name : Option (List ℕ)) (text : List ℕ) → IsStage (Authorization name) → IsFine house s old (took (Say text) (resting (Authorization name)))
  fine_out old name text is = record { sound = sound_at (Authorization name) is; next = refl; user = tt; reads = tt; home = λ h. refl }

  fine_in : (awaits : Awaits) (u : User) (old new : Maildrop) (text : List ℕ) → IsSmallDrop new → IsFine house s (record { stage = Transaction u old; awaits = awaits }) (took (Say text) (resting (Transaction u new)))
  fine_in awaits u old new text is = record { sound = sound_at (Transaction u new) is; next = refl; user = tt; reads = tt; home = λ h. h }

  fine_if : (old : Dialog) (b : Bool) (x y : Took) → IsFine house s old x → IsFine house s old y → IsFine house s old (cond b x y)
  fine_if old true x y f g = f
  fine_if old false x y f g = g

  -- ---- before login

  module _ (name : Option (List ℕ)) (is : IsStage (Authorization name)) where
    fine_enter : (u : User) (drop : Maildrop) (b : Bool) → nat_lt 65536 (length drop.messages) ≡ b → is_known house u ≡ true
        → IsFine house s (resting (Authorization name)) (cond b (says TooMany (nameless (resting (Authorization name)))) (asks (fetch_of (keys_of drop.messages) false) (on.Enter u drop) (resting (Authorization name))))
    fine_enter u drop true large known = fine_out (resting (Authorization name)) None _ tt
    fine_enter u drop false small known = record {
      sound = record { stage = is; awaits = ltb-false 65536 (length drop.messages) small; user = λ h. refl; login = λ h. refl };
      next = refl;
      user = (refl, refl);
      reads = tt;
      home = λ h. known;
    }

    fine_log_in : (stamps : List (BoxId × ℕ)) (sizes : Body → Option ℕ) (in_use : List User) (b : Bool) (number : ℕ) → nat_lt number (length house.accounts) ≡ b
        → IsFine house s (resting (Authorization name)) (log_in s stamps sizes in_use (cond b (Some number) None) (resting (Authorization name)))
    fine_log_in stamps sizes in_use false number known = fine_out (resting (Authorization name)) None _ tt
    fine_log_in stamps sizes in_use true number known =
        let u : User = record { 0 = number } in
        fine_if (resting (Authorization name)) (list_any (same_user u) in_use) _ _ (fine_out (resting (Authorization name)) None _ tt) (fine_enter u (maildrop_of s stamps sizes u) _ refl known)

  fine_password : (stamps : List (BoxId × ℕ)) (sizes : Body → Option ℕ) (in_use : List User) (name : Option (List ℕ)) (password : List ℕ) → IsStage (Authorization name)
      → IsFine house s (resting (Authorization name)) (give_password house s stamps sizes in_use name password (resting (Authorization name)))
  fine_password stamps sizes in_use None password is = fine_out (resting (Authorization None)) None _ is
  fine_password stamps sizes in_use (Some name) password is = fine_log_in (Some name) is stamps sizes in_use _ _ refl

  fine_out_obey : (stamps : List (BoxId × ℕ)) (sizes : Body → Option ℕ) (in_use : List User) (name : Option (List ℕ)) (argument : List ℕ) (asked : Command) → IsStage (Authorization name) → length argument ≤ 1022
      → IsFine house s (resting (Authorization name)) (obey house s stamps sizes in_use argument (resting (Authorization name)) asked)
  fine_out_obey stamps sizes in_use name argument command.User is short = fine_out (resting (Authorization name)) (Some argument) _ short
  fine_out_obey stamps sizes in_use name argument command.Pass is short = fine_password stamps sizes in_use name argument is
  fine_out_obey stamps sizes in_use name argument command.Stat is short = fine_out (resting (Authorization name)) name _ is
  fine_out_obey stamps sizes in_use name argument (command.List message) is short = fine_out (resting (Authorization name)) name _ is
  fine_out_obey stamps sizes in_use name argument (command.Retr message) is short = fine_out (resting (Authorization name)) name _ is
  fine_out_obey stamps sizes in_use name argument (command.Dele message) is short = fine_out (resting (Authorization name)) name _ is
  fine_out_obey stamps sizes in_use name argument command.Noop is short = fine_out (resting (Authorization name)) name _ is
  fine_out_obey stamps sizes in_use name argument command.Rset is short = fine_out (resting (Authorization name)) name _ is
  fine_out_obey stamps sizes in_use name argument (command.Top message lines) is short = fine_out (resting (Authorization name)) name _ is
  fine_out_obey stamps sizes in_use name argument (command.Uidl message) is short = fine_out (resting (Authorization name)) name _ is
  fine_out_obey stamps sizes in_use name argument command.Quit is short = fine_end (resting (Authorization name)) Closing

  -- ---- logged in

  module _ (u : User) (drop : Maildrop) (is : IsSmallDrop drop) where
    abbrev entered : Dialog
    entered = resting (Transaction u drop)

    same : (text : List ℕ) → IsFine house s entered (took (Say text) entered)
    same text = fine_in Nothing u drop drop text is

    fine_message : (act : Message → Took) (o : Option Message) → ((m : Message) → IsFine house s entered (act m)) → IsFine house s entered (on_message act o entered)
    fine_message act None each = same _
    fine_message act (Some m) each = each m

    fine_tell : (detail : Detail) (number : Option ℕ) → IsFine house s entered (tell detail number drop entered)
    fine_tell detail None = same _
    fine_tell detail (Some number) = fine_message (λ m. says (detail_answer detail drop.stamp number m) entered) (message_at drop.messages number) (λ m. same _)

    fine_read : (o : Option Entry) (wanted : Wanted) → ((e : Entry) (test : Body → Bool) → o ≡ Some e → holds_all test s.boxes ≡ true → test e.body ≡ true) → IsFine house s entered (read_text o wanted entered)
    fine_read None wanted held = same _
    fine_read (Some e) wanted held = record {
      sound = record { stage = is; awaits = tt; user = λ h. refl; login = λ h. absurd (true≢false (sym h)) };
      next = refl;
      user = tt;
      reads = λ test h. held e test refl h;
      home = λ h. h;
    }

    fine_retrieve : (number : ℕ) (lines : Option ℕ) → IsFine house s entered (retrieve s number lines (Transaction u drop) entered)
    fine_retrieve number lines = fine_message (λ m. read_text (entry_of (mail_of s (Some u) inbox) m.key) (record { key = m.key; size = m.size; lines = lines }) entered) (message_at drop.messages number)
        (λ m. fine_read (entry_of (mail_of s (Some u) inbox) m.key) (record { key = m.key; size = m.size; lines = lines })
        (λ e test found held. held_found test (λ (x : Entry). same_key m.key x.key) (mail_of s (Some u) inbox) e (held_mail test (box_of u inbox) s.boxes held) found))

    fine_mark : (number : ℕ) → IsFine house s entered (mark number (Transaction u drop) entered)
    fine_mark number = fine_message (λ m. says Marked (with_messages u drop (with_mark drop.messages number m) entered)) (message_at drop.messages number)
        (λ m. fine_in Nothing u drop (record drop { messages = with_mark drop.messages number m }) _ (subst (λ n. n ≤ 65536) (sym (length-set drop.messages (number - 1) (record m { marked = true }))) is))

    fine_leave : (keys : List Key) → length keys ≤ 65536 → IsFine house s entered (leave keys entered)
    fine_leave [] few = fine_end entered Closing
    fine_leave (key ∷ keys) few = record {
      sound = record { stage = is; awaits = few; user = λ h. refl; login = λ h. absurd (true≢false (sym h)) };
      next = refl;
      user = (refl, refl);
      reads = tt;
      home = λ h. h;
    }

    fine_in_obey : (stamps : List (BoxId × ℕ)) (sizes : Body → Option ℕ) (in_use : List User) (argument : List ℕ) (asked : Command) → IsFine house s entered (obey house s stamps sizes in_use argument entered asked)
    fine_in_obey stamps sizes in_use argument command.User = same _
    fine_in_obey stamps sizes in_use argument command.Pass = same _
    fine_in_obey stamps sizes in_use argument command.Stat = same _
    fine_in_obey stamps sizes in_use argument (command.List message) = fine_tell Octets message
    fine_in_obey stamps sizes in_use argument (command.Retr message) = fine_retrieve message None
    fine_in_obey stamps sizes in_use argument (command.Dele message) = fine_mark message
    fine_in_obey stamps sizes in_use argument command.Noop = same _
    fine_in_obey stamps sizes in_use argument command.Rset = fine_in Nothing u drop (record drop { messages = without_marks drop.messages }) _ (subst (λ n. n ≤ 65536) (sym (length-map drop.messages (λ (m : Message). record m { marked = false }))) is)
    fine_in_obey stamps sizes in_use argument (command.Top message lines) = fine_retrieve message (Some lines)
    fine_in_obey stamps sizes in_use argument (command.Uidl message) = fine_tell UniqueId message
    fine_in_obey stamps sizes in_use argument command.Quit = fine_leave (marked_keys drop.messages) (marked_fewer drop.messages is)

  fine_obey : (stamps : List (BoxId × ℕ)) (sizes : Body → Option ℕ) (in_use : List User) (stage : Stage) (argument : List ℕ) (asked : Command) → IsStage stage → length argument ≤ 1022
      → IsFine house s (resting stage) (obey house s stamps sizes in_use argument (resting stage) asked)
  fine_obey stamps sizes in_use (Authorization name) argument asked is short = fine_out_obey stamps sizes in_use name argument asked is short
  fine_obey stamps sizes in_use (Transaction u drop) argument asked is short = fine_in_obey u drop is stamps sizes in_use argument asked

  fine_says : (stage : Stage) (text : List ℕ) → IsStage stage → IsFine house s (resting stage) (took (Say text) (resting stage))
  fine_says (Authorization name) text is = fine_out (resting (Authorization name)) name text is
  fine_says (Transaction u drop) text is = fine_in Nothing u drop drop text is

  fine_hears : (stamps : List (BoxId × ℕ)) (sizes : Body → Option ℕ) (in_use : List User) (stage : Stage) (argument : List ℕ) (reading : Reading) → IsStage stage → length argument ≤ 1022
      → IsFine house s (resting stage) (hears house s stamps sizes in_use argument (resting stage) reading)
  fine_hears stamps sizes in_use stage argument (Ok asked) is short = fine_obey stamps sizes in_use stage argument asked is short
  fine_hears stamps sizes in_use stage argument (Err refused) is short = fine_says stage _ is

  fine_line : (stamps : List (BoxId × ℕ)) (sizes : Body → Option ℕ) (in_use : List User) (stage : Stage) (line : SmtpLine) → IsStage stage → IsFine house s (resting stage) (turn house s stamps sizes in_use (resting stage) line)
  fine_line stamps sizes in_use stage line is = by_length (is_too_long line) refl
    where
      by_length : (b : Bool) → is_too_long line ≡ b → IsFine house s (resting stage) (turn house s stamps sizes in_use (resting stage) line)
      by_length true long = rw long (fine_says stage _ is)
      by_length false fits = fine_hears stamps sizes in_use stage (argument_of line) (command_of line) is (argument_short line fits)

  pub fine_turn : (stamps : List (BoxId × ℕ)) (sizes : Body → Option ℕ) (in_use : List User) (d : Dialog) (line : SmtpLine) → IsSoundDialog d → is_free d ≡ true → IsFine house s d (turn house s stamps sizes in_use d line)
  fine_turn stamps sizes in_use d line sound free = at_rest_is d.awaits free
    where
      at_rest_is : (awaits : Awaits) → is_free (record { stage = d.stage; awaits = awaits }) ≡ true
          → IsFine house s (record { stage = d.stage; awaits = awaits }) (turn house s stamps sizes in_use (record { stage = d.stage; awaits = awaits }) line)
      at_rest_is Nothing h = fine_line stamps sizes in_use d.stage line sound.stage
      at_rest_is (Text wanted) h = absurd (true≢false (sym h))
      at_rest_is (Outcome pending) h = absurd (true≢false (sym h))

-- ---- what was awaited

pub record IsSettled (old : Dialog) (t : Took) : Type 0 where
  pub sound : IsSoundDialog t.dialog
  pub next : IsNext t.out t.dialog
  pub user : AsksAsUser t.out t.dialog
  pub home : (house : House) → is_at_home house old ≡ true → is_at_home house t.dialog ≡ true

-- ---- texts and outcomes

settled_end : (old : Dialog) (answer : Answer) → IsSettled old (ends answer)
settled_end old answer = record { sound = sound_at (Authorization None) tt; next = refl; user = tt; home = λ house h. refl }

settled_out : (old : Dialog) (name : Option (List ℕ)) (text : List ℕ) → IsStage (Authorization name) → IsSettled old (took (Say text) (resting (Authorization name)))
settled_out old name text is = record { sound = sound_at (Authorization name) is; next = refl; user = tt; home = λ house h. refl }

settled_in : (awaits : Awaits) (u : User) (drop : Maildrop) (text : List ℕ) → IsSmallDrop drop → IsSettled (record { stage = Transaction u drop; awaits = awaits }) (took (Say text) (resting (Transaction u drop)))
settled_in awaits u drop text is = record { sound = sound_at (Transaction u drop) is; next = refl; user = tt; home = λ house h. h }

-- nobody awaits anything but the outcome of a PASS before login
nobody_waits : (name : Option (List ℕ)) (wanted : Wanted) → IsSoundDialog (record { stage = Authorization name; awaits = Text wanted }) → ⊥
nobody_waits name wanted sound = true≢false (sym (sound.user refl))

heard_at : (stage : Stage) (wanted : Wanted) (text : Result (List ℕ) ReadFault) → IsSoundDialog (record { stage = stage; awaits = Text wanted })
    → IsSettled (record { stage = stage; awaits = Text wanted }) (heard_in (Text wanted) text (record { stage = stage; awaits = Text wanted }))
heard_at (Authorization name) wanted text sound = absurd (nobody_waits name wanted sound)
heard_at (Transaction u drop) wanted (Ok text) sound = record {
  sound = record { stage = sound.stage; awaits = tt; user = λ h. refl; login = λ h. absurd (true≢false (sym h)) };
  next = refl;
  user = (refl, refl);
  home = λ house h. h;
}
heard_at (Transaction u drop) wanted (Err why) sound = settled_in (Text wanted) u drop _ sound.stage

pub fine_heard : (d : Dialog) (text : Result (List ℕ) ReadFault) → IsSoundDialog d → is_text d.awaits ≡ true → IsSettled d (heard d text)
fine_heard d text sound reading = by_wait d.awaits sound reading
  where
    by_wait : (awaits : Awaits) → IsSoundDialog (record { stage = d.stage; awaits = awaits }) → is_text awaits ≡ true → IsSettled (record { stage = d.stage; awaits = awaits }) (heard_in awaits text (record { stage = d.stage; awaits = awaits }))
    by_wait Nothing sound_ h = absurd (true≢false (sym h))
    by_wait (Text wanted) sound_ h = heard_at d.stage wanted text sound_
    by_wait (Outcome pending) sound_ h = absurd (true≢false (sym h))

-- before login nothing is awaited but the outcome of a PASS
no_user : (name : Option (List ℕ)) (pending : Pending) → IsSoundDialog (record { stage = Authorization name; awaits = Outcome pending }) → user_pending pending ≡ None → ⊥
no_user name pending sound none = true≢false (sym (sound.user refl) ∙ ap is_some none)

done_at : (stage : Stage) (pending : Pending) → IsSoundDialog (record { stage = stage; awaits = Outcome pending }) → IsSettled (record { stage = stage; awaits = Outcome pending }) (done pending (resting stage))
done_at (Authorization name) (on.Enter u drop) sound = record { sound = sound_at (Transaction u drop) sound.awaits; next = refl; user = tt; home = λ house h. h }
done_at (Transaction v old) (on.Enter u drop) sound = absurd (true≢false (sym (sound.login refl)))
done_at (Authorization name) (on.Tell answer) sound = absurd (no_user name (on.Tell answer) sound refl)
done_at (Transaction u drop) (on.Tell answer) sound = settled_in (Outcome (on.Tell answer)) u drop answer sound.stage
done_at (Authorization name) (on.Mark mailbox keys) sound = absurd (no_user name (on.Mark mailbox keys) sound refl)
done_at (Transaction u drop) (on.Mark mailbox keys) sound = record {
  sound = record { stage = sound.stage; awaits = tt; user = λ h. refl; login = λ h. absurd (true≢false (sym h)) };
  next = refl;
  user = (refl, refl);
  home = λ house h. h;
}
done_at stage on.Remove sound = settled_end (record { stage = stage; awaits = Outcome on.Remove }) Closing

refused_at : (stage : Stage) (pending : Pending) (answer : Answer) → IsSoundDialog (record { stage = stage; awaits = Outcome pending }) → IsSettled (record { stage = stage; awaits = Outcome pending }) (refused_in (Outcome pending) answer (resting stage))
refused_at (Authorization name) (on.Enter u drop) answer sound = settled_out (record { stage = Authorization name; awaits = Outcome (on.Enter u drop) }) None _ tt
refused_at (Transaction v old) (on.Enter u drop) answer sound = absurd (true≢false (sym (sound.login refl)))
refused_at (Authorization name) (on.Tell text) answer sound = absurd (no_user name (on.Tell text) sound refl)
refused_at (Transaction u drop) (on.Tell text) answer sound = settled_in (Outcome (on.Tell text)) u drop _ sound.stage
refused_at stage (on.Mark mailbox keys) answer sound = settled_end (record { stage = stage; awaits = Outcome (on.Mark mailbox keys) }) answer
refused_at stage on.Remove answer sound = settled_end (record { stage = stage; awaits = Outcome on.Remove }) answer

undone_at : (stage : Stage) (pending : Pending) (fault : SubmitFault) → IsSoundDialog (record { stage = stage; awaits = Outcome pending }) → IsSettled (record { stage = stage; awaits = Outcome pending }) (undone_in (Outcome pending) fault (resting stage))
undone_at stage pending (WasRefused why) sound = refused_at stage pending _ sound
undone_at stage pending Disk sound = settled_end (record { stage = stage; awaits = Outcome pending }) DiskFault
undone_at stage pending Closed sound = settled_end (record { stage = stage; awaits = Outcome pending }) DiskFault

settled_at : (stage : Stage) (pending : Pending) (outcome : Result Item SubmitFault) → IsSoundDialog (record { stage = stage; awaits = Outcome pending })
    → IsSettled (record { stage = stage; awaits = Outcome pending }) (settle_in (Outcome pending) outcome (resting stage))
settled_at stage pending (Ok item) sound = done_at stage pending sound
settled_at stage pending (Err fault) sound = undone_at stage pending fault sound

pub fine_settled : (d : Dialog) (outcome : Result Item SubmitFault) → IsSoundDialog d → is_outcome d.awaits ≡ true → IsSettled d (settle d outcome)
fine_settled d outcome sound due = by_wait d.awaits sound due
  where
    by_wait : (awaits : Awaits) → IsSoundDialog (record { stage = d.stage; awaits = awaits }) → is_outcome awaits ≡ true → IsSettled (record { stage = d.stage; awaits = awaits }) (settle_in awaits outcome (resting d.stage))
    by_wait Nothing sound_ h = absurd (true≢false (sym h))
    by_wait (Text wanted) sound_ h = absurd (true≢false (sym h))
    by_wait (Outcome pending) sound_ h = settled_at d.stage pending outcome sound_

-- ---- what a call leaves

pub out_after : {E : Type 0} (result : Result PopOut E) (t : Took) (new : Dialog) → IfOk result (λ out. t ≡ took out new) → (P : PopOut → Dialog → Type 0) → P t.out t.dialog → IfOk result (λ out. P out new)
out_after (Ok out) t new is P h = subst (λ (x : Took). P x.out x.dialog) is h
out_after (Err why) t new is P h = tt

pub dialog_after : {E : Type 0} (result : Result PopOut E) (t : Took) (old new : Dialog) → IfOk result (λ out. t ≡ took out new) → OnErr result (new ≡ old) → (P : Dialog → Type 0) → P t.dialog → P old → P new
dialog_after (Ok out) t old new is err P h k = subst (λ (x : Took). P x.dialog) is h
dialog_after (Err why) t old new is err P h k = subst P (sym err) k

-- ---- what is kept

-- a session that awaits nothing holds no text
pub held_none : (d : Dialog) → is_free d ≡ true → held_of d ≡ 0
held_none d free = by_wait d.awaits free
  where
    by_wait : (awaits : Awaits) → is_free (record { stage = d.stage; awaits = awaits }) ≡ true → held_in awaits ≡ 0
    by_wait Nothing h = refl
    by_wait (Text wanted) h = absurd (true≢false (sym h))
    by_wait (Outcome pending) h = absurd (true≢false (sym h))

pub few_messages : (stage : Stage) → IsStage stage → messages_in stage ≤ 65536
few_messages (Authorization name) is = omega arith
few_messages (Transaction u drop) is = is
