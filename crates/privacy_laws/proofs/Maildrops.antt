-- What a POP3 client's session takes and is told, over two stores in use that agree on its user.
use Rattle.std.proofs.Common.{◌≡◌, ℕ, ◌&&◌, Bool, true, false, cond, List, [], ◌∷◌, length, nat_lt, Option, None, Some, option_map, unwrap_or, Result, Ok, Err, refl, ap, ap₂, sym, subst, ◌∙◌, true≢false, eqb-true}
use Rattle.std.specs.List.{list_all, list_any}
use Rattle.std.specs.Cmp.{first_so, second_so}
use Rattle.std.specs.Prelude.{IfSome}
use Rattle.undo_base.specs.declared.keys.Key.{Key}
use Rattle.undo_base.specs.declared.keys.User.{User}
use Rattle.seal_log.specs.declared.fault.ReadFault.{ReadFault}
use Rattle.smtp_lines.specs.declared.line.SmtpLine.{SmtpLine}
use Rattle.smtp_lines.specs.Line.{smtp_lines_of}
use Rattle.smtp_lines.specs.Lines.{rest_of}
use Rattle.verb_core.specs.declared.ask.SubmitFault.{SubmitFault}
use Rattle.verb_core.specs.declared.ask.SubmitFault.TheVariants.{Refused as WasRefused, Disk, Closed}
use Rattle.verb_core.specs.declared.conf.House.{House}
use Rattle.verb_core.specs.declared.item.Item.{Item}
use Rattle.verb_core.specs.declared.mailbox.Body.{Body}
use Rattle.verb_core.specs.declared.mailbox.Entry.{Entry}
use Rattle.verb_core.specs.declared.mailbox.Mailbox.{Mailbox}
use Rattle.verb_core.specs.Boxes.{box_of, mail_at, same_user}
use Rattle.verb_core.specs.Mailboxes.{entry_of, same_key}
use Rattle.verb_core.specs.Names.{inbox}
use Rattle.verb_core.proofs.Validity.{both}
use Rattle.store_kept.specs.Kept.{Kept, store_of}
use Rattle.pop_session.specs.declared.answer.Answer.{Answer}
use Rattle.pop_session.specs.declared.answer.Answer.TheVariants.{InUse, TooMany}
use Rattle.pop_session.specs.declared.command.Command.{Command}
use Rattle.pop_session.specs.declared.command.Command.TheVariants as command
use Rattle.pop_session.specs.declared.dialog.Awaits.{Awaits}
use Rattle.pop_session.specs.declared.dialog.Awaits.TheVariants.{Nothing, Outcome, Text}
use Rattle.pop_session.specs.declared.dialog.Dialog.{Dialog}
use Rattle.pop_session.specs.declared.dialog.Pending.TheVariants as on
use Rattle.pop_session.specs.declared.dialog.Stage.{Stage}
use Rattle.pop_session.specs.declared.dialog.Stage.TheVariants.{Authorization, Transaction}
use Rattle.pop_session.specs.declared.dialog.Wanted.{Wanted}
use Rattle.pop_session.specs.declared.maildrop.Detail.{Detail}
use Rattle.pop_session.specs.declared.maildrop.Detail.TheVariants.{Octets, UniqueId}
use Rattle.pop_session.specs.declared.maildrop.Maildrop.{Maildrop}
use Rattle.pop_session.specs.declared.maildrop.Message.{Message}
use Rattle.pop_session.specs.declared.out.PopOut.TheVariants as gives
use Rattle.pop_session.specs.Command.{Reading, argument_of, command_of}
use Rattle.pop_session.specs.Maildrop.{keys_of, maildrop_of, message_at, messages_of}
use Rattle.pop_session.specs.Dialog as session
use Rattle.mail_loop.specs.Hindrance.{Hindrance, Service}
use Rattle.mail_loop.specs.PopTurn.{in_use, of_pop, pop_session, pop_speech, took_by}
use Rattle.mail_loop.specs.PopTurn as pop_turn
use Rattle.mail_loop.specs.Session.{Took, followed, hindered, served, size_in}
use Rattle.mail_loop.specs.State.{Pop, Seats, State, beside}
use Rattle.privacy_laws.proofs.Hearing.{fetches}
use Rattle.privacy_laws.specs.Agreeing.{Agree, is_alike}
use Rattle.privacy_laws.specs.Clients.{IsFetcherOf, IsSeatOf, all_pass_only, enters_only, is_fetcher_in, is_number_of, line_is_of, lines_are_of, name_in, name_only, passes_only}
use Rattle.privacy_laws.proofs.Bodies.{own_pass}
use Rattle.privacy_laws.proofs.Reading.{found_is, row_same}
use Rattle.privacy_laws.proofs.Following.{AlikeHeard, IsSame, heard_by_same, turns_same}
use Rattle.privacy_laws.proofs.Names.{line_named}
use Rattle.privacy_laws.proofs.Services.{Alike, SameService, if_both, if_some, same_row}
use Rattle.privacy_laws.proofs.Steps.{agree_held}
use Rattle.privacy_laws.proofs.Texts.{held_size, is_held}
use Rattle.privacy_laws.proofs.Turning.{AsksOwn, OwnSpeech, WantsOwn, same_followed}

-- ---- a dialog in which something can be asked

-- the user is logged in, or logs in
abbrev pub asks_in : User → Stage → Awaits → Type 0
asks_in u (Authorization name) (Outcome (on.Enter v drop)) = v ≡ u
asks_in u (Authorization name) _ = ⊥
asks_in u (Transaction v drop) awaits = (v ≡ u) × (session.awaits_login awaits ≡ false)

abbrev pub IsAsking : User → Dialog → Type 0
IsAsking u d = asks_in u d.stage d.awaits

asking_user : (u : User) (stage : Stage) (w : Awaits) → asks_in u stage w → session.user_in stage w ≡ Some u
asking_user u (Authorization name) Nothing is = absurd is
asking_user u (Authorization name) (Text wanted) is = absurd is
asking_user u (Authorization name) (Outcome (on.Enter v drop)) is = ap Some is
asking_user u (Authorization name) (Outcome (on.Tell answer)) is = absurd is
asking_user u (Authorization name) (Outcome (on.Mark mailbox keys)) is = absurd is
asking_user u (Authorization name) (Outcome on.Remove) is = absurd is
asking_user u (Transaction v drop) w is = ap Some is.0

-- behind it nothing, or what is no login, may be awaited
rest_fetches : (u : User) (stage : Stage) (w : Awaits) → asks_in u stage w → is_fetcher_in u stage Nothing
rest_fetches u (Authorization name) w is = tt
rest_fetches u (Transaction v drop) w is = (is.0, refl)

further_asks : (u : User) (stage : Stage) (mailbox : List ℕ) (keys : List Key) → asks_in u stage (Outcome (on.Mark mailbox keys)) → asks_in u stage (Outcome on.Remove)
further_asks u (Authorization name) mailbox keys is = absurd is
further_asks u (Transaction v drop) mailbox keys is = (is.0, refl)

further_fetches : (u : User) (stage : Stage) (mailbox : List ℕ) (keys : List Key) → asks_in u stage (Outcome (on.Mark mailbox keys)) → is_fetcher_in u stage (Outcome on.Remove)
further_fetches u (Authorization name) mailbox keys is = tt
further_fetches u (Transaction v drop) mailbox keys is = (is.0, refl)

entered_fetches : (u : User) (stage : Stage) (v : User) (drop : Maildrop) → asks_in u stage (Outcome (on.Enter v drop)) → (v ≡ u) × (session.awaits_login Nothing ≡ false)
entered_fetches u (Authorization name) v drop is = (is, refl)
entered_fetches u (Transaction w old) v drop is = absurd (true≢false is.1)

told_asks : (u : User) (stage : Stage) (wanted : Wanted) (answer : List ℕ) → asks_in u stage (Text wanted) → asks_in u stage (Outcome (on.Tell answer))
told_asks u (Authorization name) wanted answer is = absurd is
told_asks u (Transaction v drop) wanted answer is = (is.0, refl)

told_fetches : (u : User) (stage : Stage) (w : Awaits) (answer : List ℕ) → asks_in u stage w → is_fetcher_in u stage (Outcome (on.Tell answer))
told_fetches u (Authorization name) w answer is = tt
told_fetches u (Transaction v drop) w answer is = (is.0, refl)

same_fetches : (u : User) (stage : Stage) (w : Awaits) → asks_in u stage w → is_fetcher_in u stage w
same_fetches u (Authorization name) (Outcome (on.Enter v drop)) is = is
same_fetches u (Authorization name) Nothing is = tt
same_fetches u (Authorization name) (Text wanted) is = tt
same_fetches u (Authorization name) (Outcome (on.Tell answer)) is = tt
same_fetches u (Authorization name) (Outcome (on.Mark mailbox keys)) is = tt
same_fetches u (Authorization name) (Outcome on.Remove) is = tt
same_fetches u (Transaction v drop) w is = is

-- ---- an outcome

refused_left : (u : User) (d : Dialog) (w : Awaits) (answer : Answer) → is_fetcher_in u d.stage Nothing → IsFetcherOf u (session.refused_in w answer (session.at_rest d)).dialog
refused_left u d Nothing answer rest = rest
refused_left u d (Text wanted) answer rest = rest
refused_left u d (Outcome (on.Enter v drop)) answer rest = tt
refused_left u d (Outcome (on.Tell text)) answer rest = rest
refused_left u d (Outcome (on.Mark mailbox keys)) answer rest = tt
refused_left u d (Outcome on.Remove) answer rest = tt

settled_left : (u : User) (d : Dialog) (w : Awaits) → asks_in u d.stage w → (outcome : Result Item SubmitFault) → IsFetcherOf u (session.settle_in w outcome (session.at_rest d)).dialog
settled_left u d Nothing is (Ok item) = rest_fetches u d.stage Nothing is
settled_left u d (Text wanted) is (Ok item) = rest_fetches u d.stage (Text wanted) is
settled_left u d (Outcome (on.Enter v drop)) is (Ok item) = entered_fetches u d.stage v drop is
settled_left u d (Outcome (on.Tell answer)) is (Ok item) = rest_fetches u d.stage (Outcome (on.Tell answer)) is
settled_left u d (Outcome (on.Mark mailbox keys)) is (Ok item) = further_fetches u d.stage mailbox keys is
settled_left u d (Outcome on.Remove) is (Ok item) = tt
settled_left u d w is (Err (WasRefused why)) = refused_left u d w _ (rest_fetches u d.stage w is)
settled_left u d w is (Err Disk) = tt
settled_left u d w is (Err Closed) = tt

refused_asks : (u : User) (d : Dialog) (w : Awaits) (answer : Answer) → AsksOwn (IsAsking u) (of_pop (session.refused_in w answer d).out) (session.refused_in w answer d).dialog
refused_asks u d Nothing answer = tt
refused_asks u d (Text wanted) answer = tt
refused_asks u d (Outcome (on.Enter v drop)) answer = tt
refused_asks u d (Outcome (on.Tell text)) answer = tt
refused_asks u d (Outcome (on.Mark mailbox keys)) answer = tt
refused_asks u d (Outcome on.Remove) answer = tt

settled_asks : (u : User) (d : Dialog) (w : Awaits) → asks_in u d.stage w → (outcome : Result Item SubmitFault)
    → AsksOwn (IsAsking u) (of_pop (session.settle_in w outcome (session.at_rest d)).out) (session.settle_in w outcome (session.at_rest d)).dialog
settled_asks u d Nothing is (Ok item) = tt
settled_asks u d (Text wanted) is (Ok item) = tt
settled_asks u d (Outcome (on.Enter v drop)) is (Ok item) = tt
settled_asks u d (Outcome (on.Tell answer)) is (Ok item) = tt
settled_asks u d (Outcome (on.Mark mailbox keys)) is (Ok item) = (further_asks u d.stage mailbox keys is, refl)
settled_asks u d (Outcome on.Remove) is (Ok item) = tt
settled_asks u d w is (Err (WasRefused why)) = refused_asks u (session.at_rest d) w _
settled_asks u d w is (Err Disk) = tt
settled_asks u d w is (Err Closed) = tt

heard_asks : (u : User) (d : Dialog) (w : Awaits) → asks_in u d.stage w → (text : Result (List ℕ) ReadFault) → AsksOwn (IsAsking u) (of_pop (session.heard_in w text d).out) (session.heard_in w text d).dialog
heard_asks u d Nothing is text = tt
heard_asks u d (Text wanted) is (Ok text) = (told_asks u d.stage wanted _ is, refl)
heard_asks u d (Text wanted) is (Err why) = tt
heard_asks u d (Outcome pending) is text = tt

heard_left : (u : User) (d : Dialog) (w : Awaits) → asks_in u d.stage w → w ≡ d.awaits → (text : Result (List ℕ) ReadFault) → IsFetcherOf u (session.heard_in w text d).dialog
heard_left u d Nothing is same text = same_fetches u d.stage d.awaits (subst (asks_in u d.stage) same is)
heard_left u d (Text wanted) is same (Ok text) = told_fetches u d.stage (Text wanted) _ is
heard_left u d (Text wanted) is same (Err why) = rest_fetches u d.stage (Text wanted) is
heard_left u d (Outcome pending) is same text = same_fetches u d.stage d.awaits (subst (asks_in u d.stage) same is)

-- the speech of a POP3 client's session is its user's
pub pop_own : (h : House) (u : User) → OwnSpeech pop_speech h u (IsAsking u) (IsFetcherOf u)
pop_own h u = record {
  user = λ d is. asking_user u d.stage d.awaits is;
  settles = λ k l a d is outcome. refl;
  further = λ k d is outcome. settled_asks u d d.awaits is outcome;
  left = λ k d is outcome. settled_left u d d.awaits is outcome;
  hears = λ d is texts. heard_asks u d d.awaits is (pop_turn.text_of texts);
  left_heard = λ d is texts. heard_left u d d.awaits is refl (pop_turn.text_of texts);
}

-- ---- a line

pub record IsTaken (u : User) (test : Body → Bool) (s t : Took Dialog) : Type 0 where
  pub is : s ≡ t
  pub mine : IsFetcherOf u s.dialog
  pub wants : WantsOwn (IsAsking u) test s.out s.dialog

entry_found : (test : Body → Bool) (entries : List Entry) (key : Key) → list_all (λ (e : Entry). test e.body) entries ≡ true → IfSome (entry_of entries key) (λ (e : Entry). test e.body ≡ true)
entry_found test entries key all = found_is (λ (e : Entry). test e.body) (λ (e : Entry). same_key key e.key) entries all

same_messages : (test : Body → Bool) (one other : Body → Option ℕ) → ((body : Body) → test body ≡ true → one body ≡ other body) → (entries : List Entry) → list_all (λ (e : Entry). test e.body) entries ≡ true
    → messages_of one entries ≡ messages_of other entries
same_messages test one other same [] all = refl
same_messages test one other same (e ∷ es) all =
    ap₂ (λ (n : Option ℕ) (rest : List Message). record { uid = e.uid; key = e.key; size = unwrap_or n 0; marked = false } ∷ rest) (same e.body (first_so _ _ all)) (same_messages test one other same es (second_so (test e.body) _ all))

nameless_fetches : (u : User) (stage : Stage) (w : Awaits) → is_fetcher_in u stage w → enters_only u w
nameless_fetches u (Authorization name) w mine = mine
nameless_fetches u (Transaction v drop) Nothing mine = tt
nameless_fetches u (Transaction v drop) (Text wanted) mine = tt
nameless_fetches u (Transaction v drop) (Outcome (on.Enter w old)) mine = absurd (true≢false mine.1)
nameless_fetches u (Transaction v drop) (Outcome (on.Tell answer)) mine = tt
nameless_fetches u (Transaction v drop) (Outcome (on.Mark mailbox keys)) mine = tt
nameless_fetches u (Transaction v drop) (Outcome on.Remove) mine = tt

module _ (h : House) (u : User) (k l : Kept) (a : Agree h u k l) (one other : List User) (used : list_any (same_user u) one ≡ list_any (same_user u) other) where
  mail_same : mail_at (box_of u inbox) (store_of k).boxes ≡ mail_at (box_of u inbox) (store_of l).boxes
  mail_same = ap (λ (o : Option Mailbox). unwrap_or (option_map (λ (m : Mailbox). m.entries) o) []) (row_same u inbox (store_of k).boxes (store_of l).boxes a.boxes)

  mail_held : list_all (λ (e : Entry). is_held k l e.body) (mail_at (box_of u inbox) (store_of k).boxes) ≡ true
  mail_held = own_pass (is_held k l) u inbox (store_of k).boxes (agree_held h u k l a)

  drop_same : maildrop_of (store_of k) k.stamps (size_in k) u ≡ maildrop_of (store_of l) l.stamps (size_in l) u
  drop_same =
      let messages : messages_of (size_in k) (mail_at (box_of u inbox) (store_of k).boxes) ≡ messages_of (size_in l) (mail_at (box_of u inbox) (store_of l).boxes) =
      same_messages (is_held k l) (size_in k) (size_in l) (λ body held. held_size k l body a.one.undone a.other.undone held) (mail_at (box_of u inbox) (store_of k).boxes) mail_held ∙ ap (messages_of (size_in l)) mail_same in
      λ j. record { stamp = unwrap_or (row_same u inbox k.stamps l.stamps a.stamps j) 0; messages = messages j }

  abbrev Same : session.Took → session.Took → Type 0
  Same s t = IsTaken u (is_alike k l) (took_by s) (took_by t)

  said : (answer : List ℕ) (d : Dialog) → IsFetcherOf u d → Same (session.took (gives.Say answer) d) (session.took (gives.Say answer) d)
  said answer d mine = record { is = refl; mine = mine; wants = tt }

  -- PASS, under a name that was given
  module _ (name : Option (List ℕ)) (w : Awaits) (free : enters_only u w) where
    abbrev outside : Dialog
    outside = record { stage = Authorization name; awaits = w }

    entered_as : (drop : Maildrop) (b : Bool) → Same (cond b (session.says TooMany (session.nameless outside)) (session.asks (session.fetch_of (keys_of drop.messages) false) (on.Enter u drop) outside)) (cond b (session.says TooMany (session.nameless outside)) (session.asks (session.fetch_of (keys_of drop.messages) false) (on.Enter u drop) outside))
    entered_as drop true = record { is = refl; mine = free; wants = tt }
    entered_as drop false = record { is = refl; mine = refl; wants = (refl, refl) }

    used_or : (b : Bool) (drop : Maildrop) → Same (cond b (session.says InUse (session.nameless outside)) (session.enter u drop outside)) (cond b (session.says InUse (session.nameless outside)) (session.enter u drop outside))
    used_or true drop = record { is = refl; mine = free; wants = tt }
    used_or false drop = entered_as drop (nat_lt 65536 (length drop.messages))

    abbrev log_as : Kept → List User → User → session.Took
    log_as kept users v = cond (list_any (same_user v) users) (session.says InUse (session.nameless outside)) (session.enter v (maildrop_of (store_of kept) kept.stamps (size_in kept) v) outside)

    own_login : Same (log_as k one u) (log_as l other u)
    own_login =
        subst (λ (b : Bool). Same (log_as k one u) (cond b (session.says InUse (session.nameless outside)) (session.enter u (maildrop_of (store_of l) l.stamps (size_in l) u) outside))) used
        (subst (λ (drop : Maildrop). Same (log_as k one u) (cond (list_any (same_user u) one) (session.says InUse (session.nameless outside)) (session.enter u drop outside))) drop_same
        (used_or (list_any (same_user u) one) (maildrop_of (store_of k) k.stamps (size_in k) u)))

    logging : (o : Option ℕ) → is_number_of u o ≡ true → Same (session.log_in (store_of k) k.stamps (size_in k) one o outside) (session.log_in (store_of l) l.stamps (size_in l) other o outside)
    logging None only = record { is = refl; mine = free; wants = tt }
    logging (Some number) only =
        let same : u ≡ record { 0 = number } = sym (ap (λ (n : ℕ). record { 0 = n }) (eqb-true number u.0 only)) in
        subst (λ (v : User). Same (log_as k one v) (log_as l other v)) same own_login

    passing : (o : Option (List ℕ)) (argument : List ℕ) → passes_only h u o argument (Ok command.Pass) ≡ true
        → Same (session.give_password h (store_of k) k.stamps (size_in k) one o argument outside) (session.give_password h (store_of l) l.stamps (size_in l) other o argument outside)
    passing None argument only = record { is = refl; mine = free; wants = tt }
    passing (Some given) argument only = logging (session.account_of h given argument) only

    -- nobody is logged in
    outside_same : (argument : List ℕ) (c : Command) → passes_only h u name argument (Ok c) ≡ true
        → Same (session.obey h (store_of k) k.stamps (size_in k) one argument outside c) (session.obey h (store_of l) l.stamps (size_in l) other argument outside c)
    outside_same argument command.User only = record { is = refl; mine = free; wants = tt }
    outside_same argument command.Pass only = passing name argument only
    outside_same argument command.Stat only = record { is = refl; mine = free; wants = tt }
    outside_same argument (command.List message) only = record { is = refl; mine = free; wants = tt }
    outside_same argument (command.Retr message) only = record { is = refl; mine = free; wants = tt }
    outside_same argument (command.Dele message) only = record { is = refl; mine = free; wants = tt }
    outside_same argument command.Noop only = record { is = refl; mine = free; wants = tt }
    outside_same argument command.Rset only = record { is = refl; mine = free; wants = tt }
    outside_same argument (command.Top message lines) only = record { is = refl; mine = free; wants = tt }
    outside_same argument (command.Uidl message) only = record { is = refl; mine = free; wants = tt }
    outside_same argument command.Quit only = record { is = refl; mine = tt; wants = tt }

  -- the user is logged in
  module _ (drop : Maildrop) (w : Awaits) (free : session.awaits_login w ≡ false) where
    abbrev inside : Dialog
    inside = record { stage = Transaction u drop; awaits = w }

    says_inside : (text : List ℕ) → Same (session.took (gives.Say text) inside) (session.took (gives.Say text) inside)
    says_inside text = record { is = refl; mine = (refl, free); wants = tt }

    on_one : (o : Option Message) (act act' : Message → session.Took) → ((m : Message) → Same (act m) (act' m)) → Same (session.on_message act o inside) (session.on_message act' o inside)
    on_one None act act' each = says_inside _
    on_one (Some m) act act' each = each m

    read_one : (wanted : Wanted) (o : Option Entry) → IfSome o (λ (e : Entry). is_held k l e.body ≡ true) → Same (session.read_text o wanted inside) (session.read_text o wanted inside)
    read_one wanted None held = says_inside _
    read_one wanted (Some e) held = record { is = refl; mine = (refl, refl); wants = ((refl, refl), ap (λ (b : Bool). b && true) (first_so _ _ held)) }

    entry_same : (key : Key) → entry_of (mail_at (box_of u inbox) (store_of k).boxes) key ≡ entry_of (mail_at (box_of u inbox) (store_of l).boxes) key
    entry_same key = ap (λ (es : List Entry). entry_of es key) mail_same

    read_same : (wanted : Wanted) (key : Key) → Same (session.read_text (entry_of (mail_at (box_of u inbox) (store_of k).boxes) key) wanted inside) (session.read_text (entry_of (mail_at (box_of u inbox) (store_of l).boxes) key) wanted inside)
    read_same wanted key =
        subst (λ (o : Option Entry). Same (session.read_text (entry_of (mail_at (box_of u inbox) (store_of k).boxes) key) wanted inside) (session.read_text o wanted inside)) (entry_same key)
        (read_one wanted (entry_of (mail_at (box_of u inbox) (store_of k).boxes) key) (entry_found (is_held k l) (mail_at (box_of u inbox) (store_of k).boxes) key mail_held))

    retrieving : (number : ℕ) (lines : Option ℕ) → Same (session.retrieve (store_of k) number lines (Transaction u drop) inside) (session.retrieve (store_of l) number lines (Transaction u drop) inside)
    retrieving number lines = on_one (message_at drop.messages number) _ _ (λ m. read_same (record { key = m.key; size = m.size; lines = lines }) m.key)

    telling : (detail : Detail) (number : Option ℕ) → Same (session.tell detail number drop inside) (session.tell detail number drop inside)
    telling detail None = says_inside _
    telling detail (Some number) = on_one (message_at drop.messages number) _ _ (λ m. says_inside _)

    marking : (number : ℕ) → Same (session.mark number (Transaction u drop) inside) (session.mark number (Transaction u drop) inside)
    marking number = on_one (message_at drop.messages number) _ _ (λ m. record { is = refl; mine = (refl, free); wants = tt })

    leaving : (keys : List Key) → Same (session.leave keys inside) (session.leave keys inside)
    leaving [] = record { is = refl; mine = tt; wants = tt }
    leaving (key ∷ keys) = record { is = refl; mine = (refl, refl); wants = ((refl, refl), refl) }

    inside_same : (argument : List ℕ) (c : Command) → Same (session.obey h (store_of k) k.stamps (size_in k) one argument inside c) (session.obey h (store_of l) l.stamps (size_in l) other argument inside c)
    inside_same argument command.User = says_inside _
    inside_same argument command.Pass = says_inside _
    inside_same argument command.Stat = says_inside _
    inside_same argument (command.List message) = telling Octets message
    inside_same argument (command.Retr message) = retrieving message None
    inside_same argument (command.Dele message) = marking message
    inside_same argument command.Noop = says_inside _
    inside_same argument command.Rset = record { is = refl; mine = (refl, free); wants = tt }
    inside_same argument (command.Top message lines) = retrieving message (Some lines)
    inside_same argument (command.Uidl message) = telling UniqueId message
    inside_same argument command.Quit = leaving (session.keys_left (Transaction u drop))

  -- any command
  staged : (stage : Stage) (w : Awaits) → is_fetcher_in u stage w → (argument : List ℕ) (c : Command) → passes_only h u (session.given_name stage) argument (Ok c) ≡ true
      → Same (session.obey h (store_of k) k.stamps (size_in k) one argument (record { stage = stage; awaits = w }) c) (session.obey h (store_of l) l.stamps (size_in l) other argument (record { stage = stage; awaits = w }) c)
  staged (Authorization name) w mine argument c only = outside_same name w mine argument c only
  staged (Transaction v drop) w mine argument c only =
      subst (λ (x : User). Same (session.obey h (store_of k) k.stamps (size_in k) one argument (record { stage = Transaction x drop; awaits = w }) c) (session.obey h (store_of l) l.stamps (size_in l) other argument (record { stage = Transaction x drop; awaits = w }) c)) (sym mine.0)
      (inside_same drop w mine.1 argument c)

  heard_line : (argument : List ℕ) (d : Dialog) (reading : Reading) → IsFetcherOf u d → passes_only h u (session.given_name d.stage) argument reading ≡ true
      → Same (session.hears h (store_of k) k.stamps (size_in k) one argument d reading) (session.hears h (store_of l) l.stamps (size_in l) other argument d reading)
  heard_line argument d (Ok c) mine only = staged d.stage d.awaits mine argument c only
  heard_line argument d (Err refused) mine only = record { is = refl; mine = mine; wants = tt }

  pub takes_same : (d : Dialog) (line : SmtpLine) → IsFetcherOf u d → line_is_of h u d line ≡ true → IsTaken u (is_alike k l) (pop_turn.takes one k d line) (pop_turn.takes other l d line)
  takes_same d line mine only =
      subst (λ (x : House). IsTaken u (is_alike k l) (took_by (session.turn x (store_of k) k.stamps (size_in k) one d line)) (pop_turn.takes other l d line)) (sym a.one_house)
      (subst (λ (x : House). IsTaken u (is_alike k l) (took_by (session.turn h (store_of k) k.stamps (size_in k) one d line)) (took_by (session.turn x (store_of l) l.stamps (size_in l) other d line))) (sym a.other_house)
      (heard_line (argument_of line) d (command_of line) mine only))

-- a turn of a POP3 client
module _ (h : House) (u : User) (k l : Kept) (a : Agree h u k l) (others others' : Seats) (used : list_any (same_user u) (in_use others) ≡ list_any (same_user u) (in_use others')) where
  served_same : (at : ℕ) (d : Dialog) (line : SmtpLine) → IsFetcherOf u d → line_is_of h u d line ≡ true → (x y : Service) → SameService h u k l x y
      → Alike (IsFetcherOf u) (Agree h u) (served pop_session x at k others d line) (served pop_session y at l others' d line)
  served_same at d line mine only x y serves =
      let t : Took Dialog = pop_turn.takes (in_use others) k d line in
      let same : IsTaken u (is_alike k l) t (pop_turn.takes (in_use others') l d line) = takes_same h u k l a (in_use others) (in_use others') used d line mine only in
      subst (λ (w : Took Dialog). Alike (IsFetcherOf u) (Agree h u) (followed pop_speech x k t.out t.dialog) (followed pop_speech y l w.out w.dialog)) same.is
      (same_followed pop_speech h u (IsAsking u) (IsFetcherOf u) (pop_own h u) k l a x y serves t.out t.dialog same.mine same.wants)

  pub line_same : (i : Hindrance) (at : ℕ) (d : Dialog) (line : SmtpLine) → IsFetcherOf u d → line_is_of h u d line ≡ true
      → Alike (IsFetcherOf u) (Agree h u) (hindered pop_session i at k others d line) (hindered pop_session i at l others' d line)
  line_same i at d line mine only =
      same_row h u k l a (IsFetcherOf u) i at _ _ (λ desk. served pop_session desk at k others d line) (λ desk. served pop_session desk at l others' d line)
      (record { same = record { said = refl; dialog = refl; gone = refl; unsealed = refl; counts = refl; kept = a }; mine = mine }) (served_same at d line mine only)

-- ---- more lines

module _ (h : House) (u : User) where
  -- a POP3 client's dialog, and the lines that come
  abbrev pub Fetches : Dialog → List SmtpLine → Type 0
  Fetches d lines = IsFetcherOf u d × (all_pass_only h u (session.given_name d.stage) lines ≡ true) × (name_only h u lines ≡ true)

  -- under no name nobody is logged in
  nobody : (lines : List SmtpLine) → all_pass_only h u None lines ≡ true
  nobody [] = refl
  nobody (line ∷ lines) = both (passes_only h u None (argument_of line) (command_of line)) (all_pass_only h u None lines) refl (nobody lines)

  pub lines_same : (at : ℕ) (others others' : Seats) → list_any (same_user u) (in_use others) ≡ list_any (same_user u) (in_use others') → IsSame Fetches (Agree h u) pop_session at others others'
  lines_same at others others' used i k l a d line lines (mine, first, rest) =
      let test : SmtpLine → Bool = λ line. passes_only h u (session.given_name d.stage) (argument_of line) (command_of line) in
      let turn : Alike (IsFetcherOf u) (Agree h u) (hindered pop_session i at k others d line) (hindered pop_session i at l others' d line) =
      line_same h u k l a others others' used i at d line mine (first_so (test line) (list_all test lines) first) in
      let new : all_pass_only h u (name_in (argument_of line) (command_of line)) lines ≡ true = first_so _ (name_only h u lines) rest in
      let more : name_only h u lines ≡ true = second_so (all_pass_only h u (name_in (argument_of line) (command_of line)) lines) _ rest in
      let o : Option Dialog = (hindered pop_session i at k others d line).dialog in
      record {
        same = turn.same;
        mine = if_some (λ e. IsFetcherOf u e × (all_pass_only h u (session.given_name e.stage) lines ≡ true)) (λ e. Fetches e lines) (λ e both. (both.0, both.1, more)) o
            (if_both (IsFetcherOf u) (λ e. all_pass_only h u (session.given_name e.stage) lines ≡ true) o turn.mine
            (line_named (λ (name : Option (List ℕ)). all_pass_only h u name lines ≡ true) (nobody lines) i at k others d line (second_so (test line) (list_all test lines) first) new));
      }

  -- the turns of the lines of a stream
  pub fetched_same : (at conn : ℕ) (hs : List Hindrance) (s t : State) (d : Dialog) (stream : List ℕ) → Agree h u s.kept t.kept → list_any (same_user u) (in_use (beside conn s.seats)) ≡ list_any (same_user u) (in_use (beside conn t.seats))
      → IsFetcherOf u d → lines_are_of h u d (smtp_lines_of stream) ≡ true → AlikeHeard (IsSeatOf u) (Agree h u) (fetches pop_session hs at s conn d stream) (fetches pop_session hs at t conn d stream)
  fetched_same at conn hs s t d stream a used mine only =
      heard_by_same Fetches (Agree h u) pop_session at conn (IsSeatOf u) (Pop (rest_of stream)) (λ e is. is.0) _ _
      (turns_same Fetches (Agree h u) pop_session at conn (smtp_lines_of stream) hs s t d (lines_same at (beside conn s.seats) (beside conn t.seats) used) a
      (mine, first_so (all_pass_only h u (session.given_name d.stage) (smtp_lines_of stream)) _ only, second_so (all_pass_only h u (session.given_name d.stage) (smtp_lines_of stream)) _ only))
