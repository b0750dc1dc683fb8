-- An SMTP client's dialog has names for recipients, and asks for deliveries of mail that can be stored.
use Rattle.std.proofs.Common.{◌≡◌, ℕ, ◌≤◌, Bool, ◌↔◌, List, [], ◌∷◌, ◌++◌, length, Option, None, Some, Result, Ok, Err, refl, subst, arith, bytes_eq, nat_le, codes, option_map, unwrap_or}
use Rattle.std.specs.List.{AllByRecursion, Contains, list_any}
use Rattle.std.specs.Str.{str_to_ascii_lowercase}
use Rattle.undo_base.specs.Name.{IsName}
use Rattle.smtp_lines.specs.declared.line.SmtpLine.{SmtpLine}
use Rattle.smtp_lines.specs.declared.command.SmtpCommand.TheVariants.{Helo, Ehlo, Mail, Rcpt, Data, Rset, Noop, Vrfy, Quit}
use Rattle.smtp_lines.specs.Command.{Reading, command_of}
use Rattle.smtp_lines.specs.Grammar.{IsReading}
use Rattle.verb_core.specs.declared.ask.Ask.TheVariants.{Deliver, Append, Fetch, Store, Copy, List as Listed, Status, Select, Expunge, Close, Create, Rename, Delete}
use Rattle.verb_core.specs.declared.ask.SubmitFault.{SubmitFault}
use Rattle.verb_core.specs.declared.ask.SubmitFault.TheVariants.{Refused as IsRefused, Disk, Closed}
use Rattle.verb_core.specs.declared.conf.Conf.{Conf}
use Rattle.verb_core.specs.declared.conf.House.{House}
use Rattle.verb_core.specs.declared.item.Item.{Item}
use Rattle.smtp_session.specs.declared.answer.SmtpOut.{SmtpOut}
use Rattle.smtp_session.specs.declared.answer.SmtpOut.TheVariants.{Nothing, Say, Mail as Asks, Bye}
use Rattle.smtp_session.specs.declared.dialog.Dialog.{Dialog}
use Rattle.smtp_session.specs.declared.dialog.Transaction.{Transaction}
use Rattle.smtp_session.specs.declared.dialog.Transaction.TheVariants.{Idle, Begun, Writing, Due}
use Rattle.smtp_session.specs.Body.{body_of}
use Rattle.smtp_session.specs.Recipients.{put_once, is_here}
use Rattle.smtp_session.specs.Dialog.{DialogTurn, begin, end_text, has_recipient, host_due, obey, opening, receive, settle, outcome_said, fault_said, turn, turn_in, write}
use Rattle.smtp_session.specs.Limits.{AsksWithin}
use Rattle.smtp_session.proofs.Stays.{small_turn, asks_turn}
use Rattle.verb_bytes.specs.Limits.{IsMail}
use Rattle.dialog_laws.specs.SmtpClient.{HasNames, IsDelivery, IsMailing, IsTimely, Line, Outcome, Taken, asked_by, asked_in}
use Rattle.kept_laws.proofs.Lists.{all_joined, either, member_has}
use Rattle.dialog_laws.proofs.Naming.{recipient_named}

-- what the grammar says of commands
abbrev pub OneCommand : Type 0
OneCommand = (line : SmtpLine) (reading : Reading) → (command_of line ≡ reading) ↔ IsReading line reading

-- ---- recipients

-- what RCPT names is a name in lower case
abbrev NamesRecipient : Reading → Type 0
NamesRecipient (Ok (Rcpt local domain)) = IsName (str_to_ascii_lowercase local)
NamesRecipient _ = Unit {0}

reading_named : (line : SmtpLine) (reading : Reading) → IsReading line reading → NamesRecipient reading
reading_named line (Ok (Rcpt local domain)) is =
    recipient_named (codes "TO:") is.reads.path [] is.reads.argument local domain is.reads.path_ is.reads.names
reading_named line (Ok (Helo c)) is = tt
reading_named line (Ok (Ehlo c)) is = tt
reading_named line (Ok (Mail path)) is = tt
reading_named line (Ok Data) is = tt
reading_named line (Ok Rset) is = tt
reading_named line (Ok (Noop rest)) is = tt
reading_named line (Ok (Vrfy what)) is = tt
reading_named line (Ok Quit) is = tt
reading_named line (Err refused) is = tt

line_named : OneCommand → (line : SmtpLine) → NamesRecipient (command_of line)
line_named one line = reading_named line (command_of line) ((one line (command_of line)).0 refl)

once_named : (name : List ℕ) (to : List (List ℕ)) → IsName name → AllByRecursion IsName to → AllByRecursion IsName (put_once name to)
once_named name to is h =
    either (λ (t : List (List ℕ)). AllByRecursion IsName t) (list_any (λ held. bytes_eq held name) to) to (to ++ name ∷ []) h (all_joined IsName to (name ∷ []) h (is, tt))

-- ---- a turn keeps them

abbrev Named : DialogTurn → Type 0
Named t = HasNames t.dialog.transaction

named_begin : (house : House) (client : Option (List ℕ)) (t : Transaction) (path : List ℕ) → HasNames t → Named (begin house client t path)
named_begin house None t path h = h
named_begin house (Some client) Idle path h = tt
named_begin house (Some client) (Begun q to) path h = h
named_begin house (Some client) (Writing q to text) path h = h
named_begin house (Some client) (Due host) path h = h

named_receive : (house : House) (d : Dialog) (t : Transaction) (local : List ℕ) (known : Bool) → IsName (str_to_ascii_lowercase local) → HasNames t → HasNames d.transaction → Named (receive house d t local known)
named_receive house d Idle local known is h k = k
named_receive house d (Writing path to text) local known is h k = k
named_receive house d (Due host) local known is h k = k
named_receive house d (Begun path to) local known is h k =
    either Named (nat_le 1000 (length to)) _ _ k (either Named known _ _ (once_named (str_to_ascii_lowercase local) to is h) k)

named_write : (house : House) (client : Option (List ℕ)) (t : Transaction) → HasNames t → Named (write house (record { client = client; transaction = t }))
named_write house client Idle h = tt
named_write house client (Begun path []) h = tt
named_write house client (Begun path (r ∷ to)) h = h
named_write house client (Writing path to text) h = h
named_write house client (Due host) h = tt

named_obey : (house : House) (conf : Conf) (client : Option (List ℕ)) (t : Transaction) (reading : Reading) → NamesRecipient reading → HasNames t
    → Named (obey house conf (record { client = client; transaction = t }) reading)
named_obey house conf client t (Ok (Helo c)) r h = tt
named_obey house conf client t (Ok (Ehlo c)) r h = tt
named_obey house conf client t (Ok (Mail path)) r h = named_begin house client t path h
named_obey house conf client t (Ok (Rcpt local domain)) r h = named_receive house (record { client = client; transaction = t }) t local (is_here house conf local domain) r h h
named_obey house conf client t (Ok Data) r h = named_write house client t h
named_obey house conf client t (Ok Rset) r h = tt
named_obey house conf client t (Ok (Noop rest)) r h = h
named_obey house conf client t (Ok (Vrfy what)) r h = h
named_obey house conf client t (Ok Quit) r h = h
named_obey house conf client t (Err refused) r h = h

named_end : (house : House) (d : Dialog) (path : List ℕ) (to : List (List ℕ)) (body : Option (List ℕ)) → Named (end_text house d path to body)
named_end house d path to None = tt
named_end house d path to (Some body) = tt

named_turn_in : OneCommand → (house : House) (conf : Conf) (at : ℕ) (client : Option (List ℕ)) (t : Transaction) (line : SmtpLine) → HasNames t
    → Named (turn_in house conf at (record { client = client; transaction = t }) t line)
named_turn_in one house conf at client Idle line h = named_obey house conf client Idle (command_of line) (line_named one line) h
named_turn_in one house conf at client (Begun path to) line h = named_obey house conf client (Begun path to) (command_of line) (line_named one line) h
named_turn_in one house conf at client (Due host) line h = named_obey house conf client (Due host) (command_of line) (line_named one line) h
named_turn_in one house conf at client (Writing path to text) line h =
    either Named (bytes_eq line.bytes (codes ".")) _ _ (named_end house (record { client = client; transaction = Writing path to text }) path to _) h

pub opening_mailing : IsMailing opening
opening_mailing = record { small = record { client = tt; transaction = tt }; names = tt }

pub turn_mailing : OneCommand → (house : House) (conf : Conf) (at : ℕ) (d : Dialog) (line : SmtpLine) → IsMailing d → IsMailing (turn house conf at d line).dialog
turn_mailing one house conf at d line h = record { small = small_turn house conf at d line h.small; names = named_turn_in one house conf at d.client d.transaction line h.names }

pub settle_mailing : (d : Dialog) (outcome : Result Item SubmitFault) → IsMailing d → IsMailing (settle d outcome).dialog
settle_mailing d outcome h = record { small = record { client = h.small.client; transaction = tt }; names = tt }

-- ---- what is asked

-- what is asked is asked for these recipients
abbrev AsksFor : Transaction → SmtpOut → Type 0
AsksFor t (Asks (Deliver from to text)) = HasNames t → AllByRecursion IsName to
AsksFor t (Asks (Append mailbox flags moment text)) = Unit {0}
AsksFor t (Asks (Fetch mailbox keys sets_seen shows_body strict asked)) = Unit {0}
AsksFor t (Asks (Store mailbox keys how flags strict)) = Unit {0}
AsksFor t (Asks (Copy mailbox keys target strict)) = Unit {0}
AsksFor t (Asks (Listed pattern)) = Unit {0}
AsksFor t (Asks (Status mailbox)) = Unit {0}
AsksFor t (Asks (Select mailbox)) = Unit {0}
AsksFor t (Asks (Expunge mailbox only)) = Unit {0}
AsksFor t (Asks (Close mailbox removes)) = Unit {0}
AsksFor t (Asks (Create mailbox)) = Unit {0}
AsksFor t (Asks (Rename mailbox target)) = Unit {0}
AsksFor t (Asks (Delete mailbox)) = Unit {0}
AsksFor t Nothing = Unit {0}
AsksFor t (Say text) = Unit {0}
AsksFor t (Bye text) = Unit {0}

abbrev For : Transaction → DialogTurn → Type 0
For t x = AsksFor t x.out

for_begin : (house : House) (client : Option (List ℕ)) (s t : Transaction) (path : List ℕ) → For t (begin house client s path)
for_begin house None s t path = tt
for_begin house (Some client) Idle t path = tt
for_begin house (Some client) (Begun q to) t path = tt
for_begin house (Some client) (Writing q to text) t path = tt
for_begin house (Some client) (Due host) t path = tt

for_receive : (house : House) (d : Dialog) (s t : Transaction) (local : List ℕ) (known : Bool) → For t (receive house d s local known)
for_receive house d Idle t local known = tt
for_receive house d (Writing path to text) t local known = tt
for_receive house d (Due host) t local known = tt
for_receive house d (Begun path to) t local known = either (For t) (nat_le 1000 (length to)) _ _ tt (either (For t) known _ _ tt tt)

for_obey : (house : House) (conf : Conf) (d : Dialog) (t : Transaction) (reading : Reading) → For t (obey house conf d reading)
for_obey house conf d t (Ok (Helo c)) = tt
for_obey house conf d t (Ok (Ehlo c)) = tt
for_obey house conf d t (Ok (Mail path)) = for_begin house d.client d.transaction t path
for_obey house conf d t (Ok (Rcpt local domain)) = for_receive house d d.transaction t local (is_here house conf local domain)
for_obey house conf d t (Ok Data) = either (For t) (has_recipient d.transaction) _ _ tt tt
for_obey house conf d t (Ok Rset) = tt
for_obey house conf d t (Ok (Noop rest)) = tt
for_obey house conf d t (Ok (Vrfy what)) = tt
for_obey house conf d t (Ok Quit) = tt
for_obey house conf d t (Err refused) = tt

for_end : (house : House) (d : Dialog) (path : List ℕ) (to : List (List ℕ)) (text body : Option (List ℕ)) → For (Writing path to text) (end_text house d path to body)
for_end house d path to text None = tt
for_end house d path to text (Some body) = λ h. h

for_turn_in : (house : House) (conf : Conf) (at : ℕ) (d : Dialog) (t : Transaction) (line : SmtpLine) → For t (turn_in house conf at d t line)
for_turn_in house conf at d Idle line = for_obey house conf d Idle (command_of line)
for_turn_in house conf at d (Begun path to) line = for_obey house conf d (Begun path to) (command_of line)
for_turn_in house conf at d (Due host) line = for_obey house conf d (Due host) (command_of line)
for_turn_in house conf at d (Writing path to text) line =
    either (For (Writing path to text)) (bytes_eq line.bytes (codes ".")) _ _ (for_end house d path to text (option_map (body_of house.host at (unwrap_or d.client []) path) text)) tt

-- what is asked within the limits, for names, is the delivery of mail that can be stored
mail_of : (t : Transaction) (out : SmtpOut) → AsksWithin out → AsksFor t out → HasNames t → AllByRecursion IsDelivery (asked_by out)
mail_of t Nothing w f h = tt
mail_of t (Say text) w f h = tt
mail_of t (Bye text) w f h = tt
mail_of t (Asks (Deliver from to text)) w f h =
    (record { from_fits = let short : length from ≤ 254 = w.envelope.short in omega (arith, short); names = f h; few = w.envelope.few; small = w.small }, tt)
mail_of t (Asks (Append mailbox flags moment text)) w f h = absurd w
mail_of t (Asks (Fetch mailbox keys sets_seen shows_body strict asked)) w f h = absurd w
mail_of t (Asks (Store mailbox keys how flags strict)) w f h = absurd w
mail_of t (Asks (Copy mailbox keys target strict)) w f h = absurd w
mail_of t (Asks (Listed pattern)) w f h = absurd w
mail_of t (Asks (Status mailbox)) w f h = absurd w
mail_of t (Asks (Select mailbox)) w f h = absurd w
mail_of t (Asks (Expunge mailbox only)) w f h = absurd w
mail_of t (Asks (Close mailbox removes)) w f h = absurd w
mail_of t (Asks (Create mailbox)) w f h = absurd w
mail_of t (Asks (Rename mailbox target)) w f h = absurd w
mail_of t (Asks (Delete mailbox)) w f h = absurd w

turn_asks : (house : House) (conf : Conf) (at : ℕ) (d : Dialog) (line : SmtpLine) → IsName house.host → at ≤ 253402300799 → IsMailing d
    → AllByRecursion IsDelivery (asked_by (turn house conf at d line).out)
turn_asks house conf at d line host timely h =
    mail_of d.transaction (turn house conf at d line).out (asks_turn house conf at d line host.most timely h.small) (for_turn_in house conf at d d.transaction line) h.names

pub turn_mail : (house : House) (conf : Conf) (at : ℕ) (d : Dialog) (line : SmtpLine) (from : List ℕ) (to : List (List ℕ)) (text : List ℕ) → IsName house.host → at ≤ 253402300799
    → IsMailing d → (turn house conf at d line).out ≡ Asks (Deliver from to text) → IsMail from to text
turn_mail house conf at d line from to text host timely h e =
    (subst (λ (out : SmtpOut). AllByRecursion IsDelivery (asked_by out)) e (turn_asks house conf at d line host timely h)).0

fault_asks : (host : List ℕ) (fault : SubmitFault) → AllByRecursion IsDelivery (asked_by (fault_said host fault))
fault_asks host (IsRefused why) = tt
fault_asks host Disk = tt
fault_asks host Closed = tt

told_asks : (host : List ℕ) (outcome : Result Item SubmitFault) → AllByRecursion IsDelivery (asked_by (outcome_said host outcome))
told_asks host (Ok item) = tt
told_asks host (Err fault) = fault_asks host fault

-- ---- a whole dialog

pub dialog_asks : OneCommand → (house : House) (d : Dialog) (takes : List Taken) → IsName house.host → AllByRecursion IsTimely takes → IsMailing d
    → AllByRecursion IsDelivery (asked_in house d takes)
dialog_asks one house d [] host timely h = tt
dialog_asks one house d (Line conf at line ∷ takes) host timely h =
    all_joined IsDelivery (asked_by (turn house conf at d line).out) (asked_in house (turn house conf at d line).dialog takes) (turn_asks house conf at d line host timely.0 h)
    (dialog_asks one house (turn house conf at d line).dialog takes host timely.1 (turn_mailing one house conf at d line h))
dialog_asks one house d (Outcome outcome ∷ takes) host timely h =
    all_joined IsDelivery (asked_by (settle d outcome).out) (asked_in house (settle d outcome).dialog takes) (told_asks (host_due d.transaction) outcome)
    (dialog_asks one house (settle d outcome).dialog takes host timely.1 (settle_mailing d outcome h))

pub opening_asks : OneCommand → (house : House) (takes : List Taken) → IsName house.host → AllByRecursion IsTimely takes → AllByRecursion IsDelivery (asked_in house opening takes)
opening_asks one house takes host timely = dialog_asks one house opening takes host timely opening_mailing

pub asked_mail : OneCommand → (house : House) (takes : List Taken) (from : List ℕ) (to : List (List ℕ)) (text : List ℕ) → IsName house.host → AllByRecursion IsTimely takes
    → Contains (asked_in house opening takes) (Deliver from to text) → IsMail from to text
asked_mail one house takes from to text host timely c =
    member_has IsDelivery (asked_in house opening takes) (Deliver from to text) c (opening_asks one house takes host timely)
