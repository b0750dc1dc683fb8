-- A dialog stays within the limits, and so does what it asks.
use Rattle.std.proofs.Common.{◌≡◌, ℕ, ◌≤◌, ◌<◌, Bool, true, false, List, [], ◌∷◌, ◌++◌, length, refl, arith, nat_le, length-append, bytes_eq, codes, sym, subst}
use Rattle.std.proofs.lemmas.Bool.{leb-true, leb-false}
use Rattle.std.specs.Prelude.{Option, None, Some, IfSome, Result, Ok, Err, IfOk, OnErr, if◌then◌else◌, option_map, unwrap_or}
use Rattle.std.specs.List.{list_any}
use Rattle.std.specs.Str.{str_to_ascii_lowercase}
use Rattle.smtp_lines.specs.declared.line.SmtpLine.{SmtpLine}
use Rattle.smtp_lines.specs.declared.command.SmtpCommand.TheVariants.{Helo, Ehlo, Mail, Rcpt, Data, Rset, Noop, Vrfy, Quit}
use Rattle.smtp_lines.specs.Stuffing.{unstuffed}
use Rattle.smtp_lines.specs.Command.{Reading, command_of}
use Rattle.verb_core.specs.declared.conf.House.{House}
use Rattle.verb_core.specs.declared.conf.Conf.{Conf}
use Rattle.smtp_session.specs.declared.answer.SmtpOut.{SmtpOut}
use Rattle.smtp_session.specs.declared.dialog.Dialog.{Dialog}
use Rattle.smtp_session.specs.declared.dialog.Transaction.{Transaction}
use Rattle.smtp_session.specs.declared.dialog.Transaction.TheVariants.{Idle, Begun, Writing, Due}
use Rattle.smtp_session.specs.Bytes.{said}
use Rattle.smtp_session.specs.Body.{body_of}
use Rattle.smtp_session.specs.Text.{add_line, add_whole, fits}
use Rattle.smtp_session.specs.Recipients.{put_once, is_here}
use Rattle.smtp_session.specs.Dialog.{DialogTurn, begin, end_text, has_recipient, obey, receive, take_text, turn, turn_in, turns, write}
use Rattle.smtp_session.specs.Limits.{AsksWithin, IsSmall, IsWithin}
use Rattle.smtp_session.proofs.Sizes.{body_small}
use Rattle.smtp_session.proofs.Readings.{SmallReading, small_reading}

abbrev Client : Option (List ℕ) → Type 0
Client client = IfSome client (λ c. length c ≤ 200)

small : (client : Option (List ℕ)) (t : Transaction) → Client client → IsWithin t → IsSmall (record { client = client; transaction = t })
small client t h k = record { client = h; transaction = k }

more_of : (b : Bool) (name : List ℕ) (to : List (List ℕ)) → length to < 1000 → length (if b then to else to ++ name ∷ []) ≤ 1000
more_of true name to h = omega (arith, h)
more_of false name to h = omega (arith, h, length-append to (name ∷ []))

one_more : (name : List ℕ) (to : List (List ℕ)) → length to < 1000 → length (put_once name to) ≤ 1000
one_more name to h = more_of (list_any (λ held. bytes_eq held name) to) name to h

small_begin : (house : House) (client : Option (List ℕ)) (t : Transaction) (path : List ℕ) → Client client → IsWithin t → length path ≤ 254
    → IsSmall (begin house client t path).dialog
small_begin house None t path h k p = small None t h k
small_begin house (Some client) Idle path h k p = small (Some client) (Begun path []) h (record { short = p; few = omega arith })
small_begin house (Some client) (Begun q to) path h k p = small (Some client) (Begun q to) h k
small_begin house (Some client) (Writing q to text) path h k p = small (Some client) (Writing q to text) h k
small_begin house (Some client) (Due host) path h k p = small (Some client) (Due host) h k

small_if : (b : Bool) (x y : DialogTurn) → (b ≡ true → IsSmall x.dialog) → (b ≡ false → IsSmall y.dialog) → IsSmall (if b then x else y).dialog
small_if true x y f g = f refl
small_if false x y f g = g refl

small_receive : (house : House) (client : Option (List ℕ)) (t : Transaction) (local : List ℕ) (known : Bool) → Client client → IsWithin t
    → IsSmall (receive house (record { client = client; transaction = t }) t local known).dialog
small_receive house client Idle local known h k = small client Idle h k
small_receive house client (Writing path to text) local known h k = small client (Writing path to text) h k
small_receive house client (Due host) local known h k = small client (Due host) h k
small_receive house client (Begun path to) local known h k =
    let d : Dialog = record { client = client; transaction = Begun path to } in
    let name : List ℕ = str_to_ascii_lowercase local in
    small_if (nat_le 1000 (length to)) _ _ (λ _. small client (Begun path to) h k)
    (λ e. small_if known _ _
    (λ _. small client (Begun path (put_once name to)) h (record { short = k.short; few = one_more name to (leb-false 1000 (length to) e) }))
    (λ _. small client (Begun path to) h k))

small_write : (house : House) (client : Option (List ℕ)) (t : Transaction) → Client client → IsWithin t
    → IsSmall (write house (record { client = client; transaction = t })).dialog
small_write house client Idle h k = small client Idle h k
small_write house client (Begun path []) h k = small client (Begun path []) h k
small_write house client (Begun path (r ∷ to)) h k = small client (Writing path (r ∷ to) (Some [])) h (k, (omega arith, omega arith))
small_write house client (Writing path to text) h k = small client (Writing path to text) h k
small_write house client (Due host) h k = small client (Due host) h k

-- a line outside a text keeps the limits
small_obey : (house : House) (conf : Conf) (client : Option (List ℕ)) (t : Transaction) (reading : Reading) → Client client → IsWithin t
    → SmallReading reading → IsSmall (obey house conf (record { client = client; transaction = t }) reading).dialog
small_obey house conf client t (Ok (Helo c)) h k r = small (Some c) Idle r tt
small_obey house conf client t (Ok (Ehlo c)) h k r = small (Some c) Idle r tt
small_obey house conf client t (Ok (Mail path)) h k r = small_begin house client t path h k r
small_obey house conf client t (Ok (Rcpt local domain)) h k r = small_receive house client t local (is_here house conf local domain) h k
small_obey house conf client t (Ok Data) h k r = small_write house client t h k
small_obey house conf client t (Ok Rset) h k r = small client Idle h tt
small_obey house conf client t (Ok (Noop rest)) h k r = small client t h k
small_obey house conf client t (Ok (Vrfy what)) h k r = small client t h k
small_obey house conf client t (Ok Quit) h k r = small client t h k
small_obey house conf client t (Err refused) h k r = small client t h k

some_if : (b : Bool) (text : List ℕ) → (b ≡ true → length text ≤ 1048576) → IfSome (if b then Some text else None) (λ t. length t ≤ 1048576)
some_if true text f = f refl
some_if false text f = tt

fits_small : (text : List ℕ) → IfSome (fits text) (λ t. length t ≤ 1048576)
fits_small text = some_if (nat_le (length text) 1048576) text (leb-true (length text) 1048576)

add_whole_small : (text : Option (List ℕ)) (line : List ℕ) → IfSome (add_whole text line) (λ t. length t ≤ 1048576)
add_whole_small None line = tt
add_whole_small (Some text) line = fits_small (text ++ said (unstuffed line))

unless_long : (b : Bool) (text : Option (List ℕ)) → IfSome text (λ t. length t ≤ 1048576) → IfSome (if b then None else text) (λ t. length t ≤ 1048576)
unless_long true text h = tt
unless_long false text h = h

add_line_small : (text : Option (List ℕ)) (line : SmtpLine) → IfSome (add_line text line) (λ t. length t ≤ 1048576)
add_line_small text line = unless_long line.long (add_whole text line.bytes) (add_whole_small text line.bytes)

small_end : (house : House) (client : Option (List ℕ)) (t : Transaction) (path : List ℕ) (to : List (List ℕ)) (body : Option (List ℕ)) → Client client
    → IsSmall (end_text house (record { client = client; transaction = t }) path to body).dialog
small_end house client t path to None h = small client Idle h tt
small_end house client t path to (Some body) h = small client (Due house.host) h tt

-- a line of a text keeps them
small_text : (house : House) (at : ℕ) (client : Option (List ℕ)) (path : List ℕ) (to : List (List ℕ)) (text : Option (List ℕ)) (line : SmtpLine)
    → Client client → IsWithin (Writing path to text)
    → IsSmall (take_text house at (record { client = client; transaction = Writing path to text }) path to text line).dialog
small_text house at client path to text line h k =
    small_if (bytes_eq line.bytes (codes ".")) _ _ (λ _. small_end house client (Writing path to text) path to _ h)
    (λ _. small client (Writing path to (add_line text line)) h (k.0, (k.1.0, add_line_small text line)))

small_turn_in : (house : House) (conf : Conf) (at : ℕ) (client : Option (List ℕ)) (t : Transaction) (line : SmtpLine) → Client client → IsWithin t
    → IsSmall (turn_in house conf at (record { client = client; transaction = t }) t line).dialog
small_turn_in house conf at client Idle line h k = small_obey house conf client Idle (command_of line) h k (small_reading line)
small_turn_in house conf at client (Begun path to) line h k = small_obey house conf client (Begun path to) (command_of line) h k (small_reading line)
small_turn_in house conf at client (Due host) line h k = small_obey house conf client (Due host) (command_of line) h k (small_reading line)
small_turn_in house conf at client (Writing path to text) line h k = small_text house at client path to text line h k

-- a turn keeps a dialog within the limits
pub small_turn : (house : House) (conf : Conf) (at : ℕ) (d : Dialog) (line : SmtpLine) → IsSmall d → IsSmall (turn house conf at d line).dialog
small_turn house conf at d line s = small_turn_in house conf at d.client d.transaction line s.client s.transaction

asks_if : (b : Bool) (x y : DialogTurn) → AsksWithin x.out → AsksWithin y.out → AsksWithin (if b then x else y).out
asks_if true x y f g = f
asks_if false x y f g = g

asks_begin : (house : House) (client : Option (List ℕ)) (t : Transaction) (path : List ℕ) → AsksWithin (begin house client t path).out
asks_begin house None t path = tt
asks_begin house (Some client) Idle path = tt
asks_begin house (Some client) (Begun q to) path = tt
asks_begin house (Some client) (Writing q to text) path = tt
asks_begin house (Some client) (Due host) path = tt

asks_receive : (house : House) (d : Dialog) (t : Transaction) (local : List ℕ) (known : Bool) → AsksWithin (receive house d t local known).out
asks_receive house d Idle local known = tt
asks_receive house d (Writing path to text) local known = tt
asks_receive house d (Due host) local known = tt
asks_receive house d (Begun path to) local known = asks_if (nat_le 1000 (length to)) _ _ tt (asks_if known _ _ tt tt)

asks_obey : (house : House) (conf : Conf) (d : Dialog) (reading : Reading) → AsksWithin (obey house conf d reading).out
asks_obey house conf d (Ok (Helo c)) = tt
asks_obey house conf d (Ok (Ehlo c)) = tt
asks_obey house conf d (Ok (Mail path)) = asks_begin house d.client d.transaction path
asks_obey house conf d (Ok (Rcpt local domain)) = asks_receive house d d.transaction local (is_here house conf local domain)
asks_obey house conf d (Ok Data) = asks_if (has_recipient d.transaction) _ _ tt tt
asks_obey house conf d (Ok Rset) = tt
asks_obey house conf d (Ok (Noop rest)) = tt
asks_obey house conf d (Ok (Vrfy what)) = tt
asks_obey house conf d (Ok Quit) = tt
asks_obey house conf d (Err refused) = tt

client_small : (client : Option (List ℕ)) → Client client → length (unwrap_or client []) ≤ 200
client_small None h = omega arith
client_small (Some client) h = h

asks_end : (house : House) (at : ℕ) (d : Dialog) (path : List ℕ) (to : List (List ℕ)) (text : Option (List ℕ)) → length house.host ≤ 200
    → at ≤ 253402300799 → Client d.client → IsWithin (Writing path to text)
    → AsksWithin (end_text house d path to (option_map (body_of house.host at (unwrap_or d.client []) path) text)).out
asks_end house at d path to None h m c k = tt
asks_end house at d path to (Some text) h m c k =
    record {
      envelope = k.0;
      some = k.1.0;
      small = body_small house.host (unwrap_or d.client []) path text at h (client_small d.client c) k.0.short m k.1.1;
    }

asks_turn_in : (house : House) (conf : Conf) (at : ℕ) (d : Dialog) (t : Transaction) (line : SmtpLine) → length house.host ≤ 200
    → at ≤ 253402300799 → Client d.client → IsWithin t → AsksWithin (turn_in house conf at d t line).out
asks_turn_in house conf at d Idle line h m c k = asks_obey house conf d (command_of line)
asks_turn_in house conf at d (Begun path to) line h m c k = asks_obey house conf d (command_of line)
asks_turn_in house conf at d (Due host) line h m c k = asks_obey house conf d (command_of line)
asks_turn_in house conf at d (Writing path to text) line h m c k =
    asks_if (bytes_eq line.bytes (codes ".")) _ _ (asks_end house at d path to text h m c k) tt

-- what a turn asks is within the limits
pub asks_turn : (house : House) (conf : Conf) (at : ℕ) (d : Dialog) (line : SmtpLine) → length house.host ≤ 200 → at ≤ 253402300799 → IsSmall d
    → AsksWithin (turn house conf at d line).out
asks_turn house conf at d line h m s = asks_turn_in house conf at d d.transaction line h m s.client s.transaction

-- what holds of a turn's dialog, and of the dialog before it, holds of the dialog after a call
pub after_call : {E : Type 0} (result : Result SmtpOut E) (now : DialogTurn) (old new : Dialog) → IfOk result (λ out. now ≡ turns out new)
    → OnErr result (new ≡ old) → IsSmall now.dialog → IsSmall old → IsSmall new
after_call (Ok out) now old new ok err s o = subst (λ (t : DialogTurn). IsSmall t.dialog) ok s
after_call (Err e) now old new ok err s o = subst (λ (d : Dialog). IsSmall d) (sym err) o

pub asks_of_call : {E : Type 0} (result : Result SmtpOut E) (now : DialogTurn) (new : Dialog) → IfOk result (λ out. now ≡ turns out new)
    → AsksWithin now.out → IfOk result AsksWithin
asks_of_call (Ok out) now new ok s = subst (λ (t : DialogTurn). AsksWithin t.out) ok s
asks_of_call (Err e) now new ok s = tt
