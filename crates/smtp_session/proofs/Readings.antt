-- How large the arguments of commands are.
use Rattle.std.proofs.Common.{◌≡◌, ℕ, ◌≤◌, Bool, true, false, ◌&&◌, not, List, [], ◌∷◌, length, refl, arith, nat_le}
use Rattle.std.proofs.lemmas.Bool.{leb-true}
use Rattle.std.proofs.lemmas.Grind.{common_steps}
use Rattle.std.specs.Prelude.{Option, None, Some, IfSome, Ok, Err, if◌then◌else◌, codes, ◌==◌}
use Rattle.std.specs.List.{list_any, list_all, after_first, before_first}
use Rattle.smtp_lines.specs.declared.line.SmtpLine.{SmtpLine}
use Rattle.smtp_lines.specs.declared.word.Word.{Word}
use Rattle.smtp_lines.specs.declared.word.Word.TheVariants as word
use Rattle.smtp_lines.specs.declared.command.SmtpCommand.{SmtpCommand}
use Rattle.smtp_lines.specs.declared.command.SmtpCommand.TheVariants.{Helo, Ehlo, Mail, Rcpt, Data, Rset, Noop, Vrfy, Quit}
use Rattle.smtp_lines.specs.declared.command.SmtpRefused.{SmtpRefused}
use Rattle.smtp_lines.specs.declared.command.SmtpRefused.TheVariants.{Long}
use Rattle.smtp_lines.specs.Parts.{is_short, is_space, is_visible, trimmed}
use Rattle.smtp_lines.specs.Word.{word_of}
use Rattle.smtp_lines.specs.Path.{begins_with, domain_of, has_domain, local_of, inside, is_path, is_path_byte, outside, path_at, path_of, unrouted}
use Rattle.smtp_lines.specs.Command.{Reading, alone, command_of, greeting, if_word, is_client, is_too_long, mail_of, rcpt_of, recipient, recipient_path, refused_tail, spoken, unless, vrfy_of, with_path, words_of}

-- a client's name of at most 200 bytes, a path of at most 254
abbrev pub SmallCommand : SmtpCommand → Type 0
SmallCommand (Helo client) = length client ≤ 200
SmallCommand (Ehlo client) = length client ≤ 200
SmallCommand (Mail path) = length path ≤ 254
SmallCommand (Rcpt local domain) = Unit {0}
SmallCommand Data = Unit {0}
SmallCommand Rset = Unit {0}
SmallCommand (Noop rest) = Unit {0}
SmallCommand (Vrfy what) = Unit {0}
SmallCommand Quit = Unit {0}

abbrev pub SmallReading : Reading → Type 0
SmallReading (Ok command) = SmallCommand command
SmallReading (Err refused) = Unit {0}

pub and_left_true : (a b : Bool) → (a && b) ≡ true → a ≡ true
and_left_true true b e = refl
and_left_true false b e = e

pub and_right_true : (a b : Bool) → (a && b) ≡ true → b ≡ true
and_right_true true b e = e
and_right_true false true e = refl
and_right_true false false e = e

small_if : (b : Bool) (x y : Reading) → (b ≡ true → SmallReading x) → SmallReading y → SmallReading (if b then x else y)
small_if true x y f g = f refl
small_if false x y f g = g

short : (bytes : List ℕ) → is_short bytes ≡ true → length bytes ≤ 200
short bytes e = leb-true (length bytes) 200 (and_right_true (nat_le 1 (length bytes)) (nat_le (length bytes) 200) e)

client_short : (bytes : List ℕ) → is_client bytes ≡ true → length bytes ≤ 200
client_short bytes e = short bytes (and_left_true (is_short bytes) (list_all is_visible bytes) e)

small_helo : (argument : List ℕ) → SmallReading (greeting Helo argument)
small_helo argument = small_if (is_client argument) (Ok (Helo argument)) _ (client_short argument) tt

small_ehlo : (argument : List ℕ) → SmallReading (greeting Ehlo argument)
small_ehlo argument = small_if (is_client argument) (Ok (Ehlo argument)) _ (client_short argument) tt

-- a path and its part behind a ':' are no longer than what stands between the brackets
behind_short : (p : ℕ → Bool) (bytes : List ℕ) (most : ℕ) → length bytes ≤ most → length (after_first p bytes) ≤ most
behind_short p bytes most h = grind (arith, common_steps, h)

if_some : (b : Bool) (x y : Option (List ℕ)) (P : List ℕ → Type 0) → (b ≡ true → IfSome x P) → (b ≡ false → IfSome y P) → IfSome (if b then x else y) P
if_some true x y P f g = f refl
if_some false x y P f g = g refl

unrouted_short : (path : List ℕ) → length path ≤ 254 → IfSome (unrouted path) (λ p. length p ≤ 254)
unrouted_short path h =
    if_some (not (begins_with 64 path)) (Some path) _ (λ p. length p ≤ 254) (λ _. h)
    (λ _. if_some (list_any (λ b. b == 58) path) (Some (after_first (λ b. b == 58) path)) None (λ p. length p ≤ 254) (λ _. behind_short (λ b. b == 58) path 254 h) (λ _. tt))

inside_short : (bytes : List ℕ) → is_path bytes ≡ true → length (inside bytes) ≤ 254
inside_short bytes e =
    leb-true (length (inside bytes)) 254
    (and_right_true (begins_with 60 bytes && list_any (λ b. b == 62) bytes) (nat_le (length (inside bytes)) 254)
    (and_left_true (begins_with 60 bytes && list_any (λ b. b == 62) bytes && nat_le (length (inside bytes)) 254) (list_all is_path_byte (inside bytes)) e))

path_short : (bytes : List ℕ) → IfSome (path_of bytes) (λ p. length p ≤ 254)
path_short bytes =
    if_some (is_path bytes) (unrouted (inside bytes)) None (λ p. length p ≤ 254) (λ e. unrouted_short (inside bytes) (inside_short bytes e)) (λ _. tt)

small_unless : (o : Option SmtpRefused) (command : SmtpCommand) → SmallCommand command → SmallReading (unless o command)
small_unless None command h = h
small_unless (Some refused) command h = tt

small_with_path : (command : List ℕ → SmtpCommand) (o : Option (List ℕ)) (tail : List ℕ) → IfSome o (λ path. SmallCommand (command path))
    → SmallReading (with_path command o tail)
small_with_path command None tail h = tt
small_with_path command (Some path) tail h = small_unless (refused_tail tail) (command path) h

small_mail : (argument : List ℕ) → SmallReading (mail_of argument)
small_mail argument = small_with_path Mail (path_of (path_at (codes "FROM:") argument)) _ (path_short (path_at (codes "FROM:") argument))

small_either : (b : Bool) (x y : SmtpCommand) → SmallCommand x → SmallCommand y → SmallCommand (if b then x else y)
small_either true x y h k = h
small_either false x y h k = k

small_recipient : (path : List ℕ) → SmallCommand (recipient path)
small_recipient path = small_either (has_domain path) (Rcpt (local_of path) (Some (domain_of path))) (Rcpt path None) tt tt

any_recipient : (o : Option (List ℕ)) → IfSome o (λ path. SmallCommand (recipient path))
any_recipient None = tt
any_recipient (Some path) = small_recipient path

small_rcpt : (argument : List ℕ) → SmallReading (rcpt_of argument)
small_rcpt argument =
    small_with_path recipient (recipient_path (path_at (codes "TO:") argument)) (outside (path_at (codes "TO:") argument))
    (any_recipient (recipient_path (path_at (codes "TO:") argument)))

small_alone : (command : SmtpCommand) (argument : List ℕ) → SmallCommand command → SmallReading (alone command argument)
small_alone command [] h = h
small_alone command (b ∷ argument) h = tt

small_vrfy : (argument : List ℕ) → SmallReading (vrfy_of argument)
small_vrfy [] = tt
small_vrfy (b ∷ argument) = tt

small_spoken : (w : Word) (argument : List ℕ) → SmallReading (spoken w argument)
unfolding spoken
small_spoken word.Helo argument = small_helo argument
small_spoken word.Ehlo argument = small_ehlo argument
small_spoken word.Mail argument = small_mail argument
small_spoken word.Rcpt argument = small_rcpt argument
small_spoken word.Data argument = small_alone Data argument tt
small_spoken word.Rset argument = small_alone Rset argument tt
small_spoken word.Noop argument = tt
small_spoken word.Vrfy argument = small_vrfy argument
small_spoken word.Quit argument = small_alone Quit argument tt
small_spoken word.Expn argument = tt
small_spoken word.Help argument = tt

small_if_word : (o : Option Word) (argument : List ℕ) → SmallReading (if_word o argument)
small_if_word None argument = tt
small_if_word (Some w) argument = small_spoken w argument

small_line : (b : Bool) (x y : Reading) → SmallReading x → SmallReading y → SmallReading (if b then x else y)
small_line true x y h k = h
small_line false x y h k = k

-- whatever a line is read as
pub small_reading : (line : SmtpLine) → SmallReading (command_of line)
small_reading line =
    small_line (is_too_long line) (Err Long) (words_of (trimmed line.bytes)) tt
    (small_if_word (word_of (before_first is_space (trimmed line.bytes))) (after_first is_space (trimmed line.bytes)))
