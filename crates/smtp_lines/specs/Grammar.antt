-- The grammar of command lines (RFC 5321, 4.1.1 and 4.1.2): which bytes spell a command, and why others spell none.
use Rattle.std.specs.Prelude.{◌≡◌, ◌≢◌, ◌⊎◌, ℕ, ◌≤◌, Bool, true, false, not, ◌==◌, ◌&&◌, List, [], ◌∷◌, ◌++◌, length, codes, Option, None, Some, Ok, Err}
use Rattle.std.specs.List.{list_all}
use Rattle.smtp_lines.specs.declared.line.SmtpLine.{SmtpLine}
use Rattle.smtp_lines.specs.declared.word.Word.{Word}
use Rattle.smtp_lines.specs.declared.word.Word.TheVariants as word
use Rattle.smtp_lines.specs.declared.command.SmtpCommand.{SmtpCommand}
use Rattle.smtp_lines.specs.declared.command.SmtpCommand.TheVariants.{Helo, Ehlo, Mail, Rcpt, Data, Rset, Noop, Vrfy, Quit}
use Rattle.smtp_lines.specs.declared.command.SmtpRefused.TheVariants.{Long, Unknown, NotDone, Argument, Parameter, NoMemory}
use Rattle.smtp_lines.specs.Parts.{is_short, is_space, is_spelled, is_visible}
use Rattle.smtp_lines.specs.Command.{Reading, is_too_long}

-- no such byte stands among the bytes
abbrev pub Lacks : ℕ → List ℕ → Type 0
Lacks c bytes = list_all (λ b. not (b == c)) bytes ≡ true

-- nothing but spaces
abbrev pub AreSpaces : List ℕ → Type 0
AreSpaces bytes = list_all is_space bytes ≡ true

-- the last byte is no space
pub record EndsInNoSpace (bytes : List ℕ) : Type 0 where
  pub front : List ℕ
  pub last : ℕ
  pub whole : bytes ≡ front ++ last ∷ []
  pub no_space : is_space last ≡ false

-- a line without the spaces at its end, which do not count (4.1.1)
pub record IsTrimmed (line core : List ℕ) : Type 0 where
  pub spaces : List ℕ
  pub are : AreSpaces spaces
  pub whole : line ≡ core ++ spaces
  pub end : (core ≡ []) ⊎ EndsInNoSpace core

-- a word in any case (2.4), alone, or with a space and its argument (4.1.1)
pub record Speaks (name argument core : List ℕ) : Type 0 where
  pub spelled : List ℕ
  pub in_any_case : is_spelled name spelled ≡ true
  pub whole : ((core ≡ spelled) × (argument ≡ [])) ⊎ (core ≡ spelled ++ 32 ∷ argument)

-- a path without its source route, which is '@', what has no ':', and ':' (4.1.2, A-d-l), and is ignored (4.1.1.3)
pub record HasRoute (inside path : List ℕ) : Type 0 where
  pub route : List ℕ
  pub whole : inside ≡ 64 ∷ route ++ 58 ∷ path
  pub plain : Lacks 58 route

-- a path that has no route begins with no '@'
pub record HasNoRoute (inside path : List ℕ) : Type 0 where
  pub whole : inside ≡ path
  pub plain : (rest : List ℕ) → inside ≢ 64 ∷ rest

-- a byte between the brackets: it shows, and is neither bracket
abbrev pub is_inner_byte : ℕ → Bool
is_inner_byte b = is_visible b && not (b == 60) && not (b == 62)

-- a word in any case, any spaces, and a path in brackets (4.1.2) of at most 254 bytes (4.5.3.1.3); and what follows them
pub record HasPath (name path tail argument : List ℕ) : Type 0 where
  pub spelled : List ℕ
  pub spaces : List ℕ
  pub inside : List ℕ
  pub in_any_case : is_spelled name spelled ≡ true
  pub are : AreSpaces spaces
  pub whole : argument ≡ spelled ++ (spaces ++ 60 ∷ (inside ++ 62 ∷ tail))
  pub inner : list_all is_inner_byte inside ≡ true
  pub short : length inside ≤ 254
  pub unrouted : HasNoRoute inside path ⊎ HasRoute inside path

-- a local part and a domain (4.1.2), of 1 to 200 bytes each
pub record IsAddress (path local domain : List ℕ) : Type 0 where
  pub whole : path ≡ local ++ 64 ∷ domain
  pub plain : Lacks 64 domain
  pub local_short : is_short local ≡ true
  pub domain_short : is_short domain ≡ true

-- `postmaster` alone, in any case (4.1.1.3)
pub record IsPostmaster (path local : List ℕ) : Type 0 where
  pub whole : path ≡ local
  pub in_any_case : is_spelled (codes "postmaster") local ≡ true

-- the recipient whom a path names
abbrev pub Names : List ℕ → List ℕ → Option (List ℕ) → Type 0
Names path local None = IsPostmaster path local
Names path local (Some domain) = IsAddress path local domain

-- HELO and EHLO: the client's name is 1 to 200 bytes that show (4.1.1.1)
pub record SpellsGreeting (name client core : List ℕ) : Type 0 where
  pub speaks : Speaks name client core
  pub short : is_short client ≡ true
  pub visible : list_all is_visible client ≡ true

-- MAIL with a path, and what follows it (4.1.1.2)
pub record SpellsMail (path tail core : List ℕ) : Type 0 where
  pub argument : List ℕ
  pub speaks : Speaks (codes "MAIL") argument core
  pub path_ : HasPath (codes "FROM:") path tail argument

-- RCPT with the path of a recipient, and what follows it (4.1.1.3)
pub record SpellsRcpt (local : List ℕ) (domain : Option (List ℕ)) (tail core : List ℕ) : Type 0 where
  pub argument : List ℕ
  pub path : List ℕ
  pub speaks : Speaks (codes "RCPT") argument core
  pub path_ : HasPath (codes "TO:") path tail argument
  pub names : Names path local domain

-- the bytes spell the command
abbrev pub Spells : SmtpCommand → List ℕ → Type 0
Spells (Helo client) core = SpellsGreeting (codes "HELO") client core
Spells (Ehlo client) core = SpellsGreeting (codes "EHLO") client core
Spells (Mail path) core = SpellsMail path [] core
Spells (Rcpt local domain) core = SpellsRcpt local domain [] core
Spells Data core = Speaks (codes "DATA") [] core
Spells Rset core = Speaks (codes "RSET") [] core
Spells (Noop rest) core = Speaks (codes "NOOP") rest core
Spells (Vrfy what) core = Speaks (codes "VRFY") what core × (what ≢ [])
Spells Quit core = Speaks (codes "QUIT") [] core

-- MAIL or RCPT with a path, a space, and a parameter (4.1.1.11)
pub record MailWithParameter (core : List ℕ) : Type 0 where
  pub path : List ℕ
  pub more : List ℕ
  pub spells : SpellsMail path (32 ∷ more) core

pub record RcptWithParameter (core : List ℕ) : Type 0 where
  pub local : List ℕ
  pub domain : Option (List ℕ)
  pub more : List ℕ
  pub spells : SpellsRcpt local domain (32 ∷ more) core

abbrev pub HasParameter : List ℕ → Type 0
HasParameter core = MailWithParameter core ⊎ RcptWithParameter core

-- the words of commands (4.1.1)
abbrev pub name_of : Word → List ℕ
name_of word.Helo = codes "HELO"
name_of word.Ehlo = codes "EHLO"
name_of word.Mail = codes "MAIL"
name_of word.Rcpt = codes "RCPT"
name_of word.Data = codes "DATA"
name_of word.Rset = codes "RSET"
name_of word.Noop = codes "NOOP"
name_of word.Vrfy = codes "VRFY"
name_of word.Quit = codes "QUIT"
name_of word.Expn = codes "EXPN"
name_of word.Help = codes "HELP"

-- EXPN and HELP are known, and not done
abbrev pub is_done : Word → Bool
is_done word.Expn = false
is_done word.Help = false
is_done word.Helo = true
is_done word.Ehlo = true
is_done word.Mail = true
is_done word.Rcpt = true
is_done word.Data = true
is_done word.Rset = true
is_done word.Noop = true
is_done word.Vrfy = true
is_done word.Quit = true

-- the bytes begin with a word that is done, or not
pub record BeginsWithWord (done : Bool) (core : List ℕ) : Type 0 where
  pub known : Word
  pub argument : List ℕ
  pub speaks : Speaks (name_of known) argument core
  pub is : is_done known ≡ done

-- A line without the spaces at its end is a command, or is refused for this cause.
abbrev pub IsRead : List ℕ → Reading → Type 0
IsRead core (Ok command) = Spells command core
IsRead core (Err Unknown) = (done : Bool) → ¬ (BeginsWithWord done core)
IsRead core (Err NotDone) = BeginsWithWord false core
IsRead core (Err Argument) = BeginsWithWord true core × (((command : SmtpCommand) → ¬ (Spells command core)) × ¬ (HasParameter core))
IsRead core (Err Parameter) = HasParameter core
IsRead core (Err Long) = ⊥
IsRead core (Err NoMemory) = ⊥

-- a line of at most 1,022 bytes that is read so
pub record IsReadShort (line : SmtpLine) (reading : Reading) : Type 0 where
  pub core : List ℕ
  pub fits : is_too_long line ≡ false
  pub trimmed_ : IsTrimmed line.bytes core
  pub reads : IsRead core reading

-- A line is a command, or is refused for this cause, too long a line before all others.
abbrev pub IsReading : SmtpLine → Reading → Type 0
IsReading line (Err Long) = is_too_long line ≡ true
IsReading line reading = IsReadShort line reading
