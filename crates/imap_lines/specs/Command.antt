-- Commands (RFC 3501, 9: command, tag): a tag, a space, a word and its arguments.
use Rattle.std.specs.Prelude.{◌≡◌, codes, ℕ, Bool, true, false, List, [], ◌∷◌, Option, None, Some, option_map, option_and_then, Result, Ok, Err, if◌then◌else◌}
use Rattle.std.specs.List.{before_first, after_first}
use Rattle.imap_stream.specs.LiteralMarks.{tag_of}
use Rattle.imap_stream.specs.declared.next.RawCommand.{RawCommand}
use Rattle.imap_tokens.specs.Parts.{is_space, line_before, from_space}
use Rattle.imap_tokens.specs.Tokens.{tokens_with}
use Rattle.imap_lines.specs.Verbs.{verb_in, message_verb}
use Rattle.imap_lines.specs.What.{what_in}
use Rattle.imap_tokens.specs.Words.{is_word}
use Rattle.imap_lines.specs.declared.verbs.Verb.{Verb}
use Rattle.imap_lines.specs.declared.verbs.Verb.TheVariants as verb
use Rattle.imap_lines.specs.declared.command.ImapWhat.{ImapWhat}
use Rattle.imap_lines.specs.declared.command.ImapWhat.TheVariants as what
use Rattle.imap_lines.specs.declared.command.ImapCommand.{ImapCommand}
use Rattle.imap_lines.specs.declared.command.ImapRefused.{ImapRefused}
use Rattle.imap_lines.specs.declared.command.ImapRefused.TheVariants.{NoTag, Unknown, Argument, NoMemory}

-- What a command is read as, or why it is none.
abbrev pub Reading : Type 0
Reading = Result ImapCommand ImapRefused

-- the verb behind UID, and what stands from the space behind it on
abbrev pub uid_heading_of : List ℕ → Option (Verb × Bool × List ℕ)
uid_heading_of line = option_map (λ v. (v, true, from_space line)) (message_verb (before_first is_space line))

-- the verb that a command begins with, whether it has the form with UIDs, and what stands from the space behind it on
abbrev pub heading_of : List ℕ → Option (Verb × Bool × List ℕ)
heading_of line =
    if is_word (codes "UID") (before_first is_space line) then uid_heading_of (after_first is_space line)
    else option_map (λ v. (v, false, from_space line)) (verb_in (before_first is_space line))

-- AUTHENTICATE has any arguments
abbrev pub takes_all : Verb → Bool
takes_all (verb.Bare v) = false
takes_all (verb.Mailbox v) = false
takes_all verb.Login = false
takes_all verb.Rename = false
takes_all verb.List = false
takes_all verb.Lsub = false
takes_all verb.Status = false
takes_all verb.Append = false
takes_all verb.Fetch = false
takes_all verb.Store = false
takes_all verb.Copy = false
takes_all verb.Search = false
takes_all verb.Authenticate = true

-- what a verb asks with the arguments in the rest of its line, in the lines that follow and in the literals
abbrev pub spoken : Verb → Bool → List ℕ → List (List ℕ) → List (List ℕ) → Option ImapWhat
spoken v by_uid line lines literals =
    if takes_all v then Some what.Authenticate else option_and_then (λ tokens. what_in v by_uid tokens) (tokens_with line lines literals)

abbrev pub if_asked : List ℕ → Option ImapWhat → Reading
if_asked tag None = Err (Argument tag)
if_asked tag (Some asked) = Ok (record { tag = tag; what = asked })

abbrev pub if_headed : List ℕ → Option (Verb × Bool × List ℕ) → List (List ℕ) → List (List ℕ) → Reading
if_headed tag None lines literals = Err (Unknown tag)
if_headed tag (Some h) lines literals = if_asked tag (spoken h.0 h.1 h.2 lines literals)

-- the command behind a tag
abbrev pub tagged : List ℕ → List ℕ → List (List ℕ) → List (List ℕ) → Reading
tagged tag line lines literals = if_headed tag (heading_of line) lines literals

abbrev pub if_tagged : Option (List ℕ) → List ℕ → List (List ℕ) → List (List ℕ) → Reading
if_tagged None line lines literals = Err NoTag
if_tagged (Some tag) line lines literals = tagged tag (after_first is_space line) lines literals

-- the command of a first line, of the lines that follow and of the literals
abbrev pub of_lines : List ℕ → List (List ℕ) → List (List ℕ) → Reading
of_lines line lines literals = if_tagged (tag_of line) line lines literals

abbrev pub command_in : List (List ℕ) → List (List ℕ) → Reading
command_in [] literals = Err NoTag
command_in (line ∷ lines) literals = of_lines (line_before line lines) lines literals

-- the command that lines and literals are, or the first refusal that holds; spaces at the end of the last line don't count
abbrev pub command_of : RawCommand → Reading
command_of raw = command_in raw.lines raw.literals

-- The command has a tag.
abbrev pub IsTagged : Reading → Type 0
IsTagged (Ok command) = Unit {0}
IsTagged (Err NoTag) = ⊥
IsTagged (Err (Unknown tag)) = Unit {0}
IsTagged (Err (Argument tag)) = Unit {0}
IsTagged (Err NoMemory) = ⊥

-- The command is read as it is to be. No memory is found only for one that has a tag.
abbrev pub ReadsCommand : Reading → Reading → Type 0
ReadsCommand reading (Ok command) = reading ≡ Ok command
ReadsCommand reading (Err NoTag) = reading ≡ Err NoTag
ReadsCommand reading (Err (Unknown tag)) = reading ≡ Err (Unknown tag)
ReadsCommand reading (Err (Argument tag)) = reading ≡ Err (Argument tag)
ReadsCommand reading (Err NoMemory) = IsTagged reading
