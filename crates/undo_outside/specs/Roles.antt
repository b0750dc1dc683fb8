-- What a role is called: its name, as a person reads it, and its word in scripts.
use Rattle.std.specs.Prelude.{ℕ, Bool, List, Option, None, Some, codes, if◌then◌else◌}
use Rattle.std.specs.Str.{bytes_eq}
use Rattle.undo_outside.specs.declared.event.Role.{Role}
use Rattle.undo_outside.specs.declared.event.Role.TheVariants.{Smtp, Imap, Http, Pop}

pub record RoleWords : Type 0 where
  pub name : List ℕ
  pub word : List ℕ

-- the roles
abbrev pub words_of : Role → RoleWords
words_of Smtp = record { name = codes "SMTP"; word = codes "smtp" }
words_of Imap = record { name = codes "IMAP"; word = codes "imap" }
words_of Http = record { name = codes "the console"; word = codes "http" }
words_of Pop = record { name = codes "POP3"; word = codes "pop" }

-- whether a text is the word of a role
abbrev pub is_word_of : Role → List ℕ → Bool
is_word_of role text = bytes_eq text (words_of role).word

-- the role with a word
unfoldable pub role_with : List ℕ → Option Role
role_with word =
    if is_word_of Smtp word then Some Smtp
    else (if is_word_of Imap word then Some Imap
    else (if is_word_of Http word then Some Http
    else (if is_word_of Pop word then Some Pop
    else None)))
