-- The words that the program takes: `init STORE`, `serve STORE SMTP IMAP HTTP [POP]`, `script STORE`, `play`, `grow ROUNDS`, `check STORE`, `cut STORE POINT`,
-- `audit STORE`.
use Rattle.std.specs.Prelude.{ℕ, Bool, false, not, ◌==◌, List, [], ◌∷◌, codes, bytes_eq, Option, Some, None, option_map, option_and_then, if◌then◌else◌}
use Rattle.std.specs.List.{list_all}
use Rattle.command_words.specs.declared.commands.Command.{Command}
use Rattle.command_words.specs.declared.commands.Command.TheVariants.{Init, Serve, Script, Play, Grow, Check, Cut, Audit}
use Rattle.command_words.specs.Numbers.{point_of, port_of, rounds_of}

-- a word that may stand: it is not empty and does not begin with '-'
abbrev pub is_word : List ℕ → Bool
is_word [] = false
is_word (first ∷ rest) = not (first == 45)

-- the command that is one word
abbrev pub alone : List ℕ → Option Command
alone name = if bytes_eq name (codes "play") then Some Play else None

-- a command and its one word
abbrev pub with_one : List ℕ → List ℕ → Option Command
with_one name word =
    if bytes_eq name (codes "init") then Some Init
    else if bytes_eq name (codes "script") then Some Script
    else if bytes_eq name (codes "check") then Some Check
    else if bytes_eq name (codes "audit") then Some Audit
    else if bytes_eq name (codes "grow") then option_map (λ rounds. Grow rounds) (rounds_of word)
    else None

-- a command, its store, and one word more
abbrev pub with_two : List ℕ → List ℕ → Option Command
with_two name word = if bytes_eq name (codes "cut") then option_map (λ point. Cut point) (point_of word) else None

-- the command `serve` at its ports, of which that of POP3 may be none
abbrev pub at_ports : Option ℕ → Option ℕ → Option ℕ → Option (Option ℕ) → Option Command
at_ports smtp imap http pop = option_and_then (λ s. option_and_then (λ i. option_and_then (λ h. option_map (λ p. Serve s i h p) pop) http) imap) smtp

-- a command, its store, its three ports, and one of POP3 or none
abbrev pub with_ports : List ℕ → List ℕ → List ℕ → List ℕ → Option (Option ℕ) → Option Command
with_ports name smtp imap http pop = if bytes_eq name (codes "serve") then at_ports (port_of smtp) (port_of imap) (port_of http) pop else None

-- a port of POP3 that a word names
abbrev pub some_port : List ℕ → Option (Option ℕ)
some_port word = option_map (λ port. Some port) (port_of word)

-- the command that so many words are
abbrev pub by_number : List (List ℕ) → Option Command
by_number [] = None
by_number (name ∷ []) = alone name
by_number (name ∷ word ∷ []) = with_one name word
by_number (name ∷ store ∷ word ∷ []) = with_two name word
by_number (name ∷ a ∷ b ∷ c ∷ []) = None
by_number (name ∷ store ∷ smtp ∷ imap ∷ http ∷ []) = with_ports name smtp imap http (Some None)
by_number (name ∷ store ∷ smtp ∷ imap ∷ http ∷ pop ∷ []) = with_ports name smtp imap http (some_port pop)
by_number (name ∷ a ∷ b ∷ c ∷ d ∷ e ∷ f ∷ rest) = None

-- the command that words are, or none where they are of no stated shape
abbrev pub command_of : List (List ℕ) → Option Command
command_of words = if list_all is_word words then by_number words else None

-- the second of words
abbrev pub second : List (List ℕ) → Option (List ℕ)
second [] = None
second (name ∷ []) = None
second (name ∷ word ∷ rest) = Some word

-- the word STORE of a command's words
abbrev pub store_in : List (List ℕ) → Command → Option (List ℕ)
store_in words Init = second words
store_in words (Serve smtp imap http pop) = second words
store_in words Script = second words
store_in words Play = None
store_in words (Grow rounds) = None
store_in words Check = second words
store_in words (Cut point) = second words
store_in words Audit = second words

-- the word STORE, where words are of a shape that has one
abbrev pub store_of : List (List ℕ) → Option (List ℕ)
store_of words = option_and_then (λ command. store_in words command) (command_of words)

-- the ports of a command
abbrev pub ports_in : Command → Option (ℕ × ℕ × ℕ)
ports_in Init = None
ports_in (Serve smtp imap http pop) = Some (smtp, imap, http)
ports_in Script = None
ports_in Play = None
ports_in (Grow rounds) = None
ports_in Check = None
ports_in (Cut point) = None
ports_in Audit = None

-- the ports of `serve`, where words are of its shape
abbrev pub ports_of : List (List ℕ) → Option (ℕ × ℕ × ℕ)
ports_of words = option_and_then (λ command. ports_in command) (command_of words)

-- the port for POP3 of a command
abbrev pub pop_in : Command → Option ℕ
pop_in Init = None
pop_in (Serve smtp imap http pop) = pop
pop_in Script = None
pop_in Play = None
pop_in (Grow rounds) = None
pop_in Check = None
pop_in (Cut point) = None
pop_in Audit = None

-- the port for POP3 of `serve`, where words are of its shape and name one
abbrev pub pop_of : List (List ℕ) → Option ℕ
pop_of words = option_and_then (λ command. pop_in command) (command_of words)
