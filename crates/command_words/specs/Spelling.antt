-- What words say a command, apart from how they are read: its name, its store, and its numbers as they are written.
use Rattle.std.specs.Prelude.{◌≡◌, ◌≤◌, ℕ, true, List, [], ◌∷◌, codes, Option, Some, None, IfSome}
use Rattle.std.specs.Fmt.{decimal}
use Rattle.command_words.specs.declared.commands.Command.{Command}
use Rattle.command_words.specs.declared.commands.Command.TheVariants.{Init, Serve, Script, Play, Grow, Check, Cut, Audit}
use Rattle.command_words.specs.Usage.{is_word}

-- a command that has a store alone, under this name
abbrev pub SaysStore : List (List ℕ) → List ℕ → Type 0
SaysStore words name = (store : List ℕ) × (is_word store ≡ true) × (words ≡ name ∷ store ∷ [])

-- a port of TCP that can be named
abbrev pub IsPort : ℕ → Type 0
IsPort n = (1 ≤ n) × (n ≤ 65535)

-- the words of a port that may be left out
abbrev pub words_of : Option ℕ → List (List ℕ)
words_of None = []
words_of (Some port) = decimal port ∷ []

-- words say a command
abbrev pub Says : List (List ℕ) → Command → Type 0
Says words Init = SaysStore words (codes "init")
Says words (Serve smtp imap http pop) =
    (store : List ℕ) × (is_word store ≡ true) × IsPort smtp × IsPort imap × IsPort http × IfSome pop IsPort
    × (words ≡ codes "serve" ∷ store ∷ decimal smtp ∷ decimal imap ∷ decimal http ∷ words_of pop)
Says words Script = SaysStore words (codes "script")
Says words Play = words ≡ codes "play" ∷ []
Says words (Grow rounds) = (3 ≤ rounds) × (rounds ≤ 100000) × (words ≡ codes "grow" ∷ decimal rounds ∷ [])
Says words Check = SaysStore words (codes "check")
Says words (Cut point) = (store : List ℕ) × (is_word store ≡ true) × (point ≤ 4294967295) × (words ≡ codes "cut" ∷ store ∷ decimal point ∷ [])
Says words Audit = SaysStore words (codes "audit")
