-- Where the events of an IMAP client end, so that each has one SEARCH at most.
use Rattle.std.specs.Prelude.{◌≡◌, ◌<◌, ◌+◌, ◌==◌, ◌&&◌, if◌then◌else◌, ℕ, nat_lt, Bool, true, false, List, fold, take, get_or}
use Rattle.std.specs.Char.{to_ascii_uppercase}
use Rattle.host_outside.specs.declared.line.Line.{Line}

-- a letter of the word SEARCH, the first being 0
abbrev pub letter_at : ℕ → ℕ
letter_at place =
    if place == 0 then 83 else if place == 1 then 69 else if place == 2 then 65 else if place == 3 then 82 else if place == 4 then 67 else 72

-- How many letters of the word the last octets of a line are, once this one in upper case is the last. No letter of it stands in
-- it twice before the end, so after another octet only the first letter can begin it anew.
abbrev pub spells : ℕ → ℕ → ℕ
spells spelled letter = if nat_lt spelled 6 && (letter == letter_at spelled) then spelled + 1 else if letter == 83 then 1 else 0

-- a line of which nothing came yet
abbrev pub fresh : Line
fresh = record { has_word = false; spelled = 0 }

-- a line, and so many letters that its last octets spell: six are the word
abbrev pub spelling : Line → ℕ → Line
spelling line spelled = if spelled == 6 then record { has_word = true; spelled = 0 } else record { has_word = line.has_word; spelled = spelled }

-- what is known of the line behind one more octet: a line feed ends it
abbrev pub goes_on : Line → ℕ → Line
goes_on line octet = if octet == 10 then fresh else spelling line (spells line.spelled (to_ascii_uppercase octet))

-- what is known of the line behind these octets
abbrev pub told : Line → List ℕ → Line
told line octets = fold goes_on line octets

-- the octet at the place ends a line that has the word
pub record EndsSearch (line : Line) (octets : List ℕ) (place : ℕ) : Type 0 where
  pub ends : (get_or octets place 0 == 10) ≡ true
  pub has_word : (told line (take place octets)).has_word ≡ true

-- no line ends before the octet at the place
abbrev pub IsUnbroken : List ℕ → ℕ → Type 0
IsUnbroken octets place = (before : ℕ) → before < place → (get_or octets before 0 == 10) ≡ false

-- Of these octets the first so many are an event: where a line that has the word ends among them, it ends with the last of them,
-- and no other line ends before.
abbrev pub IsApart : Line → List ℕ → ℕ → Type 0
IsApart line octets count = (place : ℕ) → place < count → EndsSearch line octets place → (place + 1 ≡ count) × IsUnbroken octets place
