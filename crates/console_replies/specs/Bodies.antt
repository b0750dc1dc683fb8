-- The short bodies of answers as JSON data.
use Rattle.std.specs.Prelude.{ℕ, true, List, codes}
use Rattle.base64.specs.Engines.{standard}
use Rattle.base64.specs.GeneralPurpose.{encode_of}
use Rattle.serde_json.specs.Data.{Data, number, unsigned, boolean, string, object, no_members, member}
use Rattle.console_replies.specs.declared.bodies.StatusCounts.{StatusCounts}
use Rattle.console_replies.specs.declared.bodies.ErrorWord.{ErrorWord}
use Rattle.console_replies.specs.declared.bodies.ErrorWord.TheVariants.{Head, Json, Size, Route, Disk, Memory}

abbrev pub counted : ℕ → Data
counted n = number (unsigned n)

-- the counts of the desk
abbrev pub status_data : StatusCounts → Data
status_data c =
    object (member (codes "cycles") (counted c.cycles) (member (codes "items") (counted c.items) (member (codes "messages") (counted c.messages)
    (member (codes "next") (counted c.next) (member (codes "notices") (counted c.notices) (member (codes "users") (counted c.users) no_members))))))

-- a text, as strict standard base64 (RFC 4648, 4), and its rev
abbrev pub body_data : List ℕ → ℕ → Data
body_data text rev = object (member (codes "body") (string (encode_of standard text)) (member (codes "rev") (counted rev) no_members))

-- the number of an act
abbrev pub number_data : ℕ → Data
number_data n = object (member (codes "number") (counted n) no_members)

-- how many items a snapshot holds
abbrev pub items_data : ℕ → Data
items_data n = object (member (codes "items") (counted n) no_members)

abbrev pub stopped_data : Data
stopped_data = object (member (codes "stopped") (boolean true) no_members)

abbrev pub upgraded_data : Data
upgraded_data = object (member (codes "upgraded") (boolean true) no_members)

abbrev pub word_text : ErrorWord → List ℕ
word_text Head = codes "head"
word_text Json = codes "json"
word_text Size = codes "size"
word_text Route = codes "route"
word_text Disk = codes "disk"
word_text Memory = codes "memory"

abbrev pub error_data : ErrorWord → Data
error_data word = object (member (codes "error") (string (word_text word)) no_members)

-- a cycle's point that names no item
abbrev pub point_data : ℕ → Data
point_data given = object (member (codes "error") (string (codes "point")) (member (codes "given") (counted given) no_members))

-- a cycle that is not the last of all cycles and withdrawals
abbrev pub uncycled_data : ℕ → Data
uncycled_data given = object (member (codes "error") (string (codes "cycle")) (member (codes "given") (counted given) no_members))

-- numbers that are used up
abbrev pub numbers_data : ℕ → Data
numbers_data next = object (member (codes "error") (string (codes "numbers")) (member (codes "next") (counted next) no_members))
