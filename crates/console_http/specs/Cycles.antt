-- What is asked of a cycle, and of a withdrawal, as a JSON object.
use Rattle.std.specs.Prelude.{ℕ, ◌+◌, Bool, List, length, nat_le, codes, Option, None, option_and_then, option_map, if◌then◌else◌}
use Rattle.serde_json.specs.Data.{Data}
use Rattle.verb_core.specs.declared.conf.House.{House}
use Rattle.verb_core.specs.declared.item.Act.{Act}
use Rattle.verb_bytes.specs.declared.journal.CycleAsk.{CycleAsk}
use Rattle.console_http.specs.Parts.{name_of}
use Rattle.console_http.specs.Members.{has_members, one_at, text_at, whole_number, number_at, body_at, each_of, list_at, value_of}
use Rattle.console_http.specs.Acts.{act_of}

-- how many of an object's members are among those of a cycle
abbrev pub cycle_size : Data → ℕ
cycle_size d = one_at (codes "key") d + one_at (codes "point") d + one_at (codes "drop") d + one_at (codes "replace") d + one_at (codes "insert") d

-- an object that has no members but those of a cycle
abbrev pub has_cycle_members : Data → Bool
has_cycle_members d = has_members (cycle_size d) d

-- a name of at most 64 bytes
abbrev pub key_of : List ℕ → Option (List ℕ)
key_of text = if nat_le (length text) 64 then name_of text else None

abbrev pub key_at : Data → Option (List ℕ)
key_at d = option_and_then key_of (text_at (codes "key") d)

-- the numbers of items that are to go
abbrev pub drops_at : Data → Option (List ℕ)
drops_at d = option_and_then (each_of (whole_number 4294967295)) (list_at (codes "drop") d)

-- the number of an item and the text that it is to get
abbrev pub replace_of : Data → Option (ℕ × List ℕ)
replace_of d =
    if has_members 2 d then option_and_then (λ number. option_map (λ text. (number, text)) (body_at d)) (number_at (codes "item") 4294967295 d)
    else None

abbrev pub replaces_at : Data → Option (List (ℕ × List ℕ))
replaces_at d = option_and_then (each_of replace_of) (list_at (codes "replace") d)

-- the acts that come in
abbrev pub inserts_at : House → Data → Option (List Act)
inserts_at house d = option_and_then (each_of (act_of house)) (list_at (codes "insert") d)

-- what is asked under a key; what is missing of drops, replaces and inserts is empty
abbrev pub ask_of : House → List ℕ → Data → Option CycleAsk
ask_of house key d =
    option_and_then (λ point. option_and_then (λ drops. option_and_then (λ replaces. option_map (λ inserts.
    record { key = key; point = point; drops = drops; replaces = replaces; inserts = inserts })
    (inserts_at house d)) (replaces_at d)) (drops_at d)) (number_at (codes "point") 4294967295 d)

abbrev pub cycle_of : House → Data → Option CycleAsk
cycle_of house d = if has_cycle_members d then option_and_then (λ key. ask_of house key d) (key_at d) else None

-- a try's key does not count: it is a hyphen
abbrev pub try_of : House → Data → Option CycleAsk
try_of house d = if has_cycle_members d then ask_of house (codes "-") d else None

-- a withdrawal: an object with a key and a cycle's number, and no other members
abbrev pub withdraw_of : Data → Option (List ℕ × ℕ)
withdraw_of d =
    if has_members 2 d then option_and_then (λ key. option_map (λ of. (key, of)) (number_at (codes "of") 4294967295 d)) (key_at d)
    else None

-- the cycle that a body is
abbrev pub cycle_in : House → List ℕ → Option CycleAsk
cycle_in house body = option_and_then (cycle_of house) (value_of body)

-- the try that a body is
abbrev pub try_in : House → List ℕ → Option CycleAsk
try_in house body = option_and_then (try_of house) (value_of body)

-- the withdrawal that a body is
abbrev pub withdraw_in : List ℕ → Option (List ℕ × ℕ)
withdraw_in body = option_and_then withdraw_of (value_of body)
