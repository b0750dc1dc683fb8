-- The operator's acts as JSON objects.
use Rattle.std.specs.Prelude.{ℕ, ◌+◌, List, codes, Option, Some, None, is_some, option_and_then, option_map, if◌then◌else◌}
use Rattle.std.specs.Str.{bytes_eq}
use Rattle.serde_json.specs.Data.{Data}
use Rattle.serde_json.specs.Find.{get, as_str}
use Rattle.verb_core.specs.declared.conf.House.{House}
use Rattle.verb_core.specs.declared.conf.Scope.{Scope}
use Rattle.verb_core.specs.declared.conf.Scope.TheVariants.{Body, Field, Sender, Recipient}
use Rattle.verb_core.specs.declared.item.Act.{Act}
use Rattle.verb_core.specs.declared.item.Act.TheVariants.{SetAlias, DropAlias, SetFilter, DropFilter, Remove, Give}
use Rattle.console_http.specs.declared.acts.Word.{Word}
use Rattle.console_http.specs.declared.acts.Word.TheVariants as word
use Rattle.console_http.specs.Members.{has_members, one_at, text_at, number_at, name_at, box_at, local_at, field_at, user_at, users_at, file_at, body_at, value_of}

-- the word of an act
abbrev pub word_of : List ℕ → Option Word
word_of text =
    if bytes_eq text (codes "alias") then Some word.Alias
    else (if bytes_eq text (codes "unalias") then Some word.Unalias
    else (if bytes_eq text (codes "filter") then Some word.Filter
    else (if bytes_eq text (codes "unfilter") then Some word.Unfilter
    else (if bytes_eq text (codes "remove") then Some word.Remove
    else (if bytes_eq text (codes "give") then Some word.Give
    else None)))))

-- how many members an act has, its word among them; a filter may have two more
abbrev pub size_of : Data → Word → ℕ
size_of d word.Alias = 3
size_of d word.Unalias = 2
size_of d word.Filter = 4 + one_at (codes "scope") d + one_at (codes "field") d
size_of d word.Unfilter = 2
size_of d word.Remove = 5
size_of d word.Give = 4

abbrev pub alias_of : House → Data → Option Act
alias_of house d = option_and_then (λ local. option_map (λ users. SetAlias local users) (users_at house d)) (local_at d)

abbrev pub unalias_of : Data → Option Act
unalias_of d = option_map (λ local. DropAlias local) (local_at d)

-- what a word says of where a filter looks, if it says all
abbrev pub plain_scope : List ℕ → Option Scope
plain_scope word =
    if bytes_eq word (codes "body") then Some Body
    else (if bytes_eq word (codes "sender") then Some Sender
    else (if bytes_eq word (codes "recipient") then Some Recipient
    else None))

-- a header field is named beside the word "header", and beside no other
abbrev pub scope_named : Data → List ℕ → Option Scope
scope_named d word =
    if bytes_eq word (codes "header") then option_map Field (field_at d) else (if is_some (get (codes "field") d) then None else plain_scope word)

-- where a filter looks: in the body, if it does not say
abbrev pub scope_in : Data → Option Data → Option Scope
scope_in d None = scope_named d (codes "body")
scope_in d (Some scope) = option_and_then (scope_named d) (as_str scope)

abbrev pub scope_at : Data → Option Scope
scope_at d = scope_in d (get (codes "scope") d)

abbrev pub filter_of : Data → Option Act
filter_of d =
    option_and_then (λ id. option_and_then (λ needle. option_and_then (λ file. option_map (λ scope. SetFilter (record { id = id; needle = needle; file = file; scope = scope }))
    (scope_at d)) (file_at d)) (name_at (codes "needle") d)) (name_at (codes "name") d)

abbrev pub unfilter_of : Data → Option Act
unfilter_of d = option_map (λ id. DropFilter id) (name_at (codes "name") d)

abbrev pub remove_of : House → Data → Option Act
remove_of house d =
    option_and_then (λ user. option_and_then (λ item. option_and_then (λ index. option_map (λ mailbox. Remove user mailbox (record { item = item; index = index })) (box_at (codes "box") d))
    (number_at (codes "index") 65535 d)) (number_at (codes "item") 4294967295 d)) (user_at house d)

abbrev pub give_of : House → Data → Option Act
give_of house d =
    option_and_then (λ user. option_and_then (λ mailbox. option_map (λ text. Give user mailbox text) (body_at d))
    (box_at (codes "box") d)) (user_at house d)

abbrev pub act_by : House → Data → Word → Option Act
act_by house d word.Alias = alias_of house d
act_by house d word.Unalias = unalias_of d
act_by house d word.Filter = filter_of d
act_by house d word.Unfilter = unfilter_of d
act_by house d word.Remove = remove_of house d
act_by house d word.Give = give_of house d

-- an object that has the members of an act, and no others
abbrev pub act_sized : House → Data → Word → Option Act
act_sized house d word = if has_members (size_of d word) d then act_by house d word else None

abbrev pub act_of : House → Data → Option Act
act_of house d = option_and_then (act_sized house d) (option_and_then word_of (text_at (codes "act") d))

-- the act that a body is
abbrev pub act_in : House → List ℕ → Option Act
act_in house body = option_and_then (act_of house) (value_of body)
