-- What a deed has: its word, the mailbox that it names first and its text; and the item of an act.
use Rattle.std.specs.Prelude.{ℕ, Bool, true, false, ◌&&◌, ◌==◌, List, codes, Option, Some, None}
use Rattle.verb_core.specs.declared.item.Act.{Act}
use Rattle.verb_core.specs.declared.item.Act.TheVariants.{SetAlias, DropAlias, SetFilter, DropFilter, Remove, Give}
use Rattle.verb_core.specs.declared.item.Deed.{Deed}
use Rattle.verb_core.specs.declared.item.Deed.TheVariants as deed
use Rattle.verb_core.specs.declared.item.Item.{Item}
use Rattle.verb_core.specs.declared.item.Shown.TheVariants.{Nothing}
use Rattle.verb_core.specs.declared.mailbox.Body.{Body}

abbrev pub act_word : Act → List ℕ
act_word (SetAlias local users) = codes "ALIAS"
act_word (DropAlias local) = codes "UNALIAS"
act_word (SetFilter filter) = codes "FILTER"
act_word (DropFilter id) = codes "UNFILTER"
act_word (Remove user mailbox key) = codes "REMOVE"
act_word (Give user mailbox text) = codes "GIVE"

abbrev pub deed_word : Deed → List ℕ
deed_word (deed.Deliver from to text) = codes "DELIVER"
deed_word (deed.Append mailbox flags moment text) = codes "APPEND"
deed_word (deed.Fetch mailbox keys sets_seen shows_body) = codes "FETCH"
deed_word (deed.Store mailbox keys how flags) = codes "STORE"
deed_word (deed.Copy mailbox keys target) = codes "COPY"
deed_word (deed.List pattern) = codes "LIST"
deed_word (deed.Status mailbox) = codes "STATUS"
deed_word (deed.Select mailbox) = codes "SELECT"
deed_word (deed.Expunge mailbox keys) = codes "EXPUNGE"
deed_word (deed.Close mailbox keys) = codes "CLOSE"
deed_word (deed.Create mailbox) = codes "CREATE"
deed_word (deed.Rename mailbox target) = codes "RENAME"
deed_word (deed.Delete mailbox keys) = codes "DELETE"
deed_word (deed.Act act) = act_word act
deed_word (deed.Notice user text) = codes "NOTICE"

-- the mailbox that an act names
abbrev pub act_mailbox : Act → Option (List ℕ)
act_mailbox (SetAlias local users) = None
act_mailbox (DropAlias local) = None
act_mailbox (SetFilter filter) = None
act_mailbox (DropFilter id) = None
act_mailbox (Remove user mailbox key) = Some mailbox
act_mailbox (Give user mailbox text) = Some mailbox

-- the mailbox that a deed names first, where it names one
abbrev pub mailbox_in : Deed → Option (List ℕ)
mailbox_in (deed.Deliver from to text) = None
mailbox_in (deed.Append mailbox flags moment text) = Some mailbox
mailbox_in (deed.Fetch mailbox keys sets_seen shows_body) = Some mailbox
mailbox_in (deed.Store mailbox keys how flags) = Some mailbox
mailbox_in (deed.Copy mailbox keys target) = Some mailbox
mailbox_in (deed.List pattern) = None
mailbox_in (deed.Status mailbox) = Some mailbox
mailbox_in (deed.Select mailbox) = Some mailbox
mailbox_in (deed.Expunge mailbox keys) = Some mailbox
mailbox_in (deed.Close mailbox keys) = Some mailbox
mailbox_in (deed.Create mailbox) = Some mailbox
mailbox_in (deed.Rename mailbox target) = Some mailbox
mailbox_in (deed.Delete mailbox keys) = Some mailbox
mailbox_in (deed.Act act) = act_mailbox act
mailbox_in (deed.Notice user text) = None

-- whether it is a notice
unfoldable pub is_notice : Deed → Bool
is_notice (deed.Notice user text) = true
is_notice _ = false

-- a deed with another text, where it has one
abbrev pub with_text : List ℕ → Deed → Deed
with_text text (deed.Deliver from to _) = deed.Deliver from to text
with_text text (deed.Append mailbox flags moment _) = deed.Append mailbox flags moment text
with_text text (deed.Act (Give user mailbox _)) = deed.Act (Give user mailbox text)
with_text text (deed.Notice user _) = deed.Notice user text
with_text text d = d

abbrev pub act_item : ℕ → ℕ → Act → Item
act_item number at act = record { number = number; at = at; by = None; rev = 0; deed = deed.Act act; shown = Nothing }

-- whether two bodies name the same text
abbrev pub same_body : Body → Body → Bool
same_body a b = (a.origin == b.origin) && (a.rev == b.rev)
