-- How the outline of a store goes on: by the configuration and the names alone.
use Rattle.std.specs.Prelude.{Bool, true, false, if◌then◌else◌}
use Rattle.verb_core.specs.declared.item.Deed.{Deed}
use Rattle.verb_core.specs.declared.item.Deed.TheVariants.{Create, Rename, Delete, Act as Acts}
use Rattle.verb_core.specs.declared.item.Act.TheVariants.{SetAlias, DropAlias, SetFilter, DropFilter}
use Rattle.verb_core.specs.declared.item.Item.{Item}
use Rattle.verb_core.specs.Step.{step}
use Rattle.verb_core.specs.Store.{MailStore}

-- whether a deed changes the configuration, or which mailboxes there are
abbrev pub changes_outline : Deed → Bool
changes_outline (Create mailbox) = true
changes_outline (Rename mailbox target) = true
changes_outline (Delete mailbox keys) = true
changes_outline (Acts (SetAlias local users)) = true
changes_outline (Acts (DropAlias local)) = true
changes_outline (Acts (SetFilter filter)) = true
changes_outline (Acts (DropFilter id)) = true
changes_outline _ = false

-- an outline behind an item: such a deed is performed on it, and no other
abbrev pub outline_after : MailStore → Item → MailStore
outline_after o i = if changes_outline i.deed then (step o i).0 else o
