-- What the parts of finding an item's aims give.
use Rattle.std.specs.Prelude.{Bool, if◌then◌else◌, List, [], ◌∷◌, ◌++◌}
use Rattle.std.specs.List.{list_any}
use Rattle.undo_base.specs.declared.keys.User.{User}
use Rattle.verb_core.specs.Boxes.{same_user}
use Rattle.verb_core.specs.declared.item.Act.{Act}
use Rattle.verb_core.specs.declared.item.Act.TheVariants.{Give}
use Rattle.verb_core.specs.declared.mailbox.BoxId.{BoxId}
use Rattle.verb_core.specs.declared.mailbox.Mailbox.{Mailbox}
use Rattle.verb_core.specs.Names.{lost_found}
use Rattle.verb_core.specs.Aims.{Sought, aim_at, into_or}
use Rattle.mail_rows.specs.declared.reach.Reach.{Reach}

-- whether a user is among those that some local part means
abbrev pub is_among_meanings : List (List User) → User → Bool
is_among_meanings meanings u = list_any (λ users. list_any (same_user u) users) meanings

-- the aims, and what was missed
abbrev pub sought_at : Reach → Sought
sought_at reach = record { aims = reach.aims; missed = reach.missed }

-- the aims of an act
abbrev pub act_sought : List (BoxId × Mailbox) → Act → Sought
act_sought boxes (Give u mailbox text) = into_or boxes mailbox lost_found (u ∷ [])
act_sought boxes _ = record { aims = []; missed = [] }

-- with one copy to the postmaster's Lost+Found, where it is due
abbrev pub with_copy : Bool → User → Sought → Sought
with_copy nobody postmaster sought = if nobody then record sought { aims = sought.aims ++ aim_at postmaster lost_found 1 ∷ [] } else sought
