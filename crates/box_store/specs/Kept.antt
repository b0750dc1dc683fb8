-- What contracts see of a store in memory.
use Rattle.std.specs.Prelude.{ℕ, List, Option}
use Rattle.verb_core.specs.declared.conf.Conf.{Conf}
use Rattle.verb_core.specs.declared.item.Resolved.{Resolved}
use Rattle.verb_core.specs.Store.{MailStore}
use Rattle.verb_core.specs.Aims.{Sought}

-- The store that it stands for; beside it the room for more mailboxes, the room of each spare list of entries, and the
-- configuration that is ready for the next effect.
pub record Kept : Type 0 where
  pub store : MailStore
  pub room : ℕ
  pub spares : List ℕ
  pub ready : Option Conf

-- the aims of an item, and what it missed
abbrev pub sought_in : Resolved → Sought
sought_in what = record { aims = what.aims; missed = what.missed }
