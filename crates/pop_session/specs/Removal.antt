-- What a QUIT removes: its STORE, and then its EXPUNGE, as items of the store.
use Rattle.std.specs.Prelude.{ℕ, List, [], ◌∷◌, Ok, Some}
use Rattle.undo_base.specs.declared.keys.Key.{Key}
use Rattle.undo_base.specs.declared.keys.User.{User}
use Rattle.verb_core.specs.declared.ask.Ask.{Ask}
use Rattle.verb_core.specs.declared.item.Item.{Item}
use Rattle.verb_core.specs.Live.{asked_item}
use Rattle.verb_core.specs.Step.{step}
use Rattle.verb_core.specs.Store.{MailStore}
use Rattle.pop_session.specs.declared.dialog.Awaits.TheVariants.{Nothing}
use Rattle.pop_session.specs.declared.dialog.Stage.TheVariants.{Transaction}
use Rattle.pop_session.specs.declared.maildrop.Maildrop.{Maildrop}
use Rattle.pop_session.specs.declared.out.PopOut.{PopOut}
use Rattle.pop_session.specs.Dialog.{Took, expunge_of, quit, settle, store_of}

-- the store after the item that a user asks for
abbrev pub after : MailStore → User → ℕ → ℕ → Ask → MailStore
after s u number at ask = (step s (asked_item s number at (Some u) ask)).0

-- the store after both asks of a QUIT, whose items have these numbers and moments
abbrev pub after_quit : MailStore → User → ℕ → ℕ → ℕ → ℕ → List Key → MailStore
after_quit s u number at next later keys = after (after s u number at (store_of keys)) u next later (expunge_of keys)

-- what a QUIT asks and says, where the store does both that it asks
abbrev pub quit_outs : User → Maildrop → Item → Item → List PopOut
quit_outs u drop marked removed =
    let first : Took = quit (record { stage = Transaction u drop; awaits = Nothing }) in
    let second : Took = settle first.dialog (Ok marked) in
    first.out ∷ second.out ∷ (settle second.dialog (Ok removed)).out ∷ []
