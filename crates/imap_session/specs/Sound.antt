-- What holds of each dialog that is ever reached.
use Rattle.std.specs.Prelude.{◌≡◌, true, false, is_some, IfSome}
use Rattle.imap_session.specs.declared.dialog.Dialog.{Dialog}
use Rattle.imap_view.specs.Views.{is_in_order}
use Rattle.imap_session.specs.Dialog.{is_free}

-- a mailbox is selected, and something awaited, for a user alone
pub record IsSoundDialog (d : Dialog) : Type 0 where
  pub view : IfSome d.selected (λ selected. is_in_order selected.view ≡ true)
  pub selected : is_some d.selected ≡ true → is_some d.user ≡ true
  pub awaits : is_free d ≡ false → is_some d.user ≡ true
