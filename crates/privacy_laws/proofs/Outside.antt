-- What an IMAP client is told before it logs in: nothing of anybody's mail.
use Rattle.std.proofs.Common.{◌≡◌, inl, inr, ℕ, Bool, true, List, Option, None, Some, refl, ap, sym, subst, eqb-true}
use Rattle.undo_base.specs.declared.keys.User.{User}
use Rattle.imap_lines.specs.declared.command.ImapWhat.{ImapWhat}
use Rattle.imap_lines.specs.declared.command.ImapWhat.TheVariants as what
use Rattle.verb_core.specs.declared.conf.House.{House}
use Rattle.verb_core.specs.declared.mailbox.Body.{Body}
use Rattle.verb_core.specs.Store.{MailStore}
use Rattle.imap_view.specs.Names.{account_of}
use Rattle.imap_session.specs.declared.dialog.Awaits.{Awaits}
use Rattle.imap_session.specs.declared.dialog.Dialog.{Dialog}
use Rattle.imap_session.specs.declared.dialog.Selected.{Selected}
use Rattle.imap_session.specs.declared.out.ImapOut.{ImapOut}
use Rattle.imap_session.specs.declared.out.ImapOut.TheVariants.{Bye, Read, Say, Submit}
use Rattle.imap_session.specs.Dialog.{Took, enter, obey, took}
use Rattle.privacy_laws.specs.Clients.{IsReaderOf, is_number_of, logs_in_only}

-- something is said
abbrev pub IsSaying : ImapOut → Type 0
IsSaying (Say said) = Unit {0}
IsSaying (Read bodies) = ⊥
IsSaying (Submit asked) = ⊥
IsSaying (Bye said) = Unit {0}

-- it is the same, nothing is read or asked, and nobody else is logged in
pub record SameOutside (u : User) (s t : Took) : Type 0 where
  pub is : s ≡ t
  pub says : IsSaying s.out
  pub mine : IsReaderOf u s.dialog

module _ (u : User) (house : House) (s t : MailStore) (one other : Body → Option ℕ) (deep : Bool) (tag : List ℕ) (waits : Awaits) where
  abbrev d : Dialog
  d = record { user = None; selected = None; awaits = waits }

  said : (text : List ℕ) → SameOutside u (took (Say text) d) (took (Say text) d)
  said text = record { is = refl; says = tt; mine = inr (refl, refl) }

  entered : (o : Option ℕ) → is_number_of u o ≡ true → SameOutside u (enter tag d o) (enter tag d o)
  entered None only = said _
  entered (Some number) only = record { is = refl; says = tt; mine = inl (ap (λ (n : ℕ). Some (record { 0 = n })) (eqb-true number u.0 only)) }

  pub outside : (w : ImapWhat) → logs_in_only house u w ≡ true → SameOutside u (obey house s one deep tag d w) (obey house t other deep tag d w)
  outside what.Capability only = said _
  outside what.Noop only = said _
  outside what.Logout only = record { is = refl; says = tt; mine = inr (refl, refl) }
  outside (what.Login user password) only = entered (account_of house user password) only
  outside (what.Select mailbox) only = said _
  outside (what.Examine mailbox) only = said _
  outside (what.Create mailbox) only = said _
  outside (what.Delete mailbox) only = said _
  outside (what.Rename mailbox target) only = said _
  outside (what.Subscribe mailbox) only = said _
  outside (what.Unsubscribe mailbox) only = said _
  outside (what.List reference pattern) only = said _
  outside (what.Lsub reference pattern) only = said _
  outside (what.Status mailbox items) only = said _
  outside (what.Append mailbox flags moment text) only = said _
  outside what.Check only = said _
  outside what.Close only = said _
  outside what.Expunge only = said _
  outside (what.Fetch set items by_uid) only = said _
  outside (what.Store set how silent flags by_uid) only = said _
  outside (what.Copy set target by_uid) only = said _
  outside (what.Search charset key by_uid) only = said _
  outside what.Authenticate only = said _

module _ (house : House) (s t : MailStore) (one other : Body → Option ℕ) (deep : Bool) (tag : List ℕ) (waits : Awaits) where
  abbrev stranger : Dialog
  stranger = record { user = None; selected = None; awaits = waits }

  told_same : (w : ImapWhat) → obey house s one deep tag stranger w ≡ obey house t other deep tag stranger w
  told_same what.Noop = refl
  told_same what.Check = refl
  told_same (what.Fetch set items by_uid) = refl
  told_same (what.Store set how silent flags by_uid) = refl
  told_same (what.Copy set target by_uid) = refl
  told_same (what.Search charset key by_uid) = refl
  told_same _ = refl

-- whoever a command logs in, its answer is the same over any two stores
pub strangers : (house : House) (s t : MailStore) (one other : Body → Option ℕ) (deep : Bool) (tag : List ℕ) (d : Dialog) (w : ImapWhat) → d.user ≡ None → d.selected ≡ None
    → obey house s one deep tag d w ≡ obey house t other deep tag d w
strangers house s t one other deep tag d w user selected =
    subst (λ (o : Option User). obey house s one deep tag (record { user = o; selected = d.selected; awaits = d.awaits }) w ≡ obey house t other deep tag (record { user = o; selected = d.selected; awaits = d.awaits }) w) (sym user)
    (subst (λ (o : Option Selected). obey house s one deep tag (record { user = None; selected = o; awaits = d.awaits }) w ≡ obey house t other deep tag (record { user = None; selected = o; awaits = d.awaits }) w) (sym selected)
    (told_same house s t one other deep tag d.awaits w))
