-- The rows of the opening store, user by user.
use Rattle.std.specs.Prelude.{ℕ, ◌+◌, List, [], ◌∷◌, ◌++◌}
use Rattle.undo_base.specs.declared.keys.User.{User}
use Rattle.verb_core.specs.declared.conf.Account.{Account}
use Rattle.verb_core.specs.declared.mailbox.BoxId.{BoxId}
use Rattle.verb_core.specs.declared.mailbox.Mailbox.{Mailbox}
use Rattle.verb_core.specs.Names.{inbox, lost_found}
use Rattle.verb_core.specs.Mailboxes.{no_mail}
use Rattle.verb_core.specs.Boxes.{box_of}

-- a user's fixed mailboxes, empty
abbrev pub fixed_of : User → List (BoxId × Mailbox)
fixed_of u = (box_of u inbox, no_mail) ∷ (box_of u lost_found, no_mail) ∷ []

-- those of the users of these accounts, of which the first is the k-th user
abbrev pub fixed_from : ℕ → List Account → List (BoxId × Mailbox)
fixed_from k [] = []
fixed_from k (a ∷ rest) = fixed_of (record { 0 = k }) ++ fixed_from (k + 1) rest
