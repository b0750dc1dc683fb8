-- Items that were met, and which of them may come in either order.
use Rattle.std.proofs.Common.{◌≡◌, refl, ℕ, true, false, Bool, List, Option}
use Rattle.std.specs.Prelude.{[], ◌∷◌, Some, None, codes}
use Rattle.undo_base.specs.declared.keys.User.{User}
use Rattle.undo_base.specs.declared.keys.Key.{Key}
use Rattle.undo_base.specs.declared.asks.How.TheVariants.{Add}
use Rattle.verb_core.specs.declared.item.Aim.{Aim}
use Rattle.verb_core.specs.declared.item.Deed.{Deed}
use Rattle.verb_core.specs.declared.item.Deed.TheVariants.{Deliver, Fetch, Store, Copy, List as Lists, Select, Create, Rename, Delete}
use Rattle.verb_core.specs.declared.item.Shown.TheVariants.{Nothing}
use Rattle.verb_core.specs.declared.item.Resolved.{Resolved}
use Rattle.verb_core.specs.Names.{inbox, lost_found}
use Rattle.verb_core.specs.Mailboxes.{no_flags}
use Rattle.verb_core.specs.Aims.{aim_at}
use Rattle.touch_rules.specs.declared.touched.Touch.TheVariants.{Keys, Tail, Whole, Names, Every}
use Rattle.touch_rules.specs.Table.{touches_of}
use Rattle.touch_rules.specs.Commuting.{are_independent, commute}

abbrev ann : User
ann = record { 0 = 0 }

abbrev bob : User
bob = record { 0 = 1 }

abbrev key : ℕ → Key
key item = record { item = item; index = 0 }

abbrev work : List ℕ
work = codes "Work"

-- an item of ann, or of nobody, with its aims
abbrev met : ℕ → Option User → Deed → List Aim → Resolved
met number by deed aims = record { item = record { number = number; at = 0; by = by; rev = 0; deed = deed; shown = Nothing }; aims = aims; missed = [] }

-- mail to ann
abbrev mail : ℕ → Resolved
mail number = met number None (Deliver [] [] []) (aim_at ann inbox 0 ∷ [])

abbrev fetched : Bool → ℕ → ℕ → Resolved
fetched seen number of = met number (Some ann) (Fetch inbox (key of ∷ []) seen false) []

-- STORE 1 +FLAGS (\Seen) on the message of item 3
abbrev stored : ℕ → Resolved
stored number = met number (Some ann) (Store inbox (key 3 ∷ []) Add no_flags) []

-- two deliveries to one INBOX have an order
pub two_deliveries : commute (touches_of (mail 3)) (touches_of (mail 4)) ≡ false
two_deliveries = refl

-- mail that comes and a flag of an earlier message have none, and still are not independent
pub mail_and_flag : commute (touches_of (mail 7)) (touches_of (stored 9)) ≡ true
mail_and_flag = refl

pub not_independent : are_independent (touches_of (mail 7)) (touches_of (stored 9)) ≡ false
not_independent = refl

-- a message that is read has an order with the mail that brings it
pub fetched_and_mail : commute (touches_of (fetched false 6 3)) (touches_of (mail 7)) ≡ true
fetched_and_mail = refl

pub mail_then_fetched : commute (touches_of (mail 3)) (touches_of (fetched false 6 3)) ≡ false
mail_then_fetched = refl

-- two that read one message are independent, and one that marks it read has an order with each
pub two_readers : are_independent (touches_of (fetched false 5 3)) (touches_of (fetched false 6 3)) ≡ true
two_readers = refl

pub marked_read : commute (touches_of (fetched true 5 3)) (touches_of (fetched false 6 3)) ≡ false
marked_read = refl

-- flags of different messages have no order
pub flags_apart : commute (touches_of (fetched true 5 4)) (touches_of (stored 9)) ≡ true
flags_apart = refl

-- a SELECT has an order with mail for that mailbox
pub select_and_mail : commute (touches_of (met 5 (Some ann) (Select inbox) [])) (touches_of (mail 7)) ≡ false
select_and_mail = refl

-- a RENAME touches all of its user
abbrev rename : ℕ → Resolved
rename number = met number (Some ann) (Rename work (codes "Old")) []

pub renamed : touches_of (rename 5) ≡ Every ann ∷ []
renamed = refl

-- so it has an order with each item that touches anything of that user, one that only reads too, and is independent of none
pub rename_and_fetch : commute (touches_of (rename 5)) (touches_of (fetched false 6 3)) ≡ false
rename_and_fetch = refl

pub fetch_and_rename : are_independent (touches_of (fetched false 6 3)) (touches_of (rename 5)) ≡ false
fetch_and_rename = refl

pub rename_and_mail : commute (touches_of (rename 5)) (touches_of (mail 7)) ≡ false
rename_and_mail = refl

pub rename_and_list : commute (touches_of (met 10 (Some ann) (Lists (codes "*")) [])) (touches_of (rename 11)) ≡ false
rename_and_list = refl

pub two_renames : commute (touches_of (rename 5)) (touches_of (rename 6)) ≡ false
two_renames = refl

pub one_looked_for : commute (touches_of (rename 5)) (touches_of (record (mail 7) { aims = []; missed = aim_at ann work 0 ∷ [] })) ≡ false
one_looked_for = refl

-- and none with another user's
pub rename_of_another : are_independent (touches_of (rename 5)) (touches_of (met 6 (Some bob) (Rename work (codes "Old")) [])) ≡ true
rename_of_another = refl

-- a CREATE touches the superiors of its name, that are there too
pub created : touches_of (met 5 (Some ann) (Create (codes "a/b/c")) []) ≡ Whole ann (codes "a") true ∷ Whole ann (codes "a/b") true ∷ Whole ann (codes "a/b/c") true ∷ Names ann true ∷ []
created = refl

pub created_below_inbox : commute (touches_of (met 5 (Some ann) (Create (codes "INBOX/x")) [])) (touches_of (mail 7)) ≡ false
created_below_inbox = refl

pub created_beside_inbox : are_independent (touches_of (met 5 (Some ann) (Create (codes "a/b")) [])) (touches_of (mail 7)) ≡ true
created_beside_inbox = refl

pub deleted : touches_of (met 5 (Some ann) (Delete work []) []) ≡ Whole ann work true ∷ Whole ann lost_found true ∷ Names ann true ∷ []
deleted = refl

pub copied : touches_of (met 8 (Some ann) (Copy inbox (key 3 ∷ []) work) (aim_at ann work 0 ∷ [])) ≡ Keys ann inbox (key 3 ∷ []) false ∷ Tail ann work 8 ∷ []
copied = refl

-- a LIST has an order with each item that makes a mailbox of that user
pub made_and_listed : commute (touches_of (met 2 (Some ann) (Create work) [])) (touches_of (met 10 (Some ann) (Lists (codes "*")) [])) ≡ false
made_and_listed = refl
