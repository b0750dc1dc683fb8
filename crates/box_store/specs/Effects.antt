-- What an effect does to a store: to whichever has the same mailboxes where the item touches them.
use Rattle.std.specs.Prelude.{◌≡◌, ℕ, ◌+◌, ◌^◌, ◌≤◌, ◌<◌, Bool, true, false, not, if◌then◌else◌, unwrap_or, option_map, bytes_eq, List, [], ◌∷◌, map, length, Option, Some, None, IsTrue}
use Rattle.std.specs.List.{list_all}
use Rattle.verb_core.specs.declared.item.Act.{Act}
use Rattle.verb_core.specs.declared.item.Deed.TheVariants.{Act as Acts}
use Rattle.verb_core.specs.declared.item.Item.{Item}
use Rattle.verb_core.specs.declared.item.Way.TheVariants.{Plain, NoSource, Merged}
use Rattle.verb_core.specs.declared.item.Resolved.{Resolved}
use Rattle.verb_core.specs.declared.conf.Conf.{Conf}
use Rattle.verb_core.specs.declared.conf.House.{House}
use Rattle.verb_core.specs.declared.mailbox.BoxId.{BoxId}
use Rattle.verb_core.specs.Names.{inbox, lost_found}
use Rattle.verb_core.specs.Mailboxes.{put_all, with_entries, expunged, without}
use Rattle.verb_core.specs.Boxes.{box_of, has_row, row_at, add_row, drop_row, change_row, mail_at, next_at}
use Rattle.verb_core.specs.Store.{MailStore, IsValid}
use Rattle.verb_core.specs.Aims.{sought, box_aimed}
use Rattle.verb_core.specs.Step.{Boxes, all_created, inbox_renamed, after_rename, deleted, step_with, conf_after}
pub use Rattle.verb_core.specs.Step.{step_text}
use Rattle.verb_core.specs.Touched.{touches_box, SameAt, SameNames}
use Rattle.mail_rows.specs.declared.change.Put.{Put}
use Rattle.mail_rows.specs.Mail.{all_flags_set}
use Rattle.undo_base.specs.declared.keys.User.{User}
use Rattle.box_store.specs.declared.effect.Effect.{Effect}
use Rattle.box_store.specs.declared.effect.Move.{Move}
use Rattle.box_store.specs.declared.effect.Work.{Work}
use Rattle.box_store.specs.declared.effect.Work.TheVariants.{Puts, Flags, Expunge, Remove, Create, Rename, Delete}
use Rattle.box_store.specs.Kept.{Kept, sought_in}

-- ---- the mailboxes afterwards

-- with new mail at the end of mailboxes, one after the other
abbrev pub put_each : List Put → Boxes → Boxes
put_each [] boxes = boxes
put_each (p ∷ ps) boxes = put_each ps (change_row p.mailbox (put_all p.mail) boxes)

-- a mailbox of a user that is there stands under its new name
abbrev pub row_moved : User → Move → Boxes → Boxes
row_moved u m boxes = unwrap_or (option_map (λ x. add_row (box_of u m.to) x (drop_row (box_of u m.from) boxes)) (row_at (box_of u m.from) boxes)) boxes

-- the same of some, one after the other
abbrev pub all_moved : User → List Move → Boxes → Boxes
all_moved u [] boxes = boxes
all_moved u (m ∷ ms) boxes = all_moved u ms (row_moved u m boxes)

-- mailboxes have new names, below superiors that are there; INBOX stays, emptied
abbrev pub renamed_by : User → List ℕ → List ℕ → List Move → Boxes → Boxes
renamed_by u source target moves boxes = if bytes_eq source inbox then inbox_renamed u target boxes else all_moved u moves boxes

abbrev pub worked : Work → Boxes → Boxes
worked (Puts puts) boxes = put_each puts boxes
worked (Flags mailbox flags) boxes = change_row mailbox (with_entries (all_flags_set flags)) boxes
worked (Expunge mailbox keys) boxes = change_row mailbox (with_entries (expunged keys)) boxes
worked (Remove mailbox key) boxes = change_row mailbox (with_entries (without (key ∷ []))) boxes
worked (Create u mailboxes) boxes = all_created u mailboxes boxes
worked (Rename NoSource u source target made moves) boxes = boxes
worked (Rename Plain u source target made moves) boxes = renamed_by u source target moves (all_created u made boxes)
worked (Rename Merged u source target made moves) boxes = after_rename Merged u source target boxes
worked (Delete u mailbox keys) boxes = deleted u mailbox keys boxes

-- the configuration after an act, where there is one
abbrev pub conf_by : House → Option Act → Conf → Conf
conf_by house None conf = conf
conf_by house (Some act) conf = conf_after house (Acts act) conf

-- a store after an effect
abbrev pub applied : Effect → MailStore → MailStore
applied e s = record s { conf = conf_by s.house e.act s.conf; boxes = worked e.work s.boxes }

-- ---- what an effect is for

-- the aims are some store's of this house, and they hold in this one
pub record IsAimed (what : Resolved) (s : MailStore) : Type 0 where
  pub elsewhere : (t : MailStore) × ((text : List ℕ) × ((t.house ≡ s.house) × (sought_in what ≡ sought t text what.item.by what.item.deed)))
  pub there : IsTrue (list_all (λ a. has_row (box_aimed a) s.boxes) what.aims)
  pub missing : IsTrue (list_all (λ a. not (has_row (box_aimed a) s.boxes)) what.missed)

-- the effect does, in each store that has the same mailboxes where the item touches them, and the same names of its user
-- where it touches these, what the item does there
pub record IsEffect (e : Effect) (what : Resolved) (s : MailStore) : Type 0 where
  pub shown : e.shown ≡ (step_with (sought_in what) s what.item).1
  pub elsewhere : (t : MailStore) → t.house ≡ s.house → IsValid t → SameAt (touches_box (sought_in what) what.item) s.boxes t.boxes → SameNames what.item s.boxes t.boxes → applied e t ≡ (step_with (sought_in what) t what.item).0

-- ---- what applying it needs

-- how many entries are put
abbrev pub mail_in : List Put → ℕ
mail_in [] = 0
mail_in (p ∷ ps) = length p.mail + mail_in ps

-- the mailboxes that grow, in order, and how many entries each gets at most
abbrev pub grows : Work → Boxes → List (BoxId × ℕ)
grows (Puts puts) boxes = map (λ (p : Put). (p.mailbox, mail_in puts)) puts
grows (Rename Merged u source target made moves) boxes = (box_of u target, length (mail_at (box_of u source) boxes)) ∷ []
grows (Delete u mailbox keys) boxes = (box_of u lost_found, length (mail_at (box_of u mailbox) boxes)) ∷ []
grows _ boxes = []

-- each mailbox that grows has a spare list with room for all of its entries, and UIDs for them
abbrev pub HasSpares : List (BoxId × ℕ) → List ℕ → Boxes → Type 0
HasSpares [] spares boxes = Unit {0}
HasSpares (g ∷ gs) [] boxes = ⊥
HasSpares (g ∷ gs) (spare ∷ spares) boxes = (length (mail_at g.0 boxes) + g.1 ≤ spare) × (next_at g.0 boxes + g.1 < 2 ^ 64) × HasSpares gs spares boxes

-- how many rows are added at most
abbrev pub rows_added : Work → ℕ
rows_added (Create u mailboxes) = length mailboxes
rows_added (Rename Plain u source target made moves) = length made + (if bytes_eq source inbox then 1 else 0)
rows_added _ = 0

-- applying the effect takes no memory
pub record IsReady (e : Effect) (k : Kept) : Type 0 where
  pub rows : rows_added e.work ≤ k.room
  pub spares : HasSpares (grows e.work k.store.boxes) k.spares k.store.boxes
  pub conf : (act : Act) → e.act ≡ Some act → k.ready ≡ Some (conf_by k.store.house e.act k.store.conf)
