-- What a store begins with whose past was cut off: a base, the texts of the messages in it, and the items that were kept. When each
-- of them can stand, and what they leave.
use Rattle.std.specs.Prelude.{ℕ, ◌==◌, nat_le, nat_lt, Bool, not, ◌&&◌, ◌||◌, List, [], ◌∷◌, ◌++◌, map, flat_map, is_some, None}
use Rattle.std.specs.List.{list_all, list_any}
use Rattle.std.specs.Ordering.{is_eq}
use Rattle.std.specs.Cmp.Lexicographic.{slice_cmp}
use Rattle.undo_base.specs.declared.limits.TheConstants.{END_OF_NUMBERS}
use Rattle.undo_base.specs.declared.keys.User.{User}
use Rattle.paradox.specs.declared.reports.BrokenItem.{BrokenItem}
use Rattle.paradox.specs.declared.reports.Report.{Report}
use Rattle.verb_core.specs.declared.conf.Conf.{Conf}
use Rattle.verb_core.specs.declared.conf.House.{House}
use Rattle.verb_core.specs.declared.item.Item.{Item}
use Rattle.verb_core.specs.declared.mailbox.Body.{Body}
use Rattle.verb_core.specs.declared.mailbox.BoxId.{BoxId}
use Rattle.verb_core.specs.declared.mailbox.Entry.{Entry}
use Rattle.verb_core.specs.declared.mailbox.Mailbox.{Mailbox}
use Rattle.verb_core.specs.Boxes.{box_cmp, is_rising}
use Rattle.verb_core.specs.Deeds.{same_body}
use Rattle.verb_core.specs.Fates.{times_held}
use Rattle.verb_core.specs.Names.{is_empty}
use Rattle.verb_core.specs.Step.{run}
use Rattle.verb_core.specs.Store.{MailStore, is_known}
use Rattle.box_store.specs.Making.{makes_store, store_of_rows}
use Rattle.store_kept.specs.Kept.{BaseTexts, Kept, Origin, Reports, is_by_key, kept_from, no_marks, with_base_text}
use Rattle.store_kept.specs.Texts.{all_bodies, text_before}

-- ---- as far as it was read

-- what a Base has, and the texts, by rising body, and the kept items that stand behind it
pub record Based : Type 0 where
  pub next : ℕ
  pub deep : Bool
  pub conf : Conf
  pub rows : List (BoxId × Mailbox)
  pub stamps : List (BoxId × ℕ)
  pub reports : Reports
  pub texts : BaseTexts
  pub items : List Item

-- ---- what is named in a base

-- the entries of all mailboxes
abbrev pub entries_of : List (BoxId × Mailbox) → List Entry
entries_of rows = flat_map (λ (r : BoxId × Mailbox). r.1.entries) rows

-- whether an entry names a body, and whether one of the mailboxes' does
abbrev pub is_of_body : Body → Entry → Bool
is_of_body body e = same_body body e.body

abbrev pub names_body : List (BoxId × Mailbox) → Body → Bool
names_body rows body = list_any (is_of_body body) (entries_of rows)

-- whether a number is that of the item of an entry's key, or the origin of its body; and whether it is in one of the mailboxes
abbrev pub is_of_number : ℕ → Entry → Bool
is_of_number n e = (e.key.item == n) || (e.body.origin == n)

abbrev pub names_number : List (BoxId × Mailbox) → ℕ → Bool
names_number rows n = list_any (is_of_number n) (entries_of rows)

-- ---- a Base

-- whether the item of an entry's key, and the origin and the rev of its body, are below a number
abbrev pub is_entry_below : ℕ → Entry → Bool
is_entry_below next e = nat_lt e.key.item next && nat_lt e.body.origin next && nat_lt e.body.rev next

-- whether no user has a key twice
abbrev pub once_each : List (BoxId × Mailbox) → Bool
once_each rows = list_all (λ (r : BoxId × Mailbox). list_all (λ (e : Entry). nat_le (times_held r.0.user e.key rows) 1) r.1.entries) rows

-- whether stamps stand by user and name, each is below a number, and its user is known
abbrev pub are_stamps : House → ℕ → List (BoxId × ℕ) → Bool
are_stamps house next stamps = is_rising stamps && list_all (λ (r : BoxId × ℕ). nat_lt r.1 next && is_known house r.0.user) stamps

-- the users whom a report names
abbrev pub users_told : Report → List User
users_told report = map (λ b. b.user) report.broken ++ map (λ r. r.0.user) report.renewed

-- whether reports stand by key, and their users are known
abbrev pub are_reports : House → Reports → Bool
are_reports house reports = is_by_key reports && list_all (λ (r : List ℕ × Report). list_all (is_known house) (users_told r.1)) reports

-- Whether a Base can stand, but for what is wanted of the texts and the items behind it. Its next number is one that a journal
-- can have, and its mailboxes make a store. No user has a key twice in them, and what it names is below its next number.
abbrev pub base_stands : House → Based → Bool
base_stands house b =
    nat_le b.next END_OF_NUMBERS && makes_store house b.conf b.rows && once_each b.rows && list_all (is_entry_below b.next) (entries_of b.rows)
    && are_stamps house b.next b.stamps && are_reports house b.reports

-- ---- a Text

-- whether there is the text of a body
abbrev pub has_text_of : BaseTexts → Body → Bool
has_text_of texts body = is_some (text_before texts body)

-- whether a Text can stand: no Kept was before it, its body is named in the base, and no earlier Text has it
abbrev pub text_stands : Based → Body → Bool
text_stands b body = is_empty b.items && names_body b.rows body && not (has_text_of b.texts body)

-- ---- a Kept

-- whether an item of a number is among items
abbrev pub has_number : List Item → ℕ → Bool
has_number items n = list_any (λ (i : Item). i.number == n) items

-- Whether an item can be kept behind a base: its number and its rev are below the base's next. Its number is the item of no key of
-- the base and the origin of no body of it, and no earlier item has it.
abbrev pub can_be_kept : Based → Item → Bool
can_be_kept b i = nat_lt i.number b.next && nat_lt i.rev b.next && not (names_number b.rows i.number) && not (has_number b.items i.number)

-- ---- one more

-- the base of a Base, behind which nothing was read yet
abbrev pub based_on : ℕ → Bool → Conf → List (BoxId × Mailbox) → List (BoxId × ℕ) → Reports → Based
based_on next deep conf rows stamps reports = record {
  next = next;
  deep = deep;
  conf = conf;
  rows = rows;
  stamps = stamps;
  reports = reports;
  texts = [];
  items = [];
}

-- with one more text, or one more item
abbrev pub with_text : Based → Body → List ℕ → Based
with_text b body text = record b { texts = with_base_text body text b.texts }

abbrev pub with_item : Based → Item → Based
with_item b i = record b { items = b.items ++ i ∷ [] }

-- ---- what they leave

-- the store of the base, and the store that the kept items leave of it
abbrev pub base_of : House → Based → MailStore
base_of house b = store_of_rows house b.conf b.rows

abbrev pub store_based : House → Based → MailStore
store_based house b = run (base_of house b) b.items

-- whether each body that is named in the base has a text
abbrev pub has_texts : Based → Bool
has_texts b = all_bodies (has_text_of b.texts) b.rows

-- whether the stamps name exactly the mailboxes of a store
abbrev pub stamps_name : List (BoxId × ℕ) → MailStore → Bool
stamps_name stamps s = is_eq (slice_cmp box_cmp (map (λ (r : BoxId × ℕ). r.0) stamps) (map (λ (r : BoxId × Mailbox). r.0) s.boxes))

-- Whether a base can stand with the texts and the items that stand behind it. Each body has its text, and the stamps name the
-- mailboxes of the store that the items leave.
abbrev pub is_whole : House → Based → Bool
is_whole house b = has_texts b && stamps_name b.stamps (store_based house b)

-- where a journal with a base begins: this journal draws numbers from the base's next on
abbrev pub origin_based : House → Conf → Based → Origin
origin_based house opening b = record { house = house; opening = opening; base = base_of house b; texts = b.texts; first = b.next }

-- what is kept behind a base and its kept items: no cycle can be withdrawn, and no snapshot was taken
abbrev pub founded : House → Conf → Based → Kept
founded house opening b =
    kept_from (origin_based house opening b) (store_based house b) b.items b.stamps b.next b.reports no_marks b.deep None
