-- A desk over a past that was cut off, while the records come that it begins with.
use Rattle.std.specs.Prelude.{◌≡◌, ℕ, ◌==◌, ◌<◌, Bool, false, List, [], ◌∷◌, flat_map, map, Option, Some, None, if◌then◌else◌, IsTrue}
use Rattle.std.specs.List.{AllByRecursion, list_all, list_any}
use Rattle.std.specs.List.Sorted.{IsNonDecreasingBy}
use Rattle.std.specs.Cmp.Lexicographic.{slice_cmp}
use Rattle.std.specs.Ordering.{eq_by_cmp, is_eq}
use Rattle.verb_core.specs.declared.conf.Conf.{Conf}
use Rattle.verb_core.specs.declared.conf.House.{House}
use Rattle.verb_core.specs.declared.item.Item.{Item}
use Rattle.verb_core.specs.declared.mailbox.Body.{Body}
use Rattle.verb_core.specs.declared.mailbox.BoxId.{BoxId}
use Rattle.verb_core.specs.declared.mailbox.Entry.{Entry}
use Rattle.verb_core.specs.declared.mailbox.Mailbox.{Mailbox}
use Rattle.verb_core.specs.Boxes.{box_cmp}
use Rattle.verb_core.specs.Items.{IsWellFormed, NumbersApart}
use Rattle.verb_core.specs.Store.{MailStore, is_house, is_known}
use Rattle.seal_log.specs.declared.place.Place.{Place}
use Rattle.shelf.specs.declared.note.Note.{Note}
use Rattle.store_kept.specs.Founding.{Based, base_stands, based_on, names_body, names_number, store_based}
use Rattle.store_kept.specs.Naming.{NamedTexts, is_named}
use Rattle.mail_desk.specs.declared.founding.BaseParts.{BaseParts}
use Rattle.mail_desk.specs.Timeline.{SizesOf}

-- its house, the configuration at first, the base with what has come behind it, and where each text lies
pub record Founded : Type 0 where
  pub house : House
  pub opening : Conf
  pub based : Based
  pub notes : List (Body × Note)

-- the base of these parts, behind which nothing has come
abbrev pub based_of : BaseParts → Based
based_of parts = based_on parts.next parts.deep parts.conf parts.rows parts.stamps parts.reports

abbrev pub begun_on : House → Conf → BaseParts → Founded
begun_on house opening parts = record { house = house; opening = opening; based = based_of parts; notes = [] }

-- ---- how it is held

-- the numbers that entries name: the items of their keys, and the origins of their bodies
abbrev pub numbers_named : List Entry → List ℕ
numbers_named entries = flat_map (λ (e : Entry). e.key.item ∷ e.body.origin ∷ []) entries

-- the stamps behind the first, where that is of a mailbox
abbrev pub behind_named : BoxId → List (BoxId × ℕ) → Option (List (BoxId × ℕ))
behind_named id [] = None
behind_named id (s ∷ stamps) = if eq_by_cmp box_cmp s.0 id then Some stamps else None

-- whether stamps name exactly the mailboxes of these rows
abbrev pub are_stamps_of : List (BoxId × ℕ) → List (BoxId × Mailbox) → Bool
are_stamps_of stamps rows = is_eq (slice_cmp box_cmp (map (λ (r : BoxId × ℕ). r.0) stamps) (map (λ (r : BoxId × Mailbox). r.0) rows))

-- The base can stand; the bodies and the numbers that it names are at hand. The store is what the items that have come left of it; they
-- are well formed, with distinct numbers below the next that the base does not name. The size of each text is noted.
pub record IsFounding (f : Founded) (named : NamedTexts) (numbers : List ℕ) (store : MailStore) (marks : List (ℕ × Place)) : Type 0 where
  pub house : IsTrue (is_house f.house)
  pub aliases : IsTrue (list_all (λ a. list_all (is_known f.house) a.users) f.opening.aliases)
  pub filters : f.opening.filters ≡ []
  pub stands : IsTrue (base_stands f.house f.based)
  pub bodies : (body : Body) → is_named named body ≡ names_body f.based.rows body
  pub ordered : IsNonDecreasingBy (λ (n : ℕ). n) numbers
  pub numbered : (number : ℕ) → list_any (λ (n : ℕ). n == number) numbers ≡ names_number f.based.rows number
  pub runs : store ≡ store_based f.house f.based
  pub formed : AllByRecursion (IsWellFormed f.house) f.based.items
  pub apart : NumbersApart f.based.items
  pub below : AllByRecursion (λ (i : Item). i.number < f.based.next) f.based.items
  pub new : AllByRecursion (λ (i : Item). names_number f.based.rows i.number ≡ false) f.based.items
  pub sizes : SizesOf f.notes f.based.texts f.based.items
  pub unmarked : marks ≡ []
