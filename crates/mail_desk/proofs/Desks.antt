-- The desk at first, and what every desk has.
use Rattle.std.proofs.Common.{◌≡◌, ℕ, ◌-◌, ◌<◌, ◌≤◌, Bool, true, false, None, ◌&&◌, List, [], ◌∷◌, map, flat_map, option_map, is_some, refl, ap, sym, ◌∙◌, arith, length, nat_le}
use Rattle.std.specs.List.{AllByRecursion, list_all}
use Rattle.std.specs.Cmp.{first_so, second_so}
use Rattle.std.proofs.lemmas.Bool.{leb-true}
use Rattle.undo_base.specs.declared.keys.User.{User}
use Rattle.verb_core.specs.declared.conf.House.{House}
use Rattle.verb_core.specs.declared.conf.Conf.{Conf}
use Rattle.verb_core.specs.declared.item.Item.{Item}
use Rattle.verb_core.specs.declared.mailbox.Body.{Body}
use Rattle.verb_core.specs.declared.mailbox.BoxId.{BoxId}
use Rattle.verb_core.specs.declared.mailbox.Mailbox.{Mailbox}
use Rattle.verb_core.specs.Mailboxes.{no_mail}
use Rattle.verb_core.specs.Names.{inbox, lost_found}
use Rattle.verb_core.specs.Boxes.{box_of}
use Rattle.verb_core.specs.Store.{MailStore, IsValid, is_house, is_known, opening, users_of}
use Rattle.verb_core.specs.Step.{Boxes}
use Rattle.verb_core.specs.Stamps.{opening_stamps}
use Rattle.verb_core.proofs.OpeningLaws.{held-opening, opening-IsBase}
use Rattle.seal_log.specs.declared.place.Place.{Place}
use Rattle.shelf.specs.declared.note.Note.{Note}
use Rattle.shelf.specs.Notes.{size_of}
use Rattle.store_kept.specs.Kept.{BaseTexts, Kept, Origin, Reports, kept_from, new_desk, opening_origin, upgraded}
use Rattle.store_kept.specs.Bases.{HasBase}
use Rattle.mail_desk.specs.Desk.{IsDesk}
use Rattle.mail_desk.specs.Held.{marks_kept}
use Rattle.mail_desk.specs.Timeline.{SizesOf}
use Rattle.store_kept.specs.Texts.{all_bodies, has_text_with, text_before, text_with}

-- empty mailboxes name no body
pub empty_boxes : (test : Body → Bool) (users : List User) →
    all_bodies test (flat_map (λ (u : User). (box_of u inbox, no_mail) ∷ (box_of u lost_found, no_mail) ∷ []) users) ≡ true
empty_boxes test [] = refl
empty_boxes test (u ∷ users) = empty_boxes test users

first_bounds : (house : House) → is_house house ≡ true → record { low : 2 ≤ house.first; high : house.first ≤ 4194303 }
first_bounds house sound =
    let whole = nat_le 1 (length house.accounts) && nat_le (length house.accounts) 200 && is_known house house.postmaster in
    record {
      low = leb-true 2 house.first (second_so whole (nat_le 2 house.first) (first_so (whole && nat_le 2 house.first) (nat_le house.first 4194303) sound));
      high = leb-true house.first 4194303 (second_so (whole && nat_le 2 house.first) (nat_le house.first 4194303) sound);
    }

-- the parts of a new desk, as they were made
pub new_desk_is : (origin : Origin) (store : MailStore) (stamps : List (BoxId × ℕ)) (first : ℕ) (timeline : List Item) (reports : Reports) (marks : List (ℕ × Place)) → origin ≡ opening_origin origin.house origin.opening
    → store ≡ origin.base → stamps ≡ opening_stamps origin.base → first ≡ origin.house.first → timeline ≡ [] → reports ≡ [] → marks ≡ []
    → kept_from origin store timeline stamps first reports (marks_kept 0 0 marks) false None ≡ new_desk origin.house origin.opening
new_desk_is origin store stamps first timeline reports marks made stored stamped numbered empty none unmarked =
    (λ j. kept_from origin (stored j) (empty j) (stamped j) (numbered j) (none j) (marks_kept 0 0 (unmarked j)) false None)
    ∙ ap (λ (o : Origin). kept_from (record origin { base = o.base; texts = o.texts; first = o.first }) o.base [] (opening_stamps o.base) origin.house.first [] (marks_kept 0 0 []) false None) made

-- the opening store carries any timeline
pub base_opening : (house : House) (conf : Conf) → is_house house ≡ true → list_all (λ a. list_all (is_known house) a.users) conf.aliases ≡ true → HasBase (new_desk house conf)
base_opening house conf sound aliases = record {
  house_is = refl;
  stands = opening-IsBase house conf [] sound aliases (record { formed = tt; apart = tt });
  new = tt;
  beyond = λ number le. record { fresh = λ u key is. held-opening house conf u key; unnamed = tt };
  drawn = omega arith;
  texts = empty_boxes (λ (body : Body). is_some (text_before [] body)) (users_of house);
}

-- one stamp is below the next number
first_fresh : (n next : ℕ) → n < next → (rs : Boxes) → AllByRecursion (λ (r : BoxId × ℕ). r.1 < next) (map (λ (r : BoxId × Mailbox). (r.0, n)) rs)
first_fresh n next less [] = tt
first_fresh n next less (r ∷ rs) = (less, first_fresh n next less rs)

-- they are a desk
pub new_desk_holds : (house : House) (conf : Conf) → is_house house ≡ true → list_all (λ a. list_all (is_known house) a.users) conf.aliases ≡ true → conf.filters ≡ []
    → IsValid (opening house conf) → map (λ (r : BoxId × ℕ). r.0) (opening_stamps (opening house conf)) ≡ map (λ (r : BoxId × Mailbox). r.0) (opening house conf).boxes
    → IsDesk (new_desk house conf)
new_desk_holds house conf sound aliases filters valid named =
    let bounds = first_bounds house sound in
    record {
      house = sound;
      aliases = aliases;
      filters = filters;
      base = base_opening house conf sound aliases;
      house_is = refl;
      valid = valid;
      next = omega arith;
      since = omega arith;
      stamps = named;
      fresh = first_fresh (house.first - 1) house.first (omega arith) (opening house conf).boxes;
      formed = tt;
      apart = tt;
      below = tt;
      reports = refl;
      texts = empty_boxes (has_text_with [] []) (users_of house);
      undone = tt;
    }

-- it is a desk still where names may have superiors
pub upgraded_holds : (kept : Kept) → IsDesk kept → IsDesk (upgraded kept)
upgraded_holds kept is = record {
  house = is.house;
  aliases = is.aliases;
  filters = is.filters;
  base = is.base;
  house_is = is.house_is;
  valid = is.valid;
  next = is.next;
  since = is.since;
  stamps = is.stamps;
  fresh = is.fresh;
  formed = is.formed;
  apart = is.apart;
  below = is.below;
  reports = is.reports;
  texts = is.texts;
  undone = is.undone;
}

-- nothing is noted, no item brought a text, and none comes with the base
pub nothing_known : (notes : List (Body × Note)) (texts : BaseTexts) (t : List Item) → notes ≡ [] → texts ≡ [] → t ≡ [] → SizesOf notes texts t
nothing_known notes texts t none bare empty body = ap (λ (n : List (Body × Note)). size_of n body) none ∙ sym (λ j. option_map length (text_with (bare j) (empty j) body))
