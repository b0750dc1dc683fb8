-- Aims depend on which mailboxes there are, and not on what lies in them.
use Rattle.std.proofs.Common.{◌≡◌, ℕ, Bool, not, cond, List, [], ◌∷◌, map, filter, Option, Some, None, refl, ap, ap₂, ◌∙◌, unwrap_or, option_map}
use Rattle.undo_base.specs.declared.keys.User.{User}
use Rattle.verb_core.specs.declared.item.Item.{Item}
use Rattle.verb_core.specs.declared.item.Deed.{Deed}
use Rattle.verb_core.specs.declared.item.Deed.TheVariants.{Deliver, Append, Copy, Act as Acts, Notice}
use Rattle.verb_core.specs.declared.item.Act.TheVariants.{Give}
use Rattle.verb_core.specs.declared.conf.House.{House}
use Rattle.verb_core.specs.declared.conf.Conf.{Conf}
use Rattle.verb_core.specs.declared.conf.Filter.{Filter}
use Rattle.verb_core.specs.declared.mailbox.BoxId.{BoxId}
use Rattle.verb_core.specs.Names.{inbox, lost_found}
use Rattle.verb_core.specs.Boxes.{box_of, has_row}
use Rattle.verb_core.specs.Store.{MailStore}
use Rattle.verb_core.specs.Items.{actor, text_in}
use Rattle.verb_core.specs.Recipients.{recipients}
use Rattle.verb_core.specs.Filters.{deciding}
use Rattle.verb_core.specs.Step.{Boxes}
use Rattle.verb_core.specs.Aims.{aim_at, into_or, and_postmaster, delivered, sought, sought_by}

module _ (rs ss : Boxes) (same : (id : BoxId) → has_row id rs ≡ has_row id ss) where
  into_or-same : (name other : List ℕ) (users : List User) → into_or rs name other users ≡ into_or ss name other users
  into_or-same name other users =
      ap (λ (has : BoxId → Bool). record {
        aims = map (λ u. aim_at u (cond (has (box_of u name)) name other) 0) users;
        missed = map (λ u. aim_at u name 0) (filter (λ u. not (has (box_of u name))) users);
      }) (λ j id. same id j)

module _ (house : House) (conf : Conf) (rs ss : Boxes) (same : (id : BoxId) → has_row id rs ≡ has_row id ss) where
  abbrev one : MailStore
  one = record { house = house; conf = conf; boxes = rs }

  abbrev other : MailStore
  other = record { house = house; conf = conf; boxes = ss }

  delivered-same : (to : List (List ℕ)) (file : Option (Option (List ℕ))) → delivered one to file ≡ delivered other to file
  delivered-same to None = ap (and_postmaster one to) (into_or-same rs ss same inbox inbox (recipients house conf to))
  delivered-same to (Some None) = refl
  delivered-same to (Some (Some name)) = ap (and_postmaster one to) (into_or-same rs ss same name inbox (recipients house conf to))

  sought-same : (text : List ℕ) (by : Option User) (d : Deed) → sought one text by d ≡ sought other text by d
  sought-same text by (Deliver from to _) = delivered-same to (option_map (λ (f : Filter). f.file) (deciding conf from to text))
  sought-same text by (Append mailbox flags moment t) = into_or-same rs ss same mailbox lost_found (actor by (Append mailbox flags moment []) ∷ [])
  sought-same text by (Copy mailbox keys target) = into_or-same rs ss same target lost_found (actor by (Copy mailbox keys target) ∷ [])
  sought-same text by (Acts (Give u mailbox t)) = into_or-same rs ss same mailbox lost_found (u ∷ [])
  sought-same text by (Notice u t) = into_or-same rs ss same inbox inbox (u ∷ [])
  sought-same text by _ = refl

pub sought_by-same : (s t : MailStore) (i : Item) → s.house ≡ t.house → s.conf ≡ t.conf → ((id : BoxId) → has_row id s.boxes ≡ has_row id t.boxes) → sought_by s i ≡ sought_by t i
sought_by-same s t i houses confs same =
    ap₂ (λ (house : House) (conf : Conf). sought (record { house = house; conf = conf; boxes = s.boxes }) (unwrap_or (text_in i.deed) []) i.by i.deed) houses confs
    ∙ sought-same t.house t.conf s.boxes t.boxes same (unwrap_or (text_in i.deed) []) i.by i.deed
