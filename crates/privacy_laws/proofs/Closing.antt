-- What another user's item takes away closes no connection of a user.
use Rattle.std.proofs.Common.{◌≡◌, Bool, true, false, not, ◌&&◌, ◌||◌, cond, bytes_eq, filter, List, [], ◌∷◌, map, Option, None, Some, is_some, option_map, unwrap_or, refl, ap, ap₂, ◌∙◌}
use Rattle.std.specs.List.{AllByRecursion, list_any}
use Rattle.std.specs.Ordering.{eq_by_cmp}
use Rattle.undo_base.specs.declared.keys.User.{User}
use Rattle.verb_core.specs.declared.item.Item.{Item}
use Rattle.verb_core.specs.declared.mailbox.BoxId.{BoxId}
use Rattle.verb_core.specs.declared.mailbox.Mailbox.{Mailbox}
use Rattle.verb_core.specs.Aims.{sought_by}
use Rattle.verb_core.specs.Boxes.{box_cmp, has_row, row_at, same_user}
use Rattle.verb_core.specs.Step.{Boxes, step}
use Rattle.verb_core.proofs.BoxLaws.{itself}
use Rattle.verb_core.proofs.Frame.{other_stays}
use Rattle.store_kept.specs.Kept.{Kept, performed, store_of}
use Rattle.imap_stream.specs.Commands.{Heard as Stream}
use Rattle.imap_session.specs.declared.dialog.Dialog.{Dialog}
use Rattle.imap_session.specs.declared.dialog.Selected.{Selected}
use Rattle.imap_session.specs.Dialog.{holds}
use Rattle.imap_session.specs.Words.{changed_text}
use Rattle.mail_loop.specs.Afterwards.{gone_between, last_words, taking}
use Rattle.mail_loop.specs.State.{Imap}
use Rattle.privacy_laws.specs.Others.{Spares}

-- each mailbox of a store is there
has_more : (id : BoxId) (r : BoxId × Mailbox) (rs : Boxes) → has_row id rs ≡ true → has_row id (r ∷ rs) ≡ true
has_more id r rs has = elim (eq_by_cmp box_cmp id r.0) as (λ b. is_some (cond b (Some r.1) (row_at id rs)) ≡ true) [
  | true ↦ refl
  | false ↦ has
]

all_more : (ids : List BoxId) (r : BoxId × Mailbox) (rs : Boxes) → AllByRecursion (λ (id : BoxId). has_row id rs ≡ true) ids → AllByRecursion (λ (id : BoxId). has_row id (r ∷ rs) ≡ true) ids
all_more [] r rs all = tt
all_more (id ∷ ids) r rs all = (has_more id r rs all.0, all_more ids r rs all.1)

all_there : (rs : Boxes) → AllByRecursion (λ (id : BoxId). has_row id rs ≡ true) (map (λ (r : BoxId × Mailbox). r.0) rs)
all_there [] = tt
all_there (r ∷ rs) = (ap (λ (b : Bool). is_some (cond b (Some r.1) (row_at r.0 rs))) (itself r.0), all_more (map (λ (r : BoxId × Mailbox). r.0) rs) r rs (all_there rs))

module _ (u : User) (kept : Kept) (item : Item) (spares : Spares u (store_of kept) item) (d : Dialog) (user : d.user ≡ Some u) where
  abbrev now : Boxes
  now = (step (store_of kept) item).0.boxes

  abbrev held : BoxId → Bool
  held id = holds d id.user id.name

  not_held : (id : BoxId) → same_user u id.user ≡ false → held id ≡ false
  not_held id other =
      let rest : Bool = unwrap_or (option_map (λ (selected : Selected). bytes_eq selected.mailbox id.name) d.selected) false in
      ap (λ (o : Option User). unwrap_or (option_map (λ (own : User). same_user own id.user) o) false && rest) user ∙ ap (λ (b : Bool). b && rest) other

  none_held : (ids : List BoxId) → AllByRecursion (λ (id : BoxId). has_row id (store_of kept).boxes ≡ true) ids → list_any held (filter (λ (id : BoxId). not (has_row id now)) ids) ≡ false
  none_held [] there = refl
  none_held (id ∷ ids) there =
      let rest : list_any held (filter (λ (id : BoxId). not (has_row id now)) ids) ≡ false = none_held ids there.1 in
      let more : List BoxId = filter (λ (id : BoxId). not (has_row id now)) ids in
      elim (same_user u id.user) as (λ b. same_user u id.user ≡ b → list_any held (cond (not (has_row id now)) (id ∷ more) more) ≡ false) [
        | true ↦ λ e. let stays : has_row id now ≡ true = ap is_some (other_stays id (sought_by (store_of kept) item) (store_of kept) item (spares id e)) ∙ there.0 in
            ap (λ (b : Bool). list_any held (cond (not b) (id ∷ more) more)) stays ∙ rest
        | false ↦ λ e. elim (has_row id now) as (λ b. list_any held (cond (not b) (id ∷ more) more) ≡ false) [
          | true ↦ rest
          | false ↦ ap₂ (λ (a b : Bool). a || b) (not_held id e) rest
        ]
      ] refl

  said_none : (stream : Stream) (boxes : List BoxId) → list_any held boxes ≡ false → last_words (taking boxes) (Imap stream d) ≡ None
  said_none stream [] none = refl
  said_none stream (box ∷ boxes) none = ap (λ (b : Bool). cond b (Some changed_text) None) none

  pub none_closed : (stream : Stream) → last_words (taking (gone_between kept (performed kept item))) (Imap stream d) ≡ None
  none_closed stream = said_none stream (gone_between kept (performed kept item)) (none_held (map (λ (r : BoxId × Mailbox). r.0) (store_of kept).boxes) (all_there (store_of kept).boxes))
