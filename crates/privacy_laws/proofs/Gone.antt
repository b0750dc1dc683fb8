-- What a user's ask takes away where two stores in use agree on that user.
use Rattle.std.proofs.Common.{◌≡◌, ℕ, Bool, true, false, ◌&&◌, ◌||◌, cond, bytes_eq, filter, map, List, [], ◌∷◌, Some, Result, Ok, refl, ap, sym, ◌∙◌}
use Rattle.undo_base.specs.declared.keys.User.{User}
use Rattle.verb_core.specs.declared.ask.Ask.{Ask}
use Rattle.verb_core.specs.declared.ask.Ask.TheVariants.{Rename}
use Rattle.verb_core.specs.declared.ask.Refused.{Refused}
use Rattle.verb_core.specs.declared.conf.House.{House}
use Rattle.verb_core.specs.declared.item.Item.{Item}
use Rattle.verb_core.specs.declared.mailbox.BoxId.{BoxId}
use Rattle.verb_core.specs.declared.mailbox.Mailbox.{Mailbox}
use Rattle.verb_core.specs.Boxes.{is_at_or_below, rows_of, same_user}
use Rattle.verb_core.specs.Live.{is_users, live}
use Rattle.verb_core.specs.Names.{inbox, is_empty, is_inferior}
use Rattle.verb_core.specs.Step.{Boxes}
use Rattle.store_kept.specs.Kept.{Kept, performed, store_of}
use Rattle.mail_desk.specs.Desk.{submitted_as}
use Rattle.mail_loop.specs.Afterwards.{gone_between}
use Rattle.mail_loop.specs.Took.{all_boxes, taken_by}
use Rattle.mail_loop.proofs.Taken.{taken_if_done}
use Rattle.privacy_laws.specs.Agreeing.{Agree}

abbrev ids : Boxes → List BoxId
ids rs = map (λ (r : BoxId × Mailbox). r.0) rs

-- a mailbox of a user and its inferiors are among that user's
own_ids : (u : User) (name : List ℕ) (rs : Boxes) → filter (is_at_or_below u name) (ids rs) ≡ filter (is_at_or_below u name) (ids (rows_of u rs))
own_ids u name [] = refl
own_ids u name (r ∷ rs) =
    let rest : Bool = bytes_eq name r.0.name || is_inferior name r.0.name in
    let all : List BoxId = filter (is_at_or_below u name) (ids rs) in
    elim (same_user u r.0.user) as (λ b. same_user u r.0.user ≡ b → cond (b && rest) (r.0 ∷ all) all ≡ filter (is_at_or_below u name) (ids (cond b (r ∷ rows_of u rs) (rows_of u rs)))) [
      | true ↦ λ e. ap (λ (b : Bool). cond (b && rest) (r.0 ∷ all) all) (sym e) ∙ ap (λ (more : List BoxId). cond (is_at_or_below u name r.0) (r.0 ∷ more) more) (own_ids u name rs)
      | false ↦ λ e. own_ids u name rs
    ] refl

module _ (h : House) (u : User) (k l : Kept) (a : Agree h u k l) where
  taken_same : (ask : Ask) → taken_by (Some u) ask (all_boxes k) ≡ taken_by (Some u) ask (all_boxes l)
  taken_same (Rename mailbox target) = ap (cond (bytes_eq mailbox inbox || is_empty target) []) (own_ids u mailbox (store_of k).boxes ∙ ap (λ (rs : Boxes). filter (is_at_or_below u mailbox) (ids rs)) a.boxes ∙ sym (own_ids u mailbox (store_of l).boxes))
  taken_same _ = refl

  -- an item of the user's takes the same away from both
  pub gone_same : (at : ℕ) (ask : Ask) (item : Item) → is_users ask ≡ true → live (store_of k) k.next at (Some u) ask k.deep ≡ Ok item → live (store_of l) l.next at (Some u) ask l.deep ≡ Ok item
      → gone_between k (performed k item) ≡ gone_between l (performed l item)
  gone_same at ask item users one other =
      ap (λ (r : Result Item Refused). gone_between k (submitted_as k r).kept) (sym one) ∙ taken_if_done k at (Some u) ask item a.one.valid users one ∙ taken_same ask
      ∙ sym (taken_if_done l at (Some u) ask item a.other.valid users other) ∙ ap (λ (r : Result Item Refused). gone_between l (submitted_as l r).kept) other
