-- What a delivery can be refused for.
use Rattle.std.proofs.Common.{◌≡◌, ℕ, ◌<◌, ◌⊎◌, inl, inr, Bool, true, false, ◌&&◌, ◌==◌, cond, List, [], ◌∷◌, map, filter, length, Option, Err, refl, ap, ◌∙◌, arith, nat_lt, ltb-true}
use Rattle.std.specs.Ordering.{eq_by_cmp}
use Rattle.undo_base.specs.declared.keys.User.{User}
use Rattle.verb_core.specs.declared.item.Item.{Item}
use Rattle.verb_core.specs.declared.item.Aim.{Aim}
use Rattle.verb_core.specs.declared.item.Deed.TheVariants as deed
use Rattle.verb_core.specs.declared.ask.Ask.TheVariants.{Deliver}
use Rattle.verb_core.specs.declared.ask.Refused.{Refused}
use Rattle.verb_core.specs.declared.ask.Refused.TheVariants.{BoxesFull, UidWide, Numbers}
use Rattle.verb_core.specs.declared.mailbox.BoxId.{BoxId}
use Rattle.verb_core.specs.declared.mailbox.Mailbox.{Mailbox}
use Rattle.verb_core.specs.declared.mailbox.Entry.{Entry}
use Rattle.verb_core.specs.Mailboxes.{put_all}
use Rattle.verb_core.specs.Boxes.{box_cmp, same_user, change_row, names_of}
use Rattle.verb_core.specs.Store.{MailStore}
use Rattle.verb_core.specs.Aims.{box_aimed, sought_by}
use Rattle.verb_core.specs.Step.{Boxes, new_mail, put_at, step}
use Rattle.verb_core.specs.Live.{asker, asked_item, overfills, is_uid_wide, if_so, first_of, or_item, answered, live}

-- a change of what stands in a row changes no name
pub names_of-change_row : (u : User) (id : BoxId) (f : Mailbox → Mailbox) (rs : Boxes) → names_of u (change_row id f rs) ≡ names_of u rs
names_of-change_row u id f [] = refl
names_of-change_row u id f (r ∷ rs) =
    elim (same_user u r.0.user) as (λ b. map (λ (r : BoxId × Mailbox). r.0.name) (cond b ((r.0, cond (eq_by_cmp box_cmp id r.0) (f r.1) r.1) ∷ filter (λ (r : BoxId × Mailbox). same_user u r.0.user) (change_row id f rs)) (filter (λ (r : BoxId × Mailbox). same_user u r.0.user) (change_row id f rs))) ≡ map (λ (r : BoxId × Mailbox). r.0.name) (cond b (r ∷ filter (λ (r : BoxId × Mailbox). same_user u r.0.user) rs) (filter (λ (r : BoxId × Mailbox). same_user u r.0.user) rs))) [
      | true ↦ ap (λ (t : List (List ℕ)). r.0.name ∷ t) (names_of-change_row u id f rs)
      | false ↦ names_of-change_row u id f rs
    ]

names_of-put_at : (u : User) (mail : ℕ → List Entry) (aims : List Aim) (rs : Boxes) → names_of u (put_at mail aims rs) ≡ names_of u rs
names_of-put_at u mail [] rs = refl
names_of-put_at u mail (a ∷ aims) rs = names_of-put_at u mail aims (change_row (box_aimed a) (put_all (mail a.index)) rs) ∙ names_of-change_row u (box_aimed a) (put_all (mail a.index)) rs

not_below : (m n : ℕ) → m ≡ n → nat_lt n m ≡ false
not_below m n is = elim (nat_lt n m) as (λ b. nat_lt n m ≡ b → b ≡ false) [
  | true ↦ λ e. let lt : n < m = ltb-true n m e in absurd (omega arith)
  | false ↦ λ e. refl
] refl

last_two : (full wide used : Bool) (number : ℕ) (i : Item) (r : Refused) → full ≡ false
    → or_item (first_of (if_so full BoxesFull ∷ if_so wide UidWide ∷ if_so used (Numbers number) ∷ [])) i ≡ Err r → (r ≡ UidWide) ⊎ (r ≡ Numbers number)
last_two true wide used number i r is e = cc
last_two false true used number i r is e = inl cc
last_two false false true number i r is e = inr cc
last_two false false false number i r is e = cc

pub delivery_refused : (s : MailStore) (number at : ℕ) (by : Option User) (from : List ℕ) (to : List (List ℕ)) (text : List ℕ) (deep : Bool) (r : Refused)
    → live s number at by (Deliver from to text) deep ≡ Err r → (r ≡ UidWide) ⊎ (r ≡ Numbers number)
delivery_refused s number at by from to text deep r =
    last_two (overfills s by (asked_item s number at by (Deliver from to text))) (is_uid_wide s by (Deliver from to text) (asked_item s number at by (Deliver from to text))) (number == 4194304) number
    (answered s (asked_item s number at by (Deliver from to text))) r
    (ap (λ b. b && nat_lt 1000 (length (names_of (asker by) (step s (asked_item s number at by (Deliver from to text))).0.boxes)))
    (not_below (length (names_of (asker by) (step s (asked_item s number at by (Deliver from to text))).0.boxes)) (length (names_of (asker by) s.boxes)) (ap length (names_of-put_at (asker by) (λ index. new_mail (asker by) (asked_item s number at by (Deliver from to text)) s.boxes index (deed.Deliver from to text)) (sought_by s (asked_item s number at by (Deliver from to text))).aims s.boxes))))
