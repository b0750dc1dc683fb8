-- Mail for nobody comes once into the postmaster's Lost+Found, unless the filter that decides discards it.
use Rattle.std.proofs.Common.{◌≡◌, ℕ, ◌+◌, Bool, true, false, ◌&&◌, cond, List, [], ◌∷◌, ◌++◌, Option, Some, None, is_some, is_none, refl, sym, ap, ◌∙◌, subst, arith, true≢false, option_map, unwrap_or, eqb, eq-eqb}
use Rattle.std.specs.Option.{option_map_or}
use Rattle.std.specs.Ordering.{eq_by_cmp}
use Rattle.undo_base.specs.declared.keys.User.{User}
use Rattle.undo_base.specs.declared.keys.Key.{Key}
use Rattle.verb_core.specs.declared.item.Item.{Item}
use Rattle.verb_core.specs.declared.item.Aim.{Aim}
use Rattle.verb_core.specs.declared.item.Deed.{Deed}
use Rattle.verb_core.specs.declared.item.Deed.TheVariants.{Deliver}
use Rattle.verb_core.specs.declared.conf.Filter.{Filter}
use Rattle.verb_core.specs.declared.mailbox.BoxId.{BoxId}
use Rattle.verb_core.specs.declared.mailbox.Entry.{Entry}
use Rattle.verb_core.specs.declared.mailbox.Mailbox.{Mailbox}
use Rattle.verb_core.specs.Names.{inbox, lost_found}
use Rattle.verb_core.specs.Mailboxes.{no_flags, put_all}
use Rattle.verb_core.specs.Boxes.{box_cmp, box_of, has_row, row_at, change_row, mail_at}
use Rattle.verb_core.specs.Store.{MailStore, IsValid}
use Rattle.verb_core.specs.Items.{actor, text_in}
use Rattle.verb_core.specs.Recipients.{recipients, some_unknown}
use Rattle.verb_core.specs.Filters.{deciding}
use Rattle.verb_core.specs.Aims.{Sought, aim_at, box_aimed, into_or, and_postmaster, delivered, sought}
use Rattle.verb_core.specs.Step.{Boxes, message, new_mail, put_at, rearranged, step}
use Rattle.verb_core.specs.Fates.{of_key, times_in, is_discarded}
use Rattle.verb_core.proofs.AimLaws.{has_lost, postmaster_known}
use Rattle.verb_core.proofs.BoxLaws.{itself, row_at-change_row}
use Rattle.verb_core.proofs.FateLaws.{count_in-put_all}
use Rattle.verb_core.proofs.NoTwice.{message_once}
use Rattle.verb_core.proofs.Validity.{has_row-put_at}

module _ (q : BoxId) (key : Key) where
  put_in : (es : List Entry) (b : Bool) (o : Option Mailbox)
      → times_in key (unwrap_or (option_map (λ (m : Mailbox). m.entries) (cond b (option_map (put_all es) o) o)) [])
      ≡ times_in key (unwrap_or (option_map (λ (m : Mailbox). m.entries) o) []) + cond (b && is_some o) (times_in key es) 0
  put_in es true None = refl
  put_in es true (Some m) = count_in-put_all (of_key key) (λ e uid. refl) es m
  put_in es false None = refl
  put_in es false (Some m) = omega arith

  -- what is put into a mailbox comes to what is there, and to no other mailbox
  at_change : (id : BoxId) (es : List Entry) (rs : Boxes)
      → times_in key (mail_at q (change_row id (put_all es) rs)) ≡ times_in key (mail_at q rs) + cond (eq_by_cmp box_cmp id q && has_row q rs) (times_in key es) 0
  at_change id es rs =
      ap (λ (o : Option Mailbox). times_in key (unwrap_or (option_map (λ (m : Mailbox). m.entries) o) [])) (row_at-change_row q id (put_all es) rs)
      ∙ put_in es (eq_by_cmp box_cmp id q) (row_at q rs)

  none_put : (b : Bool) (es : List Entry) → times_in key es ≡ 0 → cond b (times_in key es) 0 ≡ 0
  none_put true es none = none
  none_put false es none = refl

  module _ (mail : ℕ → List Entry) where
    -- the copies of those who are found have another key
    others_put : times_in key (mail 0) ≡ 0 → (boxes : Boxes) (name other : List ℕ) (users : List User) (rs : Boxes)
        → times_in key (mail_at q (put_at mail (into_or boxes name other users).aims rs)) ≡ times_in key (mail_at q rs)
    others_put none boxes name other [] rs = refl
    others_put none boxes name other (u ∷ us) rs =
        let id : BoxId = box_of u (cond (has_row (box_of u name) boxes) name other) in
        omega (
          arith,
          others_put none boxes name other us (change_row (box_of u (cond (has_row (box_of u name) boxes) name other)) (put_all (mail 0)) rs),
          at_change (box_of u (cond (has_row (box_of u name) boxes) name other)) (mail 0) rs,
          none_put (eq_by_cmp box_cmp (box_of u (cond (has_row (box_of u name) boxes) name other)) q && has_row q rs) (mail 0) none,
        )

    put_at-append : (xs ys : List Aim) (rs : Boxes) → put_at mail (xs ++ ys) rs ≡ put_at mail ys (put_at mail xs rs)
    put_at-append [] ys rs = refl
    put_at-append (a ∷ xs) ys rs = put_at-append xs ys (change_row (box_aimed a) (put_all (mail a.index)) rs)

module _ (s : MailStore) (i : Item) (valid : IsValid s) where
  abbrev lost : BoxId
  lost = box_of s.house.postmaster lost_found

  abbrev key : Key
  key = record { item = i.number; index = 1 }

  abbrev mail : ℕ → List Entry
  mail index = message i index no_flags i.at ∷ []

  first_none : times_in key (mail 0) ≡ 0
  first_none = message_once s.house.postmaster key i.number 0 (message i 0 no_flags i.at) refl ∙ never (eqb i.number i.number)
    where
      never : (b : Bool) → ◌≡◌ {A = ℕ} (cond (b && false) 1 0) 0
      never true = refl
      never false = refl

  second_one : times_in key (mail 1) ≡ 1
  second_one = message_once s.house.postmaster key i.number 1 (message i 1 no_flags i.at) refl ∙ rw (eq-eqb i.number i.number refl) refl

  comes : (name other : List ℕ) (users : List User)
      → times_in key (mail_at lost (put_at mail ((into_or s.boxes name other users).aims ++ aim_at s.house.postmaster lost_found 1 ∷ []) s.boxes)) ≡ times_in key (mail_at lost s.boxes) + 1
  comes name other users =
      let aims : List Aim = (into_or s.boxes name other users).aims in
      let there : has_row lost (put_at mail (into_or s.boxes name other users).aims s.boxes) ≡ true =
      has_row-put_at lost mail (into_or s.boxes name other users).aims s.boxes ∙ has_lost s valid s.house.postmaster (postmaster_known s valid) in
      ap (λ (rs : Boxes). times_in key (mail_at lost rs)) (put_at-append lost key mail (into_or s.boxes name other users).aims (aim_at s.house.postmaster lost_found 1 ∷ []) s.boxes)
      ∙ omega (
        arith,
        at_change lost key lost (mail 1) (put_at mail (into_or s.boxes name other users).aims s.boxes),
        ap {B = ℕ} (λ (b : Bool). cond (b && has_row lost (put_at mail (into_or s.boxes name other users).aims s.boxes)) (times_in key (mail 1)) 0) (itself lost),
        ap {B = ℕ} (λ (b : Bool). cond b (times_in key (mail 1)) 0) there,
        second_one,
        others_put lost key mail first_none s.boxes name other users s.boxes,
      )

  comes_of : (to : List (List ℕ)) (name other : List ℕ) → some_unknown s.house s.conf to ≡ true
      → times_in key (mail_at lost (put_at mail (and_postmaster s to (into_or s.boxes name other (recipients s.house s.conf to))).aims s.boxes)) ≡ times_in key (mail_at lost s.boxes) + 1
  comes_of to name other unknown =
      let found : Sought = into_or s.boxes name other (recipients s.house s.conf to) in
      ap (λ (b : Bool). times_in key (mail_at lost (put_at mail (cond b
      (record (into_or s.boxes name other (recipients s.house s.conf to)) { aims = (into_or s.boxes name other (recipients s.house s.conf to)).aims ++ aim_at s.house.postmaster lost_found 1 ∷ [] })
      (into_or s.boxes name other (recipients s.house s.conf to))).aims s.boxes))) unknown
      ∙ comes name other (recipients s.house s.conf to)

  comes_by : (to : List (List ℕ)) (filter : Option Filter) → some_unknown s.house s.conf to ≡ true → option_map_or (λ (f : Filter). is_none f.file) filter false ≡ false
      → times_in key (mail_at lost (put_at mail (delivered s to (option_map (λ (f : Filter). f.file) filter)).aims s.boxes)) ≡ times_in key (mail_at lost s.boxes) + 1
  comes_by to None unknown stays = comes_of to inbox inbox unknown
  comes_by to (Some f) unknown stays = filed f.file stays
    where
      filed : (file : Option (List ℕ)) → is_none file ≡ false → times_in key (mail_at lost (put_at mail (delivered s to (Some file)).aims s.boxes)) ≡ times_in key (mail_at lost s.boxes) + 1
      filed None stays = absurd (true≢false stays)
      filed (Some name) stays = comes_of to name inbox unknown

pub comes-step : (s : MailStore) (i : Item) (from : List ℕ) (to : List (List ℕ)) (text : List ℕ) → IsValid s → i.deed ≡ Deliver from to text
    → some_unknown s.house s.conf to ≡ true → is_discarded s.conf from to text ≡ false
    → times_in (record { item = i.number; index = 1 }) (mail_at (box_of s.house.postmaster lost_found) (step s i).0.boxes)
    ≡ times_in (record { item = i.number; index = 1 }) (mail_at (box_of s.house.postmaster lost_found) s.boxes) + 1
comes-step s i from to text valid is unknown stays =
    subst (λ (d : Deed).
    times_in (record { item = i.number; index = 1 }) (mail_at (box_of s.house.postmaster lost_found)
    (put_at (λ index. new_mail (actor i.by d) i s.boxes index d) (sought s (unwrap_or (text_in d) []) i.by d).aims (rearranged (actor i.by d) d s.boxes)))
    ≡ times_in (record { item = i.number; index = 1 }) (mail_at (box_of s.house.postmaster lost_found) s.boxes) + 1) (sym is)
    (comes_by s i valid to (deciding s.conf from to text) unknown stays)
