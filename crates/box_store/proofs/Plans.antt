-- A work planned on some rows does in others what the item does there.
use Rattle.std.proofs.Common.{◌≡◌, ◌∷◌, ◌++◌, ◌+◌, ℕ, Bool, cond, true, false, not, refl, sym, ◌||◌, ◌∙◌, ap, ap₂, subst, List, [], Option, Some, None, is_some, option_map, unwrap_or, filter, map, length, bytes_eq, eq-eqb, arith, length-append}
use Rattle.std.proofs.Math.Seq.{set-append_seam}
use Rattle.std.proofs.lemmas.List.{append_assoc}
use Rattle.std.specs.List.{list_any, slice_get, slice_set}
use Rattle.std.specs.Ordering.{eq_by_cmp}
use Rattle.undo_base.specs.declared.keys.Key.{Key}
use Rattle.undo_base.specs.declared.keys.Flags.{Flags}
use Rattle.undo_base.specs.declared.keys.User.{User}
use Rattle.undo_base.specs.declared.asks.How.{How}
use Rattle.verb_core.specs.declared.item.Aim.{Aim}
use Rattle.verb_core.specs.declared.item.Act.TheVariants.{Give}
use Rattle.verb_core.specs.declared.item.Deed.{Deed}
use Rattle.verb_core.specs.declared.item.Deed.TheVariants.{Deliver, Append, Copy, Act as Acts, Notice}
use Rattle.verb_core.specs.declared.item.Item.{Item}
use Rattle.verb_core.specs.declared.mailbox.BoxId.{BoxId}
use Rattle.verb_core.specs.declared.mailbox.Entry.{Entry}
use Rattle.verb_core.specs.declared.mailbox.Mailbox.{Mailbox}
use Rattle.verb_core.specs.Names.{lost_found, is_fixed}
use Rattle.verb_core.specs.Mailboxes.{is_among, with_entries, reflagged, copies, changed, put_all}
use Rattle.verb_core.specs.Boxes.{box_cmp, box_of, row_at, mail_at, change_row, is_rising}
use Rattle.verb_core.specs.Step.{Boxes, left, deleted, new_mail, put_at, rearranged}
use Rattle.verb_core.specs.Touched.{SameAt, deed_touches, is_one}
use Rattle.verb_core.specs.Aims.{box_aimed}
use Rattle.verb_core.proofs.BoxLaws.{tied, same_rows, rising-change_row, row_at-change_row, same_box, bytes_eq-refl}
use Rattle.mail_rows.specs.Mail.{all_flags_set, flags_set}
use Rattle.box_store.specs.Effects.{put_each}
use Rattle.mail_rows.specs.Changes.{changes_from, own_message, puts_by}
use Rattle.box_store.specs.Plans.{after}

-- ---- rows

itself : (id : BoxId) → eq_by_cmp box_cmp id id ≡ true
itself id = sym (same_box id id) ∙ rw (eq-eqb id.user.0 id.user.0 refl) (bytes_eq-refl id.name)

-- the first of some mailboxes, and the second
pub first_same : (id : BoxId) (ids : List BoxId) (rs ss : Boxes) → SameAt (is_one (id ∷ ids)) rs ss → row_at id rs ≡ row_at id ss
first_same id ids rs ss same = same id (ap (λ b. b || list_any (λ (x : BoxId). eq_by_cmp box_cmp x id) ids) (itself id))

-- two changes that do the same to what stands in the row
change_same : (id : BoxId) (f g : Mailbox → Mailbox) (rs : Boxes) → is_rising rs ≡ true → option_map f (row_at id rs) ≡ option_map g (row_at id rs) → change_row id f rs ≡ change_row id g rs
change_same id f g rs rising same = same_rows (change_row id f rs) (change_row id g rs) (rising-change_row id f rs ∙ rising) (rising-change_row id g rs ∙ rising) (λ q.
    row_at-change_row q id f rs
    ∙ elim (eq_by_cmp box_cmp id q) as (λ b. eq_by_cmp box_cmp id q ≡ b → cond b (option_map f (row_at q rs)) (row_at q rs) ≡ cond b (option_map g (row_at q rs)) (row_at q rs)) [
      | true ↦ λ e. subst (λ (p : BoxId). option_map f (row_at p rs) ≡ option_map g (row_at p rs)) (tied id q e) same
      | false ↦ λ e. refl
    ] refl
    ∙ sym (row_at-change_row q id g rs))

-- ---- flags

got_seam : (done : List Entry) (e : Entry) (es : List Entry) → slice_get (done ++ e ∷ es) (length done) ≡ Some e
got_seam [] e es = refl
got_seam (d ∷ done) e es = got_seam done e es

set_seam : (done : List Entry) (e : Entry) (es : List Entry) (flags : Flags) → flags_set (record { place = length done; flags = flags }) (done ++ e ∷ es) ≡ done ++ record e { flags = flags } ∷ es
set_seam done e es flags =
    ap (λ (o : Option Entry). unwrap_or (option_map (λ (x : Entry). slice_set (done ++ e ∷ es) (length done) (record x { flags = flags })) o) (done ++ e ∷ es)) (got_seam done e es)
    ∙ set-append_seam done e es (record e { flags = flags })

module _ (keys : List Key) (how : How) (given : Flags) where
  shifted : (x : Entry) (es rs done : List Entry) → all_flags_set (changes_from (length (done ++ x ∷ [])) keys how given es) ((done ++ x ∷ []) ++ es) ≡ (done ++ x ∷ []) ++ rs
      → all_flags_set (changes_from (length done + 1) keys how given es) (done ++ x ∷ es) ≡ done ++ x ∷ rs
  shifted x es rs done h =
      let longer : length done + 1 ≡ length (done ++ x ∷ []) = omega (arith, length-append done (x ∷ [])) in
      ap₂ (λ (n : ℕ) (xs : List Entry). all_flags_set (changes_from n keys how given es) xs) longer (sym (append_assoc done (x ∷ []) es)) ∙ h ∙ append_assoc done (x ∷ []) rs

  one_set : (e : Entry) (es rs done : List Entry)
      → all_flags_set (changes_from (length done + 1) keys how given es) (done ++ record e { flags = changed how given e.flags } ∷ es) ≡ done ++ record e { flags = changed how given e.flags } ∷ rs
      → all_flags_set (changes_from (length done + 1) keys how given es) (done ++ e ∷ es) ≡ done ++ e ∷ rs
      → (a : Bool) → all_flags_set (cond a (record { place = length done; flags = changed how given e.flags } ∷ changes_from (length done + 1) keys how given es) (changes_from (length done + 1) keys how given es)) (done ++ e ∷ es)
      ≡ done ++ cond a (record e { flags = changed how given e.flags }) e ∷ rs
  one_set e es rs done new old true = ap (all_flags_set (changes_from (length done + 1) keys how given es)) (set_seam done e es (changed how given e.flags)) ∙ new
  one_set e es rs done new old false = old

  all_set : (es done : List Entry) → all_flags_set (changes_from (length done) keys how given es) (done ++ es) ≡ done ++ reflagged keys how given es
  all_set [] done = refl
  all_set (e ∷ es) done =
      one_set e es (reflagged keys how given es) done
      (shifted (record e { flags = changed how given e.flags }) es (reflagged keys how given es) done (all_set es (done ++ record e { flags = changed how given e.flags } ∷ [])))
      (shifted e es (reflagged keys how given es) done (all_set es (done ++ e ∷ [])))
      (is_among keys e.key)

-- a set of keys stands for their list
module _ (set keys : List Key) (same : (k : Key) → is_among set k ≡ is_among keys k) where
  tests : is_among set ≡ is_among keys
  tests j k = same k j

  pub flags_do : (how : How) (given : Flags) (id : BoxId) (rows boxes : Boxes) → is_rising boxes ≡ true → SameAt (is_one (id ∷ [])) rows boxes
      → change_row id (with_entries (all_flags_set (changes_from 0 set how given (mail_at id rows)))) boxes ≡ change_row id (with_entries (reflagged keys how given)) boxes
  flags_do how given id rows boxes rising here = change_same id _ _ boxes rising (go (row_at id boxes) (first_same id [] rows boxes here))
    where
      go : (o : Option Mailbox) → row_at id rows ≡ o → option_map (with_entries (all_flags_set (changes_from 0 set how given (mail_at id rows)))) o ≡ option_map (with_entries (reflagged keys how given)) o
      go None h = refl
      go (Some m) h =
          let mail : mail_at id rows ≡ m.entries = ap (λ (o : Option Mailbox). unwrap_or (option_map (λ (x : Mailbox). x.entries) o) []) h in
          ap (λ (es : List Entry). Some (record m { entries = es }))
          (ap (λ (es : List Entry). all_flags_set (changes_from 0 set how given es) m.entries) mail ∙ all_set set how given m.entries []
          ∙ ap (λ (test : Key → Bool). map (λ (e : Entry). cond (test e.key) (record e { flags = changed how given e.flags }) e) m.entries) tests)

  pub deletes : (u : User) (name : List ℕ) (boxes : Boxes) → deleted u name set boxes ≡ deleted u name keys boxes
  deletes u name boxes = ap (λ (test : Key → Bool). cond (is_fixed name) boxes (change_row (box_of u lost_found) (put_all (cond (is_fixed name) [] (filter (λ (e : Entry). not (test e.key)) (mail_at (box_of u name) boxes)))) (left u name boxes))) tests

-- ---- new mail

pub puts_are : (mail : ℕ → List Entry) (aims : List Aim) (boxes : Boxes) → put_each (puts_by mail aims) boxes ≡ put_at mail aims boxes
puts_are mail [] boxes = refl
puts_are mail (a ∷ aims) boxes = puts_are mail aims (change_row (box_aimed a) (put_all (mail a.index)) boxes)

unchanged : (id : BoxId) (boxes : Boxes) → change_row id (put_all []) boxes ≡ boxes
unchanged id [] = refl
unchanged id (r ∷ rs) = ap₂ (λ (m : Mailbox) (rest : Boxes). (r.0, m) ∷ rest) (elim (eq_by_cmp box_cmp id r.0) as (λ b. cond b r.1 r.1 ≡ r.1) [ true ↦ refl | false ↦ refl ]) (unchanged id rs)

-- no new mail changes nothing
pub nothing_put : (aims : List Aim) (boxes : Boxes) → put_at (λ index. []) aims boxes ≡ boxes
nothing_put [] boxes = refl
nothing_put (a ∷ aims) boxes = ap (put_at (λ index. []) aims) (unchanged (box_aimed a) boxes) ∙ nothing_put aims boxes

module _ (u : User) (i : Item) where
  nothing_new : (boxes : Boxes) (index at : ℕ) (d : Deed) → own_message at d ≡ None → ((m : List ℕ) (ks : List Key) (t : List ℕ) → d ≡ Copy m ks t → ⊥) → new_mail u i boxes index d ≡ []
  nothing_new boxes index at (Deliver from to text) h apart = cc
  nothing_new boxes index at (Append mailbox flags moment text) h apart = cc
  nothing_new boxes index at (Copy mailbox keys target) h apart = absurd (apart mailbox keys target refl)
  nothing_new boxes index at (Acts (Give v mailbox text)) h apart = cc
  nothing_new boxes index at (Notice v text) h apart = cc
  nothing_new boxes index at _ h apart = refl

  -- what a deed does that brings no mail is all that it does
  pub nothing_after : (aims : List Aim) (boxes : Boxes) → own_message i.at i.deed ≡ None → ((m : List ℕ) (ks : List Key) (t : List ℕ) → i.deed ≡ Copy m ks t → ⊥) → rearranged u i.deed boxes ≡ after u i aims boxes
  nothing_after aims boxes h apart =
      sym (nothing_put aims (rearranged u i.deed boxes)) ∙ ap (λ (mail : ℕ → List Entry). put_at mail aims (rearranged u i.deed boxes)) (λ j index. sym (nothing_new boxes index i.at i.deed h apart) j)

  -- a COPY puts the same, where the same stands
  pub copies_after : (mailbox : List ℕ) (keys : List Key) (target : List ℕ) (mail : List Entry) (rows boxes : Boxes) (aims : List Aim) → i.deed ≡ Copy mailbox keys target
      → mail ≡ mail_at (box_of u mailbox) rows → SameAt (deed_touches u i.deed) rows boxes → put_at (λ index. copies i.number mail keys) aims boxes ≡ after u i aims boxes
  copies_after mailbox keys target mail rows boxes aims is at same =
      let here : SameAt (is_one (box_of u mailbox ∷ [])) rows boxes = subst (λ (d : Deed). SameAt (deed_touches u d) rows boxes) is same in
      ap (λ (es : List Entry). put_at (λ index. copies i.number es keys) aims boxes) (at ∙ ap (λ (o : Option Mailbox). unwrap_or (option_map (λ (m : Mailbox). m.entries) o) []) (first_same (box_of u mailbox) [] rows boxes here))
      ∙ ap (λ (d : Deed). put_at (λ index. new_mail u i boxes index d) aims (rearranged u d boxes)) (sym is)
