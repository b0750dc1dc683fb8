-- Two stores in use that agree on a user agree again behind the same mail, where it comes to the same of the user's mailboxes, and behind the same
-- removal.
use Rattle.std.proofs.Common.{◌≡◌, ℕ, ◌+◌, Bool, true, false, cond, filter, not, List, [], ◌∷◌, ◌++◌, refl, ap, sym, subst, ◌∙◌, true≢false}
use Rattle.std.specs.Cmp.{first_so, second_so}
use Rattle.std.specs.List.{list_all}
use Rattle.std.specs.Ordering.{eq_by_cmp}
use Rattle.std.specs.Prelude.{unwrap_or}
use Rattle.undo_base.specs.declared.keys.Key.{Key}
use Rattle.undo_base.specs.declared.keys.User.{User}
use Rattle.verb_core.specs.declared.conf.House.{House}
use Rattle.verb_core.specs.declared.item.Aim.{Aim}
use Rattle.verb_core.specs.declared.item.Deed.{Deed}
use Rattle.verb_core.specs.declared.item.Act.TheVariants.{Give, Remove}
use Rattle.verb_core.specs.declared.item.Deed.TheVariants.{Act as Acts, Deliver}
use Rattle.verb_core.specs.declared.item.Item.{Item}
use Rattle.verb_core.specs.declared.mailbox.Body.{Body}
use Rattle.verb_core.specs.declared.mailbox.BoxId.{BoxId}
use Rattle.verb_core.specs.declared.mailbox.Entry.{Entry}
use Rattle.verb_core.specs.declared.mailbox.Mailbox.{Mailbox}
use Rattle.verb_core.specs.Aims.{box_aimed, sought}
use Rattle.verb_core.specs.Boxes.{box_cmp, box_of, change_row, rows_of, same_user}
use Rattle.verb_core.specs.Deeds.{is_notice}
use Rattle.verb_core.specs.Items.{IsWellFormed, actor, text_in}
use Rattle.verb_core.specs.Mailboxes.{is_among, no_flags, put, put_all, with_entries, without}
use Rattle.verb_core.specs.Stamps.{stamps_after}
use Rattle.verb_core.specs.Store.{MailStore}
use Rattle.verb_core.specs.Step.{Boxes, message, new_mail, put_at, rearranged, step}
use Rattle.verb_core.proofs.BoxLaws.{own-change_row, rows_of-change_row}
use Rattle.verb_core.proofs.Validity.{both}
use Rattle.store_kept.specs.Kept.{Kept, performed}
use Rattle.store_kept.specs.Texts.{all_bodies}
use Rattle.store_kept.proofs.Known.{bodies_weaker}
use Rattle.privacy_laws.specs.Agreeing.{Agree, is_alike}
use Rattle.privacy_laws.specs.Others.{CanFollow, aims_of, is_mail}
use Rattle.privacy_laws.proofs.Bodies.{body_of}
use Rattle.privacy_laws.proofs.Steps.{goes_on, own_stamps}
use Rattle.privacy_laws.proofs.Texts.{alike_after, alike_now}

-- ---- a user's rows behind new mail

module _ (u : User) (mail : ℕ → List Entry) where
  abbrev own_aims : List Aim → List Aim
  own_aims aims = filter (λ (a : Aim). same_user u a.user) aims

  one_aim : (a : Aim) (rest : List Aim) (rs : Boxes) (b : Bool) → same_user u a.user ≡ b
      → put_at mail rest (rows_of u (change_row (box_aimed a) (put_all (mail a.index)) rs)) ≡ put_at mail (cond b (a ∷ rest) rest) (rows_of u rs)
  one_aim a rest rs true is = ap (put_at mail rest) (own-change_row u (box_aimed a) (put_all (mail a.index)) rs)
  one_aim a rest rs false is = ap (put_at mail rest) (rows_of-change_row u (box_aimed a) (put_all (mail a.index)) rs is)

  own_put : (aims : List Aim) (rs : Boxes) → rows_of u (put_at mail aims rs) ≡ put_at mail (own_aims aims) (rows_of u rs)
  own_put [] rs = refl
  own_put (a ∷ aims) rs =
      own_put aims (change_row (box_aimed a) (put_all (mail a.index)) rs)
      ∙ one_aim a (own_aims aims) rs (same_user u a.user) refl

-- ---- its bodies

module _ (test : Body → Bool) where
  abbrev pass : List Entry → Bool
  pass es = list_all (λ (e : Entry). test e.body) es

  one_more : (es : List Entry) (e : Entry) → pass es ≡ true → test e.body ≡ true → pass (es ++ e ∷ []) ≡ true
  one_more [] e all is = both (test e.body) true is refl
  one_more (d ∷ es) e all is = both (test d.body) (pass (es ++ e ∷ [])) (first_so _ _ all) (one_more es e (second_so (test d.body) _ all) is)

  all_more : (new : List Entry) (m : Mailbox) → pass m.entries ≡ true → pass new ≡ true → pass (put_all new m).entries ≡ true
  all_more [] m all more = all
  all_more (e ∷ es) m all more = all_more es (put e m) (one_more m.entries (record e { uid = m.next }) all (first_so _ _ more)) (second_so (test e.body) _ more)

  row_more : (new : List Entry) (m : Mailbox) (b : Bool) → pass m.entries ≡ true → pass new ≡ true → pass (cond b (put_all new m) m).entries ≡ true
  row_more new m true all more = all_more new m all more
  row_more new m false all more = all

  rows_more : (id : BoxId) (new : List Entry) (rs : Boxes) → all_bodies test rs ≡ true → pass new ≡ true → all_bodies test (change_row id (put_all new) rs) ≡ true
  rows_more id new [] all more = refl
  rows_more id new (r ∷ rs) all more =
      both (pass (cond (eq_by_cmp box_cmp id r.0) (put_all new r.1) r.1).entries) (all_bodies test (change_row id (put_all new) rs))
      (row_more new r.1 (eq_by_cmp box_cmp id r.0) (first_so _ _ all) more)
      (rows_more id new rs (second_so (pass r.1.entries) _ all) more)

  all_put : (mail : ℕ → List Entry) → ((n : ℕ) → pass (mail n) ≡ true) → (aims : List Aim) (rs : Boxes) → all_bodies test rs ≡ true → all_bodies test (put_at mail aims rs) ≡ true
  all_put mail each [] rs all = all
  all_put mail each (a ∷ aims) rs all = all_put mail each aims (change_row (box_aimed a) (put_all (mail a.index)) rs) (rows_more (box_aimed a) (mail a.index) rs all (each a.index))

-- ---- a message that is removed

-- the rows without it, where one is removed
abbrev taken_out : Deed → Boxes → Boxes
taken_out (Acts (Remove v mailbox key)) rs = change_row (box_of v mailbox) (with_entries (without (key ∷ []))) rs
taken_out _ rs = rs

module _ (test : Body → Bool) where
  fewer : (es : List Entry) (p : Entry → Bool) → pass test es ≡ true → pass test (filter p es) ≡ true
  fewer [] p all = refl
  fewer (e ∷ es) p all =
      elim (p e) as (λ b. pass test (cond b (e ∷ filter p es) (filter p es)) ≡ true) [
        | true ↦ both (test e.body) (pass test (filter p es)) (first_so _ _ all) (fewer es p (second_so (test e.body) _ all))
        | false ↦ fewer es p (second_so (test e.body) _ all)
      ]

  row_fewer : (keys : List Key) (m : Mailbox) (b : Bool) → pass test m.entries ≡ true → pass test (cond b (with_entries (without keys) m) m).entries ≡ true
  row_fewer keys m true all = fewer m.entries (λ (e : Entry). not (is_among keys e.key)) all
  row_fewer keys m false all = all

  rows_fewer : (id : BoxId) (keys : List Key) (rs : Boxes) → all_bodies test rs ≡ true → all_bodies test (change_row id (with_entries (without keys)) rs) ≡ true
  rows_fewer id keys [] all = refl
  rows_fewer id keys (r ∷ rs) all =
      both (pass test (cond (eq_by_cmp box_cmp id r.0) (with_entries (without keys) r.1) r.1).entries) (all_bodies test (change_row id (with_entries (without keys)) rs))
      (row_fewer keys r.1 (eq_by_cmp box_cmp id r.0) (first_so _ _ all))
      (rows_fewer id keys rs (second_so (pass test r.1.entries) _ all))

  taken_fewer : (d : Deed) (rs : Boxes) → all_bodies test rs ≡ true → all_bodies test (taken_out d rs) ≡ true
  taken_fewer (Acts (Remove v mailbox key)) rs all = rows_fewer (box_of v mailbox) (key ∷ []) rs all
  taken_fewer _ rs all = all

-- ---- a mail

no_notice : (d : Deed) → is_mail d ≡ true → is_notice d ≡ false
unfolding is_notice
no_notice (Deliver from to text) is = refl
no_notice (Acts (Give v mailbox text)) is = refl
no_notice (Acts (Remove v mailbox key)) is = refl
no_notice _ is = absurd (true≢false (sym is))

module _ (i : Item) where
  abbrev brought : ℕ → List Entry
  brought index = message i index no_flags i.at ∷ []

  -- where a deed's new mail goes
  abbrev goes_to : MailStore → Deed → List Aim
  goes_to s d = (sought s (unwrap_or (text_in d) []) i.by d).aims

  -- the user's rows behind a deed
  behind_deed : (u : User) (s : MailStore) (d : Deed) → is_mail d ≡ true
      → rows_of u (put_at (λ index. new_mail (actor i.by d) i s.boxes index d) (goes_to s d) (rearranged (actor i.by d) d s.boxes)) ≡ put_at brought (own_aims u brought (goes_to s d)) (taken_out d (rows_of u s.boxes))
  behind_deed u s (Deliver from to text) is = own_put u brought (goes_to s (Deliver from to text)) s.boxes
  behind_deed u s (Acts (Give v mailbox text)) is = own_put u brought (goes_to s (Acts (Give v mailbox text))) s.boxes
  behind_deed u s (Acts (Remove v mailbox key)) is = own-change_row u (box_of v mailbox) (with_entries (without (key ∷ []))) s.boxes
  behind_deed u s _ is = absurd (true≢false (sym is))

  -- the user's rows behind it
  rows_mailed : (u : User) (kept : Kept) → is_mail i.deed ≡ true → rows_of u (step kept.store i).0.boxes ≡ put_at brought (aims_of u kept i) (taken_out i.deed (rows_of u kept.store.boxes))
  rows_mailed u kept is = behind_deed u kept.store i.deed is

module _ (h : House) (u : User) (k l : Kept) (a : Agree h u k l) (i : Item) (one : CanFollow h k i) (other : CanFollow h l i) (is : is_mail i.deed ≡ true) (same : aims_of u k i ≡ aims_of u l i) where
  boxes_mailed : rows_of u (step k.store i).0.boxes ≡ rows_of u (step l.store i).0.boxes
  boxes_mailed = rows_mailed i u k is ∙ (λ j. put_at (brought i) (same j) (taken_out i.deed (a.boxes j))) ∙ sym (rows_mailed i u l is)

  abbrev test : Body → Bool
  test body = is_alike (performed k i) (performed l i) body

  new_alike : (n : ℕ) → pass test (brought i n) ≡ true
  new_alike n = both (test (body_of i)) true (alike_now k l i a.one.base a.other.base a.one.below a.other.below (no_notice i.deed is) one.number a.next (body_of i) refl) refl

  texts_mailed : all_bodies test (rows_of u (step k.store i).0.boxes) ≡ true
  texts_mailed =
      subst (λ (rs : Boxes). all_bodies test rs ≡ true) (sym (rows_mailed i u k is))
      (all_put test (brought i) new_alike (aims_of u k i) (taken_out i.deed (rows_of u k.store.boxes))
      (taken_fewer test i.deed (rows_of u k.store.boxes)
      (bodies_weaker (is_alike k l) test (rows_of u k.store.boxes) (alike_after k l i a.one.base a.other.base a.one.below a.other.below (no_notice i.deed is) one.number a.next) a.texts)))

  pub agree_mailed : Agree h u (performed k i) (performed l i)
  agree_mailed = record {
    one = goes_on k i a.one (subst (λ (x : House). IsWellFormed x i) (sym a.one_house) one.formed) one.number one.left;
    other = goes_on l i a.other (subst (λ (x : House). IsWellFormed x i) (sym a.other_house) other.formed) other.number other.left;
    one_house = a.one_house;
    other_house = a.other_house;
    known = a.known;
    boxes = boxes_mailed;
    stamps = own_stamps u i.number (step k.store i).0.boxes k.stamps ∙ (λ j. stamps_after i.number (boxes_mailed j) (a.stamps j)) ∙ sym (own_stamps u i.number (step l.store i).0.boxes l.stamps);
    texts = texts_mailed;
    next = ap (λ (n : ℕ). n + 1) a.next;
    deep = a.deep;
  }
