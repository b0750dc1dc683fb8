-- What items do that make, rename and delete no mailbox: changes that their touches allow.
use Rattle.std.proofs.Common.{◌≡◌, ℕ, Bool, true, false, not, ◌&&◌, cond, List, [], ◌∷◌, ◌++◌, map, filter, length, Option, option_map, refl, ap, ◌∙◌, true≢false, eq-eqb}
use Rattle.std.specs.List.{list_all, AllByRecursion}
use Rattle.std.specs.Cmp.{first_so, second_so}
use Rattle.undo_base.specs.declared.keys.User.{User}
use Rattle.undo_base.specs.declared.keys.Key.{Key}
use Rattle.undo_base.specs.declared.asks.How.TheVariants.{Add}
use Rattle.verb_core.specs.declared.item.Item.{Item}
use Rattle.verb_core.specs.declared.item.Aim.{Aim}
use Rattle.verb_core.specs.declared.item.Deed.{Deed}
use Rattle.verb_core.specs.declared.item.Deed.TheVariants.{Deliver, Append, Fetch, Store, Copy, List as Lists, Status, Select, Expunge, Close, Create, Rename, Delete, Act as Acts, Notice}
use Rattle.verb_core.specs.declared.item.Act.TheVariants.{SetAlias, DropAlias, SetFilter, DropFilter, Remove, Give}
use Rattle.verb_core.specs.declared.item.Shown.TheVariants.{Seen, Names as Named, Count, Done, Copied, Left}
use Rattle.verb_core.specs.declared.mailbox.Entry.{Entry}
use Rattle.verb_core.specs.declared.mailbox.Mailbox.{Mailbox}
use Rattle.verb_core.specs.Patterns.{is_listed}
use Rattle.verb_core.specs.Mailboxes.{put_all, with_entries, no_flags, reflagged, expunged, without, is_among}
use Rattle.verb_core.specs.Boxes.{box_of, mail_at}
use Rattle.verb_core.specs.Items.{actor}
use Rattle.verb_core.specs.Aims.{Sought, box_aimed}
use Rattle.verb_core.specs.Step.{Boxes, new_mail, put_at, rearranged, shown}
use Rattle.touch_rules.specs.declared.touched.Touch.{Touch}
use Rattle.touch_rules.specs.declared.touched.Touch.TheVariants.{Keys}
use Rattle.touch_rules.specs.Table.{tail_on, looked_for, arrivals, table_row}
use Rattle.touch_rules.specs.Swapping.{brings_mail, resolved}
use Rattle.touch_rules.proofs.Edits.{both, flags_by, kept_by, flags_form, kept_form, flags_leave, kept_leave, all_of, copies_are, sights_alike, there_alike, copies_alike, expunged_alike}
use Rattle.touch_rules.proofs.Changes.{Change, Allowed, after_changes, all_fit, seen_kept, whole_kept, names_kept}

-- whether a deed makes, renames or deletes a mailbox
abbrev pub moves_boxes : Deed → Bool
moves_boxes (Create mailbox) = true
moves_boxes (Rename mailbox target) = true
moves_boxes (Delete mailbox keys) = true
moves_boxes _ = false

-- what a deed touches whose item has these aims
abbrev pub row_of : Sought → Item → Option User → Deed → List Touch
row_of to i by d = table_row (actor by d) (arrivals (resolved to i)) d

-- a change of a mailbox's messages by their keys
abbrev edit : User → List ℕ → List Key → (List Entry → List Entry) → Change
edit u n keys f = record { touch = Keys u n keys true; id = box_of u n; becomes = with_entries f }

-- the changes of a deed that brings no mail
abbrev own_changes : User → Deed → List Change
own_changes u (Fetch mailbox keys sets_seen shows_body) = cond sets_seen (edit u mailbox keys (reflagged keys Add (record no_flags { seen = true })) ∷ []) []
own_changes u (Store mailbox keys how flags) = edit u mailbox keys (reflagged keys how flags) ∷ []
own_changes u (Expunge mailbox keys) = edit u mailbox keys (expunged keys) ∷ []
own_changes u (Close mailbox keys) = edit u mailbox keys (expunged keys) ∷ []
own_changes u (Acts (Remove v mailbox key)) = edit u mailbox (key ∷ []) (without (key ∷ [])) ∷ []
own_changes u _ = []

-- new mail at each aim
abbrev mail_changes : (ℕ → List Entry) → ℕ → List Aim → List Change
mail_changes mail number [] = []
mail_changes mail number (a ∷ aims) = record { touch = tail_on number a; id = box_aimed a; becomes = put_all (mail a.index) } ∷ mail_changes mail number aims

-- the changes of an item, whose copies are of what lies in these mailboxes
abbrev pub changes : Sought → Item → Option User → Deed → Boxes → List Change
changes to i by d rs = cond (brings_mail d) (mail_changes (λ index. new_mail (actor by d) i rs index d) i.number to.aims) (own_changes (actor by d) d)

-- ---- an item's work is its changes

puts : (mail : ℕ → List Entry) (number : ℕ) (aims : List Aim) (rs : Boxes) → put_at mail aims rs ≡ after_changes (mail_changes mail number aims) rs
puts mail number [] rs = refl
puts mail number (a ∷ aims) rs = puts mail number aims _

pub works : (to : Sought) (i : Item) (by : Option User) (d : Deed) (rs : Boxes) → moves_boxes d ≡ false → (brings_mail d ≡ false → to ≡ record { aims = []; missed = [] })
    → put_at (λ index. new_mail (actor by d) i rs index d) to.aims (rearranged (actor by d) d rs) ≡ after_changes (changes to i by d rs) rs
works to i by (Deliver from names text) rs still can = puts (λ index. new_mail (actor by (Deliver from names text)) i rs index (Deliver from names text)) i.number to.aims rs
works to i by (Append mailbox flags moment text) rs still can = puts (λ index. new_mail (actor by (Append mailbox flags moment text)) i rs index (Append mailbox flags moment text)) i.number to.aims rs
works to i by (Copy mailbox keys target) rs still can = puts (λ index. new_mail (actor by (Copy mailbox keys target)) i rs index (Copy mailbox keys target)) i.number to.aims rs
works to i by (Acts (Give u mailbox text)) rs still can = puts (λ index. new_mail (actor by (Acts (Give u mailbox text))) i rs index (Acts (Give u mailbox text))) i.number to.aims rs
works to i by (Notice u text) rs still can = puts (λ index. new_mail (actor by (Notice u text)) i rs index (Notice u text)) i.number to.aims rs
works to i by (Fetch mailbox keys sets_seen shows_body) rs still can =
    ap (λ (t : Sought). put_at (λ index. []) t.aims (rearranged (actor by (Fetch mailbox keys sets_seen shows_body)) (Fetch mailbox keys sets_seen shows_body) rs)) (can refl)
    ∙ elim sets_seen as (λ b. rearranged (actor by (Fetch mailbox keys b shows_body)) (Fetch mailbox keys b shows_body) rs ≡ after_changes (own_changes (actor by (Fetch mailbox keys b shows_body)) (Fetch mailbox keys b shows_body)) rs) [ true ↦ refl | false ↦ refl ]
works to i by (Store mailbox keys how flags) rs still can = ap (λ (t : Sought). put_at (λ index. []) t.aims (rearranged (actor by (Store mailbox keys how flags)) (Store mailbox keys how flags) rs)) (can refl)
works to i by (Expunge mailbox keys) rs still can = ap (λ (t : Sought). put_at (λ index. []) t.aims (rearranged (actor by (Expunge mailbox keys)) (Expunge mailbox keys) rs)) (can refl)
works to i by (Close mailbox keys) rs still can = ap (λ (t : Sought). put_at (λ index. []) t.aims (rearranged (actor by (Close mailbox keys)) (Close mailbox keys) rs)) (can refl)
works to i by (Acts (Remove v mailbox key)) rs still can = ap (λ (t : Sought). put_at (λ index. []) t.aims (rearranged v (Acts (Remove v mailbox key)) rs)) (can refl)
works to i by (Acts (SetAlias local users)) rs still can = ap (λ (t : Sought). put_at (λ index. []) t.aims rs) (can refl)
works to i by (Acts (DropAlias local)) rs still can = ap (λ (t : Sought). put_at (λ index. []) t.aims rs) (can refl)
works to i by (Acts (SetFilter filter)) rs still can = ap (λ (t : Sought). put_at (λ index. []) t.aims rs) (can refl)
works to i by (Acts (DropFilter id)) rs still can = ap (λ (t : Sought). put_at (λ index. []) t.aims rs) (can refl)
works to i by (Lists pattern) rs still can = ap (λ (t : Sought). put_at (λ index. []) t.aims rs) (can refl)
works to i by (Status mailbox) rs still can = ap (λ (t : Sought). put_at (λ index. []) t.aims rs) (can refl)
works to i by (Select mailbox) rs still can = ap (λ (t : Sought). put_at (λ index. []) t.aims rs) (can refl)
works to i by (Create mailbox) rs still can = absurd (true≢false still)
works to i by (Rename mailbox target) rs still can = absurd (true≢false still)
works to i by (Delete mailbox keys) rs still can = absurd (true≢false still)

-- ---- its touches allow them

own_mail : (u : User) (i : Item) (rs : Boxes) (index : ℕ) (d : Deed) → all_of i.number (new_mail u i rs index d) ≡ true
own_mail u i rs index (Deliver from to text) = both _ _ (eq-eqb i.number i.number refl) refl
own_mail u i rs index (Append mailbox flags moment text) = both _ _ (eq-eqb i.number i.number refl) refl
own_mail u i rs index (Copy mailbox keys target) = copies_are i.number keys (mail_at (box_of u mailbox) rs)
own_mail u i rs index (Acts (Give v mailbox text)) = both _ _ (eq-eqb i.number i.number refl) refl
own_mail u i rs index (Notice v text) = both _ _ (eq-eqb i.number i.number refl) refl
own_mail u i rs index _ = refl

mail_allowed : (mail : ℕ → List Entry) (number : ℕ) → ((index : ℕ) → all_of number (mail index) ≡ true) → (aims : List Aim) → AllByRecursion Allowed (mail_changes mail number aims)
mail_allowed mail number all [] = tt
mail_allowed mail number all (a ∷ aims) = ((refl, (mail a.index, all a.index, λ m. refl)), mail_allowed mail number all aims)

flags_allowed : (u : User) (n : List ℕ) (keys : List Key) (how : _) (flags : _) → Allowed (edit u n keys (reflagged keys how flags))
flags_allowed u n keys how flags = (refl, refl, (flags_by keys how flags, flags_leave keys how flags, λ (m : Mailbox). ap (λ (es : List Entry). record { next = m.next; entries = es }) (flags_form keys how flags m.entries)))

stays_off : (a b : Bool) → a ≡ false → not (a && b) ≡ true
stays_off true b h = absurd (true≢false h)
stays_off false b h = refl

expunge_allowed : (u : User) (n : List ℕ) (keys : List Key) → Allowed (edit u n keys (expunged keys))
expunge_allowed u n keys = (refl, refl, (kept_by (λ e. not (is_among keys e.key && e.flags.deleted)), kept_leave keys _ (λ e off. stays_off (is_among keys e.key) e.flags.deleted off), λ (m : Mailbox). ap (λ (es : List Entry). record { next = m.next; entries = es }) (kept_form (λ e. not (is_among keys e.key && e.flags.deleted)) m.entries)))

remove_allowed : (u : User) (n : List ℕ) (keys : List Key) → Allowed (edit u n keys (without keys))
remove_allowed u n keys = (refl, refl, (kept_by (λ e. not (is_among keys e.key)), kept_leave keys _ (λ e off. ap not off), λ (m : Mailbox). ap (λ (es : List Entry). record { next = m.next; entries = es }) (kept_form (λ e. not (is_among keys e.key)) m.entries)))

pub allowed : (to : Sought) (i : Item) (by : Option User) (d : Deed) (rs : Boxes) → AllByRecursion Allowed (changes to i by d rs)
allowed to i by (Deliver from names text) rs = mail_allowed (λ index. new_mail (actor by (Deliver from names text)) i rs index (Deliver from names text)) i.number (λ index. own_mail (actor by (Deliver from names text)) i rs index (Deliver from names text)) to.aims
allowed to i by (Append mailbox flags moment text) rs = mail_allowed (λ index. new_mail (actor by (Append mailbox flags moment text)) i rs index (Append mailbox flags moment text)) i.number (λ index. own_mail (actor by (Append mailbox flags moment text)) i rs index (Append mailbox flags moment text)) to.aims
allowed to i by (Copy mailbox keys target) rs = mail_allowed (λ index. new_mail (actor by (Copy mailbox keys target)) i rs index (Copy mailbox keys target)) i.number (λ index. own_mail (actor by (Copy mailbox keys target)) i rs index (Copy mailbox keys target)) to.aims
allowed to i by (Acts (Give u mailbox text)) rs = mail_allowed (λ index. new_mail (actor by (Acts (Give u mailbox text))) i rs index (Acts (Give u mailbox text))) i.number (λ index. own_mail u i rs index (Acts (Give u mailbox text))) to.aims
allowed to i by (Notice u text) rs = mail_allowed (λ index. new_mail (actor by (Notice u text)) i rs index (Notice u text)) i.number (λ index. own_mail u i rs index (Notice u text)) to.aims
allowed to i by (Fetch mailbox keys sets_seen shows_body) rs = elim sets_seen as (λ b. AllByRecursion Allowed (own_changes (actor by (Fetch mailbox keys b shows_body)) (Fetch mailbox keys b shows_body))) [ true ↦ (flags_allowed _ mailbox keys Add (record no_flags { seen = true }), tt) | false ↦ tt ]
allowed to i by (Store mailbox keys how flags) rs = (flags_allowed _ mailbox keys how flags, tt)
allowed to i by (Expunge mailbox keys) rs = (expunge_allowed _ mailbox keys, tt)
allowed to i by (Close mailbox keys) rs = (expunge_allowed _ mailbox keys, tt)
allowed to i by (Acts (Remove v mailbox key)) rs = (remove_allowed v mailbox (key ∷ []), tt)
allowed to i by (Acts (SetAlias local users)) rs = tt
allowed to i by (Acts (DropAlias local)) rs = tt
allowed to i by (Acts (SetFilter filter)) rs = tt
allowed to i by (Acts (DropFilter id)) rs = tt
allowed to i by (Lists pattern) rs = tt
allowed to i by (Status mailbox) rs = tt
allowed to i by (Select mailbox) rs = tt
allowed to i by (Create mailbox) rs = tt
allowed to i by (Rename mailbox target) rs = tt
allowed to i by (Delete mailbox keys) rs = tt

-- ---- what passes at each touch passes at each change's touch

module _ (passes : Touch → Bool) where
  mail_covered : (mail : ℕ → List Entry) (number : ℕ) (aims : List Aim) (rest : List Touch) → list_all passes (map (tail_on number) aims ++ rest) ≡ true → list_all (λ (c : Change). passes c.touch) (mail_changes mail number aims) ≡ true
  mail_covered mail number [] rest h = refl
  mail_covered mail number (a ∷ aims) rest h = both _ _ (first_so _ _ h) (mail_covered mail number aims rest (second_so _ _ h))

  pub covered : (to : Sought) (i : Item) (by : Option User) (d : Deed) (rs : Boxes) → list_all passes (row_of to i by d) ≡ true → list_all (λ (c : Change). passes c.touch) (changes to i by d rs) ≡ true
  covered to i by (Deliver from names text) rs h = mail_covered (λ index. new_mail (actor by (Deliver from names text)) i rs index (Deliver from names text)) i.number to.aims (map looked_for to.missed) h
  covered to i by (Append mailbox flags moment text) rs h = mail_covered (λ index. new_mail (actor by (Append mailbox flags moment text)) i rs index (Append mailbox flags moment text)) i.number to.aims (map looked_for to.missed) h
  covered to i by (Copy mailbox keys target) rs h = mail_covered (λ index. new_mail (actor by (Copy mailbox keys target)) i rs index (Copy mailbox keys target)) i.number to.aims (map looked_for to.missed) (second_so _ _ h)
  covered to i by (Acts (Give u mailbox text)) rs h = mail_covered (λ index. new_mail (actor by (Acts (Give u mailbox text))) i rs index (Acts (Give u mailbox text))) i.number to.aims (map looked_for to.missed) h
  covered to i by (Notice u text) rs h = mail_covered (λ index. new_mail (actor by (Notice u text)) i rs index (Notice u text)) i.number to.aims (map looked_for to.missed) h
  covered to i by (Fetch mailbox keys sets_seen shows_body) rs h = (elim sets_seen as (λ b. list_all passes (row_of to i by (Fetch mailbox keys b shows_body)) ≡ true → list_all (λ (c : Change). passes c.touch) (own_changes (actor by (Fetch mailbox keys b shows_body)) (Fetch mailbox keys b shows_body)) ≡ true) [ true ↦ λ k. k | false ↦ λ k. refl ]) h
  covered to i by (Store mailbox keys how flags) rs h = h
  covered to i by (Expunge mailbox keys) rs h = h
  covered to i by (Close mailbox keys) rs h = h
  covered to i by (Acts (Remove v mailbox key)) rs h = h
  covered to i by (Acts (SetAlias local users)) rs h = refl
  covered to i by (Acts (DropAlias local)) rs h = refl
  covered to i by (Acts (SetFilter filter)) rs h = refl
  covered to i by (Acts (DropFilter id)) rs h = refl
  covered to i by (Lists pattern) rs h = refl
  covered to i by (Status mailbox) rs h = refl
  covered to i by (Select mailbox) rs h = refl
  covered to i by (Create mailbox) rs h = refl
  covered to i by (Rename mailbox target) rs h = refl
  covered to i by (Delete mailbox keys) rs h = refl

-- ---- what an item sees after changes that fit its touches

module _ (ds : List Change) (all : AllByRecursion Allowed ds) (to : Sought) (i : Item) (by : Option User) where
  pub mail_alike : (d : Deed) (rs : Boxes) → list_all (all_fit ds) (row_of to i by d) ≡ true → (index : ℕ) → new_mail (actor by d) i (after_changes ds rs) index d ≡ new_mail (actor by d) i rs index d
  mail_alike (Copy mailbox keys target) rs fit index = copies_alike i.number keys _ _ (seen_kept (actor by (Copy mailbox keys target)) mailbox keys false ds all (first_so _ _ fit) rs)
  mail_alike (Deliver from names text) rs fit index = refl
  mail_alike (Append mailbox flags moment text) rs fit index = refl
  mail_alike (Acts (Give u mailbox text)) rs fit index = refl
  mail_alike (Notice u text) rs fit index = refl
  mail_alike _ rs fit index = refl

  pub changes_alike : (d : Deed) (rs : Boxes) → list_all (all_fit ds) (row_of to i by d) ≡ true → changes to i by d (after_changes ds rs) ≡ changes to i by d rs
  changes_alike d rs fit = ap (λ (mail : ℕ → List Entry). cond (brings_mail d) (mail_changes mail i.number to.aims) (own_changes (actor by d) d)) (λ j index. mail_alike d rs fit index j)

  pub shown_alike : (redirected : Bool) (d : Deed) (rs : Boxes) → moves_boxes d ≡ false → list_all (all_fit ds) (row_of to i by d) ≡ true → shown redirected (actor by d) d (after_changes ds rs) ≡ shown redirected (actor by d) d rs
  shown_alike redirected (Fetch mailbox keys sets_seen shows_body) rs still fit = ap Seen (sights_alike keys _ _ (seen_kept (actor by (Fetch mailbox keys sets_seen shows_body)) mailbox keys sets_seen ds all (first_so _ _ fit) rs))
  shown_alike redirected (Store mailbox keys how flags) rs still fit = ap Done (there_alike keys _ _ (seen_kept (actor by (Store mailbox keys how flags)) mailbox keys true ds all (first_so _ _ fit) rs))
  shown_alike redirected (Copy mailbox keys target) rs still fit = ap (λ (ks : List Key). Copied ks redirected) (there_alike keys _ _ (seen_kept (actor by (Copy mailbox keys target)) mailbox keys false ds all (first_so _ _ fit) rs))
  shown_alike redirected (Expunge mailbox keys) rs still fit = ap Left (there_alike keys _ _ (expunged_alike keys keys _ _ (seen_kept (actor by (Expunge mailbox keys)) mailbox keys true ds all (first_so _ _ fit) rs)))
  shown_alike redirected (Close mailbox keys) rs still fit = ap Left (there_alike keys _ _ (expunged_alike keys keys _ _ (seen_kept (actor by (Close mailbox keys)) mailbox keys true ds all (first_so _ _ fit) rs)))
  shown_alike redirected (Lists pattern) rs still fit = ap (λ (ns : List (List ℕ)). Named (filter (is_listed pattern) ns)) (names_kept (actor by (Lists pattern)) ds rs)
  shown_alike redirected (Status mailbox) rs still fit = ap (λ (o : Option Mailbox). Count (option_map (λ (m : Mailbox). length m.entries) o)) (whole_kept (actor by (Status mailbox)) mailbox false ds all (first_so _ _ fit) rs)
  shown_alike redirected (Select mailbox) rs still fit = ap (λ (o : Option Mailbox). Count (option_map (λ (m : Mailbox). length m.entries) o)) (whole_kept (actor by (Select mailbox)) mailbox false ds all (first_so _ _ fit) rs)
  shown_alike redirected (Append mailbox flags moment text) rs still fit = refl
  shown_alike redirected (Deliver from names text) rs still fit = refl
  shown_alike redirected (Acts act) rs still fit = refl
  shown_alike redirected (Notice u text) rs still fit = refl
  shown_alike redirected (Create mailbox) rs still fit = absurd (true≢false still)
  shown_alike redirected (Rename mailbox target) rs still fit = absurd (true≢false still)
  shown_alike redirected (Delete mailbox keys) rs still fit = absurd (true≢false still)
