-- Mailboxes changed one after the other: by touches of messages and by new mail. Changes whose touches fit come in either order.
use Rattle.std.proofs.Common.{◌≡◌, ℕ, Bool, true, false, not, ◌&&◌, ◌||◌, ◌==◌, cond, List, [], ◌∷◌, map, filter_map, Option, Some, None, is_some, option_map, unwrap_or, bytes_eq, refl, sym, ap, ap₂, ◌∙◌, subst, true≢false}
use Rattle.std.specs.List.{list_all, AllByRecursion}
use Rattle.std.specs.Ordering.{eq_by_cmp}
use Rattle.std.specs.Cmp.{first_so, second_so}
use Rattle.undo_base.specs.declared.keys.User.{User}
use Rattle.undo_base.specs.declared.keys.Key.{Key}
use Rattle.verb_core.specs.declared.mailbox.BoxId.{BoxId}
use Rattle.verb_core.specs.declared.mailbox.Entry.{Entry}
use Rattle.verb_core.specs.declared.mailbox.Mailbox.{Mailbox}
use Rattle.verb_core.specs.Mailboxes.{put_all, with_entries}
use Rattle.verb_core.specs.Boxes.{box_cmp, box_of, row_at, has_row, change_row, mail_at, names_of, rows_of, same_user}
use Rattle.verb_core.specs.Step.{Boxes}
use Rattle.verb_core.proofs.BoxLaws.{tied, itself, same_box, row_at-change_row}
use Rattle.touch_rules.specs.declared.touched.Touch.{Touch}
use Rattle.touch_rules.specs.declared.touched.Touch.TheVariants.{Keys, Tail, Whole, Names, Every}
use Rattle.touch_rules.specs.Commuting.{have_common, has_number}
use Rattle.touch_rules.proofs.Edits.{negated, common_flip, LeavesOthers, edits_swap, edit_and_mail, all_of, SeenAlike, alike_itself, alike_then, alike_edit, alike_mail}
use Rattle.touch_rules.proofs.Fitting.{fits}

-- a change of one mailbox, and the touch that allows it
pub record Change : Type 0 where
  pub touch : Touch
  pub id : BoxId
  pub becomes : Mailbox → Mailbox

-- what a touch allows: a change of messages by their keys, or new mail of the item of a number
abbrev pub IsAllowed : Touch → BoxId → (Mailbox → Mailbox) → Type 0
IsAllowed (Keys u n keys writes) id becomes = (writes ≡ true) × (id ≡ box_of u n) × ((f : Entry → Option Entry) × LeavesOthers keys f × ((m : Mailbox) → becomes m ≡ with_entries (filter_map f) m))
IsAllowed (Tail u n number) id becomes = (id ≡ box_of u n) × ((es : List Entry) × (all_of number es ≡ true) × ((m : Mailbox) → becomes m ≡ put_all es m))
IsAllowed (Whole u n writes) id becomes = ⊥
IsAllowed (Names u writes) id becomes = ⊥
IsAllowed (Every u) id becomes = ⊥

abbrev pub Allowed : Change → Type 0
Allowed c = IsAllowed c.touch c.id c.becomes

-- after the changes, one by one
abbrev pub after_changes : List Change → Boxes → Boxes
after_changes [] rs = rs
after_changes (c ∷ cs) rs = after_changes cs (change_row c.id c.becomes rs)

-- ---- one mailbox

-- touches of one mailbox of which one writes fit where they speak of different messages
must_differ : (p r d : Bool) → p ≡ true → r ≡ false → (not p || r || d) ≡ true → d ≡ true
must_differ true true d a b h = absurd (true≢false b)
must_differ true false d a b h = h
must_differ false r d a b h = absurd (true≢false (sym a))

same_place : (u v : User) (m n : List ℕ) → eq_by_cmp box_cmp (box_of u m) (box_of v n) ≡ true → (u.0 == v.0 && bytes_eq m n) ≡ true
same_place u v m n h = same_box (box_of u m) (box_of v n) ∙ h

at_place : (a b : BoxId) (u v : User) (m n : List ℕ) → a ≡ box_of u m → b ≡ box_of v n → eq_by_cmp box_cmp a b ≡ true → (u.0 == v.0 && bytes_eq m n) ≡ true
at_place a b u v m n is are h = same_place u v m n (sym (ap₂ (eq_by_cmp box_cmp) is are) ∙ h)

-- changes of one mailbox whose touches fit come in either order
abbrev Turns : (Mailbox → Mailbox) → (Mailbox → Mailbox) → Type 0
Turns f g = (m : Mailbox) → g (f m) ≡ f (g m)

edits_turn : (ks ls : List Key) (f g : Entry → Option Entry) (x y : Mailbox → Mailbox) → LeavesOthers ks f → LeavesOthers ls g → have_common ks ls ≡ false
    → ((m : Mailbox) → x m ≡ with_entries (filter_map f) m) → ((m : Mailbox) → y m ≡ with_entries (filter_map g) m) → Turns x y
edits_turn ks ls f g x y one two apart is are m =
    are (x m) ∙ ap (with_entries (filter_map g)) (is m)
    ∙ ap (λ (es : List Entry). record { next = m.next; entries = es }) (sym (edits_swap ks ls f g one two apart m.entries))
    ∙ sym (is (y m) ∙ ap (with_entries (filter_map f)) (are m))

mail_turns : (ks : List Key) (f : Entry → Option Entry) (number : ℕ) (es : List Entry) (x y : Mailbox → Mailbox) → LeavesOthers ks f → all_of number es ≡ true → has_number number ks ≡ false
    → ((m : Mailbox) → x m ≡ with_entries (filter_map f) m) → ((m : Mailbox) → y m ≡ put_all es m) → Turns x y
mail_turns ks f number es x y one all apart is are m =
    are (x m) ∙ ap (put_all es) (is m) ∙ sym (edit_and_mail ks f number one apart es m all) ∙ ap (with_entries (filter_map f)) (sym (are m)) ∙ sym (is (y m))

pub turns : (s t : Touch) (a b : BoxId) (x y : Mailbox → Mailbox) → IsAllowed s a x → IsAllowed t b y → fits s t ≡ true → eq_by_cmp box_cmp a b ≡ true → Turns x y
turns (Keys u m ks true) (Keys v n ls w) a b x y one two fit tie =
    edits_turn ks ls one.2.0 two.2.0 x y one.2.1 two.2.1 (negated _ (must_differ (u.0 == v.0 && bytes_eq m n) false (not (have_common ks ls)) (at_place a b u v m n one.1 two.1 tie) refl fit)) one.2.2 two.2.2
turns (Keys u m ks false) (Keys v n ls w) a b x y one two fit tie = absurd (true≢false (sym one.0))
turns (Keys u m ks true) (Tail v n number) a b x y one two fit tie =
    mail_turns ks one.2.0 number two.1.0 x y one.2.1 two.1.1 (negated _ (must_differ (u.0 == v.0 && bytes_eq m n) false (not (has_number number ks)) (at_place a b u v m n one.1 two.0 tie) refl fit)) one.2.2 two.1.2
turns (Keys u m ks false) (Tail v n number) a b x y one two fit tie = absurd (true≢false (sym one.0))
turns (Keys u m ks w) (Whole v n z) a b x y one two fit tie = absurd two
turns (Keys u m ks w) (Names v z) a b x y one two fit tie = absurd two
turns (Keys u m ks w) (Every v) a b x y one two fit tie = absurd two
turns (Tail u m number) (Keys v n ks w) a b x y one two fit tie =
    λ (at : Mailbox). sym (mail_turns ks two.2.0 number one.1.0 y x two.2.1 one.1.1 (negated _ (must_differ (u.0 == v.0 && bytes_eq m n) false (not (has_number number ks)) (at_place a b u v m n one.0 two.1 tie) refl fit)) two.2.2 one.1.2 at)
turns (Tail u m number) (Tail v n other) a b x y one two fit tie = absurd (true≢false (sym (must_differ (u.0 == v.0 && bytes_eq m n) false false (at_place a b u v m n one.0 two.0 tie) refl fit)))
turns (Tail u m number) (Whole v n z) a b x y one two fit tie = absurd two
turns (Tail u m number) (Names v z) a b x y one two fit tie = absurd two
turns (Tail u m number) (Every v) a b x y one two fit tie = absurd two
turns (Whole u m w) t a b x y one two fit tie = absurd one
turns (Names u w) t a b x y one two fit tie = absurd one
turns (Every u) t a b x y one two fit tie = absurd one

-- ---- rows

rows_turn : (a b : BoxId) (f g : Mailbox → Mailbox) → (eq_by_cmp box_cmp a b ≡ true → Turns f g) → (rs : Boxes) → change_row b g (change_row a f rs) ≡ change_row a f (change_row b g rs)
rows_turn a b f g fit [] = refl
rows_turn a b f g fit (r ∷ rs) = ap₂ (λ (m : Mailbox) (xs : Boxes). (r.0, m) ∷ xs) (one (eq_by_cmp box_cmp a r.0) (eq_by_cmp box_cmp b r.0) (λ p q. fit (ap₂ (eq_by_cmp box_cmp) (tied a r.0 p) (tied b r.0 q) ∙ itself r.0))) (rows_turn a b f g fit rs)
  where
    one : (p q : Bool) → (p ≡ true → q ≡ true → Turns f g) → cond q (g (cond p (f r.1) r.1)) (cond p (f r.1) r.1) ≡ cond p (f (cond q (g r.1) r.1)) (cond q (g r.1) r.1)
    one true true h = h refl refl r.1
    one true false h = refl
    one false true h = refl
    one false false h = refl

-- whether the touches of some changes fit a touch
abbrev pub all_fit : List Change → Touch → Bool
all_fit cs t = list_all (λ (c : Change). fits c.touch t) cs

change_turns : (c : Change) (ds : List Change) → Allowed c → AllByRecursion Allowed ds → list_all (λ (d : Change). fits c.touch d.touch) ds ≡ true → (rs : Boxes) → after_changes ds (change_row c.id c.becomes rs) ≡ change_row c.id c.becomes (after_changes ds rs)
change_turns c [] one all fit rs = refl
change_turns c (d ∷ ds) one all fit rs =
    ap (after_changes ds) (rows_turn c.id d.id c.becomes d.becomes (turns c.touch d.touch c.id d.id c.becomes d.becomes one all.0 (first_so _ _ fit)) rs)
    ∙ change_turns c ds one all.1 (second_so _ _ fit) (change_row d.id d.becomes rs)

-- changes whose touches fit come in either order
pub changes_turn : (cs ds : List Change) → AllByRecursion Allowed cs → AllByRecursion Allowed ds → list_all (λ (c : Change). list_all (λ (d : Change). fits c.touch d.touch) ds) cs ≡ true
    → (rs : Boxes) → after_changes ds (after_changes cs rs) ≡ after_changes cs (after_changes ds rs)
changes_turn [] ds all others fit rs = refl
changes_turn (c ∷ cs) ds all others fit rs =
    changes_turn cs ds all.1 others (second_so _ _ fit) (change_row c.id c.becomes rs)
    ∙ ap (after_changes cs) (change_turns c ds all.0 others (first_so _ _ fit) rs)

-- ---- what is seen after changes that fit a touch

mail_after : (id : BoxId) (c : Change) (rs : Boxes) → mail_at id (change_row c.id c.becomes rs) ≡ unwrap_or (option_map (λ (m : Mailbox). m.entries) (cond (eq_by_cmp box_cmp c.id id) (option_map c.becomes (row_at id rs)) (row_at id rs))) []
mail_after id c rs = ap (λ (o : Option Mailbox). unwrap_or (option_map (λ (m : Mailbox). m.entries) o) []) (row_at-change_row id c.id c.becomes rs)

seen_one : (v : User) (n : List ℕ) (ks : List Key) (w : Bool) (t : Touch) (id : BoxId) (f : Mailbox → Mailbox) → IsAllowed t id f → fits t (Keys v n ks w) ≡ true
    → eq_by_cmp box_cmp id (box_of v n) ≡ true → (m : Mailbox) → SeenAlike ks (f m).entries m.entries
seen_one v n ks w (Keys u m ls true) id f one fit tie at =
    subst (λ (es : List Entry). SeenAlike ks es at.entries) (sym (ap (λ (x : Mailbox). x.entries) (one.2.2 at)))
    (alike_edit ks ls one.2.0 one.2.1 at.entries (common_flip ks ls ∙ negated _ (must_differ (u.0 == v.0 && bytes_eq m n) false (not (have_common ls ks)) (at_place id (box_of v n) u v m n one.1 refl tie) refl fit)))
seen_one v n ks w (Keys u m ls false) id f one fit tie at = absurd (true≢false (sym one.0))
seen_one v n ks w (Tail u m number) id f one fit tie at =
    subst (λ (es : List Entry). SeenAlike ks es at.entries) (sym (ap (λ (x : Mailbox). x.entries) (one.1.2 at)))
    (alike_mail ks number one.1.0 at one.1.1 (negated _ (must_differ (u.0 == v.0 && bytes_eq m n) false (not (has_number number ks)) (at_place id (box_of v n) u v m n one.0 refl tie) refl fit)))
seen_one v n ks w (Whole u m x) id f one fit tie at = absurd one
seen_one v n ks w (Names u x) id f one fit tie at = absurd one
seen_one v n ks w (Every u) id f one fit tie at = absurd one

-- messages by keys are seen as before
pub seen_kept : (v : User) (n : List ℕ) (ks : List Key) (w : Bool) (cs : List Change) → AllByRecursion Allowed cs → all_fit cs (Keys v n ks w) ≡ true
    → (rs : Boxes) → SeenAlike ks (mail_at (box_of v n) (after_changes cs rs)) (mail_at (box_of v n) rs)
seen_kept v n ks w [] all fit rs = alike_itself ks _
seen_kept v n ks w (c ∷ cs) all fit rs =
    alike_then ks _ (mail_at (box_of v n) (change_row c.id c.becomes rs)) _ (seen_kept v n ks w cs all.1 (second_so _ _ fit) (change_row c.id c.becomes rs))
    (subst (λ (es : List Entry). SeenAlike ks es (mail_at (box_of v n) rs)) (sym (mail_after (box_of v n) c rs))
    (elim (eq_by_cmp box_cmp c.id (box_of v n)) as (λ b. eq_by_cmp box_cmp c.id (box_of v n) ≡ b → SeenAlike ks (unwrap_or (option_map (λ (m : Mailbox). m.entries) (cond b (option_map c.becomes (row_at (box_of v n) rs)) (row_at (box_of v n) rs))) []) (mail_at (box_of v n) rs)) [
      | true ↦ λ tie. there_or_not (row_at (box_of v n) rs) tie
      | false ↦ λ off. alike_itself ks _
    ] refl))
  where
    there_or_not : (o : Option Mailbox) → eq_by_cmp box_cmp c.id (box_of v n) ≡ true → SeenAlike ks (unwrap_or (option_map (λ (m : Mailbox). m.entries) (option_map c.becomes o)) []) (unwrap_or (option_map (λ (m : Mailbox). m.entries) o) [])
    there_or_not None tie = alike_itself ks []
    there_or_not (Some m) tie = seen_one v n ks w c.touch c.id c.becomes all.0 (first_so _ _ fit) tie m

whole_off : (v : User) (n : List ℕ) (w : Bool) (t : Touch) (id : BoxId) (f : Mailbox → Mailbox) → IsAllowed t id f → fits t (Whole v n w) ≡ true → eq_by_cmp box_cmp id (box_of v n) ≡ false
whole_off v n w (Keys u m ls true) id f one fit = elim (eq_by_cmp box_cmp id (box_of v n)) as (λ b. eq_by_cmp box_cmp id (box_of v n) ≡ b → b ≡ false) [
  | true ↦ λ tie. absurd (true≢false (sym (must_differ (u.0 == v.0 && bytes_eq m n) false false (at_place id (box_of v n) u v m n one.1 refl tie) refl fit)))
  | false ↦ λ off. refl
] refl
whole_off v n w (Keys u m ls false) id f one fit = absurd (true≢false (sym one.0))
whole_off v n w (Tail u m number) id f one fit = elim (eq_by_cmp box_cmp id (box_of v n)) as (λ b. eq_by_cmp box_cmp id (box_of v n) ≡ b → b ≡ false) [
  | true ↦ λ tie. absurd (true≢false (sym (must_differ (u.0 == v.0 && bytes_eq m n) false false (at_place id (box_of v n) u v m n one.0 refl tie) refl fit)))
  | false ↦ λ off. refl
] refl
whole_off v n w (Whole u m x) id f one fit = absurd one
whole_off v n w (Names u x) id f one fit = absurd one
whole_off v n w (Every u) id f one fit = absurd one

-- a whole mailbox is as before
pub whole_kept : (v : User) (n : List ℕ) (w : Bool) (cs : List Change) → AllByRecursion Allowed cs → all_fit cs (Whole v n w) ≡ true → (rs : Boxes) → row_at (box_of v n) (after_changes cs rs) ≡ row_at (box_of v n) rs
whole_kept v n w [] all fit rs = refl
whole_kept v n w (c ∷ cs) all fit rs =
    whole_kept v n w cs all.1 (second_so _ _ fit) (change_row c.id c.becomes rs)
    ∙ row_at-change_row (box_of v n) c.id c.becomes rs
    ∙ ap (λ b. cond b (option_map c.becomes (row_at (box_of v n) rs)) (row_at (box_of v n) rs)) (whole_off v n w c.touch c.id c.becomes all.0 (first_so _ _ fit))

-- the names are as before
names_one : (u : User) (id : BoxId) (f : Mailbox → Mailbox) (rs : Boxes) → names_of u (change_row id f rs) ≡ names_of u rs
names_one u id f [] = refl
names_one u id f (r ∷ rs) = elim (same_user u r.0.user) as (λ b. map (λ (x : BoxId × Mailbox). x.0.name) (cond b ((r.0, cond (eq_by_cmp box_cmp id r.0) (f r.1) r.1) ∷ rows_of u (change_row id f rs)) (rows_of u (change_row id f rs))) ≡ map (λ (x : BoxId × Mailbox). x.0.name) (cond b (r ∷ rows_of u rs) (rows_of u rs))) [
  | true ↦ ap (λ ns. r.0.name ∷ ns) (names_one u id f rs)
  | false ↦ names_one u id f rs
]

pub names_kept : (u : User) (cs : List Change) (rs : Boxes) → names_of u (after_changes cs rs) ≡ names_of u rs
names_kept u [] rs = refl
names_kept u (c ∷ cs) rs = names_kept u cs (change_row c.id c.becomes rs) ∙ names_one u c.id c.becomes rs

has_one : (q id : BoxId) (f : Mailbox → Mailbox) (rs : Boxes) → has_row q (change_row id f rs) ≡ has_row q rs
has_one q id f rs = ap is_some (row_at-change_row q id f rs) ∙ still (eq_by_cmp box_cmp id q) (row_at q rs)
  where
    still : (b : Bool) (o : Option Mailbox) → is_some (cond b (option_map f o) o) ≡ is_some o
    still true None = refl
    still true (Some m) = refl
    still false o = refl

pub has_kept : (q : BoxId) (cs : List Change) (rs : Boxes) → has_row q (after_changes cs rs) ≡ has_row q rs
has_kept q [] rs = refl
has_kept q (c ∷ cs) rs = has_kept q cs (change_row c.id c.becomes rs) ∙ has_one q c.id c.becomes rs
