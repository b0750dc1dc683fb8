-- Items that make, rename or delete a mailbox: what commutes with them touches other mailboxes, and other users' names.
use Rattle.std.proofs.Common.{◌≡◌, ℕ, Bool, true, false, not, ◌&&◌, ◌||◌, ◌==◌, List, [], ◌∷◌, ◌++◌, map, Option, bytes_eq, refl, sym, ap, ◌∙◌, true≢false, eqb-true}
use Rattle.std.specs.List.{list_all, AllByRecursion}
use Rattle.std.specs.Ordering.{eq_by_cmp}
use Rattle.std.specs.Cmp.{first_so, second_so, eq_by_cmp_equiv}
use Rattle.undo_base.specs.declared.keys.User.{User}
use Rattle.verb_core.specs.declared.item.Item.{Item}
use Rattle.verb_core.specs.declared.item.Aim.{Aim}
use Rattle.verb_core.specs.declared.item.Deed.{Deed}
use Rattle.verb_core.specs.declared.item.Deed.TheVariants.{Deliver, Append, Fetch, Store, Copy, List as Lists, Status, Select, Expunge, Close, Create, Rename, Delete, Act as Acts, Notice}
use Rattle.verb_core.specs.declared.item.Act.TheVariants.{Remove, Give}
use Rattle.verb_core.specs.declared.mailbox.BoxId.{BoxId}
use Rattle.verb_core.specs.declared.mailbox.Mailbox.{Mailbox}
use Rattle.verb_core.specs.Names.{lost_found, with_superiors}
use Rattle.verb_core.specs.Boxes.{box_cmp, box_of, same_user, rows_of, names_of}
use Rattle.verb_core.specs.Store.{MailStore}
use Rattle.verb_core.specs.Items.{actor, is_own}
use Rattle.verb_core.specs.Aims.{Sought, box_aimed, sought, sought_by}
use Rattle.verb_core.specs.Step.{step_with}
use Rattle.verb_core.specs.Touched.{deed_touches, touches_names, is_one}
use Rattle.verb_core.proofs.Apart.{others_kept}
use Rattle.verb_core.proofs.BoxLaws.{boxes_total, tied, same_box}
use Rattle.touch_rules.specs.declared.touched.Touch.{Touch}
use Rattle.touch_rules.specs.declared.touched.Touch.TheVariants.{Keys, Tail, Whole, Names, Every}
use Rattle.touch_rules.specs.Table.{tail_on, looked_for, written, arrivals, table_row}
use Rattle.touch_rules.specs.Swapping.{brings_mail, resolved}
use Rattle.touch_rules.proofs.Edits.{neither, flip_eqb}
use Rattle.touch_rules.proofs.Fitting.{fits}
use Rattle.touch_rules.proofs.Plain.{moves_boxes, row_of}

-- a touch is of no mailbox of which the test holds
abbrev pub Off : (BoxId → Bool) → Touch → Type 0
Off test (Keys u n keys writes) = test (box_of u n) ≡ false
Off test (Tail u n number) = test (box_of u n) ≡ false
Off test (Whole u n writes) = test (box_of u n) ≡ false
Off test (Names u writes) = Unit {0}
Off test (Every u) = (n : List ℕ) → test (box_of u n) ≡ false

-- ---- a touch that fits a whole mailbox that is written

not_shared : (p w : Bool) → (not p || not (w || true) || false) ≡ true → p ≡ false
not_shared true true h = absurd (true≢false (sym h))
not_shared true false h = absurd (true≢false (sym h))
not_shared false w h = refl

other_box : (u v : User) (m n : List ℕ) (w : Bool) → (not (v.0 == u.0 && bytes_eq n m) || not (w || true) || false) ≡ true → eq_by_cmp box_cmp (box_of u m) (box_of v n) ≡ false
other_box u v m n w h = (eq_by_cmp_equiv boxes_total).symm (box_of u m) (box_of v n) ∙ sym (same_box (box_of v n) (box_of u m)) ∙ not_shared _ w h

and_true : (a : Bool) → (a && true) ≡ a
and_true true = refl
and_true false = refl

-- one that fits the names, or all, of a user, and is of names or of all, is another user's
other_user : (v u : User) (w : Bool) → (not (v.0 == u.0 && true) || not (w || true) || false) ≡ true → same_user v u ≡ false
other_user v u w h = sym (and_true (v.0 == u.0)) ∙ not_shared _ w h

users_box : (u v : User) (m n : List ℕ) → same_user v u ≡ false → eq_by_cmp box_cmp (box_of u m) (box_of v n) ≡ false
users_box u v m n off = sym (same_box (box_of u m) (box_of v n)) ∙ ap (λ b. b && bytes_eq m n) (flip_eqb u.0 v.0 ∙ off)

-- each mailbox of these is written as a whole, and the names are
off_these : (u : User) (ns : List (List ℕ)) (t : Touch) → list_all (fits t) (map (written u) ns ++ Names u true ∷ []) ≡ true → Off (is_one (map (box_of u) ns)) t
off_these u [] (Keys v n ks w) h = refl
off_these u [] (Tail v n number) h = refl
off_these u [] (Whole v n w) h = refl
off_these u [] (Every v) h = λ n. refl
off_these u ns (Names v w) h = tt
off_these u (m ∷ ns) (Keys v n ks w) h = neither _ _ (other_box u v m n w (first_so _ _ h)) (off_these u ns (Keys v n ks w) (second_so _ _ h))
off_these u (m ∷ ns) (Tail v n number) h = neither _ _ (other_box u v m n true (first_so _ _ h)) (off_these u ns (Tail v n number) (second_so _ _ h))
off_these u (m ∷ ns) (Whole v n w) h = neither _ _ (other_box u v m n w (first_so _ _ h)) (off_these u ns (Whole v n w) (second_so _ _ h))
off_these u (m ∷ ns) (Every v) h = λ n. neither _ _ (users_box u v m n (other_user v u true (first_so _ _ h))) (off_these u ns (Every v) (second_so _ _ h) n)

-- all of the user is touched
off_user : (u : User) (t : Touch) → fits t (Every u) ≡ true → Off (λ q. same_user u q.user) t
off_user u (Keys v n ks w) h = flip_eqb u.0 v.0 ∙ other_user v u w h
off_user u (Tail v n number) h = flip_eqb u.0 v.0 ∙ other_user v u true h
off_user u (Whole v n w) h = flip_eqb u.0 v.0 ∙ other_user v u w h
off_user u (Names v w) h = tt
off_user u (Every v) h = λ n. flip_eqb u.0 v.0 ∙ other_user v u true h

pub off_one : (to : Sought) (i : Item) (by : Option User) (d : Deed) (t : Touch) → moves_boxes d ≡ true → list_all (fits t) (row_of to i by d) ≡ true → Off (deed_touches (actor by d) d) t
off_one to i by (Create mailbox) t moves h = off_these (actor by (Create mailbox)) (with_superiors mailbox) t h
off_one to i by (Rename mailbox target) t moves h = off_user (actor by (Rename mailbox target)) t (first_so _ _ h)
off_one to i by (Delete mailbox keys) t moves h = off_these (actor by (Delete mailbox keys)) (mailbox ∷ lost_found ∷ []) t h
off_one to i by _ t moves h = absurd (true≢false (sym moves))

pub off_all : (to : Sought) (i : Item) (by : Option User) (d : Deed) (ts : List Touch) → moves_boxes d ≡ true → list_all (λ t. list_all (fits t) (row_of to i by d)) ts ≡ true → AllByRecursion (Off (deed_touches (actor by d) d)) ts
off_all to i by d [] moves h = tt
off_all to i by d (t ∷ ts) moves h = (off_one to i by d t moves (first_so _ _ h), off_all to i by d ts moves (second_so _ _ h))

-- ---- what an item touches is off the mailboxes of a test, where each of its touches is

module _ (test : BoxId → Bool) (q : BoxId) where
  either : (a b : Bool) → (a ≡ true → test q ≡ false) → (b ≡ true → test q ≡ false) → (a || b) ≡ true → test q ≡ false
  either true b one other h = one refl
  either false b one other h = other h

  -- where it is the first mailbox, or it is one of the rest
  off_row : (id : BoxId) (rest : Bool) → test id ≡ false → (rest ≡ true → test q ≡ false) → (eq_by_cmp box_cmp id q || rest) ≡ true → test q ≡ false
  off_row id rest off more = either (eq_by_cmp box_cmp id q) rest (λ tie. ap test (sym (tied id q tie)) ∙ off) more

  nothing : ◌≡◌ {A = Bool} false true → test q ≡ false
  nothing h = absurd (true≢false (sym h))

  off_missed : (missed : List Aim) → AllByRecursion (Off test) (map looked_for missed) → is_one (map box_aimed missed) q ≡ true → test q ≡ false
  off_missed [] off h = nothing h
  off_missed (a ∷ missed) off h = off_row (box_aimed a) (is_one (map box_aimed missed) q) off.0 (off_missed missed off.1) h

  off_arrivals : (number : ℕ) (aims missed : List Aim) → AllByRecursion (Off test) (map (tail_on number) aims ++ map looked_for missed) → is_one (map box_aimed aims ++ map box_aimed missed) q ≡ true → test q ≡ false
  off_arrivals number [] missed off h = off_missed missed off h
  off_arrivals number (a ∷ aims) missed off h = off_row (box_aimed a) (is_one (map box_aimed aims ++ map box_aimed missed) q) off.0 (off_arrivals number aims missed off.1) h

  one_off : (u : User) (n : List ℕ) → test (box_of u n) ≡ false → is_one (box_of u n ∷ []) q ≡ true → test q ≡ false
  one_off u n off h = off_row (box_of u n) false off nothing h

  these_off : (u : User) (ns : List (List ℕ)) (rest : List Touch) → AllByRecursion (Off test) (map (written u) ns ++ rest) → is_one (map (box_of u) ns) q ≡ true → test q ≡ false
  these_off u [] rest off h = nothing h
  these_off u (n ∷ ns) rest off h = off_row (box_of u n) (is_one (map (box_of u) ns) q) off.0 (these_off u ns rest off.1) h

  user_off : (u : User) → ((n : List ℕ) → test (box_of u n) ≡ false) → same_user u q.user ≡ true → test q ≡ false
  user_off u off h = sym (ap test (λ j. record { user = record { 0 = eqb-true u.0 q.user.0 h j }; name = q.name })) ∙ off q.name

  two_off : (u : User) (m n : List ℕ) → test (box_of u m) ≡ false → test (box_of u n) ≡ false → is_one (box_of u m ∷ box_of u n ∷ []) q ≡ true → test q ≡ false
  two_off u m n off away h = off_row (box_of u m) (is_one (box_of u n ∷ []) q) off (one_off u n away) h

  deed_off : (by : Option User) (d : Deed) (arriving : List Touch) → brings_mail d ≡ false → AllByRecursion (Off test) (table_row (actor by d) arriving d) → deed_touches (actor by d) d q ≡ true → test q ≡ false
  deed_off by (Fetch mailbox keys sets_seen shows_body) arriving own off h = one_off (actor by (Fetch mailbox keys sets_seen shows_body)) mailbox off.0 h
  deed_off by (Store mailbox keys how flags) arriving own off h = one_off (actor by (Store mailbox keys how flags)) mailbox off.0 h
  deed_off by (Expunge mailbox keys) arriving own off h = one_off (actor by (Expunge mailbox keys)) mailbox off.0 h
  deed_off by (Close mailbox keys) arriving own off h = one_off (actor by (Close mailbox keys)) mailbox off.0 h
  deed_off by (Status mailbox) arriving own off h = one_off (actor by (Status mailbox)) mailbox off.0 h
  deed_off by (Select mailbox) arriving own off h = one_off (actor by (Select mailbox)) mailbox off.0 h
  deed_off by (Create mailbox) arriving own off h = these_off (actor by (Create mailbox)) (with_superiors mailbox) (Names (actor by (Create mailbox)) true ∷ []) off h
  deed_off by (Acts (Remove v mailbox key)) arriving own off h = one_off v mailbox off.0 h
  deed_off by (Rename mailbox target) arriving own off h = user_off (actor by (Rename mailbox target)) off.0 h
  deed_off by (Delete mailbox keys) arriving own off h = two_off (actor by (Delete mailbox keys)) mailbox lost_found off.0 off.1.0 h
  deed_off by (Copy mailbox keys target) arriving own off h = absurd (true≢false own)
  deed_off by _ arriving own off h = nothing h

  brings_none : (to : Sought) (i : Item) (by : Option User) (d : Deed) → brings_mail d ≡ false → (brings_mail d ≡ false → to ≡ record { aims = []; missed = [] }) → AllByRecursion (Off test) (row_of to i by d)
      → (is_one (map box_aimed to.aims ++ map box_aimed to.missed) q || deed_touches (actor by d) d q) ≡ true → test q ≡ false
  brings_none to i by d own can off h = deed_off by d (arrivals (resolved to i)) own off (sym (ap (λ (t : Sought). is_one (map box_aimed t.aims ++ map box_aimed t.missed) q || deed_touches (actor by d) d q) (can own)) ∙ h)

  -- a mailbox that an item touches is none of these
  pub touched_off : (to : Sought) (i : Item) (by : Option User) (d : Deed) → (brings_mail d ≡ false → to ≡ record { aims = []; missed = [] }) → AllByRecursion (Off test) (row_of to i by d)
      → (is_one (map box_aimed to.aims ++ map box_aimed to.missed) q || deed_touches (actor by d) d q) ≡ true → test q ≡ false
  touched_off to i by (Deliver from names text) can off h = either _ false (off_arrivals i.number to.aims to.missed off) nothing h
  touched_off to i by (Append mailbox flags moment text) can off h = either _ false (off_arrivals i.number to.aims to.missed off) nothing h
  touched_off to i by (Copy mailbox keys target) can off h = either _ _ (off_arrivals i.number to.aims to.missed off.1) (one_off (actor by (Copy mailbox keys target)) mailbox off.0) h
  touched_off to i by (Acts (Give u mailbox text)) can off h = either _ false (off_arrivals i.number to.aims to.missed off) nothing h
  touched_off to i by (Notice u text) can off h = either _ false (off_arrivals i.number to.aims to.missed off) nothing h
  touched_off to i by d can off h = brings_none to i by d refl can off h

-- ---- names

all_last : (passes : Touch → Bool) (u : User) (ns : List (List ℕ)) → list_all passes (map (written u) ns ++ Names u true ∷ []) ≡ true → passes (Names u true) ≡ true
all_last passes u [] h = first_so _ _ h
all_last passes u (n ∷ ns) h = all_last passes u ns (second_so _ _ h)

-- names that fit what a deed touches that moves mailboxes are another user's
names_off : (to : Sought) (i : Item) (by : Option User) (d : Deed) (v : User) (w : Bool) → moves_boxes d ≡ true → list_all (fits (Names v w)) (row_of to i by d) ≡ true → same_user v (actor by d) ≡ false
names_off to i by (Create mailbox) v w moves h = other_user v _ w (all_last (fits (Names v w)) (actor by (Create mailbox)) (with_superiors mailbox) h)
names_off to i by (Rename mailbox target) v w moves h = other_user v _ w (first_so _ _ h)
names_off to i by (Delete mailbox keys) v w moves h = other_user v _ w (first_so _ _ (second_so _ _ (second_so _ _ h)))
names_off to i by _ v w moves h = absurd (true≢false (sym moves))

-- and so is all of a user
every_off : (to : Sought) (i : Item) (by : Option User) (d : Deed) (v : User) → moves_boxes d ≡ true → list_all (fits (Every v)) (row_of to i by d) ≡ true → same_user v (actor by d) ≡ false
every_off to i by (Create mailbox) v moves h = other_user v _ true (all_last (fits (Every v)) (actor by (Create mailbox)) (with_superiors mailbox) h)
every_off to i by (Rename mailbox target) v moves h = other_user v _ true (first_so _ _ h)
every_off to i by (Delete mailbox keys) v moves h = other_user v _ true (first_so _ _ h)
every_off to i by _ v moves h = absurd (true≢false (sym moves))

-- what commutes with it and touches names is another user's
pub other_names : (to from : Sought) (i j : Item) → moves_boxes i.deed ≡ true → list_all (λ t. list_all (fits t) (row_of to i i.by i.deed)) (row_of from j j.by j.deed) ≡ true → touches_names j.deed ≡ true
    → same_user (actor j.by j.deed) (actor i.by i.deed) ≡ false
other_names to from i j moves h names = by_deed j.deed h names
  where
    by_deed : (d : Deed) → list_all (λ t. list_all (fits t) (row_of to i i.by i.deed)) (row_of from j j.by d) ≡ true → touches_names d ≡ true → same_user (actor j.by d) (actor i.by i.deed) ≡ false
    by_deed (Lists pattern) h names = names_off to i i.by i.deed (actor j.by (Lists pattern)) false moves (first_so _ _ h)
    by_deed (Create mailbox) h names = names_off to i i.by i.deed (actor j.by (Create mailbox)) true moves (all_last (λ t. list_all (fits t) (row_of to i i.by i.deed)) (actor j.by (Create mailbox)) (with_superiors mailbox) h)
    by_deed (Rename mailbox target) h names = every_off to i i.by i.deed (actor j.by (Rename mailbox target)) moves (first_so _ _ h)
    by_deed (Delete mailbox keys) h names = names_off to i i.by i.deed (actor j.by (Delete mailbox keys)) true moves (first_so _ _ (second_so _ _ (second_so _ _ h)))
    by_deed _ h names = absurd (true≢false (sym names))

-- ---- such an item brings no mail, and is its user's own

pub no_mail_of : (d : Deed) → moves_boxes d ≡ true → brings_mail d ≡ false
no_mail_of (Create mailbox) moves = refl
no_mail_of (Rename mailbox target) moves = refl
no_mail_of (Delete mailbox keys) moves = refl
no_mail_of _ moves = absurd (true≢false (sym moves))

own_of : (d : Deed) → moves_boxes d ≡ true → is_own d ≡ true
own_of (Create mailbox) moves = refl
own_of (Rename mailbox target) moves = refl
own_of (Delete mailbox keys) moves = refl
own_of _ moves = absurd (true≢false (sym moves))

no_aims : (s : MailStore) (text : List ℕ) (by : Option User) (d : Deed) → moves_boxes d ≡ true → sought s text by d ≡ record { aims = []; missed = [] }
no_aims s text by (Create mailbox) moves = refl
no_aims s text by (Rename mailbox target) moves = refl
no_aims s text by (Delete mailbox keys) moves = refl
no_aims s text by _ moves = absurd (true≢false (sym moves))

pub no_aims_of : (s : MailStore) (i : Item) → moves_boxes i.deed ≡ true → sought_by s i ≡ record { aims = []; missed = [] }
no_aims_of s i moves = no_aims s _ i.by i.deed moves

-- such an item leaves another user's names
pub names_stay : (to : Sought) (s : MailStore) (i : Item) (v : User) → moves_boxes i.deed ≡ true → (brings_mail i.deed ≡ false → to ≡ record { aims = []; missed = [] }) → same_user v (actor i.by i.deed) ≡ false
    → names_of v (step_with to s i).0.boxes ≡ names_of v s.boxes
names_stay to s i v moves can other =
    ap (map (λ (r : BoxId × Mailbox). r.0.name))
    (ap (λ (t : Sought). rows_of v (step_with t s i).0.boxes) (can (no_mail_of i.deed moves) ∙ sym (no_aims_of s i moves)) ∙ others_kept s i v (own_of i.deed moves) other)
