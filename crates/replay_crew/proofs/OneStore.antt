-- Behind items that are independent of it an item finds its mailboxes as before them.
use Rattle.std.proofs.Common.{◌≡◌, ℕ, Bool, true, false, not, ◌&&◌, ◌||◌, List, [], ◌∷◌, map, Some, option_map, bytes_eq, cond, refl, sym, ap, ◌∙◌, true≢false}
use Rattle.std.specs.List.{list_all, AllByRecursion}
use Rattle.std.specs.Ordering.{eq_by_cmp}
use Rattle.std.specs.Cmp.{first_so, second_so}
use Rattle.undo_base.specs.declared.keys.User.{User}
use Rattle.verb_core.specs.declared.item.Item.{Item}
use Rattle.verb_core.specs.declared.item.Deed.{Deed}
use Rattle.verb_core.specs.declared.item.Deed.TheVariants.{Act as Acts}
use Rattle.verb_core.specs.declared.item.Act.TheVariants.{SetAlias, DropAlias, SetFilter, DropFilter}
use Rattle.verb_core.specs.declared.mailbox.BoxId.{BoxId}
use Rattle.verb_core.specs.declared.mailbox.Mailbox.{Mailbox}
use Rattle.verb_core.specs.Boxes.{box_cmp, box_of, row_at, change_row, names_of, same_user}
use Rattle.verb_core.specs.Items.{actor}
use Rattle.verb_core.specs.Store.{MailStore, IsValid}
use Rattle.verb_core.specs.Step.{Boxes, step_with, shown}
use Rattle.verb_core.specs.Touched.{touches_box, is_one, SameAt, SameNames}
use Rattle.verb_core.proofs.BoxLaws.{same_box, row_at-change_row}
use Rattle.verb_core.proofs.Frame.{other_stays}
use Rattle.verb_core.proofs.Validity.{step_with-IsValid}
use Rattle.touch_rules.specs.declared.touched.Touch.{Touch}
use Rattle.touch_rules.specs.declared.touched.Touch.TheVariants.{Keys, Tail, Whole, Names, Every}
use Rattle.touch_rules.specs.Commuting.{user_of, is_every, mailbox_of, same_mailbox, does_write, commute}
use Rattle.touch_rules.specs.Swapping.{sets_conf, Swap}
use Rattle.touch_rules.proofs.Fitting.{is_free, commute_flip, independent_commute}
use Rattle.touch_rules.proofs.Changes.{Change, IsAllowed, Allowed, after_changes, names_kept}
use Rattle.touch_rules.proofs.Plain.{moves_boxes, row_of, changes, works, allowed, covered}
use Rattle.touch_rules.proofs.Elsewhere.{Off, touched_off}
use Rattle.touch_rules.proofs.Orders.{off_named, names_for_j, swap_given}
use Rattle.replay_plan.proofs.Pairs.{all_swap}
use Rattle.replay_crew.specs.Orders.{Placed, run_turns, are_apart, AllFit}
use Rattle.replay_crew.proofs.Turning.{after, answer}

-- ---- a change and a touch that are independent are of two mailboxes

no_share : (p : Bool) → (not p || false) ≡ true → p ≡ false
no_share true h = sym h
no_share false h = refl

off_change : (a : Touch) (id : BoxId) (f : Mailbox → Mailbox) → IsAllowed a id f → (v : User) (n : List ℕ) (w : Bool) → (not (same_user (user_of a) v && (is_every a || false || same_mailbox (mailbox_of a) (Some n))) || not (does_write a || w)) ≡ true → eq_by_cmp box_cmp id (box_of v n) ≡ false
off_change (Keys u m ks true) id f one v n w h = ap (λ q. eq_by_cmp box_cmp q (box_of v n)) one.1 ∙ sym (same_box (box_of u m) (box_of v n)) ∙ no_share _ h
off_change (Keys u m ks false) id f one v n w h = absurd (true≢false (sym one.0))
off_change (Tail u m number) id f one v n w h = ap (λ q. eq_by_cmp box_cmp q (box_of v n)) one.0 ∙ sym (same_box (box_of u m) (box_of v n)) ∙ no_share _ h
off_change (Whole u m x) id f one v n w h = absurd one
off_change (Names u x) id f one v n w h = absurd one
off_change (Every u) id f one v n w h = absurd one

-- what is free of all of a user, and writes or not, is another user's
other_user : (s w m : Bool) → (not (s && true) || not (w || true)) ≡ true → (s && m) ≡ false
other_user false w m h = refl
other_user true true m h = absurd (true≢false (sym h))
other_user true false m h = absurd (true≢false (sym h))

neither : (a b : Bool) → a ≡ false → b ≡ false → (a || b) ≡ false
neither true b h k = h
neither false b h k = k

off_changes : (cs : List Change) → AllByRecursion Allowed cs → (v : User) (n : List ℕ) (w : Bool) → list_all (λ (c : Change). not (same_user (user_of c.touch) v && (is_every c.touch || false || same_mailbox (mailbox_of c.touch) (Some n))) || not (does_write c.touch || w)) cs ≡ true
    → is_one (map (λ (c : Change). c.id) cs) (box_of v n) ≡ false
off_changes [] all v n w h = refl
off_changes (c ∷ cs) all v n w h = neither _ _ (off_change c.touch c.id c.becomes all.0 v n w (first_so _ _ h)) (off_changes cs all.1 v n w (second_so _ _ h))

-- a change and a touch of all of a user that are independent are of two users
off_every : (a : Touch) (id : BoxId) (f : Mailbox → Mailbox) → IsAllowed a id f → (v : User) → is_free a (Every v) ≡ true → (n : List ℕ) → eq_by_cmp box_cmp id (box_of v n) ≡ false
off_every (Keys u m ks w) id f one v h n = ap (λ q. eq_by_cmp box_cmp q (box_of v n)) one.1 ∙ sym (same_box (box_of u m) (box_of v n)) ∙ other_user (same_user u v) w (bytes_eq m n) h
off_every (Tail u m number) id f one v h n = ap (λ q. eq_by_cmp box_cmp q (box_of v n)) one.0 ∙ sym (same_box (box_of u m) (box_of v n)) ∙ other_user (same_user u v) true (bytes_eq m n) h
off_every (Whole u m x) id f one v h n = absurd one
off_every (Names u x) id f one v h n = absurd one
off_every (Every u) id f one v h n = absurd one

offs_every : (cs : List Change) → AllByRecursion Allowed cs → (v : User) → list_all (λ (c : Change). is_free c.touch (Every v)) cs ≡ true → (n : List ℕ) → is_one (map (λ (c : Change). c.id) cs) (box_of v n) ≡ false
offs_every [] all v h n = refl
offs_every (c ∷ cs) all v h n = neither _ _ (off_every c.touch c.id c.becomes all.0 v (first_so _ _ h) n) (offs_every cs all.1 v (second_so _ _ h) n)

offs : (cs : List Change) → AllByRecursion Allowed cs → (ts : List Touch) → list_all (λ t. list_all (λ (c : Change). is_free c.touch t) cs) ts ≡ true → AllByRecursion (Off (is_one (map (λ (c : Change). c.id) cs))) ts
offs cs all [] h = tt
offs cs all (Keys v n ks w ∷ ts) h = (off_changes cs all v n w (first_so _ _ h), offs cs all ts (second_so _ _ h))
offs cs all (Tail v n number ∷ ts) h = (off_changes cs all v n true (first_so _ _ h), offs cs all ts (second_so _ _ h))
offs cs all (Whole v n w ∷ ts) h = (off_changes cs all v n w (first_so _ _ h), offs cs all ts (second_so _ _ h))
offs cs all (Names v w ∷ ts) h = (tt, offs cs all ts (second_so _ _ h))
offs cs all (Every v ∷ ts) h = (offs_every cs all v (first_so _ _ h), offs cs all ts (second_so _ _ h))

row_kept : (cs : List Change) (q : BoxId) (rs : Boxes) → is_one (map (λ (c : Change). c.id) cs) q ≡ false → row_at q (after_changes cs rs) ≡ row_at q rs
row_kept [] q rs h = refl
row_kept (c ∷ cs) q rs h =
    row_kept cs q (change_row c.id c.becomes rs) (second_off (eq_by_cmp box_cmp c.id q) _ h)
    ∙ row_at-change_row q c.id c.becomes rs ∙ ap (λ b. cond b (option_map c.becomes (row_at q rs)) (row_at q rs)) (first_off (eq_by_cmp box_cmp c.id q) _ h)
  where
    first_off : (a b : Bool) → (a || b) ≡ false → a ≡ false
    first_off true b h = h
    first_off false b h = refl

    second_off : (a b : Bool) → (a || b) ≡ false → b ≡ false
    second_off true b h = absurd (true≢false h)
    second_off false b h = h

-- ---- behind one item

module _ (s : MailStore) (q p : Placed) (valid : IsValid s) (fit : AllFit s.house (p ∷ q ∷ [])) (apart : are_apart q p ≡ true) where
  abbrev i : Item
  i = q.1.1

  abbrev j : Item
  j = p.1.1

  turn : commute (row_of q.1.0 i i.by i.deed) (row_of p.1.0 j j.by j.deed) ≡ true
  turn = independent_commute (row_of q.1.0 i i.by i.deed) (row_of p.1.0 j j.by j.deed) apart

  pub kept_behind : SameAt (touches_box p.1.0 j) s.boxes (after s q).boxes
  kept_behind id in_j = elim (moves_boxes i.deed) as (λ b. moves_boxes i.deed ≡ b → row_at id s.boxes ≡ row_at id (after s q).boxes) [
    | true ↦ λ moves. sym (other_stays id q.1.0 s i (off_named q.1.0 p.1.0 s i j valid fit.1.0.0 fit.0.0 moves fit.1.0.1 fit.0.1 (commute_flip (row_of p.1.0 j j.by j.deed) (row_of q.1.0 i i.by i.deed) ∙ turn) id in_j))
    | false ↦ λ still.
        let free : list_all (λ (c : Change). list_all (is_free c.touch) (row_of p.1.0 j j.by j.deed)) (changes q.1.0 i i.by i.deed s.boxes) ≡ true =
        covered (λ t. list_all (is_free t) (row_of p.1.0 j j.by j.deed)) q.1.0 i i.by i.deed s.boxes apart in
        let each : list_all (λ t. list_all (λ (c : Change). is_free c.touch t) (changes q.1.0 i i.by i.deed s.boxes)) (row_of p.1.0 j j.by j.deed) ≡ true =
        sym (all_swap (λ (c : Change). is_free c.touch) (changes q.1.0 i i.by i.deed s.boxes) (row_of p.1.0 j j.by j.deed)) ∙ free in
        sym (ap (row_at id) (works q.1.0 i i.by i.deed s.boxes still fit.1.0.1)
        ∙ row_kept (changes q.1.0 i i.by i.deed s.boxes) id s.boxes
        (touched_off (is_one (map (λ (c : Change). c.id) (changes q.1.0 i i.by i.deed s.boxes))) id p.1.0 j j.by j.deed fit.0.1 (offs (changes q.1.0 i i.by i.deed s.boxes) (allowed q.1.0 i i.by i.deed s.boxes) (row_of p.1.0 j j.by j.deed) each) in_j))
  ] refl

  -- and the names of its user, where it touches these
  pub names_behind : SameNames j s.boxes (after s q).boxes
  names_behind names = elim (moves_boxes i.deed) as (λ b. moves_boxes i.deed ≡ b → names_of (actor j.by j.deed) s.boxes ≡ names_of (actor j.by j.deed) (after s q).boxes) [
    | true ↦ λ moves. sym (names_for_j q.1.0 p.1.0 s i j valid fit.1.0.0 fit.0.0 moves fit.1.0.1 fit.0.1 (commute_flip (row_of p.1.0 j j.by j.deed) (row_of q.1.0 i i.by i.deed) ∙ turn) names)
    | false ↦ λ still. sym (ap (names_of (actor j.by j.deed)) (works q.1.0 i i.by i.deed s.boxes still fit.1.0.1) ∙ names_kept (actor j.by j.deed) (changes q.1.0 i i.by i.deed s.boxes) s.boxes)
  ] refl

  pub answer_behind : answer (after s q) p ≡ answer s p
  answer_behind = elim (sets_conf i.deed && sets_conf j.deed) as (λ b. (sets_conf i.deed && sets_conf j.deed) ≡ b → answer (after s q) p ≡ answer s p) [
    | true ↦ λ both. nothing_shown _ _ j.deed (after s q).boxes s.boxes (second_so _ _ both)
    | false ↦ λ one.
        let sw : Swap q.1.0 p.1.0 s i j = swap_given q.1.0 p.1.0 s i j valid fit.1.0.0 fit.0.0 fit.1.0.1 fit.0.1 turn one in
        sw.second
  ] refl
    where
      nothing_shown : (r : Bool) (u : User) (d : Deed) (rs ss : Boxes) → sets_conf d ≡ true → shown r u d rs ≡ shown r u d ss
      nothing_shown r u (Acts (SetAlias local users)) rs ss h = refl
      nothing_shown r u (Acts (DropAlias local)) rs ss h = refl
      nothing_shown r u (Acts (SetFilter filter)) rs ss h = refl
      nothing_shown r u (Acts (DropFilter id)) rs ss h = refl
      nothing_shown r u _ rs ss h = absurd (true≢false (sym h))

-- ---- behind a level

pub level_kept : (level : List Placed) (s : MailStore) (p : Placed) → IsValid s → AllFit s.house (p ∷ level) → list_all (λ q. are_apart q p) level ≡ true → SameAt (touches_box p.1.0 p.1.1) s.boxes (run_turns s level).boxes
level_kept [] s p valid fit apart = λ id _. refl
level_kept (q ∷ level) s p valid fit apart = λ id in_p.
    kept_behind s q p valid (fit.0, (fit.1.0, tt)) (first_so _ _ apart) id in_p
    ∙ level_kept level (after s q) p (step_with-IsValid q.1.0 s q.1.1 valid fit.1.0.0) (fit.0, fit.1.1) (second_so _ _ apart) id in_p

-- a level leaves the names of each user whose names an item touches that is independent of its items
pub level_names : (level : List Placed) (s : MailStore) (p : Placed) → IsValid s → AllFit s.house (p ∷ level) → list_all (λ q. are_apart q p) level ≡ true → SameNames p.1.1 s.boxes (run_turns s level).boxes
level_names [] s p valid fit apart = λ _. refl
level_names (q ∷ level) s p valid fit apart = λ names.
    names_behind s q p valid (fit.0, (fit.1.0, tt)) (first_so _ _ apart) names
    ∙ level_names level (after s q) p (step_with-IsValid q.1.0 s q.1.1 valid fit.1.0.0) (fit.0, fit.1.1) (second_so _ _ apart) names

pub level_answer : (level : List Placed) (s : MailStore) (p : Placed) → IsValid s → AllFit s.house (p ∷ level) → list_all (λ q. are_apart q p) level ≡ true → (step_with p.1.0 (run_turns s level) p.1.1).1 ≡ (step_with p.1.0 s p.1.1).1
level_answer [] s p valid fit apart = refl
level_answer (q ∷ level) s p valid fit apart =
    level_answer level (after s q) p (step_with-IsValid q.1.0 s q.1.1 valid fit.1.0.0) (fit.0, fit.1.1) (second_so _ _ apart)
    ∙ answer_behind s q p valid (fit.0, (fit.1.0, tt)) (first_so _ _ apart)
