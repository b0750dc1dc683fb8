-- Aims are mailboxes that are there, and what was missed is not.
use Rattle.std.proofs.Common.{◌≡◌, ℕ, ◌+◌, ◌<◌, ◌≤◌, Bool, true, false, not, cond, List, [], ◌∷◌, ◌++◌, map, filter, Option, Some, None, refl, sym, ◌∙◌, subst, arith, true≢false, length, eq-eqb, ◌≢◌, eqb, eqb-true, ltb-true}
use Rattle.std.specs.List.{list_all, enumerate_from}
use Rattle.std.proofs.lemmas.List.Folds.{list_all-append}
use Rattle.std.specs.Cmp.{first_so, second_so}
use Rattle.undo_base.specs.declared.keys.User.{User}
use Rattle.verb_core.specs.declared.item.Aim.{Aim}
use Rattle.verb_core.specs.declared.item.Deed.{Deed}
use Rattle.verb_core.specs.declared.item.Deed.TheVariants.{Deliver, Append, Copy, Act as Acts, Notice}
use Rattle.verb_core.specs.declared.item.Act.TheVariants.{Give}
use Rattle.verb_core.specs.declared.conf.Account.{Account}
use Rattle.verb_core.specs.Names.{inbox, lost_found}
use Rattle.verb_core.specs.Boxes.{box_of, has_row}
use Rattle.verb_core.specs.Store.{MailStore, IsValid, has_fixed, is_known, users_of}
use Rattle.verb_core.specs.Items.{actor}
use Rattle.verb_core.specs.Aims.{Sought, box_aimed, aim_at, into_or, and_postmaster, delivered, sought}
use Rattle.verb_core.specs.Recipients.{recipients, some_unknown}
use Rattle.verb_core.specs.Step.{rearranged}
use Rattle.verb_core.proofs.Validity.{both, all-filter, all_kept}

-- ---- the aims are there

fixed_from : (p : User → Bool) (k : ℕ) (xs : List Account) (u : User) → list_all p (map (λ (a : ℕ × Account). record { 0 = a.0 }) (enumerate_from k xs)) ≡ true → k ≤ u.0 → u.0 < k + length xs → p u ≡ true
fixed_from p k [] u h low high = absurd (omega arith)
fixed_from p k (x ∷ xs) u h low high =
    elim (eqb u.0 k) as (λ b. eqb u.0 k ≡ b → p u ≡ true) [
      | true ↦ λ e. subst (λ (n : ℕ). p (record { 0 = n }) ≡ true) (sym (eqb-true u.0 k e)) (first_so _ _ h)
      | false ↦ λ e. let apart : u.0 ≢ k = λ is. true≢false (sym (eq-eqb u.0 k is) ∙ e) in fixed_from p (k + 1) xs u (second_so _ _ h) (omega arith) (omega arith)
    ] refl

module _ (s : MailStore) (valid : IsValid s) where
  -- a user of the house has the fixed mailboxes
  pub known_fixed : (u : User) → is_known s.house u ≡ true → has_fixed s.boxes u ≡ true
  known_fixed u known = fixed_from (has_fixed s.boxes) 0 s.house.accounts u valid.fixed (omega arith) (let lt : u.0 < length s.house.accounts = ltb-true u.0 (length s.house.accounts) known in omega arith)

  aims_into : (name other : List ℕ) (users : List User) → list_all (λ u. has_row (box_of u other) s.boxes) users ≡ true → list_all (λ (a : Aim). has_row (box_aimed a) s.boxes) (into_or s.boxes name other users).aims ≡ true
  aims_into name other [] h = refl
  aims_into name other (u ∷ us) h =
      both _ _ (elim (has_row (box_of u name) s.boxes) as (λ b. has_row (box_of u name) s.boxes ≡ b → has_row (box_of u (cond b name other)) s.boxes ≡ true) [ true ↦ λ e. e | false ↦ λ e. first_so _ _ h ] refl) (aims_into name other us (second_so _ _ h))

  pub has_lost : (u : User) → is_known s.house u ≡ true → has_row (box_of u lost_found) s.boxes ≡ true
  has_lost u known = second_so _ _ (known_fixed u known)

  has_inbox : (u : User) → is_known s.house u ≡ true → has_row (box_of u inbox) s.boxes ≡ true
  has_inbox u known = first_so _ _ (known_fixed u known)

  pub postmaster_known : is_known s.house s.house.postmaster ≡ true
  postmaster_known = second_so _ _ (first_so _ _ (first_so _ _ valid.house))

  recipients_have : (to : List (List ℕ)) → list_all (λ u. has_row (box_of u inbox) s.boxes) (recipients s.house s.conf to) ≡ true
  recipients_have to = all-filter _ _ (users_of s.house) (all_kept (has_fixed s.boxes) (λ u. has_row (box_of u inbox) s.boxes) (users_of s.house) (λ u h. first_so _ _ h) valid.fixed)

  aims_postmaster : (to : List (List ℕ)) (found : Sought) → list_all (λ (a : Aim). has_row (box_aimed a) s.boxes) found.aims ≡ true → list_all (λ (a : Aim). has_row (box_aimed a) s.boxes) (and_postmaster s to found).aims ≡ true
  aims_postmaster to found h =
      elim (some_unknown s.house s.conf to) as (λ b. list_all (λ (a : Aim). has_row (box_aimed a) s.boxes) (cond b (record found { aims = found.aims ++ aim_at s.house.postmaster lost_found 1 ∷ [] }) found).aims ≡ true) [
        | true ↦ list_all-append _ found.aims _ ∙ rw h (both _ _ (has_lost s.house.postmaster postmaster_known) refl)
        | false ↦ h
      ]

  aims_delivered : (to : List (List ℕ)) (file : Option (Option (List ℕ))) → list_all (λ (a : Aim). has_row (box_aimed a) s.boxes) (delivered s to file).aims ≡ true
  aims_delivered to None = aims_postmaster to _ (aims_into inbox inbox _ (recipients_have to))
  aims_delivered to (Some None) = refl
  aims_delivered to (Some (Some name)) = aims_postmaster to _ (aims_into name inbox _ (recipients_have to))

  -- the aims are there
  pub aims_here : (text : List ℕ) (by : Option User) (d : Deed) → is_known s.house (actor by d) ≡ true → list_all (λ (a : Aim). has_row (box_aimed a) s.boxes) (sought s text by d).aims ≡ true
  aims_here text by (Deliver from to t) known = aims_delivered to _
  aims_here text by (Append mailbox flags moment t) known = aims_into mailbox lost_found (_ ∷ []) (both _ _ (has_lost _ known) refl)
  aims_here text by (Copy mailbox keys target) known = aims_into target lost_found (_ ∷ []) (both _ _ (has_lost _ known) refl)
  aims_here text by (Acts (Give u mailbox t)) known = aims_into mailbox lost_found (u ∷ []) (both _ _ (has_lost u known) refl)
  aims_here text by (Notice u t) known = aims_into inbox inbox (u ∷ []) (both _ _ (has_inbox u known) refl)
  aims_here text by _ known = refl

  -- and what was missed is not
  missed_into : (name other : List ℕ) (users : List User) → list_all (λ (a : Aim). not (has_row (box_aimed a) s.boxes)) (into_or s.boxes name other users).missed ≡ true
  missed_into name other [] = refl
  missed_into name other (u ∷ us) =
      elim (not (has_row (box_of u name) s.boxes)) as (λ b. not (has_row (box_of u name) s.boxes) ≡ b → list_all (λ (a : Aim). not (has_row (box_aimed a) s.boxes)) (map (λ w. aim_at w name 0) (cond b (u ∷ filter (λ w. not (has_row (box_of w name) s.boxes)) us) (filter (λ w. not (has_row (box_of w name) s.boxes)) us))) ≡ true) [
        | true ↦ λ e. both _ _ e (missed_into name other us)
        | false ↦ λ e. missed_into name other us
      ] refl

  missed_delivered : (to : List (List ℕ)) (file : Option (Option (List ℕ))) → list_all (λ (a : Aim). not (has_row (box_aimed a) s.boxes)) (delivered s to file).missed ≡ true
  missed_delivered to None = elim (some_unknown s.house s.conf to) as (λ b. list_all (λ (a : Aim). not (has_row (box_aimed a) s.boxes)) (cond b (record (into_or s.boxes inbox inbox (recipients s.house s.conf to)) { aims = (into_or s.boxes inbox inbox (recipients s.house s.conf to)).aims ++ aim_at s.house.postmaster lost_found 1 ∷ [] }) (into_or s.boxes inbox inbox (recipients s.house s.conf to))).missed ≡ true) [
    | true ↦ missed_into inbox inbox (recipients s.house s.conf to)
    | false ↦ missed_into inbox inbox (recipients s.house s.conf to)
  ]
  missed_delivered to (Some None) = refl
  missed_delivered to (Some (Some name)) = elim (some_unknown s.house s.conf to) as (λ b. list_all (λ (a : Aim). not (has_row (box_aimed a) s.boxes)) (cond b (record (into_or s.boxes name inbox (recipients s.house s.conf to)) { aims = (into_or s.boxes name inbox (recipients s.house s.conf to)).aims ++ aim_at s.house.postmaster lost_found 1 ∷ [] }) (into_or s.boxes name inbox (recipients s.house s.conf to))).missed ≡ true) [
    | true ↦ missed_into name inbox (recipients s.house s.conf to)
    | false ↦ missed_into name inbox (recipients s.house s.conf to)
  ]

  pub missed_gone : (text : List ℕ) (by : Option User) (d : Deed) → list_all (λ (a : Aim). not (has_row (box_aimed a) s.boxes)) (sought s text by d).missed ≡ true
  missed_gone text by (Deliver from to t) = missed_delivered to _
  missed_gone text by (Append mailbox flags moment t) = missed_into mailbox lost_found (_ ∷ [])
  missed_gone text by (Copy mailbox keys target) = missed_into target lost_found (_ ∷ [])
  missed_gone text by (Acts (Give u mailbox t)) = missed_into mailbox lost_found (u ∷ [])
  missed_gone text by (Notice u t) = missed_into inbox inbox (u ∷ [])
  missed_gone text by _ = refl

  -- before new mail is put, its mailboxes are there
  pub aims_there : (text : List ℕ) (by : Option User) (d : Deed) → is_known s.house (actor by d) ≡ true → list_all (λ (a : Aim). has_row (box_aimed a) (rearranged (actor by d) d s.boxes)) (sought s text by d).aims ≡ true
  aims_there text by (Deliver from to t) known = aims_delivered to _
  aims_there text by (Append mailbox flags moment t) known = aims_into mailbox lost_found (_ ∷ []) (both _ _ (has_lost _ known) refl)
  aims_there text by (Copy mailbox keys target) known = aims_into target lost_found (_ ∷ []) (both _ _ (has_lost _ known) refl)
  aims_there text by (Acts (Give u mailbox t)) known = aims_into mailbox lost_found (u ∷ []) (both _ _ (has_lost u known) refl)
  aims_there text by (Notice u t) known = aims_into inbox inbox (u ∷ []) (both _ _ (has_inbox u known) refl)
  aims_there text by _ known = refl
