-- A delivery reaches each recipient, unless the filter that decides discards it.
use Rattle.std.proofs.Common.{◌≡◌, ℕ, ◌≤◌, true, false, ◌||◌, cond, List, [], ◌∷◌, ◌++◌, Option, Some, None, refl, sym, ap, ◌∙◌, subst, arith, true≢false, eqb, eq-eqb, unwrap_or, option_map, is_none}
use Rattle.std.specs.List.{list_any}
use Rattle.std.specs.Option.{option_map_or}
use Rattle.std.proofs.lemmas.List.Sums.{sum_by-cons, sum_by-append}
use Rattle.undo_base.specs.declared.keys.User.{User}
use Rattle.undo_base.specs.declared.keys.Key.{Key}
use Rattle.verb_core.specs.declared.item.Item.{Item}
use Rattle.verb_core.specs.declared.item.Aim.{Aim}
use Rattle.verb_core.specs.declared.item.Deed.{Deed}
use Rattle.verb_core.specs.declared.item.Deed.TheVariants.{Deliver}
use Rattle.verb_core.specs.declared.conf.Filter.{Filter}
use Rattle.verb_core.specs.declared.mailbox.Entry.{Entry}
use Rattle.verb_core.specs.Names.{inbox, lost_found}
use Rattle.verb_core.specs.Mailboxes.{no_flags}
use Rattle.verb_core.specs.Boxes.{same_user, box_of, has_row}
use Rattle.verb_core.specs.Store.{MailStore}
use Rattle.verb_core.specs.Items.{actor, text_in}
use Rattle.verb_core.specs.Recipients.{recipients, some_unknown}
use Rattle.verb_core.specs.Filters.{deciding}
use Rattle.verb_core.specs.Aims.{Sought, aim_at, into_or, and_postmaster, delivered, sought}
use Rattle.verb_core.specs.Step.{message, new_mail}
use Rattle.verb_core.specs.Fates.{times_in, times_given, is_discarded}
use Rattle.verb_core.proofs.NoTwice.{given_at, message_once, times_given-le}

module _ (s : MailStore) (i : Item) (u : User) where
  abbrev key : Key
  key = record { item = i.number; index = 0 }

  abbrev mail : ℕ → List Entry
  mail index = message i index no_flags i.at ∷ []

  one_message : times_in key (mail 0) ≡ 1
  one_message = message_once u key i.number 0 (message i 0 no_flags i.at) refl ∙ rw (eq-eqb i.number i.number refl)

  -- each of the users gets it
  reaches : (name other : List ℕ) (users : List User) → list_any (same_user u) users ≡ true → 1 ≤ given_at u key mail (into_or s.boxes name other users).aims
  reaches name other [] is = absurd (true≢false (sym is))
  reaches name other (w ∷ ws) is =
      elim (same_user u w) as (λ b. same_user u w ≡ b → (b ≡ false → list_any (same_user u) ws ≡ true) → 1 ≤ given_at u key mail (into_or s.boxes name other (w ∷ ws)).aims) [
        | true ↦ λ e later.
            omega (
              arith,
              sum_by-cons (λ (a : Aim). cond (same_user u a.user) (times_in key (mail a.index)) 0) (aim_at w (cond (has_row (box_of w name) s.boxes) name other) 0) (into_or s.boxes name other ws).aims,
              ap {B = ℕ} (λ b. cond b (times_in key (mail 0)) 0) e,
              one_message,
            )
        | false ↦ λ e later.
            omega (
              arith,
              sum_by-cons (λ (a : Aim). cond (same_user u a.user) (times_in key (mail a.index)) 0) (aim_at w (cond (has_row (box_of w name) s.boxes) name other) 0) (into_or s.boxes name other ws).aims,
              reaches name other ws (later refl),
            )
      ] refl (λ e. subst (λ b. (b || list_any (same_user u) ws) ≡ true) e is)

  with_postmaster : (to : List (List ℕ)) (found : Sought) → given_at u key mail found.aims ≤ given_at u key mail (and_postmaster s to found).aims
  with_postmaster to found =
      elim (some_unknown s.house s.conf to) as (λ b. given_at u key mail found.aims ≤ given_at u key mail (cond b (record found { aims = found.aims ++ aim_at s.house.postmaster lost_found 1 ∷ [] }) found).aims) [
        | true ↦ omega (arith, sum_by-append (λ (a : Aim). cond (same_user u a.user) (times_in key (mail a.index)) 0) found.aims (aim_at s.house.postmaster lost_found 1 ∷ []))
        | false ↦ omega arith
      ]

  arrives : (to : List (List ℕ)) (filter : Option Filter) → list_any (same_user u) (recipients s.house s.conf to) ≡ true → option_map_or (λ (f : Filter). is_none f.file) filter false ≡ false
      → 1 ≤ given_at u key mail (delivered s to (option_map (λ (f : Filter). f.file) filter)).aims
  arrives to None is stays = omega (arith, reaches inbox inbox (recipients s.house s.conf to) is, with_postmaster to (into_or s.boxes inbox inbox (recipients s.house s.conf to)))
  arrives to (Some f) is stays = filed f.file stays
    where
      filed : (file : Option (List ℕ)) → is_none file ≡ false → 1 ≤ given_at u key mail (delivered s to (Some file)).aims
      filed None stays = absurd (true≢false stays)
      filed (Some name) stays = omega (arith, reaches name inbox (recipients s.house s.conf to) is, with_postmaster to (into_or s.boxes name inbox (recipients s.house s.conf to)))

pub arrives-step : (s : MailStore) (i : Item) (from : List ℕ) (to : List (List ℕ)) (text : List ℕ) (u : User) → i.deed ≡ Deliver from to text
    → list_any (same_user u) (recipients s.house s.conf to) ≡ true → is_discarded s.conf from to text ≡ false → times_given u (record { item = i.number; index = 0 }) s i ≡ 1
arrives-step s i from to text u is among stays =
    let least : 1 ≤ times_given u (record { item = i.number; index = 0 }) s i =
    subst (λ (d : Deed). 1 ≤ given_at u (record { item = i.number; index = 0 }) (λ index. new_mail (actor i.by d) i s.boxes index d) (sought s (unwrap_or (text_in d) []) i.by d).aims) (sym is)
    (arrives s i u to (deciding s.conf from to text) among stays) in
    let most : times_given u (record { item = i.number; index = 0 }) s i ≤ cond (eqb i.number i.number) 1 0 = times_given-le u (record { item = i.number; index = 0 }) s i in
    omega (arith, least, most, ap {B = ℕ} (λ b. cond b 1 0) (eq-eqb i.number i.number refl))
