-- Each message that was given is accounted for.
use Rattle.std.proofs.Common.{◌≡◌, ◌≢◌, ℕ, ◌≤◌, true, false, cond, List, [], ◌∷◌, ◌++◌, Option, Some, None, refl, sym, ap, ◌∙◌, subst, arith, true≢false, eq-eqb, unwrap_or, option_map, is_none, zero-add}
use Rattle.std.specs.Option.{option_map_or}
use Rattle.std.proofs.lemmas.List.Sums.{sum_by-append}
use Rattle.undo_base.specs.declared.keys.User.{User}
use Rattle.undo_base.specs.declared.keys.Key.{Key}
use Rattle.verb_core.specs.declared.item.Item.{Item}
use Rattle.verb_core.specs.declared.item.Aim.{Aim}
use Rattle.verb_core.specs.declared.item.Deed.{Deed}
use Rattle.verb_core.specs.declared.item.Deed.TheVariants.{Deliver}
use Rattle.verb_core.specs.declared.conf.Filter.{Filter}
use Rattle.verb_core.specs.declared.mailbox.Entry.{Entry}
use Rattle.verb_core.specs.Aims.{Sought, aim_at, and_postmaster, delivered, into_or, sought}
use Rattle.verb_core.specs.Boxes.{same_user}
use Rattle.verb_core.specs.Filters.{deciding}
use Rattle.verb_core.specs.Fates.{HasOneFate, IsBase, is_discarded, times_given, times_in}
use Rattle.verb_core.specs.Items.{actor, text_in}
use Rattle.verb_core.specs.Mailboxes.{no_flags}
use Rattle.verb_core.specs.Names.{inbox, lost_found}
use Rattle.verb_core.specs.Recipients.{recipients, some_unknown}
use Rattle.verb_core.specs.Step.{message, new_mail, run}
use Rattle.verb_core.specs.Store.{IsValid, MailStore}
use Rattle.verb_core.proofs.BoxLaws.{same_user-refl}
use Rattle.verb_core.proofs.NoTwice.{given_at, message_once, times_given-le}
use Rattle.verb_core.proofs.Runs.{one_fate-run, valid-run}
use Rattle.store_kept.specs.Kept.{Kept, store_of}
use Rattle.desk_journal.specs.Permanence.{IsSound}

-- ---- fates

-- a timeline stands on its base
pub sound_base : (kept : Kept) → IsSound kept → IsBase kept.timeline kept.base
sound_base kept sound = sound.base.stands

pub sound_valid : (kept : Kept) → IsSound kept → IsValid (store_of kept)
sound_valid kept sound = subst IsValid (sym sound.runs) (valid-run kept.base kept.timeline (sound_base kept sound))

pub one_fate : (kept : Kept) (before later : List Item) (i : Item) (u : User) (key : Key) → IsSound kept → kept.timeline ≡ before ++ i ∷ later → times_given u key (run kept.base before) i ≢ 0
    → HasOneFate u key kept.base before i later
one_fate kept before later i u key sound split some = one_fate-run kept.base before later i u key (subst (λ (t : List Item). IsBase t kept.base) split (sound_base kept sound)) some

-- what is given once was given
pub once_some : (n : ℕ) → n ≡ 1 → n ≢ 0
once_some n one none = absurd (omega arith)

-- ---- deliveries

module _ (s : MailStore) (i : Item) where
  abbrev key : Key
  key = record { item = i.number; index = 1 }

  abbrev mail : ℕ → List Entry
  mail index = message i index no_flags i.at ∷ []

  copy_once : times_in key (mail 1) ≡ 1
  copy_once = message_once s.house.postmaster key i.number 1 (message i 1 no_flags i.at) refl ∙ rw (eq-eqb i.number i.number refl) refl

  -- the postmaster is aimed at
  to_postmaster : (to : List (List ℕ)) (found : Sought) → some_unknown s.house s.conf to ≡ true → 1 ≤ given_at s.house.postmaster key mail (and_postmaster s to found).aims
  to_postmaster to found unknown =
      let one : given_at s.house.postmaster key mail (aim_at s.house.postmaster lost_found 1 ∷ []) ≡ 1 =
      zero-add (cond (same_user s.house.postmaster s.house.postmaster) (times_in key (mail 1)) 0) ∙ rw (same_user-refl s.house.postmaster) copy_once in
      subst (λ b. 1 ≤ given_at s.house.postmaster key mail (cond b (record found { aims = found.aims ++ aim_at s.house.postmaster lost_found 1 ∷ [] }) found).aims) (sym unknown)
      (omega (arith, one, sum_by-append (λ (a : Aim). cond (same_user s.house.postmaster a.user) (times_in key (mail a.index)) 0) found.aims (aim_at s.house.postmaster lost_found 1 ∷ [])))

  comes : (to : List (List ℕ)) (filter : Option Filter) → some_unknown s.house s.conf to ≡ true → option_map_or (λ (f : Filter). is_none f.file) filter false ≡ false
      → 1 ≤ given_at s.house.postmaster key mail (delivered s to (option_map (λ (f : Filter). f.file) filter)).aims
  comes to None unknown stays = to_postmaster to (into_or s.boxes inbox inbox (recipients s.house s.conf to)) unknown
  comes to (Some f) unknown stays = filed f.file stays
    where
      filed : (file : Option (List ℕ)) → is_none file ≡ false → 1 ≤ given_at s.house.postmaster key mail (delivered s to (Some file)).aims
      filed None stays = absurd (true≢false stays)
      filed (Some name) stays = to_postmaster to (into_or s.boxes name inbox (recipients s.house s.conf to)) unknown

-- the postmaster's copy of mail for nobody
pub stray_given : (s : MailStore) (i : Item) (from : List ℕ) (to : List (List ℕ)) (text : List ℕ) → i.deed ≡ Deliver from to text → some_unknown s.house s.conf to ≡ true → is_discarded s.conf from to text ≡ false
    → times_given s.house.postmaster (record { item = i.number; index = 1 }) s i ≡ 1
stray_given s i from to text is unknown stays =
    let least : 1 ≤ times_given s.house.postmaster (record { item = i.number; index = 1 }) s i =
    subst (λ (d : Deed). 1 ≤ given_at s.house.postmaster (key s i) (λ index. new_mail (actor i.by d) i s.boxes index d) (sought s (unwrap_or (text_in d) []) i.by d).aims) (sym is) (comes s i to (deciding s.conf from to text) unknown stays) in
    let most = times_given-le s.house.postmaster (record { item = i.number; index = 1 }) s i in
    omega (arith, least, most, ap {B = ℕ} (λ b. cond b 1 0) (eq-eqb i.number i.number refl))
