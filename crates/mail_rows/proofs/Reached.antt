-- Users and aims, found one after the other.
use Rattle.std.proofs.Common.{◌≡◌, ℕ, ◌+◌, ◌<◌, Bool, true, false, not, ◌||◌, cond, List, [], ◌∷◌, ◌++◌, map, filter, drop, length, get_or, refl, sym, ap, ap₂, ◌∙◌}
use Rattle.std.specs.List.{enumerate_from, list_any}
use Rattle.std.proofs.lemmas.List.{at_drop_more, append_assoc}
use Rattle.undo_base.specs.declared.keys.User.{User}
use Rattle.verb_core.specs.declared.conf.Account.{Account}
use Rattle.verb_core.specs.declared.mailbox.BoxId.{BoxId}
use Rattle.verb_core.specs.declared.mailbox.Mailbox.{Mailbox}
use Rattle.verb_core.specs.declared.item.Aim.{Aim}
use Rattle.verb_core.specs.declared.conf.House.{House}
use Rattle.verb_core.specs.declared.conf.Conf.{Conf}
use Rattle.verb_core.specs.Names.{inbox, is_empty}
use Rattle.verb_core.specs.Boxes.{box_of, has_row, same_user}
use Rattle.verb_core.specs.Store.{users_of}
use Rattle.verb_core.specs.Recipients.{resolved, recipients}
use Rattle.verb_core.specs.Aims.{Sought, aim_at, into_or, and_postmaster}
use Rattle.mail_rows.specs.Reaching.{is_among_meanings, with_copy}

-- ---- users

-- those who are meant, of the users of these accounts, of which the first is the k-th user
abbrev pub meant_from : List (List User) → ℕ → List Account → List User
meant_from meanings k xs = filter (is_among_meanings meanings) (map (λ (a : ℕ × Account). record { 0 = a.0 }) (enumerate_from k xs))

pub meant_more : (meanings : List (List User)) (done : List User) (k j : ℕ) (xs : List Account) → j < length xs
    → (done ++ cond (is_among_meanings meanings (record { 0 = k })) (record { 0 = k } ∷ []) []) ++ meant_from meanings (k + 1) (drop (j + 1) xs) ≡ done ++ meant_from meanings k (drop j xs)
meant_more meanings done k j xs lt =
    append_assoc done (cond (is_among_meanings meanings (record { 0 = k })) (record { 0 = k } ∷ []) []) (meant_from meanings (k + 1) (drop (j + 1) xs))
    ∙ ap (λ (t : List User). done ++ t) (elim (is_among_meanings meanings (record { 0 = k })) as (λ b. cond b (record { 0 = k } ∷ []) [] ++ meant_from meanings (k + 1) (drop (j + 1) xs) ≡ cond b (record { 0 = k } ∷ meant_from meanings (k + 1) (drop (j + 1) xs)) (meant_from meanings (k + 1) (drop (j + 1) xs))) [ true ↦ refl | false ↦ refl ]
    ∙ sym (at_drop_more (meant_from meanings k) xs j (record { name = []; password = [] }) lt))

-- ---- aims

module _ (boxes : List (BoxId × Mailbox)) (name other : List ℕ) where
  pub aims_more : (done : List Aim) (users : List User) (i : ℕ) (d : User) → i < length users
      → (done ++ aim_at (get_or users i d) (cond (has_row (box_of (get_or users i d) name) boxes) name other) 0 ∷ []) ++ (into_or boxes name other (drop (i + 1) users)).aims ≡ done ++ (into_or boxes name other (drop i users)).aims
  aims_more done users i d lt =
      append_assoc done (aim_at (get_or users i d) (cond (has_row (box_of (get_or users i d) name) boxes) name other) 0 ∷ []) (into_or boxes name other (drop (i + 1) users)).aims
      ∙ ap (λ (t : List Aim). done ++ t) (sym (at_drop_more (λ us. (into_or boxes name other us).aims) users i d lt))

  pub missed_more : (done : List Aim) (users : List User) (i : ℕ) (d : User) → i < length users
      → (done ++ cond (has_row (box_of (get_or users i d) name) boxes) [] (aim_at (get_or users i d) name 0 ∷ [])) ++ (into_or boxes name other (drop (i + 1) users)).missed ≡ done ++ (into_or boxes name other (drop i users)).missed
  missed_more done users i d lt =
      append_assoc done (cond (has_row (box_of (get_or users i d) name) boxes) [] (aim_at (get_or users i d) name 0 ∷ [])) (into_or boxes name other (drop (i + 1) users)).missed
      ∙ ap (λ (t : List Aim). done ++ t) (elim (has_row (box_of (get_or users i d) name) boxes) as (λ b. cond b [] (aim_at (get_or users i d) name 0 ∷ []) ++ (into_or boxes name other (drop (i + 1) users)).missed ≡ map (λ u. aim_at u name 0) (cond (not b) (get_or users i d ∷ filter (λ u. not (has_row (box_of u name) boxes)) (drop (i + 1) users)) (filter (λ u. not (has_row (box_of u name) boxes)) (drop (i + 1) users)))) [ true ↦ refl | false ↦ refl ]
      ∙ sym (at_drop_more (λ us. (into_or boxes name other us).missed) users i d lt))

-- ---- a delivery

any_map : {X Y : Type 0} (test : Y → Bool) (f : X → Y) (xs : List X) → list_any test (map f xs) ≡ list_any (λ x. test (f x)) xs
any_map test f [] = refl
any_map test f (x ∷ xs) = ap (λ b. test (f x) || b) (any_map test f xs)

module _ (house : House) (conf : Conf) (boxes : List (BoxId × Mailbox)) (to : List (List ℕ)) where
  recipients_are : filter (is_among_meanings (map (resolved house conf) to)) (users_of house) ≡ recipients house conf to
  recipients_are = ap (λ (test : User → Bool). filter test (users_of house)) (λ j u. any_map (λ (users : List User). list_any (same_user u) users) (resolved house conf) to j)

  -- from what each local part means to where a delivery goes
  pub reached : (name : List ℕ) (meanings : List (List User)) (users : List User) (found : Sought) (nobody : Bool) (out : Sought) → meanings ≡ map (resolved house conf) to
      → users ≡ filter (is_among_meanings meanings) (users_of house) → found ≡ into_or boxes name inbox users → nobody ≡ list_any is_empty meanings → out ≡ with_copy nobody house.postmaster found
      → out ≡ and_postmaster (record { house = house; conf = conf; boxes = boxes }) to (into_or boxes name inbox (recipients house conf to))
  reached name meanings users found nobody out means chosen each some copied =
      copied
      ∙ ap₂ (λ (n : Bool) (f : Sought). with_copy n house.postmaster f)
      (some ∙ ap (list_any is_empty) means ∙ any_map is_empty (resolved house conf) to)
      (each ∙ ap (into_or boxes name inbox) (chosen ∙ ap (λ (ms : List (List User)). filter (is_among_meanings ms) (users_of house)) means ∙ recipients_are))
