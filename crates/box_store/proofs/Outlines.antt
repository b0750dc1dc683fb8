-- The outline of a store has its mailboxes, and is valid where it is.
use Rattle.std.proofs.Common.{◌≡◌, ℕ, ◌+◌, ◌<◌, ◌++◌, get_or, length, take, Bool, true, false, ◌&&◌, cond, [], ◌∷◌, Option, Some, None, is_some, option_map, refl, ap, ap₂, ◌∙◌}
use Rattle.std.specs.List.{list_all}
use Rattle.std.specs.Ordering.{eq_by_cmp, is_lt}
use Rattle.std.specs.Cmp.{first_so, second_so}
use Rattle.std.specs.FinMap.Entries as rows
use Rattle.std.proofs.lemmas.List.{map_more}
use Rattle.undo_base.specs.declared.keys.User.{User}
use Rattle.verb_core.specs.declared.conf.House.{House}
use Rattle.verb_core.specs.declared.mailbox.BoxId.{BoxId}
use Rattle.verb_core.specs.declared.mailbox.Mailbox.{Mailbox}
use Rattle.verb_core.specs.Names.{inbox, lost_found, superiors}
use Rattle.verb_core.specs.Mailboxes.{no_mail}
use Rattle.verb_core.specs.Boxes.{box_cmp, box_of, has_row, has_superiors, is_rising, row_at}
use Rattle.verb_core.specs.Store.{MailStore, IsValid, is_row, users_of}
use Rattle.verb_core.specs.Step.{Boxes}
use Rattle.verb_core.proofs.Validity.{both}
use Rattle.box_store.specs.Outline.{outline, outlined}

-- one row more
pub outlined_more : (rs : Boxes) (i : ℕ) (d : BoxId × Mailbox) → i < length rs → outlined (take (i + 1) rs) ≡ outlined (take i rs) ++ ((get_or rs i d).0, no_mail) ∷ []
outlined_more rs i d lt = map_more (λ (r : BoxId × Mailbox). (r.0, no_mail)) rs i d lt

below_outlined : (id : BoxId) (rs : Boxes) → rows.below_all box_cmp id (outlined rs) ≡ rows.below_all box_cmp id rs
below_outlined id [] = refl
below_outlined id (r ∷ rs) = ap (λ (b : Bool). is_lt (box_cmp id r.0) && b) (below_outlined id rs)

-- the users and names rise as they did
pub rising_outlined : (rs : Boxes) → is_rising (outlined rs) ≡ is_rising rs
rising_outlined [] = refl
rising_outlined (r ∷ rs) = ap₂ (λ (a b : Bool). a && b) (below_outlined r.0 rs) (rising_outlined rs)

-- a row is there where it was, and is a new mailbox
pub row_outlined : (id : BoxId) (rs : Boxes) → row_at id (outlined rs) ≡ option_map (λ (m : Mailbox). no_mail) (row_at id rs)
row_outlined id [] = refl
row_outlined id (r ∷ rs) =
    elim (eq_by_cmp box_cmp id r.0) as (λ b. cond b (Some no_mail) (row_at id (outlined rs)) ≡ option_map (λ (m : Mailbox). no_mail) (cond b (Some r.1) (row_at id rs))) [ true ↦ refl | false ↦ row_outlined id rs ]

any_is_some : (o : Option Mailbox) → is_some (option_map (λ (m : Mailbox). no_mail) o) ≡ is_some o
any_is_some None = refl
any_is_some (Some m) = refl

pub has_outlined : (id : BoxId) (rs : Boxes) → has_row id (outlined rs) ≡ has_row id rs
has_outlined id rs = ap is_some (row_outlined id rs) ∙ any_is_some (row_at id rs)

are_rows : (house : House) (rs : Boxes) → list_all (is_row house) rs ≡ true → list_all (is_row house) (outlined rs) ≡ true
are_rows house [] h = refl
are_rows house (r ∷ rs) h = both _ _ (both _ _ (first_so _ _ (first_so _ _ h)) refl) (are_rows house rs (second_so _ _ h))

-- and so are the superiors of each
each_above : (rs : Boxes) → list_all (has_superiors (outlined rs)) (outlined rs) ≡ list_all (has_superiors rs) rs
each_above rs = go rs
  where
    go : (more : Boxes) → list_all (has_superiors (outlined rs)) (outlined more) ≡ list_all (has_superiors rs) more
    go [] = refl
    go (r ∷ more) = ap₂ (λ (a b : Bool). a && b) (ap (λ (has : BoxId → Bool). list_all (λ n. has (box_of r.0.user n)) (superiors r.0.name)) (λ j id. has_outlined id rs j)) (go more)

-- the outline of a valid store is valid
pub valid_outline : (s : MailStore) → IsValid s → IsValid (outline s)
valid_outline s valid = record {
  house = valid.house;
  rising = rising_outlined s.boxes ∙ valid.rising;
  rows = are_rows s.house s.boxes valid.rows;
  fixed = ap (λ (has : BoxId → Bool). list_all (λ (u : User). has (box_of u inbox) && has (box_of u lost_found)) (users_of s.house)) (λ j id. has_outlined id s.boxes j) ∙ valid.fixed;
  superiors = each_above s.boxes ∙ valid.superiors;
  aliases = valid.aliases;
}
