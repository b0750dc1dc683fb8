-- A user's names, row by row.
use Rattle.std.proofs.Common.{◌≡◌, ℕ, ◌+◌, ◌<◌, true, false, cond, List, [], ◌∷◌, ◌++◌, map, take, length, get_or, refl, ap, ◌∙◌}
use Rattle.std.proofs.lemmas.List.Elements.{filter_more}
use Rattle.std.proofs.lemmas.List.{map-append}
use Rattle.undo_base.specs.declared.keys.User.{User}
use Rattle.verb_core.specs.declared.mailbox.BoxId.{BoxId}
use Rattle.verb_core.specs.declared.mailbox.Mailbox.{Mailbox}
use Rattle.verb_core.specs.Boxes.{same_user, names_of}

pub names_more : (u : User) (rows : List (BoxId × Mailbox)) (i : ℕ) (d : BoxId × Mailbox) → i < length rows
    → names_of u (take (i + 1) rows) ≡ names_of u (take i rows) ++ cond (same_user u (get_or rows i d).0.user) ((get_or rows i d).0.name ∷ []) []
names_more u rows i d lt =
    ap (map (λ (r : BoxId × Mailbox). r.0.name)) (filter_more (λ (r : BoxId × Mailbox). same_user u r.0.user) rows i d lt)
    ∙ map-append _ _ _
    ∙ elim (same_user u (get_or rows i d).0.user) as (λ b. names_of u (take i rows) ++ map (λ (r : BoxId × Mailbox). r.0.name) (cond b (get_or rows i d ∷ []) []) ≡ names_of u (take i rows) ++ cond b ((get_or rows i d).0.name ∷ []) []) [ true ↦ refl | false ↦ refl ]
