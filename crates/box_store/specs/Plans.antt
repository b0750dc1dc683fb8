-- What the parts of planning an item's work give.
use Rattle.std.specs.Prelude.{◌≡◌, ℕ, Bool, true, not, if◌then◌else◌, List, [], ◌∷◌, map, filter}
use Rattle.std.specs.List.{list_all}
use Rattle.undo_base.specs.declared.keys.User.{User}
use Rattle.verb_core.specs.declared.item.Aim.{Aim}
use Rattle.verb_core.specs.declared.item.Item.{Item}
use Rattle.verb_core.specs.declared.mailbox.BoxId.{BoxId}
use Rattle.verb_core.specs.Names.{with_superiors, moved_name}
use Rattle.verb_core.specs.Boxes.{box_of, has_row, has_superiors, is_rising}
use Rattle.verb_core.specs.Step.{Boxes, new_mail, put_at, rearranged}
use Rattle.verb_core.specs.Touched.{SameAt}
use Rattle.mail_rows.specs.Inferiors.{rows_under}
use Rattle.box_store.specs.declared.effect.Move.{Move}
use Rattle.box_store.specs.declared.effect.Work.{Work}
use Rattle.box_store.specs.Effects.{worked}

-- in all rows that have the same in the mailboxes of which the test holds, the work does this; each mailbox has its superiors there
abbrev pub Does : (BoxId → Bool) → Boxes → Work → (Boxes → Boxes) → Type 0
Does test rows w f = (boxes : Boxes) → is_rising boxes ≡ true → list_all (has_superiors boxes) boxes ≡ true → SameAt test rows boxes → worked w boxes ≡ f boxes

-- those of the names that the user does not have
abbrev pub missing_of : User → List (List ℕ) → Boxes → List (List ℕ)
missing_of u names rows = filter (λ name. not (has_row (box_of u name) rows)) names

-- the missing superiors of a mailbox and itself, where it is missing
abbrev pub to_create : User → List ℕ → Boxes → List (List ℕ)
to_create u name rows = if has_row (box_of u name) rows then [] else missing_of u (with_superiors name) rows

-- where the target stands for the source
abbrev pub move_of : List ℕ → List ℕ → List ℕ → Move
move_of source target name = record { from = name; to = moved_name source target name }

-- the source, and then its inferiors
abbrev pub moves_of : User → List ℕ → List ℕ → Boxes → List Move
moves_of u source target rows = map (move_of source target) (source ∷ map (λ r. r.0.name) (rows_under u source rows))

-- the mailboxes after an item with these aims
abbrev pub after : User → Item → List Aim → Boxes → Boxes
after u i aims boxes = put_at (λ index. new_mail u i boxes index i.deed) aims (rearranged u i.deed boxes)
