use Rattle.std.proofs.Common.{◌≡◌, ◌∙◌, ◌||◌, Bool, true, false, List, ap, filter, refl}
use Rattle.std.specs.List.{list_any}
use Rattle.std.proofs.lemmas.Result.{IfOk-weaker}
use Rattle.undo_base.specs.declared.keys.User.{User}
use Rattle.verb_core.specs.Boxes.{same_user}
use Rattle.verb_core.specs.Store.{users_of}
use Rattle.mail_rows.specs.Reaching.{is_among_meanings}
use Rattle.mail_rows.proofs.conf_change.in_rising_order.Goals as goal

or_false : (b : Bool) → (b || false) ≡ b
or_false true = refl
or_false false = refl

pub returns-then-is_sound : goal.returns-then-is_sound
returns-then-is_sound c =
    IfOk-weaker c.recipients.result _ _ (λ users is. is
    ∙ ap (λ (all : List (List User)). filter (is_among_meanings all) (users_of c.args.house.now)) c.from_ref.ensures.value
    ∙ (λ j. filter (λ u. or_false (list_any (same_user u) c.args.listed.now) j) (users_of c.args.house.now))) c.recipients.ensures
