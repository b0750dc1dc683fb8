-- Runs over joined lists of items.
use Rattle.std.proofs.Common.{◌≡◌, ◌++◌, List, [], ◌∷◌, refl, ap, drop, length}
use Rattle.verb_core.specs.declared.item.Item.{Item}
use Rattle.verb_core.specs.declared.item.Shown.{Shown}
use Rattle.verb_core.specs.Step.{answers, run, step}
use Rattle.verb_core.specs.Store.{MailStore}

-- no item changes the house
pub run_house : (base : MailStore) (t : List Item) → (run base t).house ≡ base.house
run_house base [] = refl
run_house base (i ∷ t) = run_house (step base i).0 t

pub run_joined : (base : MailStore) (t more : List Item) → run base (t ++ more) ≡ run (run base t) more
run_joined base [] more = refl
run_joined base (i ∷ t) more = run_joined (step base i).0 t more

pub answers_joined : (base : MailStore) (t more : List Item) → answers base (t ++ more) ≡ answers base t ++ answers (run base t) more
answers_joined base [] more = refl
answers_joined base (i ∷ t) more = ap (λ (shows : List Shown). (step base i).1 ∷ shows) (answers_joined (step base i).0 t more)

pub answers_behind : (base : MailStore) (t more : List Item) → drop (length t) (answers base (t ++ more)) ≡ answers (run base t) more
answers_behind base [] more = refl
answers_behind base (i ∷ t) more = answers_behind (step base i).0 t more
