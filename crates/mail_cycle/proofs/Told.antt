-- What is told of the texts of items.
use Rattle.std.proofs.Common.{ℕ, zero, suc, ◌≤◌, arith, List, [], ◌∷◌, take, drop}
use Rattle.std.specs.List.{AllByRecursion}
use Rattle.verb_core.specs.declared.item.Item.{Item}
use Rattle.verb_core.specs.Texts.{BodiesTold, StaysTold}
use Rattle.replay_crew.specs.Hearing.{HoldsOf, StoresOf, TellsAll}
use Rattle.replay_crew.proofs.Heard.{holds_on, stores_on}

pub all_held : (told : BodiesTold) (items : List Item) → TellsAll told items → AllByRecursion (HoldsOf told) items
all_held told [] all = tt
all_held told (i ∷ items) all = (λ needs. (all.0 needs).0, all_held told items all.1)

pub all_stored : (told : BodiesTold) (items : List Item) → told.honest → TellsAll told items → AllByRecursion (StoresOf told) items
all_stored told [] honest all = tt
all_stored told (i ∷ items) honest all = (λ needs. (all.0 needs).1 honest, all_stored told items honest all.1)

-- of the first so many, and of those behind them once more texts were read
pub front_told : (told : BodiesTold) (n : ℕ) (items : List Item) → TellsAll told items → TellsAll told (take n items)
front_told told zero items all = tt
front_told told (suc n) [] all = tt
front_told told (suc n) (i ∷ items) all = (all.0, front_told told n items all.1)

pub later_held : (old new : BodiesTold) (items : List Item) (n : ℕ) → StaysTold old new → TellsAll old items → AllByRecursion (HoldsOf new) (drop n items)
later_held old new [] zero stays all = tt
later_held old new (i ∷ items) zero stays all = (holds_on old new i stays all.0, later_held old new items zero stays all.1)
later_held old new [] (suc n) stays all = tt
later_held old new (i ∷ items) (suc n) stays all = later_held old new items n stays all.1

pub later_stored : (old new : BodiesTold) (items : List Item) (n : ℕ) → StaysTold old new → old.honest → TellsAll old items → AllByRecursion (StoresOf new) (drop n items)
later_stored old new [] zero stays honest all = tt
later_stored old new (i ∷ items) zero stays honest all = (stores_on old new i stays all.0 honest, later_stored old new items zero stays honest all.1)
later_stored old new [] (suc n) stays honest all = tt
later_stored old new (i ∷ items) (suc n) stays honest all = later_stored old new items n stays honest all.1

-- of those behind a place, where those behind a beginning are told
pub behind_held : (old new : BodiesTold) (count place : ℕ) (items : List Item) → count ≤ place → StaysTold old new → TellsAll old (drop count items) → AllByRecursion (HoldsOf new) (drop place items)
behind_held old new zero place items few stays all = later_held old new items place stays all
behind_held old new (suc count) zero items few stays all = absurd (omega arith)
behind_held old new (suc count) (suc place) [] few stays all = tt
behind_held old new (suc count) (suc place) (i ∷ items) few stays all = behind_held old new count place items (omega arith) stays all

pub behind_stored : (old new : BodiesTold) (count place : ℕ) (items : List Item) → count ≤ place → StaysTold old new → old.honest → TellsAll old (drop count items) → AllByRecursion (StoresOf new) (drop place items)
behind_stored old new zero place items few stays honest all = later_stored old new items place stays honest all
behind_stored old new (suc count) zero items few stays honest all = absurd (omega arith)
behind_stored old new (suc count) (suc place) [] few stays honest all = tt
behind_stored old new (suc count) (suc place) (i ∷ items) few stays honest all = behind_stored old new count place items (omega arith) stays honest all
