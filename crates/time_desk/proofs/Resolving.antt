-- Items, each resolved on the store that it is performed on.
use Rattle.std.proofs.Common.{◌≡◌, ◌∙◌, ◌≤◌, ◌-◌, ℕ, zero, suc, List, [], ◌∷◌, ◌++◌, map, take, drop, Option, refl, sym, ap, ap₂}
use Rattle.std.proofs.lemmas.List.{drop-map}
use Rattle.undo_base.specs.declared.keys.User.{User}
use Rattle.verb_core.specs.Aims.{Sought, sought_by}
use Rattle.verb_core.specs.Items.{actor}
use Rattle.verb_core.specs.declared.item.Act.TheVariants.{Give}
use Rattle.verb_core.specs.declared.item.Deed.{Deed}
use Rattle.verb_core.specs.declared.item.Deed.TheVariants.{Act as Acts}
use Rattle.stored_items.specs.Stored.{stored, stored_deed}
use Rattle.verb_core.specs.declared.item.Item.{Item}
use Rattle.verb_core.specs.declared.item.Resolved.{Resolved}
use Rattle.verb_core.specs.Step.{run, step}
use Rattle.verb_core.specs.Store.{MailStore}
use Rattle.touch_rules.specs.declared.touched.Touch.{Touch}
use Rattle.touch_rules.specs.Table.{arrivals, table_row, touches_of}
use Rattle.replay_crew.specs.Orders.{SoughtItem, turns}
use Rattle.replay_crew.specs.Resolving.{stored_turn, turn_of}
use Rattle.verb_core.proofs.Joins.{run_joined}
use Rattle.repair_desk.specs.Repairs.{numbers_of}
use Rattle.replay_plan.specs.Lines.{text_of_levels}
use Rattle.replay_plan.specs.Placing.{levels_of}
use Rattle.mail_cycle.proofs.Parted.{later_of, through_of}
use Rattle.store_kept.specs.Kept.{Kept}
use Rattle.time_desk.specs.Planning.{plan_at, plan_from, resolved, resolved_on}
use Rattle.desk_journal.specs.Stored.{store_at}

-- an item is resolved on the store that those before it lead to
pub resolved_in_turn : (s : MailStore) (before later : List Item) (i : Item)
    → resolved s (before ++ i ∷ later) ≡ resolved s before ++ resolved_on (run s before) i ∷ resolved (run s (before ++ i ∷ [])) later
resolved_in_turn s [] later i = refl
resolved_in_turn s (b ∷ before) later i = ap (λ (rs : List Resolved). resolved_on s b ∷ rs) (resolved_in_turn (step s b).0 before later i)

-- those behind the first so many are resolved from the store that these lead to
pub resolved_behind : (s : MailStore) (items : List Item) (n : ℕ) → drop n (resolved s items) ≡ resolved (run s (take n items)) (drop n items)
resolved_behind s items zero = refl
resolved_behind s [] (suc n) = refl
resolved_behind s (i ∷ items) (suc n) = resolved_behind (step s i).0 items n

-- ---- a plan that begins at a snapshot

-- the plan of items behind the first so many, by what all of them touch
pub plan_behind_of : (s : MailStore) (items : List Item) (n : ℕ) → text_of_levels (levels_of (drop n (map touches_of (resolved s items)))) (numbers_of (drop n items)) ≡ plan_from (run s (take n items)) (drop n items)
plan_behind_of s items n =
    ap (λ (touches : List (List Touch)). text_of_levels (levels_of touches) (numbers_of (drop n items)))
    (drop-map touches_of n (resolved s items) ∙ ap (map touches_of) (resolved_behind s items n))

-- from the store that the first items of a timeline lead to, it is the plan at the place
pub plan_reached : (kept : Kept) (first : MailStore) (count place : ℕ) → count ≤ place → first ≡ store_at kept count
    → plan_from (run first (take (place - count) (drop count kept.timeline))) (drop (place - count) (drop count kept.timeline)) ≡ plan_at kept place
plan_reached kept first count place few is =
    ap₂ plan_from
    (ap (λ (s : MailStore). run s (take (place - count) (drop count kept.timeline))) is
    ∙ sym (run_joined kept.base (take count kept.timeline) (take (place - count) (drop count kept.timeline)))
    ∙ ap (run kept.base) (through_of count place kept.timeline kept.timeline few refl))
    (later_of count place kept.timeline few)

-- ---- items without their texts

-- what an item touches does not look at its text
row_stored : (u : User) (to : List Touch) (d : Deed) → table_row u to (stored_deed d) ≡ table_row u to d
row_stored u to (Acts (Give v mailbox text)) = refl
row_stored u to d = refl

actor_stored : (by : Option User) (d : Deed) → actor by (stored_deed d) ≡ actor by d
actor_stored by (Acts (Give v mailbox text)) = refl
actor_stored by d = refl

stored_row : (i : Item) (to : Sought) → touches_of (record { item = stored i; aims = to.aims; missed = to.missed }) ≡ touches_of (record { item = i; aims = to.aims; missed = to.missed })
stored_row i to =
    let arriving : List Touch = arrivals (record { item = i; aims = to.aims; missed = to.missed }) in
    row_stored (actor i.by (stored_deed i.deed)) arriving i.deed ∙ ap (λ (u : User). table_row u arriving i.deed) (actor_stored i.by i.deed)

-- ---- what resolved items touch

abbrev head_of : {X : Type 0} → X → List X → X
head_of d [] = d
head_of d (x ∷ xs) = x

-- the items of a timeline that were resolved without their texts touch what they touch with these
pub all_touched : (s : MailStore) (items : List Item) (all : List Resolved) → map turn_of all ≡ map stored_turn (turns s items) → map touches_of all ≡ map touches_of (resolved s items)
all_touched s [] [] are = refl
all_touched s [] (r ∷ all) are = cc
all_touched s (i ∷ items) [] are = cc
all_touched s (i ∷ items) (r ∷ all) are =
    ap₂ (λ (t : SoughtItem) (rest : List (List Touch)). touches_of (record { item = t.1; aims = t.0.aims; missed = t.0.missed }) ∷ rest) (ap (head_of (turn_of r)) are) (all_touched (step s i).0 items all (ap (drop 1) are))
    ∙ ap (λ (here : List Touch). here ∷ map touches_of (resolved (step s i).0 items)) (stored_row i (sought_by s i))
