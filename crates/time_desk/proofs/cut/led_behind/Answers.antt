use Rattle.std.proofs.Common.{rules, ◌≡◌, List, true, false, drop, take, subst, sym}
use Rattle.std.specs.List.{AllByRecursion}
use Rattle.std.specs.Prelude.{IfOk}
use Rattle.verb_core.specs.declared.item.Item.{Item}
use Rattle.verb_core.specs.Items.{IsWellFormed}
use Rattle.verb_core.specs.Step.{run}
use Rattle.verb_core.specs.Store.{MailStore}
use Rattle.store_kept.specs.Texts.{all_bodies, has_text_kept}
use Rattle.box_store.specs.Kept.{Kept as StoreKept}
use Rattle.replay_crew.specs.Hearing.{HoldsOf, StoresOf}
use Rattle.mail_cycle.proofs.Parted.{if_ok}
use Rattle.time_desk.specs.Cutting.{LedBy}
use Rattle.time_desk.specs.Unfiltered.{are_unfiltered}
use Rattle.time_desk.proofs.CutStores.{between_formed, between_held, between_stored, bodies_behind, led_on}
use Rattle.time_desk.proofs.cut.led_behind.Goals as goal

pub led-requires-clause-formed : goal.led-requires-clause-formed
led-requires-clause-formed g c =
    let kept = c.args.desk.now.kept in
    let first = c.args.first in
    let items : c.between.result.now ≡ drop first.count (take c.args.place kept.timeline) = search rules in
    subst (AllByRecursion (IsWellFormed first.store.store.house)) (sym items)
    (between_formed kept.house first.store.store first.count c.args.place kept.timeline c.requires.serves.serves.house c.stands.ensures.timeline.formed)

pub led-requires-clause-held : goal.led-requires-clause-held
led-requires-clause-held g c =
    let kept = c.args.desk.now.kept in
    let told = g.B.Bodies.told c.args.bodies.now in
    let items : c.between.result.now ≡ drop c.args.first.count (take c.args.place kept.timeline) = search rules in
    subst (AllByRecursion (HoldsOf told)) (sym items) (between_held told c.args.first.count c.args.place kept.timeline c.requires.texts)

-- the beginning's store is that before the items behind it
pub returns-clause-store : goal.returns-clause-store
returns-clause-store g c = λ honest is.
    let kept = c.args.desk.now.kept in
    let first = c.args.first in
    let told = g.B.Bodies.told c.args.bodies.now in
    let items : c.between.result.now ≡ drop first.count (take c.args.place kept.timeline) = search rules in
    subst (λ (s : MailStore). IfOk c.led.result (λ made. made.store ≡ s)) (led_on kept first.store.store first.count c.args.place c.requires.serves.few is)
    (subst (λ (items : List Item). IfOk c.led.result (λ made. made.store ≡ run first.store.store items)) items
    (c.led.ensures.store honest (subst (AllByRecursion (StoresOf told)) (sym items) (between_stored told first.count c.args.place kept.timeline honest c.requires.texts))))

-- also where no text is read
pub returns-clause-unread : goal.returns-clause-unread
returns-clause-unread g c = λ unfiltered is.
    let kept = c.args.desk.now.kept in
    let first = c.args.first in
    let items : c.between.result.now ≡ drop first.count (take c.args.place kept.timeline) = search rules in
    subst (λ (s : MailStore). IfOk c.led.result (λ made. made.store ≡ s)) (led_on kept first.store.store first.count c.args.place c.requires.serves.few is)
    (subst (λ (items : List Item). IfOk c.led.result (λ made. made.store ≡ run first.store.store items)) items
    (c.led.ensures.unread (subst (λ (xs : List Item). are_unfiltered first.store.store xs ≡ true) (sym items) unfiltered)))

-- a text is read only where a filter may look at one of these items'
pub returns-clause-due : goal.returns-clause-due
returns-clause-due g c = λ failed.
    let items : c.between.result.now ≡ drop c.args.first.count (take c.args.place c.args.desk.now.kept.timeline) = search rules in
    subst (λ (items : List Item). are_unfiltered c.args.first.store.store items ≡ false) items (c.led.ensures.due failed)

-- whatever texts of deliveries were read, each body has one
pub returns-clause-texts : goal.returns-clause-texts
returns-clause-texts g c =
    let kept = c.args.desk.now.kept in
    let first = c.args.first in
    let items : c.between.result.now ≡ drop first.count (take c.args.place kept.timeline) = search rules in
    let formed : AllByRecursion (IsWellFormed first.store.store.house) (drop first.count (take c.args.place kept.timeline)) =
    between_formed kept.house first.store.store first.count c.args.place kept.timeline c.requires.serves.serves.house c.stands.ensures.timeline.formed in
    if_ok c.led.result (λ (made : StoreKept). LedBy first.store.store (drop first.count (take c.args.place kept.timeline)) made.store) (λ (made : StoreKept). all_bodies (has_text_kept kept) made.store.boxes ≡ true)
    (λ made led. subst (λ (s : MailStore). all_bodies (has_text_kept kept) s.boxes ≡ true) (sym led.2)
    (bodies_behind c.bodies_have_texts.ensures.behind kept first.store.store first.count c.args.place led.0 c.requires.serves.few formed c.requires.serves.serves led.1))
    (subst (λ (items : List Item). IfOk c.led.result (λ made. LedBy first.store.store items made.store)) items c.led.ensures.heard)
