use Rattle.std.proofs.Common.{◌≡◌, ◌<◌, ◌≤◌, ℕ, List, Some, Result, Err, length, get_or, take, ap, subst, sym, ◌∙◌, rules}
use Rattle.std.specs.List.Sorted.{IsBinarySearchResult}
use Rattle.std.specs.Ordering.{nat_cmp}
use Rattle.std.specs.declared.cmp.Ordering.TheVariants.{Equal}
use Rattle.std.proofs.lemmas.List.Sorted.{answers_always}
use Rattle.verb_core.specs.Items.{NumbersApart}
use Rattle.mail_desk.specs.Places.{Placed}
use Rattle.mail_desk.specs.Timeline.{item_of}
use Rattle.mail_desk.proofs.Indexes.{item_before, item_behind, item_missing}
use Rattle.mail_desk.proofs.Timelines.{none_front}
use Rattle.mail_desk.proofs.numbered.Numbered.find_before.Goals as goal

pub returns-then-place-count : goal.returns-then-place-count
returns-then-place-count c =
    let by_number = c.in-Ok.ensures.position (λ (r : ℕ × ℕ). r.0) (answers_always _ _ _ (λ f a r g called. search rules)) in
    let equal = subst (λ (rows : List (ℕ × ℕ)). (r : ℕ × ℕ) → nat_cmp (get_or rows c.in-Ok.at r).0 c.args.number ≡ Equal) c.deref.ensures.value by_number in
    let within = subst (λ (rows : List (ℕ × ℕ)). c.in-Ok.at < length rows) c.deref.ensures.value c.in-Ok.ensures.bound in
    let apart = subst (λ (p : Placed). NumbersApart p.items) (sym c.self.view_is) c.requires in
    let d = c.self.inside in
    ap Some (c.index-then-place-count.ensures ∙ ap (λ (r : ℕ × ℕ). get_or d.items.items r.1 c.index-then-place-count.result.now) c.index.ensures)
    ∙ sym (item_before d.places.items d.items.items c.self.invariant c.args.number apart c.in-Ok.at c.index.result.now c.index-then-place-count.result.now c.args.count within equal
    (subst (λ (r : ℕ × ℕ). r.1 < c.args.count) c.index.ensures c.if-place-count.true))
    ∙ ap (λ (p : Placed). item_of (take c.args.count p.items) c.args.number) c.self.view_is

pub returns-else-place-count : goal.returns-else-place-count
returns-else-place-count c =
    let by_number = c.in-Ok.ensures.position (λ (r : ℕ × ℕ). r.0) (answers_always _ _ _ (λ f a r g called. search rules)) in
    let equal = subst (λ (rows : List (ℕ × ℕ)). (r : ℕ × ℕ) → nat_cmp (get_or rows c.in-Ok.at r).0 c.args.number ≡ Equal) c.deref.ensures.value by_number in
    let within = subst (λ (rows : List (ℕ × ℕ)). c.in-Ok.at < length rows) c.deref.ensures.value c.in-Ok.ensures.bound in
    let apart = subst (λ (p : Placed). NumbersApart p.items) (sym c.self.view_is) c.requires in
    let d = c.self.inside in
    sym (item_behind d.places.items d.items.items c.self.invariant c.args.number apart c.in-Ok.at c.index.result.now c.args.count within equal
    (subst (λ (r : ℕ × ℕ). c.args.count ≤ r.1) c.index.ensures c.if-place-count.false))
    ∙ ap (λ (p : Placed). item_of (take c.args.count p.items) c.args.number) c.self.view_is

pub returns-in-Err : goal.returns-in-Err
returns-in-Err c =
    let by_number = c.in-Err.ensures.position (λ (r : ℕ × ℕ). r.0) (answers_always _ _ _ (λ f a r g called. search rules)) in
    let missing = subst (λ (rows : List (ℕ × ℕ)). IsBinarySearchResult (λ (r : ℕ × ℕ). nat_cmp r.0 c.args.number) rows (let r : Result ℕ ℕ = Err c.in-Err.field-0 in r)) c.deref.ensures.value by_number in
    let d = c.self.inside in
    sym (none_front d.items.items c.args.number c.args.count (item_missing d.places.items d.items.items c.self.invariant c.args.number c.in-Err.field-0 missing))
    ∙ ap (λ (p : Placed). item_of (take c.args.count p.items) c.args.number) c.self.view_is
