use Rattle.std.proofs.Common.{◌≡◌, ℕ, ◌==◌, ◌&&◌, List, ap, nat_lt, not, ◌∙◌}
use Rattle.std.specs.List.{list_any}
use Rattle.store_kept.specs.Founding.{can_be_kept, names_number}
use Rattle.mail_desk.specs.Founding.{Founded}
use Rattle.mail_desk.proofs.founding.Founding.can_be_kept.Goals as goal

pub returns : goal.returns
returns c =
    let d = c.self.inside in
    let item = c.args.item.now in
    let named : c.is_one-named.result ≡ names_number d.past.rows item.number = c.is_one-named.ensures ∙ ap (list_any (λ (n : ℕ). n == item.number)) c.as_slice.ensures.value ∙ c.self.invariant.numbered item.number in
    c.can_come.ensures
    ∙ (λ j. nat_lt item.number d.past.next && nat_lt item.rev d.past.next && not (named j) && not (c.has-kept.ensures j))
    ∙ ap (λ (f : Founded). can_be_kept f.based item) c.self.view_is
