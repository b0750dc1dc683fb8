use Rattle.std.proofs.Common.{ℕ, rules, subst}
use Rattle.std.specs.List.Sorted.{IsBinarySearchResult}
use Rattle.std.proofs.lemmas.List.Sorted.{answers_always}
use Rattle.verb_core.specs.declared.mailbox.Body.{Body}
use Rattle.shelf.specs.declared.note.Note.{Note}
use Rattle.shelf.specs.Rows.{body_order, made_order, made}
use Rattle.shelf.proofs.PlaceLemmas.{searched}
use Rattle.shelf.proofs.rows.Shelf.search.Goals as goal

-- the closure gives a row's key, and the slice is the shelf's rows
pub returns : goal.returns
unfolding body_order
returns c =
    let facts = c.binary_search_by_key.ensures in
    let by_key = facts.position (λ row. made row.0) (answers_always _ _ _ (λ f a r g called. search rules)) in
    let by_body = subst (λ (key : ℕ × ℕ × ℕ). IsBinarySearchResult (λ (row : Body × Note). made_order (made row.0) key) c.deref.result.now c.binary_search_by_key.result) c.made_at.ensures by_key in
    rw (← c.self.view_is, ← c.deref.ensures.value) (searched c.deref.result.now (rw c.deref.ensures.value c.self.invariant.0) c.args.body c.binary_search_by_key.result facts.bound by_body)
