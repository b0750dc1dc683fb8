use Rattle.std.proofs.Common.{ℕ, ◌+◌, ◌<◌, Bool, cond, List, [], ◌∷◌, ◌++◌, get_or, sym, subst, ap₂, ◌∙◌, arith}
use Rattle.std.proofs.lemmas.List.{get_or_default}
use Rattle.imap_view.specs.declared.messages.Known.{Known}
use Rattle.imap_view.proofs.Order.{apart}
use Rattle.imap_view.proofs.Views.{lost_more, no_message}
use Rattle.imap_view.proofs.messages.lost_in.Goals as goal

pub loop-place-preserved : goal.loop-place-preserved
loop-place-preserved c =
    let view = c.args.view.now in
    let i = c.loop-place.place in
    record {
      lost =
          c.in_ok-push_lost.ensures
          ∙ ap₂ (λ (ns : List ℕ) (b : Bool). ns ++ cond b ((i + 1) ∷ []) []) c.loop-place.invariant.lost c.is_lost.ensures
          ∙ sym (lost_more c.args.entries.now view i no_message c.loop-place-test.true);
      within = c.skip_entries-at.ensures.within;
      below = λ k d le lt j e less.
          let here : (get_or c.args.entries.now j e).uid < (get_or view i d).uid =
          subst (λ (x : Known). (get_or c.args.entries.now j e).uid < x.uid) (get_or_default view i no_message d c.loop-place-test.true) (c.skip_entries-at.ensures.below j e less) in
          let rises : (get_or view i d).uid < (get_or view k d).uid = apart (λ (x : Known). x.uid) 0 view c.requires.view i k d (omega arith) lt in omega arith;
    }
