use Rattle.std.proofs.Common.{◌≡◌, ◌∙◌, ◌++◌, ◌∷◌, [], List, ap, ap₂, sym, subst, append_assoc}
use Rattle.std.specs.List.Sorted.{IsStrictlySortedBy}
use Rattle.std.proofs.lemmas.List.{append-nil}
use Rattle.std.proofs.lemmas.Map.Keys.{sorted_tail}
use Rattle.undo_base.specs.declared.keys.Key.{Key}
use Rattle.verb_core.specs.KeyOrder.{key_cmp}
use Rattle.mail_rows.specs.declared.change.FlagChange.{FlagChange}
use Rattle.mail_rows.specs.Changes.{changes_from}
use Rattle.mail_rows.proofs.KeyPlaces.{changes_step, changes_none}
use Rattle.mail_rows.proofs.flags.changes_found.Goals as goal

pub loop-key-init : goal.loop-key-init
loop-key-init c = record {
  changes = ap₂ (λ (cs : List FlagChange) (ks : List Key). cs ++ changes_from 0 ks c.args.how c.args.given c.args.entries.now) c.new-changes.ensures
      (c.into_iter-key-iterator.ensures.into_iter_gives ∙ c.iter-key-items.ensures.rest ∙ c.keys.ensures);
  sorted = subst (IsStrictlySortedBy key_cmp) (sym (c.into_iter-key-iterator.ensures.into_iter_gives ∙ c.iter-key-items.ensures.rest)) c.iter-key-items.ensures.ordered;
}

pub loop-key-preserved : goal.loop-key-preserved
loop-key-preserved c =
    let is : c.loop-key.key-iterator ≡ c.in-Some.key.now ∷ c.next.new.self = c.in-Some.ensures.steps in
    let sorted : IsStrictlySortedBy key_cmp (c.in-Some.key.now ∷ c.next.new.self) = subst (IsStrictlySortedBy key_cmp) is c.loop-key.invariant.sorted in
    record {
      changes = ap (λ (cs : List FlagChange). cs ++ changes_from 0 c.next.new.self c.args.how c.args.given c.args.entries.now) c.in_ok-push_found.ensures
          ∙ append_assoc c.loop-key.changes (changes_from 0 (c.in-Some.key.now ∷ []) c.args.how c.args.given c.args.entries.now) (changes_from 0 c.next.new.self c.args.how c.args.given c.args.entries.now)
          ∙ ap (λ (cs : List FlagChange). c.loop-key.changes ++ cs)
          (sym (changes_step c.args.how c.args.given c.in-Some.key.now c.next.new.self c.args.entries.now sorted c.requires)
          ∙ ap (λ (ks : List Key). changes_from 0 ks c.args.how c.args.given c.args.entries.now) (sym is))
          ∙ c.loop-key.invariant.changes;
      sorted = sorted_tail key_cmp c.in-Some.key.now c.next.new.self sorted;
    }

pub returns : goal.returns
returns c =
    sym (append-nil c.loop-key.changes)
    ∙ ap (λ (cs : List FlagChange). c.loop-key.changes ++ cs) (sym (changes_none 0 c.args.how c.args.given c.args.entries.now))
    ∙ ap (λ (ks : List Key). c.loop-key.changes ++ changes_from 0 ks c.args.how c.args.given c.args.entries.now) (sym c.in-None.ensures.steps.0)
    ∙ c.loop-key.invariant.changes
