-- What a set picks in a view.
use Rattle.std.proofs.Common.{◌≡◌, ℕ, ◌+◌, ◌<◌, ◌≤◌, Bool, true, false, List, sym, ap, ◌∙◌, subst, arith, Option, None, Some, is_some, Ok, ltb-true, nat_lt, nat_le, leb-true, length, get_or}
use Rattle.std.specs.Prelude.{if◌then◌else◌}
use Rattle.std.specs.List.Sorted.{IsPartitionPoint}
use Rattle.std.proofs.lemmas.Bool.Decides.{nat_tests}
use Rattle.std.proofs.lemmas.List.{get_or-map, length-map}
use Rattle.imap_stream.specs.declared.picks.SetRange.{SetRange}
use Rattle.imap_stream.specs.Sets.{Picks, picked}
use Rattle.imap_stream.specs.Spans.{IsBelow}
use Rattle.imap_view.specs.Named.{places_by}
use Rattle.imap_view.specs.Views.{uids_of}
use Rattle.imap_view.specs.declared.messages.Known.{Known}
use Rattle.imap_view.proofs.Views.{no_message}

not_below : (a b : ℕ) → nat_lt a b ≡ false → b ≤ a
not_below a b h = grind (arith, nat_tests)

not_up_to : (a b : ℕ) → nat_le a b ≡ false → b + 1 ≤ a
not_up_to a b h = grind (arith, nat_tests)

uid_at : (view : List Known) (k : ℕ) → k < length view → get_or (uids_of view) k 0 ≡ (get_or view k no_message).uid
uid_at view k lt = get_or-map (λ (known : Known). known.uid) view k no_message 0 lt

-- where the UIDs below a number end
pub ends_below : (view : List Known) (n at : ℕ) → at ≤ length view → IsPartitionPoint (λ (k : Known). nat_lt k.uid n ≡ true) (λ (k : Known). nat_lt k.uid n ≡ false) view at → IsBelow n (uids_of view) at
ends_below view n at within point = (
  (λ k lt. subst (λ (u : ℕ). u < n) (sym (uid_at view k (omega arith))) (ltb-true _ n (point.0 k no_message (omega arith) lt))),
  (λ k le more. subst (λ (u : ℕ). n ≤ u) (sym (uid_at view k (inside k more))) (not_below _ n (point.1 k no_message le (inside k more)))),
)
  where
    inside : (k : ℕ) → k < length (uids_of view) → k < length view
    inside k lt = subst (λ (l : ℕ). k < l) (length-map view (λ (known : Known). known.uid)) lt

-- where the UIDs up to a number end
pub ends_with : (view : List Known) (n at : ℕ) → at ≤ length view → IsPartitionPoint (λ (k : Known). nat_le k.uid n ≡ true) (λ (k : Known). nat_le k.uid n ≡ false) view at → IsBelow (n + 1) (uids_of view) at
ends_with view n at within point = (
  (λ k lt. subst (λ (u : ℕ). u < n + 1) (sym (uid_at view k (omega arith))) (let le = leb-true _ n (point.0 k no_message (omega arith) lt) in omega arith)),
  (λ k le more. subst (λ (u : ℕ). n + 1 ≤ u) (sym (uid_at view k (inside k more))) (not_up_to _ n (point.1 k no_message le (inside k more)))),
)
  where
    inside : (k : ℕ) → k < length (uids_of view) → k < length view
    inside k lt = subst (λ (l : ℕ). k < l) (length-map view (λ (known : Known). known.uid)) lt

pub picked_places : (uids : List ℕ) (set : List SetRange) (by_uid : Bool) (places : List ℕ) → Picks set uids by_uid (Ok places) → Some places ≡ places_by uids set by_uid
picked_places uids set by_uid places h =
    sym (ap (λ (o : Option ℕ). if is_some o then None else Some (picked set uids by_uid)) h.0 ∙ ap (λ (ps : List ℕ). Some ps) (sym h.1))
