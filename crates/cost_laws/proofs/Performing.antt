-- Items that are performed, one after the other.
use Rattle.std.proofs.Common.{◌≡◌, ℕ, ◌+◌, ◌≤◌, arith, List, [], ◌∷◌, ◌++◌, length, length-append, Option, Result, Ok, Err, refl, ap, sym, ◌∙◌}
use Rattle.undo_base.specs.declared.keys.User.{User}
use Rattle.verb_core.specs.declared.ask.Ask.{Ask}
use Rattle.verb_core.specs.declared.ask.Refused.{Refused}
use Rattle.verb_core.specs.declared.item.Item.{Item}
use Rattle.verb_core.specs.Live.{live}
use Rattle.store_kept.specs.Kept.{Kept, performed, store_of}
use Rattle.mail_desk.specs.Desk.{submitted_as}
use Rattle.mail_loop.specs.Asked.{Asking, does, fails, runs_out_of_memory, unsealed_as, unwritten}
use Rattle.cost_laws.specs.Items.{Performs, all_performed}

all_append : (kept : Kept) (items more : List Item) → all_performed kept (items ++ more) ≡ all_performed (all_performed kept items) more
all_append kept [] more = refl
all_append kept (item ∷ items) more = all_append (performed kept item) items more

pub performs_none : (most : ℕ) (kept : Kept) → Performs most kept kept
performs_none most kept = record { items = []; kept = refl; few = omega arith }

pub performs_one : (kept : Kept) (item : Item) → Performs 1 kept (performed kept item)
performs_one kept item = record { items = item ∷ []; kept = refl; few = omega arith }

pub performs_more : (least most : ℕ) (old new : Kept) → least ≤ most → Performs least old new → Performs most old new
performs_more least most old new le p = record { items = p.items; kept = p.kept; few = let few = p.few in omega (arith, few, le) }

pub performs_both : (m n : ℕ) (a b c : Kept) → Performs m a b → Performs n b c → Performs (m + n) a c
performs_both m n a b c p q = record {
  items = p.items ++ q.items;
  kept = q.kept ∙ ap (λ (k : Kept). all_performed k q.items) p.kept ∙ sym (all_append a p.items q.items);
  few =
      let l : length (p.items ++ q.items) ≡ length p.items + length q.items = length-append p.items q.items in
      let few = p.few in
      let more = q.few in
      omega (arith, l, few, more);
}

-- ---- what is asked

-- an ask performs an item, or none
abbrev pub IsOfOne : Kept → Asking → Type 0
IsOfOne kept asked = (by : Option User) (ask : Ask) → Performs 1 kept (asked by ask).kept

submitted_one : (kept : Kept) (r : Result Item Refused) → Performs 1 kept (submitted_as kept r).kept
submitted_one kept (Ok item) = performs_one kept item
submitted_one kept (Err why) = performs_none 1 kept

pub does_one : (at : ℕ) (kept : Kept) → IsOfOne kept (does at kept)
does_one at kept by ask = submitted_one kept (live (store_of kept) kept.next at by ask kept.deep)

unsealed_none : (kept : Kept) (r : Result Item Refused) → Performs 1 kept (unsealed_as kept r).kept
unsealed_none kept (Ok item) = performs_none 1 kept
unsealed_none kept (Err why) = performs_none 1 kept

pub fails_one : (at : ℕ) (kept : Kept) → IsOfOne kept (fails at kept)
fails_one at kept by ask = unsealed_none kept (live (store_of kept) kept.next at by ask kept.deep)

pub unasked_one : (kept : Kept) → IsOfOne kept (runs_out_of_memory kept)
unasked_one kept by ask = performs_none 1 kept

pub unwritten_one : (kept : Kept) → IsOfOne kept (unwritten kept)
unwritten_one kept by ask = performs_none 1 kept
