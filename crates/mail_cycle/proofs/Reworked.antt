-- What comes of a repair from a beginning: from what came of its items through the place, of those behind it, and of settling them.
use Rattle.std.proofs.Common.{◌≡◌, ◌∙◌, ℕ, ◌+◌, ◌-◌, ◌≤◌, ap, subst, sym, List, ◌++◌, take, drop, length, Result, Ok, Err}
use Rattle.std.proofs.lemmas.List.{length-drop}
use Rattle.std.specs.List.{AllByRecursion}
use Rattle.verb_core.specs.declared.bodies.BodiesFault.{BodiesFault}
use Rattle.verb_core.specs.declared.bodies.BodiesFault.TheVariants.{Failed, NoMemory}
use Rattle.verb_core.specs.declared.item.Item.{Item}
use Rattle.verb_core.specs.Step.{answers, run}
use Rattle.verb_core.specs.Store.{IsValid, MailStore}
use Rattle.verb_core.specs.Texts.{BodiesTold, Rose, StaysTold}
use Rattle.stored_items.specs.Stored.{AllHeard}
use Rattle.replay_crew.specs.Hearing.{CountsTextReads, StoresOf}
use Rattle.mail_cycle.specs.declared.beginning.Beginning.{Beginning}
use Rattle.mail_cycle.specs.declared.cycling.AtPoint.{AtPoint}
use Rattle.mail_cycle.specs.declared.running.Replayed.{Replayed}
use Rattle.mail_cycle.specs.declared.settling.Rewound.{Rewound}
use Rattle.mail_cycle.specs.Comparing.{reached_from, reworked_from}
use Rattle.mail_cycle.specs.Leaving.{IsMadeFrom, LeavesAt}
use Rattle.mail_cycle.specs.Reaching.{IsAtPoint, IsReplayed, ReworksFrom}
use Rattle.mail_cycle.specs.Tasks.{Begins, IsTask, Task}
use Rattle.mail_cycle.proofs.Made.{made_exact, many_steps, reworked_made}

-- reads were counted behind some that did not fail
pub counts_later : (X Y : Type 0) (old mid new : BodiesTold) (why : BodiesFault) → mid.faults ≡ old.faults → CountsTextReads {X = X} mid new (Err why) → CountsTextReads {X = Y} old new (Err why)
counts_later X Y old mid new Failed same counts = subst (λ (n : ℕ). Rose n new.faults) same counts
counts_later X Y old mid new NoMemory same counts = counts ∙ same

module _ (led : Type 0) (t : Task) (task : IsTask t) (first : Beginning) (begins : Begins t first) (old mid new : BodiesTold) where
  -- those behind the place, as they were replayed
  pub replayed : (there : AtPoint) → IsAtPoint t first old mid there → StaysTold old mid → (later : Replayed) → AllHeard there.later later.items
      → (mid.honest → AllByRecursion (StoresOf mid) there.later → later.items ≡ there.later) → later.store.store ≡ run there.store.store later.items → IsValid later.store.store
      → later.shows ≡ answers there.store.store later.items → IsReplayed there.store.store there.later old.honest later
  replayed there at_place stays later heard same store valid shows = record {
    heard = heard;
    same = λ is. same (stays.honest is) (at_place.stored is);
    store = store;
    valid = valid;
    shows = shows;
  }

  -- all of its items were performed, and what is left of them was settled
  pub reworks_ok : (there : AtPoint) (at_place : IsAtPoint t first old mid there) (later : Replayed) (replayed : IsReplayed there.store.store there.later old.honest later) (x : Rewound) (before reached after last : ℕ)
      → x.from ≡ there.repairs.from
      → ((s : MailStore) → later.store.store ≡ run s (there.items ++ later.items) → later.shows ≡ drop (t.repair.place - there.repairs.from) (answers s (there.items ++ later.items))
      → LeavesAt t.kept.timeline (reached_from t.kept t.at t.repair s there.repairs.from (take there.repairs.from t.kept.timeline ++ (there.items ++ later.items))) (reworked_from t.kept t.at t.repair s there.repairs.from (take there.repairs.from t.kept.timeline ++ (there.items ++ later.items))) x)
      → reached + first.count ≡ before + t.repair.place → after ≡ reached + length there.later → last ≤ after + length x.report.notices
      → new.faults ≡ mid.faults → mid.faults ≡ old.faults → StaysTold old new → led → ReworksFrom led t first old new before last (Ok x)
  reworks_ok there at_place later replayed x before reached after last from settles steps more ends then_same same stays leads = record {
    made = made_from;
    whole = λ is led_to. made_exact t.kept t.at t.repair first.store.store first.count old.honest x begins.few task.place is led_to made_from;
    steps = many_steps t task first begins old mid there at_place later replayed x before reached after last steps more made_from ends;
    most = tt;
    reads = then_same ∙ same;
    stays = stays;
    leads = leads;
  }
    where
      made_from : IsMadeFrom t.kept t.at t.repair first.store.store first.count old.honest x
      made_from = reworked_made t task first begins old mid there at_place later replayed x from settles

  -- There is none: no item was performed twice.
  pub reworks_none : (before after : ℕ) (result : Result Rewound BodiesFault) (fault why : BodiesFault) → result ≡ Err fault → fault ≡ why
      → after ≤ before + (t.repair.place - first.count) + t.repair.acts + t.repair.kept + length t.kept.house.accounts
      → CountsTextReads {X = Rewound} old new (Err why) → StaysTold old new → led → ReworksFrom led t first old new before after result
  reworks_none before after result fault why is fault_is most counts stays leads =
      subst (λ (r : Result Rewound BodiesFault). ReworksFrom led t first old new before after r) (sym is)
      (subst (λ (f : BodiesFault). ReworksFrom led t first old new before after (Err f)) (sym fault_is)
      (record { made = tt; whole = λ _ _. tt; steps = tt; most = most; reads = counts; stays = stays; leads = leads }))

  -- how many items are left behind the place
  pub rest_there : (there : AtPoint) → IsAtPoint t first old mid there → length there.later ≡ length t.repair.items - t.repair.place
  rest_there there at_place = ap (λ (items : List Item). length items) at_place.later ∙ length-drop t.repair.place t.repair.items
