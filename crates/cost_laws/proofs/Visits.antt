-- Runs in which nothing is sealed, and in which a mail is.
use Rattle.std.specs.Prelude.{if◌then◌else◌}
use Rattle.std.proofs.Common.{◌≡◌, ℕ, ◌+◌, arith, Bool, true, false, true≢false, ◌||◌, List, [], ◌∷◌, ◌++◌, None, refl, ap, sym, subst, ◌∙◌}
use Rattle.std.specs.Prelude.{◌↔◌, IfOk, IsErrOf, IsTrue, OnOk, Result, Ok, Err, is_ok, codes}
use Rattle.undo_base.specs.LineEnd.{crlf}
use Rattle.smtp_lines.specs.Command.{spoken}
use Rattle.undo_outside.specs.Disk.{DiskTold}
use Rattle.undo_outside.specs.declared.event.Role.TheVariants as role
use Rattle.undo_outside.specs.declared.event.What.{What}
use Rattle.undo_outside.specs.declared.event.What.TheVariants.{Joined, Bytes, Left}
use Rattle.seal_log.specs.Causes.{FindsMemory}
use Rattle.verb_core.specs.declared.ask.Ask.{Ask}
use Rattle.verb_core.specs.declared.ask.SubmitFault.{SubmitFault}
use Rattle.verb_core.specs.declared.ask.SubmitFault.TheVariants.{Closed}
use Rattle.verb_core.specs.declared.item.Item.{Item}
use Rattle.verb_bytes.specs.declared.journal.JournalRecord.{JournalRecord}
use Rattle.verb_bytes.specs.declared.journal.JournalRecord.TheVariants.{Verb}
use Rattle.store_kept.specs.Kept.{Kept, new_desk}
use Rattle.mail_desk.specs.Desk.{Submitted, submitted}
use Rattle.desk_journal.specs.Lasting.{Lasting, IsUnwritten}
use Rattle.desk_journal.specs.Reading.{Counted, HaveRead, ReadsWell, none_read}
use Rattle.desk_journal.specs.Sealing.{Seals}
use Rattle.mail_loop.specs.Acknowledged.{Course, Went, behind, turned}
use Rattle.mail_loop.specs.Did.{is_due_on}
use Rattle.mail_loop.specs.Machine.{IsPassed, unwritten_by}
use Rattle.mail_loop.specs.Serving.{at_first}
use Rattle.mail_loop.specs.State.{State}
use Rattle.mail_loop.specs.TurnCounts.{TurnCounts, none_counted}
use Rattle.cost_laws.specs.Visits.{Delivers, a_conf, a_delivery, a_house, a_letter, a_mail, a_visit, at_rest, sends_mail, unhindered}

-- ---- what was counted

counted_none : (a b : ℕ) → b ≡ a → Counted 0 a b
counted_none a b e = (e, omega (arith, e))

passed_on : {D : Type 0} → (desk : Lasting D) → (if is_due_on desk then unwritten_by IsPassed else 0) ≡ 0
passed_on desk = elim (is_due_on desk) as (λ b. (if b then unwritten_by IsPassed else 0) ≡ 0) [ true ↦ refl | false ↦ refl ]

nothing_read : {D : Type 0} (told : D → DiskTold) (a b : Lasting D) → ReadsWell told a b → HaveRead told a b none_read
nothing_read told a b well = record { failed = counted_none (told a.disk).failed_reads (told b.disk).failed_reads well; reliable = λ _. refl; honest = λ _. refl }

-- ---- a step in which nothing fails, and behind which no snapshot is taken

module _ {D : Type 0} (told : D → DiskTold) (nothing : (a b : Lasting D) → IsUnwritten a b → Seals told [] [] a b) where
  same_sealed : (desk : Lasting D) → Seals told [] [] desk desk
  same_sealed desk = nothing desk desk (record { kept = refl; notes = refl; marks = refl; disk = refl; gate = refl; closed = refl })

  goes_well : (s : State) (what : What) (old new : Lasting D) (sealed : List JournalRecord) → old.closed ≡ false → (turned s (unhindered what)).unsealed ≡ [] → (turned s (unhindered what)).counts ≡ none_counted
      → new.kept ≡ (turned s (unhindered what)).state.kept → Seals told sealed [] old new → ReadsWell told old new → (told new.disk).out_of_memory ≡ (told old.disk).out_of_memory
      → Went told s old (record { step = unhindered what; sealed = sealed; telling = new; snapshot = []; after = new })
  goes_well s what old new sealed open' unsealed counts kept seals reads memory = record {
    is_open = open';
    turns = subst (λ (l : List JournalRecord). Seals told sealed l old new) (sym unsealed) seals;
    telling_is = kept;
    read = subst (λ (c : TurnCounts). HaveRead told old new c.reads) (sym counts) (nothing_read told old new reads);
    out_of_memory = subst (λ (c : TurnCounts). Counted c.out_of_memory (told old.disk).out_of_memory (told new.disk).out_of_memory) (sym counts) (counted_none _ _ memory);
    unkept = [];
    keeps = same_sealed new;
    unread = nothing_read told new new refl;
    out_of_memory_behind = subst (λ (n : ℕ). Counted n (told new.disk).out_of_memory (told new.disk).out_of_memory) (sym (passed_on new)) (counted_none _ _ refl);
    stays = λ shut. (refl, refl);
  }

  -- a step over what the desk keeps in which nothing is kept
  rests : (desk : Lasting D) → desk.closed ≡ false → (s : State) (what : What) → (turned s (unhindered what)).unsealed ≡ [] → (turned s (unhindered what)).counts ≡ none_counted → desk.kept ≡ (turned s (unhindered what)).state.kept
      → Went told s desk (at_rest desk what)
  rests desk open' s what unsealed counts kept = goes_well s what desk desk [] open' unsealed counts kept (same_sealed desk) refl refl

  -- ---- nothing is sealed

  pub visits : (desk : Lasting D) → desk.closed ≡ false → Course told (at_first desk.kept) desk (a_visit desk) desk
  unfolding spoken
  visits desk open' =
      let s : State = at_first desk.kept in
      let joined : State = behind s (unhindered (Joined role.Smtp)) in
      let asked : State = behind joined (unhindered (Bytes (codes "NOOP" ++ crlf))) in
      let leaves : Course told asked desk (at_rest desk Left ∷ []) desk = (rests desk open' asked Left refl refl refl, refl, refl) in
      let speaks : Course told joined desk (at_rest desk (Bytes (codes "NOOP" ++ crlf)) ∷ at_rest desk Left ∷ []) desk =
      (rests desk open' joined (Bytes (codes "NOOP" ++ crlf)) refl refl refl, refl, leaves) in
      (rests desk open' s (Joined role.Smtp) refl refl refl, refl, speaks)

-- ---- a mail is sealed

abbrev joined_to : Kept → State
joined_to kept = behind (at_first kept) (unhindered (Joined role.Smtp))

-- what the mail's event does to this: it is delivered, and nothing fails
record Takes (kept : Kept) : Type 0 where
  unsealed : (turned (joined_to kept) (unhindered (Bytes a_letter))).unsealed ≡ []
  counts : (turned (joined_to kept) (unhindered (Bytes a_letter))).counts ≡ none_counted
  kept_is : (turned (joined_to kept) (unhindered (Bytes a_letter))).state.kept ≡ (submitted kept 0 None a_mail).kept

takes : Takes (new_desk a_house a_conf)
unfolding spoken
takes = record { unsealed = refl; counts = refl; kept_is = refl }

still_open : (a b : Bool) → a ≡ (b || false) → b ≡ false → a ≡ false
still_open a true e h = absurd (true≢false h)
still_open a false e h = e

-- behind a step the machine keeps what its turns left, and a client that leaves changes nothing
kept_behind : (s : State) (what : What) → (behind s (unhindered what)).kept ≡ (turned s (unhindered what)).state.kept
kept_behind s what = refl

left_unsealed : (s : State) → (turned s (unhindered Left)).unsealed ≡ []
left_unsealed s = refl

left_counts : (s : State) → (turned s (unhindered Left)).counts ≡ none_counted
left_counts s = refl

left_kept : (s : State) → (turned s (unhindered Left)).state.kept ≡ s.kept
left_kept s = refl

module _ {D : Type 0} (told : D → DiskTold) (nothing : (a b : Lasting D) → IsUnwritten a b → Seals told [] [] a b) where
  leaves : (desk : Lasting D) (s : State) → desk.closed ≡ false → desk.kept ≡ s.kept → Course told s desk (at_rest desk Left ∷ []) desk
  leaves desk s open' same = (
    rests told nothing desk open' s Left (left_unsealed s) (left_counts s) (same ∙ sym (left_kept s)),
    same ∙ sym (left_kept s) ∙ sym (kept_behind s Left),
    refl,
  )

  pub delivers : (old new : Lasting D) (item : Item) → Delivers told old new item → Course told (at_first old.kept) old (a_delivery old new item) new
  delivers old new item d =
      let t : Takes old.kept = subst Takes (sym d.is_new) takes in
      let here : new.kept ≡ (turned (joined_to old.kept) (unhindered (Bytes a_letter))).state.kept = sym (t.kept_is ∙ ap (λ (x : Submitted). x.kept) d.ok) in
      let after_it : new.kept ≡ (behind (joined_to old.kept) (unhindered (Bytes a_letter))).kept = here ∙ sym (kept_behind (joined_to old.kept) (Bytes a_letter)) in
      let open' : new.closed ≡ false = still_open new.closed old.closed d.sealed.closed d.is_open in
      let more : Course told (joined_to old.kept) old (sends_mail new item ∷ at_rest new Left ∷ []) new = (
        goes_well told nothing (joined_to old.kept) (Bytes a_letter) old new (Verb item ∷ []) d.is_open t.unsealed t.counts here d.sealed d.reads d.finds_memory,
        after_it,
        leaves new (behind (joined_to old.kept) (unhindered (Bytes a_letter))) open' after_it,
      ) in
      (rests told nothing old d.is_open (at_first old.kept) (Joined role.Smtp) refl refl refl, refl, more)

-- ---- a call of the desk does it

open_if : (b : Bool) (item : Item) → (IsTrue b → IsErrOf {T = Item} (Ok item) Closed) → b ≡ false
open_if true item h = absurd (true≢false (ap is_ok (h refl)))
open_if false item h = refl

pub mail_sealed : {D : Type 0} (told : D → DiskTold) (old new : Lasting D) (mail : Ask) (result : Result Item SubmitFault) → old.kept ≡ new_desk a_house a_conf → mail ≡ a_mail
    → IfOk result (λ item. submitted old.kept 0 None mail ≡ record { outcome = Ok item; kept = new.kept }) → IfOk result (λ item. Seals told (Verb item ∷ []) [] old new) → ReadsWell told old new
    → OnOk result (FindsMemory (told old.disk) (told new.disk)) → (IsErrOf result Closed ↔ IsTrue old.closed) → IfOk result (λ item. Delivers told old new item)
mail_sealed told old new mail (Ok item) is_new is ok sealed reads memory closed = record {
  is_open = open_if old.closed item closed.1;
  is_new = is_new;
  ok = subst (λ (a : Ask). submitted old.kept 0 None a ≡ record { outcome = Ok item; kept = new.kept }) is ok;
  sealed = sealed;
  reads = reads;
  finds_memory = memory;
}
mail_sealed told old new mail (Err fault) is_new is ok sealed reads memory closed = tt
