-- The texts of deliveries, and of no other item.
use Rattle.std.proofs.Common.{◌≡◌, ◌⊎◌, inl, inr, ℕ, ◌+◌, ◌<◌, ◌==◌, ◌&&◌, ◌||◌, Bool, true, false, true≢false, cond, List, [], ◌∷◌, drop, take, not, bytes_eq, is_some, Option, None, Some, Result, Ok, Err, refl, ap, ap₂, sym, subst, ◌∙◌, arith}
use Rattle.std.proofs.lemmas.Bool.Decides.{nat_tests}
use Rattle.std.proofs.lemmas.Slice.Eq.{bytes_eq-Decides}
use Rattle.std.specs.Cmp.{first_so, second_so}
use Rattle.std.specs.Option.{option_map_or, option_or}
use Rattle.std.specs.Prelude.{IfOk, unwrap_or}
use Rattle.undo_outside.specs.Disk.{DiskTold}
use Rattle.verb_core.specs.declared.bodies.BodiesFault.{BodiesFault}
use Rattle.verb_core.specs.declared.bodies.BodiesFault.TheVariants as bodies_faults
use Rattle.verb_core.specs.declared.item.Item.{Item}
use Rattle.verb_core.specs.declared.mailbox.Body.{Body}
use Rattle.verb_core.specs.Items.{NumbersApart, text_in}
use Rattle.verb_core.specs.Store.{MailStore}
use Rattle.verb_core.specs.Texts.{Answers, Gives, Rose}
use Rattle.stored_items.specs.Stored.{needs_text}
use Rattle.mail_desk.specs.Held.{Held}
use Rattle.mail_desk.specs.Timeline.{body_of, item_of}
use Rattle.replay_crew.specs.Hearing.{CountsTextReads, TellsAll, TellsOf}
use Rattle.seal_log.specs.Settled.{ReadsAlone}
use Rattle.store_kept.specs.Kept.{Kept}
use Rattle.store_kept.specs.Texts.{text_at_hand}
use Rattle.cycle_rules.specs.Repairing.{Repair}
use Rattle.mail_cycle.specs.declared.beginning.Beginning.{Beginning}
use Rattle.desk_journal.specs.declared.read_texts.Reading.{Reading}
use Rattle.desk_journal.specs.Lasting.{JournalTold, lasting}
use Rattle.desk_journal.specs.Stored.{HoldsTexts, store_at}
use Rattle.desk_journal.specs.Telling.{HoldsHeld, LeadsOn, asked_of, reading_told}
use Rattle.desk_journal.proofs.Telling.{held_on}
use Rattle.repair_desk.proofs.Everywhere.{weaker}
use Rattle.time_desk.specs.Planning.{BodiesCause}
use Rattle.time_desk.specs.Replaying.{DeliversOn, ToldOr, delivered_told, is_brought, is_delivered, is_stored, reads_behind, repair_reads, some_deliver, some_marked, some_stored, store_reads}
use Rattle.time_desk.specs.Unfiltered.{are_unfiltered}
use Rattle.time_desk.specs.Serving.{IsNewest}
use Rattle.time_desk.proofs.Renoting.{zipped}
use Rattle.time_desk.proofs.Telling.{has_some, none_failed, one_failed, own_items}

either_right : (a b : Bool) → b ≡ true → (a || b) ≡ true
either_right true b e = refl
either_right false b e = e

neither : (a b : Bool) → (a || b) ≡ false → (a ≡ false) × (b ≡ false)
neither true b e = absurd (true≢false e)
neither false b e = (refl, e)

-- the item of a delivered body is the body's
body_is : (i : Item) (body : Body) → (i.number == body.origin) ≡ true → (i.rev == body.rev) ≡ true → body ≡ body_of i
body_is i body number rev =
    let origin_is : body.origin ≡ i.number = grind (arith, nat_tests) in
    let rev_is : body.rev ≡ i.rev = grind (arith, nat_tests) in
    let make : ℕ → ℕ → Body = λ origin rev. record { origin = origin; rev = rev } in
    ap₂ make origin_is rev_is

-- where a body is a delivery's, and the request does not bring it, a text is to be read
pub some_delivered : (c : ℕ) (brought : List (ℕ × List ℕ)) (t : List Item) (body : Body) → is_delivered t body ≡ true → asked_of c brought body ≡ None → some_stored c brought t ≡ true
some_delivered c brought [] body e none = absurd (true≢false (sym e))
some_delivered c brought (i ∷ t) body e none = by (λ later. some_delivered c brought t body later none) (i.number == body.origin) refl e
  where
    by : (is_delivered t body ≡ true → some_stored c brought t ≡ true) → (b : Bool) → (i.number == body.origin) ≡ b → option_map_or (λ (j : Item). needs_text j.deed && j.rev == body.rev) (cond b (Some i) (item_of t body.origin)) false ≡ true
        → (is_stored c brought i || some_stored c brought t) ≡ true
    by among true here is =
        let rev : (i.rev == body.rev) ≡ true = second_so (needs_text i.deed) (i.rev == body.rev) is in
        let unasked : asked_of c brought (body_of i) ≡ None = subst (λ (b : Body). asked_of c brought b ≡ None) (body_is i body here rev) none in
        ap (λ b. b || some_stored c brought t)
        (ap (λ b. b && not (is_brought c brought i)) (first_so (needs_text i.deed) (i.rev == body.rev) is)
        ∙ ap (λ (o : Option (List ℕ)). not (option_map_or (λ (text : List ℕ). bytes_eq text (unwrap_or (text_in i.deed) [])) o false)) unasked)
    by among false here is = either_right (is_stored c brought i) (some_stored c brought t) (among is)

-- what is to be read is a delivery's
pub stored_delivers : (c : ℕ) (brought : List (ℕ × List ℕ)) (t : List Item) → some_stored c brought t ≡ true → some_deliver t ≡ true
stored_delivers c brought [] e = e
stored_delivers c brought (i ∷ t) e = by (stored_delivers c brought t) (needs_text i.deed) refl
  where
    by : (some_stored c brought t ≡ true → some_deliver t ≡ true) → (b : Bool) → needs_text i.deed ≡ b → (b || some_deliver t) ≡ true
    by among true is = refl
    by among false is = among (sym (ap (λ b. (b && not (is_brought c brought i)) || some_stored c brought t) is) ∙ e)

pub none_stored : (c : ℕ) (brought : List (ℕ × List ℕ)) (t : List Item) → some_deliver t ≡ false → some_stored c brought t ≡ false
none_stored c brought t none = by (some_stored c brought t) refl
  where
    by : (b : Bool) → some_stored c brought t ≡ b → b ≡ false
    by true is = absurd (true≢false (sym (stored_delivers c brought t is) ∙ none))
    by false is = refl

-- an item whose text is to be read stands among these
stored_there : (c : ℕ) (brought : List (ℕ × List ℕ)) (t : List Item) (number : ℕ) (i : Item) → item_of t number ≡ Some i → is_stored c brought i ≡ true → some_stored c brought t ≡ true
stored_there c brought [] number i found is = absurd (cc found)
stored_there c brought (j ∷ t) number i found is = by (λ later. stored_there c brought t number i later is) (j.number == number) refl found
  where
    by : (item_of t number ≡ Some i → some_stored c brought t ≡ true) → (b : Bool) → (j.number == number) ≡ b → cond b (Some j) (item_of t number) ≡ Some i → (is_stored c brought j || some_stored c brought t) ≡ true
    by among true here found =
        let one : i ≡ j = cc found in
        ap (λ b. b || some_stored c brought t) (subst (λ (k : Item). is_stored c brought k ≡ true) one is)
    by among false here found = either_right (is_stored c brought j) (some_stored c brought t) (among found)

-- the text of one that is not to be read is the one that the request brings
brought_text : (c : ℕ) (brought : List (ℕ × List ℕ)) (i : Item) → needs_text i.deed ≡ true → is_stored c brought i ≡ false → asked_of c brought (body_of i) ≡ text_in i.deed
brought_text c brought i needs none = of (asked_of c brought (body_of i)) (text_in i.deed) (has_some i.deed needs) (is_true (is_brought c brought i) (sym (ap (λ b. b && not (is_brought c brought i)) needs) ∙ none))
  where
    is_true : (b : Bool) → not b ≡ false → b ≡ true
    is_true true e = refl
    is_true false e = absurd (true≢false e)

    of : (o text : Option (List ℕ)) → is_some text ≡ true → option_map_or (λ (t : List ℕ). bytes_eq t (unwrap_or text [])) o false ≡ true → o ≡ text
    of None text some is = absurd (true≢false (sym is))
    of (Some a) None some is = absurd (true≢false (sym some))
    of (Some a) (Some b) some is = ap (λ (t : List ℕ). Some t) ((bytes_eq-Decides a b).0 is)

module _ {D : Type 0} (told : D → DiskTold) where
  -- the text that is asked for is one that the request brings, or is to be read
  delivery_asked : (r : Reading D) (items : List Item) (body : Body) → (delivered_told told r items).holds body ≡ true → asked_of r.cycle r.replaces.now body ≡ None → some_stored r.cycle r.replaces.now items ≡ true
  delivery_asked r items body held none = some_delivered r.cycle r.replaces.now items body (second_so ((reading_told told r).holds body) (is_delivered items body) held) none

  -- A text that the request asks for is given as it is, and not read.
  abbrev IsGiven : Reading D → Reading D → Body → Result (List ℕ) BodiesFault → Type 0
  IsGiven old new body result = (asked : List ℕ) → asked_of old.cycle old.replaces.now body ≡ Some asked → (new.failed ≡ old.failed) × IfOk result (λ text. text ≡ asked)

  -- one more text is given: a delivery's
  pub text_given : (old new : Reading D) (items : List Item) (body : Body) (result : Result (List ℕ) BodiesFault) → (delivered_told told old items).holds body ≡ true → LeadsOn told old new → IsGiven old new body result
      → Gives (reading_told told old) (reading_told told new) body result → Gives (delivered_told told old items) (delivered_told told new items) body result
  text_given old new items body result held leads is_given given = (
    record { holds = λ j b. given.0.holds j b && is_delivered items b; texts = given.0.texts; honest = honest_on },
    answers result is_given given.1,
  )
    where
      honest_on : (delivered_told told old items).honest → (delivered_told told new items).honest
      honest_on (inl holds) = inl (given.0.honest holds)
      honest_on (inr none) = inr (ap₂ (λ (c : ℕ) (brought : List (ℕ × List ℕ)). some_stored c brought items) leads.cycle leads.replaces ∙ none)

      -- what the request asks for, whatever the disk holds
      of_request : (text : List ℕ) (o : Option (List ℕ)) → asked_of old.cycle old.replaces.now body ≡ o → some_stored old.cycle old.replaces.now items ≡ false → ((asked : List ℕ) → o ≡ Some asked → text ≡ asked)
          → (reading_told told old).texts body ≡ Some text
      of_request text None asked none same = absurd (true≢false (sym (delivery_asked old items body held asked) ∙ none))
      of_request text (Some given_) asked none same = ap (λ (o : Option (List ℕ)). option_or o (text_at_hand old.desk.now.kept body)) asked ∙ sym (ap (λ (t : List ℕ). Some t) (same given_ refl))

      stored : (text : List ℕ) → ((asked : List ℕ) → asked_of old.cycle old.replaces.now body ≡ Some asked → text ≡ asked) → ((reading_told told old).honest → (reading_told told old).texts body ≡ Some text)
          → (delivered_told told old items).honest → (reading_told told old).texts body ≡ Some text
      stored text same told_so (inl holds) = told_so holds
      stored text same told_so (inr none) = of_request text (asked_of old.cycle old.replaces.now body) refl none same

      answers : (r : Result (List ℕ) BodiesFault) → IsGiven old new body r → Answers (reading_told told old) (reading_told told new) body r → Answers (delivered_told told old items) (delivered_told told new items) body r
      answers (Ok text) is a = (a.0, stored text (λ asked e. (is asked e).1) a.1)
      answers (Err bodies_faults.Failed) is a = a
      answers (Err bodies_faults.NoMemory) is a = a

  pub text_led : (old new : Reading D) (items : List Item) (body : Body) (result : Result (List ℕ) BodiesFault) → (delivered_told told old items).holds body ≡ true → LeadsOn told old new → IsGiven old new body result
      → DeliversOn told old new items items
  text_led old new items body result held leads is_given = record { reading = leads; same = refl; due = λ none some. by (asked_of old.cycle old.replaces.now body) refl none some }
    where
      by : (o : Option (List ℕ)) → asked_of old.cycle old.replaces.now body ≡ o → old.failed ≡ 0 → 0 < new.failed → some_stored old.cycle old.replaces.now items ≡ true
      by None asked none some = delivery_asked old items body held asked
      by (Some given) asked none some = let same : new.failed ≡ old.failed = (is_given given asked).0 in absurd (omega (arith, none, some, same))

  -- all that these items ask for is told
  pub tells_delivered : (r : Reading D) (items : List Item) → NumbersApart items → TellsAll (reading_told told r) items → TellsAll (delivered_told told r items) items
  tells_delivered r items apart tells =
      let Own : Item → Type 0 = λ i. item_of items i.number ≡ Some i in
      weaker (λ (i : Item). TellsOf (reading_told told r) i × Own i) (TellsOf (delivered_told told r items))
      (λ i both needs. of_one i both.0 both.1 needs) items
      (zipped (TellsOf (reading_told told r)) Own items tells (own_items items apart))
    where
      delivered : (i : Item) → item_of items i.number ≡ Some i → needs_text i.deed ≡ true → is_delivered items (body_of i) ≡ true
      delivered i own needs =
          let same : (i.rev == i.rev) ≡ true = grind (arith, nat_tests) in
          ap (λ (o : Option Item). option_map_or (λ (j : Item). needs_text j.deed && j.rev == i.rev) o false) own ∙ ap (λ b. b && i.rev == i.rev) needs ∙ same

      or_other : (o other : Option (List ℕ)) → is_some o ≡ true → option_or o other ≡ o
      or_other None other some = absurd (true≢false (sym some))
      or_other (Some text) other some = refl

      unstored : (i : Item) → item_of items i.number ≡ Some i → some_stored r.cycle r.replaces.now items ≡ false → (b : Bool) → is_stored r.cycle r.replaces.now i ≡ b → is_stored r.cycle r.replaces.now i ≡ false
      unstored i own none true is = absurd (true≢false (sym (stored_there r.cycle r.replaces.now items i.number i own is) ∙ none))
      unstored i own none false is = is

      stored : (i : Item) → TellsOf (reading_told told r) i → item_of items i.number ≡ Some i → needs_text i.deed ≡ true → (delivered_told told r items).honest → (reading_told told r).texts (body_of i) ≡ text_in i.deed
      stored i tells own needs (inl holds) = (tells needs).1 holds
      stored i tells own needs (inr none) =
          let other = text_at_hand r.desk.now.kept (body_of i) in
          ap (λ (o : Option (List ℕ)). option_or o other) (brought_text r.cycle r.replaces.now i needs (unstored i own none (is_stored r.cycle r.replaces.now i) refl)) ∙ or_other (text_in i.deed) other (has_some i.deed needs)

      of_one : (i : Item) → TellsOf (reading_told told r) i → item_of items i.number ≡ Some i → TellsOf (delivered_told told r items) i
      of_one i tells own needs = (ap (λ b. b && is_delivered items (body_of i)) (tells needs).0 ∙ delivered i own needs, stored i tells own needs)

  -- those of a timeline
  pub tells_deliveries : (r : Reading D) (items timeline : List Item) → items ≡ timeline → NumbersApart timeline → TellsAll (reading_told told r) timeline → TellsAll (delivered_told told r items) timeline
  tells_deliveries r items timeline same apart tells = subst (λ (t : List Item). TellsAll (delivered_told told r t) timeline) (sym same) (tells_delivered r timeline apart tells)

  -- a read failed exactly where a use of them says so
  pub deliveries_cause : {X : Type 0} (old new : Reading D) (items items' : List Item) (result : Result X BodiesFault) → DeliversOn told old new items items' → old.failed ≡ 0
      → CountsTextReads (delivered_told told old items) (delivered_told told new items') result → BodiesCause (told old.past.now.disk) (told new.past.now.disk) result
  deliveries_cause old new items items' (Ok x) leads none same = none_failed told old new leads.reading none same
  deliveries_cause old new items items' (Err bodies_faults.Failed) leads none rose = one_failed told old new leads.reading none rose
  deliveries_cause old new items items' (Err bodies_faults.NoMemory) leads none same = none_failed told old new leads.reading none same

  -- and only where a text is to be read
  pub stored_due : {X : Type 0} (old new : Reading D) (items items' : List Item) (result : Result X BodiesFault) → DeliversOn told old new items items' → old.failed ≡ 0
      → CountsTextReads (delivered_told told old items) (delivered_told told new items') result → result ≡ Err bodies_faults.Failed → some_stored old.cycle old.replaces.now items ≡ true
  stored_due old new items items' result leads none counts is =
      let rose : Rose old.failed new.failed = subst (CountsTextReads (delivered_told told old items) (delivered_told told new items')) is counts in
      leads.due none (omega (arith, none, rose.1))

  -- which is a delivery's
  pub deliveries_due : {X : Type 0} (old new : Reading D) (items items' : List Item) (result : Result X BodiesFault) → DeliversOn told old new items items' → old.failed ≡ 0
      → CountsTextReads (delivered_told told old items) (delivered_told told new items') result → result ≡ Err bodies_faults.Failed → some_deliver items ≡ true
  deliveries_due old new items items' result leads none counts is = stored_delivers old.cycle old.replaces.now items (stored_due old new items items' result leads none counts is)

  -- where the disk holds the texts, or none is to be read
  pub honest_or : (r : Reading D) (items : List Item) (disk : DiskTold) (held : Held) (some : Bool) → told r.past.now.disk ≡ disk → r.desk.now ≡ held → (some ≡ false → some_stored r.cycle r.replaces.now items ≡ false)
      → ToldOr (HoldsHeld disk held) some → (delivered_told told r items).honest
  honest_or r items disk held some disk_is held_is so (inl holds) = inl (subst (λ (h : Held). HoldsHeld (told r.past.now.disk) h) (sym held_is) (subst (λ (k : DiskTold). HoldsHeld k held) (sym disk_is) holds))
  honest_or r items disk held some disk_is held_is so (inr none) = inr (so none)

  pub honest_as : (r : Reading D) (items : List Item) (disk : DiskTold) (held : Held) → told r.past.now.disk ≡ disk → r.desk.now ≡ held → ToldOr (HoldsHeld disk held) (some_deliver items) → (delivered_told told r items).honest
  honest_as r items disk held disk_is held_is holds = honest_or r items disk held (some_deliver items) disk_is held_is (none_stored r.cycle r.replaces.now items) holds

-- ---- what is begun with

-- a snapshot is to be read, or a delivery
pub reads_marked : (kept : Kept) (place : ℕ) → some_marked kept place ≡ true → reads_behind kept place ≡ true
reads_marked kept place marked = ap (λ b. b || some_deliver kept.timeline) marked

pub reads_delivery : (kept : Kept) (place : ℕ) → some_deliver kept.timeline ≡ true → reads_behind kept place ≡ true
reads_delivery kept place there = either_right (some_marked kept place) (some_deliver kept.timeline) there

-- the same of a repair
pub repairs_marked : (kept : Kept) (brought : List (ℕ × List ℕ)) (repair : Repair) → some_marked kept repair.place ≡ true → repair_reads kept brought repair ≡ true
repairs_marked kept brought repair marked = ap (λ b. b || some_stored kept.next brought repair.items) marked

pub repairs_stored : (kept : Kept) (brought : List (ℕ × List ℕ)) (repair : Repair) → some_stored kept.next brought repair.items ≡ true → repair_reads kept brought repair ≡ true
repairs_stored kept brought repair there = either_right (some_marked kept repair.place) (some_stored kept.next brought repair.items) there

-- Its store is what the items before it led to, where the disk holds the texts, or nothing is to be read: none is marked, and no text.
pub begun_with : (held : Held) (place : ℕ) (some : Bool) (old mid : DiskTold) (first : Beginning) → ReadsAlone old mid → (HoldsHeld old held → IsNewest held.kept place first)
    → (some_marked held.kept place ≡ false → (first.count ≡ 0) × (first.store.store ≡ held.kept.base)) → ToldOr (HoldsHeld old held) (some_marked held.kept place || some)
    → ToldOr (HoldsHeld mid held) some × (first.store.store ≡ store_at held.kept first.count)
begun_with held place some old mid first reads newest unmarked (inl holds) = (inl (held_on old mid held reads holds), (newest holds).store)
begun_with held place some old mid first reads newest unmarked (inr none) =
    let nothing = neither (some_marked held.kept place) some none in
    let at_first = unmarked nothing.0 in
    (inr nothing.1, at_first.1 ∙ ap (λ n. store_at held.kept n) (sym at_first.0))

pub begun_well : (held : Held) (place : ℕ) (old mid : DiskTold) (first : Beginning) → ReadsAlone old mid → (HoldsHeld old held → IsNewest held.kept place first)
    → (some_marked held.kept place ≡ false → (first.count ≡ 0) × (first.store.store ≡ held.kept.base)) → HoldsHeld old held ⊎ (reads_behind held.kept place ≡ false)
    → (HoldsHeld mid held ⊎ (some_deliver held.kept.timeline ≡ false)) × (first.store.store ≡ store_at held.kept first.count)
begun_well held place old mid first reads newest unmarked holds = begun_with held place (some_deliver held.kept.timeline) old mid first reads newest unmarked holds

-- a snapshot is to be read for a store, or a delivery of items of which a filter may look at one
pub store_marked : (kept : Kept) (place : ℕ) → some_marked kept place ≡ true → store_reads kept place ≡ true
store_marked kept place marked = ap (λ b. b || (not (are_unfiltered kept.base (take place kept.timeline)) && some_deliver (take place kept.timeline))) marked

pub store_unmarked : (kept : Kept) (place : ℕ) (first : Beginning) → (some_marked kept place ≡ false → (first.count ≡ 0) × (first.store.store ≡ kept.base))
    → are_unfiltered first.store.store (drop first.count (take place kept.timeline)) ≡ false → some_deliver (take place kept.timeline) ≡ true → store_reads kept place ≡ true
store_unmarked kept place first unmarked looks there = by (some_marked kept place) refl
  where
    by : (b : Bool) → some_marked kept place ≡ b → (b || (not (are_unfiltered kept.base (take place kept.timeline)) && some_deliver (take place kept.timeline))) ≡ true
    by true is = refl
    by false is =
        let at_first = unmarked is in
        let base : are_unfiltered kept.base (take place kept.timeline) ≡ false =
        subst (λ (s : MailStore). are_unfiltered s (take place kept.timeline) ≡ false) at_first.1
        (subst (λ n. are_unfiltered first.store.store (drop n (take place kept.timeline)) ≡ false) at_first.0 looks) in
        ap (λ b. not b && some_deliver (take place kept.timeline)) base ∙ there

-- what is begun with for a store
pub begun_for : (held : Held) (place : ℕ) (old mid : DiskTold) (first : Beginning) → ReadsAlone old mid → (HoldsHeld old held → IsNewest held.kept place first)
    → (some_marked held.kept place ≡ false → (first.count ≡ 0) × (first.store.store ≡ held.kept.base)) → ToldOr (HoldsHeld old held) (store_reads held.kept place)
    → ToldOr (HoldsHeld mid held) (not (are_unfiltered first.store.store (drop first.count (take place held.kept.timeline))) && some_deliver (take place held.kept.timeline))
    × (first.store.store ≡ store_at held.kept first.count)
begun_for held place old mid first reads newest unmarked (inl holds) = (inl (held_on old mid held reads holds), (newest holds).store)
begun_for held place old mid first reads newest unmarked (inr none) =
    let items = take place held.kept.timeline in
    let nothing = neither (some_marked held.kept place) (not (are_unfiltered held.kept.base items) && some_deliver items) none in
    let at_first = unmarked nothing.0 in (
      inr (ap₂ (λ (s : MailStore) (n : ℕ). not (are_unfiltered s (drop n items)) && some_deliver items) at_first.1 at_first.0 ∙ nothing.1),
      at_first.1 ∙ ap (λ n. store_at held.kept n) (sym at_first.0),
    )

-- where it does not rest on texts that are read
pub store_told : {P : Type 0} (holds : Type 0) (unfiltered some : Bool) → (ToldOr holds some → P) → (unfiltered ≡ true → P) → ToldOr holds (not unfiltered && some) → P
store_told holds unfiltered some read unread (inl h) = read (inl h)
store_told holds true some read unread (inr none) = unread refl
store_told holds false some read unread (inr none) = read (inr none)

-- what a desk holds, its journal in memory holds
pub held_or : {D : Type 0} (told : D → DiskTold) (desk : Held) (journal : JournalTold D) (A : Type 0) → HoldsTexts told (lasting desk journal) ⊎ A → HoldsHeld (told journal.disk) desk ⊎ A
held_or told desk journal A (inl holds) = inl (holds.payloads, holds.texts)
held_or told desk journal A (inr other) = inr other
