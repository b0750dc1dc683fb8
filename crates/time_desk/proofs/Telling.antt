-- Which texts are told while the journal is read: those of the items of a timeline, and those that a request asks for.
use Rattle.std.proofs.Common.{◌≡◌, ◌≢◌, ℕ, zero, suc, ◌+◌, ◌<◌, ◌≤◌, ◌==◌, nat_le, Bool, true, false, not, ◌||◌, ◌&&◌, cond, List, ◌∷◌, ◌++◌, length, map, filter, take, drop, Option, None, Some, Result, Ok, Err, is_some, option_and_then, refl, ap, sym, subst, ◌∙◌, arith, []}
use Rattle.std.specs.List.{AllByRecursion}
use Rattle.std.specs.Option.{option_map_or, option_or}
use Rattle.std.proofs.lemmas.Bool.Decides.{nat_tests}
use Rattle.undo_outside.specs.Disk.{DiskTold, ReadFailed}
use Rattle.verb_core.specs.declared.item.Act.{Act}
use Rattle.verb_core.specs.declared.item.Deed.{Deed}
use Rattle.verb_core.specs.declared.item.Deed.TheVariants.{Act as Acts, Deliver}
use Rattle.verb_core.specs.declared.item.Act.TheVariants.{Give}
use Rattle.verb_core.specs.declared.item.Item.{Item}
use Rattle.verb_core.specs.declared.mailbox.Body.{Body}
use Rattle.verb_core.specs.Deeds.{is_notice, with_text}
use Rattle.verb_core.specs.Items.{IsTimeline, NumbersApart, text_in, text_of}
use Rattle.verb_core.specs.Texts.{BodiesTold, Rose}
use Rattle.stored_items.specs.Stored.{needs_text}
use Rattle.verb_bytes.specs.declared.journal.CycleAsk.{CycleAsk}
use Rattle.shelf.specs.declared.note.Note.{Note}
use Rattle.shelf.specs.Notes.{note_of}
use Rattle.repair_desk.specs.Repairs.{inserted, is_dropped, kept, new_timeline, repaired, replaced_by, takes_text, text_asked}
use Rattle.cycle_rules.specs.Cycles.{repaired_items}
use Rattle.replay_crew.specs.Hearing.{CountsTextReads, TellsAll, TellsOf}
use Rattle.verb_core.specs.declared.bodies.BodiesFault.{BodiesFault}
use Rattle.verb_core.specs.declared.bodies.BodiesFault.TheVariants as bodies_faults
use Rattle.time_desk.specs.Planning.{BodiesCause}
use Rattle.mail_desk.specs.Held.{Held}
use Rattle.withdraw.specs.declared.undone.UndoneBehind.{UndoneBehind}
use Rattle.withdraw.specs.Coming.{TextsComeBack}
use Rattle.withdraw.proofs.Texts.{texts_back}
use Rattle.store_kept.specs.Coming.{Comes, ComesIf, HasUndone, HasUndoneTexts, TextsComeIf}
use Rattle.store_kept.specs.Kept.{Kept, origin_of}
use Rattle.store_kept.specs.Texts.{items_asked, items_behind, text_at_hand, text_before, text_with}
use Rattle.store_kept.proofs.Coming.{kept_at_hand, with_first}
use Rattle.cycle_rules.specs.Withdrawals.{restored_items}
use Rattle.mail_desk.specs.Timeline.{body_of, item_of, text_by_rev}
use Rattle.mail_desk.proofs.BodyTexts.{text_by_item}
use Rattle.desk_journal.specs.Stored.{IsBefore, TextsNoted, is_recorded, item_with, recorded_in}
use Rattle.desk_journal.specs.declared.read_texts.Reading.{Reading}
use Rattle.desk_journal.specs.Lasting.{PastTold}
use Rattle.desk_journal.specs.Telling.{HoldsHeld, LeadsOn, reading_told, asked_of, is_readable, is_told, noted_in, text_told, told_first}
use Rattle.desk_journal.proofs.Telling.{found_brings, item_has, readable, recorded_note}
use Rattle.repair_desk.proofs.Everywhere.{joined, weaker}
use Rattle.time_desk.proofs.Renoting.{IsAlike, all_alike, back_apart, brings, brings_own_item, first_part, text_some, text_step, turned, zipped}
use Rattle.time_desk.proofs.Restored.{asked_behind, restored_holds}

-- ---- items of a timeline

all_mapped : {X : Type 0} (P Q : X → Type 0) (xs : List X) → ((x : X) → P x → Q x) → AllByRecursion P xs → AllByRecursion Q xs
all_mapped P Q [] so all = tt
all_mapped P Q (x ∷ xs) so all = (so x all.0, all_mapped P Q xs so all.1)

-- each item is the one of its number
pub own_items : (t : List Item) → NumbersApart t → AllByRecursion (λ (i : Item). item_of t i.number ≡ Some i) t
own_items [] apart = tt
own_items (i ∷ t) apart =
    let here : (i.number == i.number) ≡ true = grind (arith, nat_tests) in
    (rw here refl, later t apart.0 (own_items t apart.1))
  where
    later : (s : List Item) → AllByRecursion (λ (j : Item). i.number ≢ j.number) s → AllByRecursion (λ (j : Item). item_of t j.number ≡ Some j) s → AllByRecursion (λ (j : Item). item_of (i ∷ t) j.number ≡ Some j) s
    later [] others all = tt
    later (j ∷ s) others all =
        let other : (i.number == j.number) ≡ false = let apart : i.number ≢ j.number = others.0 in grind (arith, nat_tests) in
        (rw other all.0, later s others.1 all.1)

pub item_text : (t : List Item) (i : Item) → NumbersApart t → item_of t i.number ≡ Some i → text_of t (body_of i) ≡ text_in i.deed
item_text t i apart own =
    let here : (i.rev == i.rev) ≡ true = grind (arith, nat_tests) in
    text_by_item t apart (body_of i) ∙ ap (option_and_then (text_by_rev (body_of i))) own ∙ ap (λ b. cond b (text_in i.deed) None) here

-- ---- texts that a record has

-- the text of an item is one among all
some_own : (t : List Item) → AllByRecursion (λ (i : Item). is_some (text_in i.deed) ≡ true → is_some (text_of t (body_of i)) ≡ true) t
some_own [] = tt
some_own (i ∷ t) = (
  λ some. ap is_some (text_step i t (body_of i) ∙ ap (λ b. cond b (text_in i.deed) (text_of t (body_of i))) (brings_own_item i some)) ∙ some,
  weaker (λ (j : Item). is_some (text_in j.deed) ≡ true → is_some (text_of t (body_of j)) ≡ true) (λ (j : Item). is_some (text_in j.deed) ≡ true → is_some (text_of (i ∷ t) (body_of j)) ≡ true)
      (λ j has some. text_some (i ∷ []) t (body_of j) (has some)) t (some_own t),
)

-- items of one number in a list are one
same_in : (t : List Item) → NumbersApart t → AllByRecursion (λ (i : Item). AllByRecursion (IsAlike i) t) t
same_in t apart =
    let Own : Item → Type 0 = λ i. item_of t i.number ≡ Some i in
    weaker Own (λ (i : Item). AllByRecursion (IsAlike i) t)
    (λ i own. weaker Own (IsAlike i) (λ j other same.
    let both : ◌≡◌ {A = Option Item} (Some j) (Some i) = sym (subst (λ (n : ℕ). item_of t n ≡ Some j) same other) ∙ own in
    let one : j ≡ i = cc in
    ap (λ (k : Item). is_notice k.deed) one) t (own_items t apart)) t (own_items t apart)

-- so are those that may be asked for
all_same : (kept : Kept) → NumbersApart kept.timeline → HasUndone kept → AllByRecursion (λ (i : Item). AllByRecursion (IsAlike i) (items_asked kept)) (items_asked kept)
all_same kept apart comes =
    let back = items_behind kept.undone in
    let across : AllByRecursion (λ (i : Item). AllByRecursion (IsAlike i) back) kept.timeline = all_alike kept comes in
    let other : AllByRecursion (λ (j : Item). AllByRecursion (IsAlike j) kept.timeline) back =
    weaker (λ (j : Item). AllByRecursion (λ (i : Item). IsAlike i j) kept.timeline) (λ (j : Item). AllByRecursion (IsAlike j) kept.timeline)
    (λ j alike. weaker (λ (i : Item). IsAlike i j) (IsAlike j) (λ i is same. sym (is (sym same))) kept.timeline alike) back (turned IsAlike back kept.timeline across) in
    let Both : Item → Type 0 = λ i. AllByRecursion (IsAlike i) (items_asked kept) in
    joined Both kept.timeline back
    (weaker (λ (i : Item). AllByRecursion (IsAlike i) kept.timeline × AllByRecursion (IsAlike i) back) Both (λ i alike. joined (IsAlike i) kept.timeline back alike.0 alike.1) kept.timeline
    (zipped (λ (i : Item). AllByRecursion (IsAlike i) kept.timeline) (λ (i : Item). AllByRecursion (IsAlike i) back) kept.timeline (same_in kept.timeline apart) across))
    (weaker (λ (i : Item). AllByRecursion (IsAlike i) kept.timeline × AllByRecursion (IsAlike i) back) Both (λ i alike. joined (IsAlike i) kept.timeline back alike.0 alike.1) back
    (zipped (λ (i : Item). AllByRecursion (IsAlike i) kept.timeline) (λ (i : Item). AllByRecursion (IsAlike i) back) back other (same_in back (back_apart kept comes))))

-- a text lies in a record where each item of its number is no notice
recorded_where : (kept : Kept) (t : List Item) (i : Item) → is_some (text_of t (body_of i)) ≡ true → AllByRecursion (λ (j : Item). j.number ≡ i.number → is_notice j.deed ≡ false) t → is_recorded kept t (body_of i) ≡ true
recorded_where kept t i some plain = by (item_with t (body_of i)) refl some
  where
    by : (o : Option Item) → item_with t (body_of i) ≡ o → is_some (option_and_then (λ (j : Item). text_in j.deed) o) ≡ true → is_recorded kept t (body_of i) ≡ true
    by None found has = absurd (let wrong : ◌≡◌ {A = Bool} false true = has in cc)
    by (Some j) found has =
        let brought = found_brings t (body_of i) j found in
        let none : is_notice j.deed ≡ false = item_has (λ (k : Item). k.number ≡ i.number → is_notice k.deed ≡ false) (brings (body_of i)) t j plain found brought.number in
        ap (λ (o : Option Item). is_some (option_map_or (recorded_in kept.first) o (text_before kept.texts (body_of i)))) found ∙ ap (λ (b : Bool). is_some (cond (b && nat_le kept.first j.number) None (text_in j.deed))) none ∙ has

-- ---- what is told

-- a delivery is no notice
delivery_plain : (d : Deed) → needs_text d ≡ true → is_notice d ≡ false
unfolding is_notice
delivery_plain (Deliver from to text) needs = refl
delivery_plain d needs = absurd (cc needs)

-- it gets the text that is asked for
replaced_text : (d : Deed) (text : List ℕ) → needs_text d ≡ true → (takes_text d ≡ true) × (text_in (with_text text d) ≡ Some text)
unfolding is_notice
replaced_text (Deliver from to old) text needs = (refl, refl)
replaced_text d text needs = absurd (cc needs)

-- so does a deed that needs a text afterwards
needed_before : (d : Deed) (text : List ℕ) → needs_text (with_text text d) ≡ true → needs_text d ≡ true
needed_before (Deliver from to old) text needs = refl
needed_before (Acts (Give user mailbox old)) text needs = needs
needed_before d text needs = needs

-- a cycle's own act needs none
act_needs_none : (acts : List Act) (number at : ℕ) (told : BodiesTold) → TellsAll told (inserted number at acts)
act_needs_none [] number at told = tt
act_needs_none (act ∷ acts) number at told = ((λ needs. absurd (cc needs)), act_needs_none acts (number + 1) at told)

pub has_some : (d : Deed) → needs_text d ≡ true → is_some (text_in d) ≡ true
has_some (Deliver from to text) needs = refl
has_some d needs = absurd (cc needs)

or_true : (a b : Bool) → b ≡ true → (a || b) ≡ true
or_true true b is = refl
or_true false b is = is

-- the text of a delivery lies in a record
abbrev IsToldOf : Kept → Item → Type 0
IsToldOf kept i = needs_text i.deed ≡ true → is_recorded kept (items_asked kept) (body_of i) ≡ true

all_told : (kept : Kept) → NumbersApart kept.timeline → HasUndone kept → AllByRecursion (IsToldOf kept) (items_asked kept)
all_told kept apart comes =
    let t = items_asked kept in
    let Found : Item → Type 0 = λ i. is_some (text_in i.deed) ≡ true → is_some (text_of t (body_of i)) ≡ true in
    weaker (λ (i : Item). Found i × AllByRecursion (IsAlike i) t) (IsToldOf kept)
    (λ i both needs. recorded_where kept t i (both.0 (has_some i.deed needs)) (weaker (IsAlike i) (λ (j : Item). j.number ≡ i.number → is_notice j.deed ≡ false) (λ j alike same. alike same ∙ delivery_plain i.deed needs) t both.1)) t
    (zipped Found (λ (i : Item). AllByRecursion (IsAlike i) t) t (some_own t) (all_same kept apart comes))

module _ (held : Held) (gate c : ℕ) (replaces : List (ℕ × List ℕ)) (noted : TextsNoted gate held.notes held.kept) where
  -- a text that a record has can be read
  note_readable : (body : Body) → is_recorded held.kept (items_asked held.kept) body ≡ true → option_map_or (is_readable gate) (noted_in held body) false ≡ true
  note_readable body is =
      let told = recorded_note (IsBefore gate) held.kept (items_asked held.kept) held.notes noted.items noted.base body is in
      ap (λ b. option_map_or (is_readable gate) (cond b (note_of held.notes body) None) false) is ∙ ap (λ (o : Option Note). option_map_or (is_readable gate) o false) told.noted ∙ readable gate told.note told.lies.lies

  can_be_read : (i : Item) → IsToldOf held.kept i → needs_text i.deed ≡ true → is_told held gate c replaces (body_of i) ≡ true
  can_be_read i told needs = or_true (is_some (asked_of c replaces (body_of i))) (option_map_or (is_readable gate) (noted_in held (body_of i)) false) (note_readable (body_of i) (told needs))

-- ---- the items of a timeline, and of a cycle

module _ (held : Held) (gate c : ℕ) (replaces : List (ℕ × List ℕ)) (honest : Type 0) (faults : ℕ) (apart : NumbersApart held.kept.timeline) (noted : TextsNoted gate held.notes held.kept) (comes : HasUndone held.kept)
    (revs : honest → AllByRecursion (λ (i : Item). i.rev < c) held.kept.timeline) where
  abbrev Told : BodiesTold
  Told = record { holds = is_told held gate c replaces; texts = text_told held c replaces; honest = honest; faults = faults }

  abbrev Own : Item → Type 0
  Own i = item_of held.kept.timeline i.number ≡ Some i

  -- an item that stays as it is
  own_told : (i : Item) → Own i → IsToldOf held.kept i
  own_told i own = item_has (IsToldOf held.kept) (λ (j : Item). j.number == i.number) held.kept.timeline i (first_part (IsToldOf held.kept) held.kept.timeline (items_behind held.kept.undone) (all_told held.kept apart comes)) own

  at_hand : (i : Item) → Own i → (o : Option (List ℕ)) → text_in i.deed ≡ o → is_some o ≡ true → text_at_hand held.kept (body_of i) ≡ text_in i.deed
  at_hand i own None is some = absurd (let wrong : ◌≡◌ {A = Bool} false true = some in cc)
  at_hand i own (Some text) is some =
      kept_at_hand held.kept (body_of i) text comes (with_first held.kept.texts held.kept.timeline (body_of i) text (item_text held.kept.timeline i apart own ∙ is)) ∙ sym is

  tells_own : (i : Item) → Own i → TellsOf Told i
  tells_own i own needs = (
    can_be_read held gate c replaces noted i (own_told i own) needs,
    λ told.
        let low : i.rev < c = item_has (λ (j : Item). j.rev < c) (λ (j : Item). j.number == i.number) held.kept.timeline i (revs told) own in
        let other : (i.rev == c) ≡ false = grind (arith, nat_tests) in
        ap (λ b. option_or (cond b (text_asked replaces i.number) None) (text_at_hand held.kept (body_of i))) other ∙ at_hand i own (text_in i.deed) refl (has_some i.deed needs),
  )

  -- the text of an item that gets another
  tells_replaced : (i : Item) (text : List ℕ) → text_asked replaces i.number ≡ Some text → TellsOf Told (record i { rev = c; deed = with_text text i.deed })
  tells_replaced i text asked needs =
      let here : (c == c) ≡ true = grind (arith, nat_tests) in
      let at : asked_of c replaces (record { origin = i.number; rev = c }) ≡ Some text = ap (λ b. cond b (text_asked replaces i.number) None) here ∙ asked in
      let before = needed_before i.deed text needs in (
        ap (λ (o : Option (List ℕ)). is_some o || option_map_or (is_readable gate) (noted_in held (record { origin = i.number; rev = c })) false) at,
        λ told. ap (λ (o : Option (List ℕ)). option_or o (text_at_hand held.kept (record { origin = i.number; rev = c }))) at ∙ sym (replaced_text i.deed text before).1,
      )

  tells_repaired : (i : Item) → Own i → (o : Option (List ℕ)) → text_asked replaces i.number ≡ o → TellsOf Told (replaced_by c i o)
  tells_repaired i own None asked = tells_own i own
  tells_repaired i own (Some text) asked =
      elim (takes_text i.deed) as (λ b. TellsOf Told (cond b (record i { rev = c; deed = with_text text i.deed }) i)) [
        | true ↦ tells_replaced i text asked
        | false ↦ tells_own i own
      ]

all_joined : {X : Type 0} (P : X → Type 0) (xs ys : List X) → AllByRecursion P xs → AllByRecursion P ys → AllByRecursion P (xs ++ ys)
all_joined P [] ys all more = more
all_joined P (x ∷ xs) ys all more = (all.0, all_joined P xs ys all.1 more)

all_taken : {X : Type 0} (P : X → Type 0) (n : ℕ) (xs : List X) → AllByRecursion P xs → AllByRecursion P (take n xs)
all_taken P zero xs all = tt
all_taken P (suc n) [] all = tt
all_taken P (suc n) (x ∷ xs) all = (all.0, all_taken P n xs all.1)

pub all_dropped : {X : Type 0} (P : X → Type 0) (n : ℕ) (xs : List X) → AllByRecursion P xs → AllByRecursion P (drop n xs)
all_dropped P zero xs all = all
all_dropped P (suc n) [] all = tt
all_dropped P (suc n) (x ∷ xs) all = all_dropped P n xs all.1

all_kept : {X : Type 0} (P : X → Type 0) (q : X → Bool) (xs : List X) → AllByRecursion P xs → AllByRecursion P (filter q xs)
all_kept P q [] all = tt
all_kept P q (x ∷ xs) all =
    elim (q x) as (λ b. AllByRecursion P (cond b (x ∷ filter q xs) (filter q xs))) [
      | true ↦ (all.0, all_kept P q xs all.1)
      | false ↦ all_kept P q xs all.1
    ]

all_made : {X Y : Type 0} (P : X → Type 0) (Q : Y → Type 0) (f : X → Y) → ((x : X) → P x → Q (f x)) → (xs : List X) → AllByRecursion P xs → AllByRecursion Q (map f xs)
all_made P Q f so [] all = tt
all_made P Q f so (x ∷ xs) all = (so x all.0, all_made P Q f so xs all.1)

-- the texts of the items through a place, and of all that a cycle performs
pub tells_front : (held : Held) (gate c : ℕ) (replaces : List (ℕ × List ℕ)) (honest : Type 0) (faults : ℕ) → NumbersApart held.kept.timeline → TextsNoted gate held.notes held.kept → HasUndone held.kept
    → (honest → AllByRecursion (λ (i : Item). i.rev < c) held.kept.timeline) → (place : ℕ)
    → TellsAll (record { holds = is_told held gate c replaces; texts = text_told held c replaces; honest = honest; faults = faults }) (take place held.kept.timeline)
tells_front held gate c replaces honest faults apart noted comes revs place =
    all_taken (TellsOf (record { holds = is_told held gate c replaces; texts = text_told held c replaces; honest = honest; faults = faults })) place held.kept.timeline
    (all_mapped (λ (i : Item). item_of held.kept.timeline i.number ≡ Some i) (TellsOf (record { holds = is_told held gate c replaces; texts = text_told held c replaces; honest = honest; faults = faults })) held.kept.timeline
    (tells_own held gate c replaces honest faults apart noted comes revs) (own_items held.kept.timeline apart))

pub tells_cycle : (held : Held) (gate at : ℕ) (ask : CycleAsk) (honest : Type 0) (faults : ℕ) → NumbersApart held.kept.timeline → TextsNoted gate held.notes held.kept → HasUndone held.kept
    → (honest → AllByRecursion (λ (i : Item). i.rev < held.kept.next) held.kept.timeline) → (place : ℕ)
    → TellsAll (record { holds = is_told held gate held.kept.next ask.replaces; texts = text_told held held.kept.next ask.replaces; honest = honest; faults = faults })
    (new_timeline held.kept.timeline ask held.kept.next at place)
tells_cycle held gate at ask honest faults apart noted comes revs place =
    let told : BodiesTold = record { holds = is_told held gate held.kept.next ask.replaces; texts = text_told held held.kept.next ask.replaces; honest = honest; faults = faults } in
    let own = own_items held.kept.timeline apart in
    all_joined (TellsOf told) (take place held.kept.timeline ++ inserted held.kept.next at ask.inserts) (map (repaired ask held.kept.next) (kept ask (drop place held.kept.timeline)))
    (all_joined (TellsOf told) (take place held.kept.timeline) (inserted held.kept.next at ask.inserts)
    (tells_front held gate held.kept.next ask.replaces honest faults apart noted comes revs place)
    (act_needs_none ask.inserts held.kept.next at told))
    (all_made (λ (i : Item). item_of held.kept.timeline i.number ≡ Some i) (TellsOf told) (repaired ask held.kept.next)
    (λ i own. tells_repaired held gate held.kept.next ask.replaces honest faults apart noted comes revs i own (text_asked ask.replaces i.number) refl)
    (kept ask (drop place held.kept.timeline))
    (all_kept (λ (i : Item). item_of held.kept.timeline i.number ≡ Some i) (λ i. not (is_dropped ask i)) (drop place held.kept.timeline)
    (all_dropped (λ (i : Item). item_of held.kept.timeline i.number ≡ Some i) place held.kept.timeline own)))

-- ---- reading goes on

take_all : {X : Type 0} (xs : List X) → take (length xs) xs ≡ xs
take_all [] = refl
take_all (x ∷ xs) = ap (λ l. x ∷ l) (take_all xs)

-- ---- a reading

module _ {D : Type 0} (told : D → DiskTold) where
  pub told_as : (r : Reading D) (past : PastTold D) (held : Held) (c : ℕ) (replaces : List (ℕ × List ℕ)) → r.past.now ≡ past → r.desk.now ≡ held → r.replaces.now ≡ replaces → r.cycle ≡ c → r.failed ≡ 0
      → reading_told told r ≡ told_first told past held c replaces
  told_as r past held c replaces past_is held_is replaces_are cycle_is none = λ j. record {
    holds = is_told (held_is j) (past_is j).end (cycle_is j) (replaces_are j);
    texts = text_told (held_is j) (cycle_is j) (replaces_are j);
    honest = HoldsHeld (told (past_is j).disk) (held_is j);
    faults = none j;
  }

  -- no read failed, or one did
  pub none_failed : (old new : Reading D) → LeadsOn told old new → old.failed ≡ 0 → new.failed ≡ old.failed → (told new.past.now.disk).failed_reads ≡ (told old.past.now.disk).failed_reads
  none_failed old new leads none same = (leads.reads.well (same ∙ none)).1

  pub one_failed : (old new : Reading D) → LeadsOn told old new → old.failed ≡ 0 → Rose old.failed new.failed → ReadFailed (told old.past.now.disk) (told new.past.now.disk)
  one_failed old new leads none rose = leads.reads.fails none (omega (arith, none, rose.1))

  -- all that a repair performs is told
  pub tells_items : (r : Reading D) (past : PastTold D) (held : Held) (gate : ℕ) (texts : List (ℕ × List ℕ)) (items : List Item) (count : ℕ) → r.past.now ≡ past → r.desk.now ≡ held → r.replaces.now ≡ texts → r.cycle ≡ held.kept.next → r.failed ≡ 0
      → past.end ≡ gate → ((disk : D) → TellsAll (told_first told (record { disk = disk; end = gate }) held held.kept.next texts) items) → TellsAll (reading_told told r) (drop count items)
  tells_items r past held gate texts items count past_is held_is replaces_are cycle_is none end_is tells =
      all_dropped (TellsOf (reading_told told r)) count items
      (subst (λ (t : BodiesTold). TellsAll t items) (sym (told_as r past held held.kept.next texts past_is held_is replaces_are cycle_is none))
      (subst (λ (n : ℕ). TellsAll (told_first told (record { disk = past.disk; end = n }) held held.kept.next texts) items) (sym end_is) (tells past.disk)))

  -- so is all that a cycle performs
  pub tells_asked : (held : Held) (gate at : ℕ) (ask : CycleAsk) (place : ℕ) → NumbersApart held.kept.timeline → TextsNoted gate held.notes held.kept → HasUndone held.kept
      → (disk : D) → TellsAll (told_first told (record { disk = disk; end = gate }) held held.kept.next ask.replaces) (repaired_items held.kept at ask place)
  tells_asked held gate at ask place apart noted comes disk = tells_cycle held gate at ask (HoldsHeld (told disk) held) 0 apart noted comes (λ holds. holds.1.revs.items) place

  -- and all that a withdrawal performs
  pub tells_restored : (held : Held) (gate : ℕ) (last : UndoneBehind) → held.kept.undone ≡ Some last → HasUndone held.kept → IsTimeline held.kept.house held.kept.timeline → NumbersApart (restored_items held.kept last)
      → TextsNoted gate held.notes held.kept → (disk : D) → TellsAll (told_first told (record { disk = disk; end = gate }) held held.kept.next []) (restored_items held.kept last)
  tells_restored held gate last is comes timeline apart noted disk =
      let kept = held.kept in
      let items = restored_items kept last in
      let told_of = all_told kept timeline.apart comes in
      let Own : Item → Type 0 = λ i. item_of items i.number ≡ Some i in
      let each : AllByRecursion (IsToldOf kept) items =
      restored_holds (IsToldOf kept) (λ i now told. told) kept last (first_part (IsToldOf kept) kept.timeline (items_behind kept.undone) told_of) (asked_behind (IsToldOf kept) kept last is told_of) in
      weaker (λ (i : Item). IsToldOf kept i × Own i) (TellsOf (told_first told (record { disk = disk; end = gate }) held held.kept.next []))
      (λ i both needs. (
        can_be_read held gate kept.next [] noted i both.0 needs,
        λ holds. none_asked (i.rev == kept.next) (text_at_hand kept (body_of i)) ∙ at_hand i (holds.1.back) both.1 (text_in i.deed) refl (has_some i.deed needs),
      )) items
      (zipped (IsToldOf kept) Own items each (own_items items apart))
    where
      none_asked : (b : Bool) (o : Option (List ℕ)) → option_or (cond b None None) o ≡ o
      none_asked true o = refl
      none_asked false o = refl

      at_hand : (i : Item) → HasUndoneTexts held.kept → item_of (restored_items held.kept last) i.number ≡ Some i → (o : Option (List ℕ)) → text_in i.deed ≡ o → is_some o ≡ true → text_at_hand held.kept (body_of i) ≡ text_in i.deed
      at_hand i texts own None has some = absurd (let wrong : ◌≡◌ {A = Bool} false true = some in cc)
      at_hand i texts own (Some text) has some =
          let kept = held.kept in
          let back : Comes (origin_of kept) kept.timeline kept.next last = subst (ComesIf (origin_of kept) kept.timeline kept.next) is comes in
          let old : TextsComeBack kept.timeline last = subst (TextsComeIf kept.timeline) is texts in
          subst (λ (o : Option UndoneBehind). text_with kept.texts (kept.timeline ++ items_behind o) (body_of i) ≡ Some text) (sym is)
          (with_first kept.texts (kept.timeline ++ last.later) (body_of i) text (texts_back kept.house kept.timeline last (body_of i) text timeline back.back old (item_text (restored_items kept last) i apart own ∙ has)))
          ∙ sym has

  -- and all that leads to a place of the timeline
  pub tells_timeline : (r : Reading D) (past : PastTold D) (held : Held) (replaces : List (ℕ × List ℕ)) → r.past.now ≡ past → r.desk.now ≡ held → r.replaces.now ≡ replaces → r.cycle ≡ held.kept.next → r.failed ≡ 0
      → NumbersApart held.kept.timeline → TextsNoted past.end held.notes held.kept → HasUndone held.kept → TellsAll (reading_told told r) held.kept.timeline
  tells_timeline r past held replaces past_is held_is replaces_are cycle_is none apart noted comes =
      subst (λ (t : BodiesTold). TellsAll t held.kept.timeline) (sym (told_as r past held held.kept.next replaces past_is held_is replaces_are cycle_is none))
      (subst (TellsAll (told_first told past held held.kept.next replaces)) (take_all held.kept.timeline)
      (tells_front held past.end held.kept.next replaces (HoldsHeld (told past.disk) held) 0 apart noted comes (λ holds. holds.1.revs.items) (length held.kept.timeline)))

  -- a read failed exactly where a use of a reading says so
  pub bodies_cause : {X : Type 0} (old new : Reading D) (result : Result X BodiesFault) → LeadsOn told old new → old.failed ≡ 0 → CountsTextReads (reading_told told old) (reading_told told new) result
      → BodiesCause (told old.past.now.disk) (told new.past.now.disk) result
  bodies_cause old new (Ok x) leads none same = none_failed old new leads none same
  bodies_cause old new (Err bodies_faults.Failed) leads none rose = one_failed old new leads none rose
  bodies_cause old new (Err bodies_faults.NoMemory) leads none same = none_failed old new leads none same

  -- behind reads that did not fail
  pub cause_later : {X : Type 0} (old mid new : DiskTold) (result : Result X BodiesFault) → mid.failed_reads ≡ old.failed_reads → mid.is_reliable ≡ old.is_reliable → BodiesCause mid new result → BodiesCause old new result
  cause_later old mid new (Ok x) same reliable is = is ∙ same
  cause_later old mid new (Err bodies_faults.Failed) same reliable failed =
      (subst (λ (n : ℕ). Rose n new.failed_reads) same failed.0, subst (λ (n : ℕ). new.failed_reads ≤ n + 1) same failed.1, failed.2, sym reliable ∙ failed.3)
  cause_later old mid new (Err bodies_faults.NoMemory) same reliable is = is ∙ same

  pub honest_as : (r : Reading D) (past : PastTold D) (held : Held) → r.past.now ≡ past → r.desk.now ≡ held → HoldsHeld (told past.disk) held → HoldsHeld (told r.past.now.disk) r.desk.now
  honest_as r past held past_is held_is holds = subst (λ (h : Held). HoldsHeld (told r.past.now.disk) h) (sym held_is) (subst (λ (p : PastTold D). HoldsHeld (told p.disk) held) (sym past_is) holds)
