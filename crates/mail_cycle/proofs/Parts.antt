-- The end of a repair, step by step: what each of them has is what the repair is to have.
use Rattle.std.proofs.Common.{◌≡◌, ◌∙◌, ℕ, Bool, cond, Some, ◌+◌, ◌≤◌, ◌++◌, Err, IfOk, ◌-◌, List, Ok, Result, ap, ap₂, arith, drop, length, subst, sym, take, true}
use Rattle.std.specs.List.{AllByRecursion}
use Rattle.std.proofs.lemmas.List.{append_assoc, drop-append-le, length-append, length-take-le, take-append-drop}
use Rattle.undo_base.specs.declared.keys.User.{User}
use Rattle.undo_base.specs.declared.memory.NoMemory.{NoMemory}
use Rattle.verb_bytes.specs.declared.journal.CycleAsk.{CycleAsk}
use Rattle.verb_core.specs.declared.conf.House.{House}
use Rattle.verb_core.specs.declared.item.Item.{Item}
use Rattle.verb_core.specs.declared.item.Shown.{Shown}
use Rattle.verb_core.specs.declared.mailbox.BoxId.{BoxId}
use Rattle.verb_core.specs.Items.{IsWellFormed}
use Rattle.verb_core.specs.Step.{answers, run}
use Rattle.verb_core.specs.Store.{IsValid, MailStore}
use Rattle.verb_core.proofs.Joins.{run_joined}
use Rattle.store_kept.specs.Kept.{Kept, store_of}
use Rattle.paradox.specs.Letters.{notices}
use Rattle.paradox.specs.declared.reports.BrokenItem.{BrokenItem}
use Rattle.repair_desk.specs.Renewals.{renewed}
use Rattle.repair_desk.specs.Repairs.{is_among, numbers_of, position}
use Rattle.mail_cycle.specs.declared.running.Replayed.{Replayed}
use Rattle.mail_cycle.specs.declared.settling.Rewound.{Rewound}
use Rattle.cycle_rules.specs.Cycles.{cycled_at, leaves_numbers}
use Rattle.cycle_rules.specs.Repairing.{Repair, front_in, notice_items, renewed_by}
use Rattle.mail_cycle.specs.Comparing.{broken_by, compared_from, reached_from, report_by, reworked_from, stamps_by, timeline_by, told_by}
use Rattle.cycle_rules.specs.Judging.{judged, shown_after}
use Rattle.cycle_rules.specs.Asking.{IsRewinds, NoNumbers, Rewinds, due_anew, due_at}
use Rattle.mail_cycle.specs.Leaving.{LeavesAt, items_left}
use Rattle.mail_cycle.specs.Reaching.{Settles}
use Rattle.mail_cycle.specs.Tasks.{Task}
use Rattle.mail_cycle.proofs.Parted.{behind_of, first_of}
use Rattle.mail_cycle.proofs.Cycled.{drop_more, few_notices, few_told, judged_same, length_map, length_shown, run_shown, shown_behind, shown_front, told_formed}

-- ---- notices

pub few_for : (house lent : House) (c at : ℕ) (list : List BrokenItem) (ns : List (User × List ℕ)) → lent ≡ house → ns ≡ notices lent c at list → length ns ≤ length house.accounts
few_for house lent c at list ns same are =
    let count : length ns ≡ length (notices lent c at list) = ap (λ (xs : List (User × List ℕ)). length xs) are in
    let all : length lent.accounts ≡ length house.accounts = ap (λ (h : House). length h.accounts) same in
    let few = few_notices lent c at list in
    omega (arith, count, all, few)

pub few_items : (house : House) (number c at : ℕ) (list : List BrokenItem) (more lent : List Item) (numbers : List ℕ) → more ≡ notice_items number at (notices house c at list) → lent ≡ more
    → numbers ≡ numbers_of lent → length numbers ≤ length house.accounts
few_items house number c at list more lent numbers tells lends are =
    let all : length numbers ≡ length (numbers_of (notice_items number at (notices house c at list))) = ap (λ (ns : List ℕ). length ns) (are ∙ ap numbers_of (lends ∙ tells)) in
    let few = few_told house number c at list in
    omega (arith, all, few, length_map (λ (i : Item). i.number) (notice_items number at (notices house c at list)))

pub items_told : (house : House) (number c at : ℕ) (list : List BrokenItem) (more : List Item) → more ≡ notice_items number at (notices house c at list) → AllByRecursion (IsWellFormed house) more
items_told house number c at list more tells = subst (AllByRecursion (IsWellFormed house)) (sym tells) (told_formed house number at c list)

-- from a beginning
module _ (s : Kept) (at : ℕ) (repair : Repair) (items : List Item) (first : MailStore) (count : ℕ) where
  -- behind the acts that come in stand the answers of the later items
  now_is : (shows : List Shown) → count ≤ repair.place → shows ≡ drop (repair.place - count) (answers first (drop count items)) → drop repair.acts shows ≡ compared_from repair first count items
  now_is shows few are =
      let same : repair.place - count + repair.acts ≡ front_in repair - count = omega arith in
      ap (drop (repair.acts)) are ∙ drop_more (repair.acts) (repair.place - count) (answers first (drop count items))
      ∙ ap (λ (n : ℕ). drop n (answers first (drop count items))) same

  -- the store that they lead to
  store_is : (now : List Shown) (before last : MailStore) (more : List Item) → count ≤ repair.place → count ≤ length items → more ≡ told_by s at repair now
      → before ≡ run first (drop count items) → last ≡ run before more → last ≡ run first (drop count (timeline_by s at repair items now))
  store_is now before last more few long tells was after =
      let front = front_in repair in
      let rest = front - count in
      let kept : drop count (shown_after front items now) ≡ shown_after rest (drop count items) now = shown_behind count front rest items now (omega arith) in
      let long_kept : count ≤ length (shown_after front items now) = omega (arith, length_shown front items now) in
      after
      ∙ ap₂ (λ (m : MailStore) (t : List Item). run m t) (was ∙ sym (run_shown first rest (drop count items) now)) tells
      ∙ sym (run_joined first (shown_after rest (drop count items) now) (told_by s at repair now))
      ∙ ap (λ (t : List Item). run first (t ++ told_by s at repair now)) (sym kept)
      ∙ ap (run first) (sym (drop-append-le count (shown_after front items now) (told_by s at repair now) long_kept))

-- by what the later items show now
module _ (s : Kept) (at : ℕ) (repair : Repair) (now : List Shown) where
  -- notices
  told_is : (list : List BrokenItem) (more : List Item) → list ≡ broken_by repair now
      → more ≡ notice_items (s.next + repair.acts) at (notices s.house s.next at list) → more ≡ told_by s at repair now
  told_is list more lists tells = tells ∙ ap (λ (l : List BrokenItem). notice_items (s.next + repair.acts) at (notices s.house s.next at l)) lists

  -- the items in force
  timeline_is : (items more all : List Item) (shows : List Shown) → shows ≡ now → more ≡ told_by s at repair now
      → all ≡ shown_after (front_in repair) items shows ++ more → all ≡ timeline_by s at repair items now
  timeline_is items more all shows nows tells are = are ∙ ap₂ (λ (a b : List Item). a ++ b) (ap (shown_after (front_in repair) items) nows) tells

  stamps_are : (after last : MailStore) (stamps : List (BoxId × ℕ)) → last ≡ after → stamps ≡ renewed (store_of s).boxes last.boxes s.stamps s.next → stamps ≡ stamps_by s after
  stamps_are after last stamps same is = is ∙ ap (λ (m : MailStore). renewed (store_of s).boxes m.boxes s.stamps s.next) same

  report_is : (after : MailStore) (count : ℕ) (unmatched : List ℕ) (broken : List BrokenItem) (numbers : List ℕ) (more : List Item) (stamps : List (BoxId × ℕ))
      → count ≡ repair.kept → unmatched ≡ repair.unmatched → broken ≡ broken_by repair now
      → more ≡ told_by s at repair now → numbers ≡ numbers_of more → stamps ≡ stamps_by s after
      → record { cycle = s.next; point = repair.point; kept = count; broken = broken; notices = numbers; renewed = renewed_by s.next stamps; unmatched = unmatched } ≡ report_by s at repair now after
  report_is after count unmatched broken numbers more stamps counts misses breaks tells are stamped =
      let all : numbers ≡ numbers_of (told_by s at repair now) = are ∙ ap numbers_of tells in
      λ j. record { cycle = s.next; point = repair.point; kept = counts j; broken = breaks j; notices = all j; renewed = renewed_by s.next (stamped j); unmatched = misses j }

  -- how many notices there are
  many_told : (numbers : List ℕ) (more : List Item) → more ≡ told_by s at repair now → numbers ≡ numbers_of more → length numbers ≡ length (told_by s at repair now)
  many_told numbers more tells are =
      ap (λ (ns : List ℕ). length ns) (are ∙ ap numbers_of tells) ∙ length_map (λ (i : Item). i.number) (told_by s at repair now)

-- ---- behind the first items, which stay

long_enough : {X : Type 0} (t xs : List X) (n : ℕ) → n ≤ length t → n ≤ length (take n t ++ xs)
long_enough t xs n le = omega (arith, length-append (take n t) xs, length-take-le n t le)

-- those behind show their answers as they do behind the first ones
left_is : (n front : ℕ) (t items more : List Item) (now : List Shown) (made : Rewound) → n ≤ length t → n ≤ front → made.from ≡ n → made.behind ≡ shown_after (front - n) items now ++ more
    → items_left t made ≡ shown_after front (take n t ++ items) now ++ more
left_is n front t items more now made le few from are =
    let all : List Item = take n t ++ items in
    let rest : front - n + n ≡ front = omega arith in
    let later : drop n (shown_after front all now) ≡ shown_after (front - n) items now = shown_behind n front (front - n) all now rest ∙ ap (λ (xs : List Item). shown_after (front - n) xs now) (behind_of n t items le) in
    let first : take n (shown_after front all now) ≡ take n t = shown_front n front all now few ∙ first_of n t items le in
    ap₂ (λ (k : ℕ) (xs : List Item). take k t ++ xs) from are
    ∙ sym (append_assoc (take n t) (shown_after (front - n) items now) more)
    ∙ ap (λ (xs : List Item). xs ++ more) (ap₂ (λ (a b : List Item). a ++ b) (sym first) (sym later) ∙ take-append-drop n (shown_after front all now))

-- ---- the whole

-- numbers among which the same ones are judge the same
pub judged_is : (drops asked : List ℕ) (count inserts : ℕ) (later all : List Item) (shows now : List Shown) (r : Result (List BrokenItem) NoMemory) → ((n : ℕ) → is_among drops n ≡ is_among asked n)
    → later ≡ all → count ≡ inserts → now ≡ drop count shows → IfOk r (λ list. list ≡ judged drops later now) → IfOk r (λ list. list ≡ judged asked all (drop inserts shows))
judged_is drops asked count inserts later all shows now (Err e) same laters counts nows is = tt
judged_is drops asked count inserts later all shows now (Ok list) same laters counts nows is =
    is ∙ judged_same drops asked same later now ∙ ap₂ (λ (t : List Item) (xs : List Shown). judged asked t xs) laters (nows ∙ ap (λ (n : ℕ). drop n shows) counts)

module _ (s : Kept) (at : ℕ) (repair : Repair) where
  pub settled : (items : List Item) (kept : ℕ) (unmatched : List ℕ) (before : MailStore) (shows lent : List Shown) (broken : List BrokenItem) (more : List Item) (numbers : List ℕ) (r : Result Rewound NoMemory)
      (first : MailStore) (count : ℕ) → count ≤ repair.place → repair.place ≤ length s.timeline → count + length items ≡ length repair.items
      → before ≡ run first items → shows ≡ drop (repair.place - count) (answers first items)
      → lent ≡ shows → kept ≡ repair.kept → unmatched ≡ repair.unmatched
      → broken ≡ judged repair.drops repair.before (drop repair.acts lent)
      → more ≡ notice_items (s.next + repair.acts) at (notices s.house s.next at broken) → numbers ≡ numbers_of more
      → IfOk r (λ made. made.store.store ≡ run before more) → IfOk r (λ made. IsValid made.store.store)
      → IfOk r (λ made. made.from ≡ count)
      → IfOk r (λ made. made.behind ≡ shown_after (front_in repair - count) items (drop repair.acts shows) ++ more)
      → IfOk r (λ made. made.placed ≡ count + length items)
      → IfOk r (λ made. made.stamps ≡ renewed (store_of s).boxes made.store.store.boxes s.stamps s.next)
      → IfOk r (λ made. made.place ≡ repair.place)
      → IfOk r (λ made. made.next ≡ s.next + 1 + repair.acts + length numbers)
      → IfOk r (λ made. made.entered ≡ repair.acts + length numbers)
      → IfOk r (λ made. made.report ≡ record { cycle = s.next; point = repair.point; kept = kept; broken = broken; notices = numbers; renewed = renewed_by s.next made.stamps; unmatched = unmatched })
      → IfOk r (LeavesAt s.timeline (reached_from s at repair first count (take count s.timeline ++ items)) (reworked_from s at repair first count (take count s.timeline ++ items)))
  settled items kept unmatched before shows lent broken more numbers (Err x) first count few long all_long firsts shown lends counts misses breaks tells nums a b c d e f g h i j = tt
  settled items kept unmatched before shows lent broken more numbers (Ok made) first count few long all_long firsts shown lends counts misses breaks tells nums stored valid from timed put stamped placed numbered entered reported =
      let all : List Item = take count s.timeline ++ items in
      let behind : drop count all ≡ items = behind_of count s.timeline items (omega arith) in
      let compared : List Shown = compared_from repair first count all in
      let after : MailStore = reached_from s at repair first count all in
      let now : drop repair.acts shows ≡ compared =
      now_is s at repair all first count shows few (shown ∙ ap (λ (t : List Item). drop (repair.place - count) (answers first t)) (sym behind)) in
      let broke : broken ≡ broken_by repair compared =
      breaks ∙ ap (λ (xs : List Shown). judged repair.drops repair.before (drop repair.acts xs)) lends ∙ ap (judged repair.drops repair.before) now in
      let said : more ≡ told_by s at repair compared = told_is s at repair compared broken more broke tells in
      let leads : made.store.store ≡ after = store_is s at repair all first count compared before made.store.store more few (long_enough s.timeline items count (omega arith)) said (firsts ∙ ap (run first) (sym behind)) stored in
      let stamps : made.stamps ≡ stamps_by s after = stamps_are s at repair compared after made.store.store made.stamps leads stamped in
      let many : length numbers ≡ length (told_by s at repair compared) = many_told s at repair compared numbers more said nums in
      record {
        place = placed;
        timeline = timeline_is s at repair compared all more (items_left s.timeline made) (drop repair.acts shows) now said
            (left_is count (front_in repair) s.timeline items more (drop repair.acts shows) made (omega arith) (omega arith) from timed);
        placed = put ∙ all_long;
        stamps = stamps;
        next = numbered ∙ ap (λ (n : ℕ). s.next + 1 + repair.acts + n) many;
        entered = entered ∙ ap (λ (n : ℕ). repair.acts + n) many;
        report = reported ∙ report_is s at repair compared after kept unmatched broken numbers more made.stamps counts misses broke said nums stamps;
        store = leads;
        valid = valid;
      }

-- what is left of items is left of the same ones by other names
pub settles_alike : (t : Task) (stay : ℕ) (items : List Item) (replayed later : Replayed) (r : Result Rewound NoMemory) → replayed.items ≡ items → replayed.store.store ≡ later.store.store
    → replayed.shows ≡ later.shows → Settles t stay replayed.items replayed r → Settles t stay items later r
settles_alike t stay items replayed later r are stores shows is = record {
  from = is.from;
  made = λ first led shown.
      subst (λ (xs : List Item). IfOk r (LeavesAt t.kept.timeline (reached_from t.kept t.at t.repair first stay (take stay t.kept.timeline ++ xs)) (reworked_from t.kept t.at t.repair first stay (take stay t.kept.timeline ++ xs)))) are
      (is.made first (stores ∙ led ∙ ap (run first) (sym are)) (shows ∙ shown ∙ ap (λ (xs : List Item). drop (t.repair.place - stay) (answers first xs)) (sym are)));
}

-- ---- what is due

pub due_is : (s : Kept) (at : ℕ) (ask : CycleAsk) (place : ℕ) → position s.timeline ask.point ≡ Some place → leaves_numbers s ask ≡ true → due_anew s at ask ≡ Rewinds (cycled_at s at ask place)
due_is s at ask place is left = ap (due_at s at ask) is ∙ ap (λ (b : Bool). cond b (Rewinds (cycled_at s at ask place)) NoNumbers) left

pub rewinds : (s : Kept) (at : ℕ) (ask : CycleAsk) (place : ℕ) → position s.timeline ask.point ≡ Some place → leaves_numbers s ask ≡ true → IsRewinds (due_anew s at ask)
rewinds s at ask place is left = subst IsRewinds (sym (due_is s at ask place is left)) tt
