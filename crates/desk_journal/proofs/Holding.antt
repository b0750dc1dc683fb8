-- What a disk holds of the texts of a desk after a call.
use Rattle.std.proofs.Common.{◌≡◌, ◌≢◌, ℕ, ◌+◌, ◌<◌, ◌≤◌, Bool, true, false, List, ◌∷◌, ◌++◌, length, map, Option, None, Some, refl, ap₂, sym, subst, ◌∙◌, arith, []}
use Rattle.std.specs.List.{AllByRecursion, slice_range}
use Rattle.undo_outside.specs.Disk.{DiskTold}
use Rattle.verb_core.specs.declared.conf.Conf.{Conf}
use Rattle.verb_core.specs.declared.conf.House.{House}
use Rattle.verb_core.specs.declared.item.Item.{Item}
use Rattle.verb_core.specs.declared.mailbox.Body.{Body}
use Rattle.verb_core.specs.Items.{text_in}
use Rattle.seal_log.specs.declared.place.Place.{Place}
use Rattle.seal_log.specs.Journal.{LiesAt}
use Rattle.seal_log.specs.Settled.{Holds, IsSettled, ReadsAlone}
use Rattle.shelf.specs.declared.note.Note.{Note}
use Rattle.mail_desk.specs.Held.{Held}
use Rattle.mail_desk.specs.Timeline.{NotesText, body_of}
use Rattle.mail_desk.proofs.Timelines.{all_joined, all_weaker}
use Rattle.withdraw.specs.declared.undone.UndoneBehind.{UndoneBehind}
use Rattle.store_kept.specs.Coming.{ComesIf, HasUndone, HasUndoneTexts, TextsComeIf}
use Rattle.store_kept.specs.Kept.{IsRun, Kept, Origin, new_desk, origin_of, performed}
use Rattle.store_kept.specs.Texts.{items_asked, items_behind}
use Rattle.desk_journal.specs.Lasting.{Lasting}
use Rattle.desk_journal.specs.Permanence.{RevsBelow}
use Rattle.desk_journal.specs.Stored.{AllNoted, BaseHasNote, HasNote, HoldsTexts, IsBefore, IsStored, MarksLie, NotesTexts, TextsHeld, TextsNoted, TextsStored, recorded_in}
use Rattle.desk_journal.proofs.Marking.{marks_stay}
use Rattle.desk_journal.proofs.Noting.{Moves, all_noted_moves, base_entered, entered}

-- ---- more payloads, and a later gate

stored_stays : ((payloads more : List (List ℕ)) (gate count : ℕ) (payload : List ℕ) → LiesAt payloads gate count payload → LiesAt (payloads ++ more) gate count payload)
    → (payloads more : List (List ℕ)) → Moves (IsStored payloads) (IsStored (payloads ++ more))
stored_stays stays payloads more note text is = record {
  payload = is.payload;
  lies = stays payloads more note.place.gate note.place.length is.payload is.lies;
  bytes = is.bytes;
}

pub texts_stay : ((payloads more : List (List ℕ)) (gate count : ℕ) (payload : List ℕ) → LiesAt payloads gate count payload → LiesAt (payloads ++ more) gate count payload)
    → (payloads more : List (List ℕ)) (notes : List (Body × Note)) (kept : Kept) → TextsStored payloads notes kept → TextsStored (payloads ++ more) notes kept
texts_stay stays payloads more notes kept = all_noted_moves kept.first (IsStored payloads) (IsStored (payloads ++ more)) notes kept.texts (items_asked kept) (stored_stays stays payloads more)

before_later : (gate later : ℕ) → gate ≤ later → Moves (IsBefore gate) (IsBefore later)
before_later gate later less note text is = record {
  lies = record { place = let early : note.place.gate + 5 + note.place.length ≤ gate = is.lies.place in omega arith; range = is.lies.range };
  size = is.size;
}

-- what is noted before a gate is noted before a later one
pub noted_later : (gate later : ℕ) (notes : List (Body × Note)) (kept : Kept) → gate ≤ later → TextsNoted gate notes kept → TextsNoted later notes kept
noted_later gate later notes kept less = all_noted_moves kept.first (IsBefore gate) (IsBefore later) notes kept.texts (items_asked kept) (before_later gate later less)

-- ---- an item more

-- what can come back has numbers below the next one
behind_below : (origin : Origin) (timeline : List Item) (next : ℕ) (o : Option UndoneBehind) → ComesIf origin timeline next o → AllByRecursion (λ (j : Item). j.number < next) (items_behind o)
behind_below origin timeline next None comes = tt
behind_below origin timeline next (Some last) comes =
    all_weaker (λ (j : Item). j.number < last.cycle) (λ (j : Item). j.number < next) (λ j less. omega (arith, less, comes.cycle)) last.later comes.back.older

-- the item of the next number comes behind all whose texts may be asked for
pub asked_below : (kept : Kept) (i : Item) → i.number ≡ kept.next → AllByRecursion (λ (j : Item). j.number < kept.next) kept.timeline → HasUndone kept
    → AllByRecursion (λ (j : Item). j.number < i.number) (items_asked kept)
asked_below kept i number below undone =
    subst (λ (n : ℕ). AllByRecursion (λ (j : Item). j.number < n) (items_asked kept)) (sym number)
    (all_joined (λ (j : Item). j.number < kept.next) kept.timeline (items_behind kept.undone) below (behind_below (origin_of kept) kept.timeline kept.next kept.undone undone))

-- The item of a record that lies at a place before a gate is entered, and its text is noted where it stands in the record. No text that
-- comes with the base is of its number.
pub entered_notes : (gate : ℕ) (place : Place) (bytes : List ℕ) (from : ℕ) (old new : Held) (i : Item)
    → place.gate + 5 + place.length ≤ gate → place.length ≡ length bytes
    → ((text : List ℕ) → recorded_in old.kept.first i ≡ Some text → (from + length text ≤ length bytes) × (slice_range bytes from (from + length text) ≡ text))
    → AllByRecursion (λ (j : Item). j.number < i.number) (items_asked old.kept) → AllByRecursion (λ (r : Body × List ℕ). r.0.origin ≢ i.number) old.kept.texts → new.kept ≡ performed old.kept i
    → NotesText (text_in i.deed) (body_of i) place from old.notes new.notes → NotesTexts gate place bytes old new
entered_notes gate place bytes from old new i within long stands below unnamed is noted = record {
  before = λ all. subst (TextsNoted gate new.notes) (sym is) (record {
    items = entered old.kept.first (IsBefore gate) old.kept.timeline (items_behind old.kept.undone) i place from old.notes new.notes below noted all.items (λ text own. record {
      lies = record { place = within; range = let at : from + length text ≤ length bytes = (stands text own).0 in let long' : place.length ≡ length bytes = long in omega arith };
      size = refl;
    });
    base = base_entered (IsBefore gate) old.kept.texts i place from old.notes new.notes unnamed noted all.base;
  });
  lie = λ payloads lies all. subst (TextsStored payloads new.notes) (sym is) (record {
    items = entered old.kept.first (IsStored payloads) old.kept.timeline (items_behind old.kept.undone) i place from old.notes new.notes below noted all.items (λ text own. record {
      payload = bytes;
      lies = lies;
      bytes = (stands text own).1;
    });
    base = base_entered (IsStored payloads) old.kept.texts i place from old.notes new.notes unnamed noted all.base;
  });
}

-- ---- a disk that was read

pub texts_read : (old new : DiskTold) (payloads : List (List ℕ)) (kept : Kept) (notes : List (Body × Note)) (marks : List (ℕ × Place)) → ReadsAlone old new → TextsHeld old payloads kept notes marks
    → TextsHeld new payloads kept notes marks
texts_read old new payloads kept notes marks reads texts = record {
  held = record { honest = reads.reads.honest texts.held.honest; front = λ c now. texts.held.front c (reads.reads.images texts.held.honest c now) };
  lie = texts.lie;
  revs = texts.revs;
  back = texts.back;
  runs = texts.runs;
  marks = texts.marks;
}

-- ---- desks

module _ {D : Type 0} (told : D → DiskTold) where
  -- what was kept and noted is as it was, and the disk holds what it held
  pub holds_same : (a b : Lasting D) → b.kept ≡ a.kept → b.notes ≡ a.notes → b.marks ≡ a.marks → b.closed ≡ a.closed
      → ((payloads : List (List ℕ)) → Holds (told a.disk) payloads → Holds (told b.disk) payloads)
      → ((payloads : List (List ℕ)) → IsSettled (told a.disk) a.gate payloads → IsSettled (told b.disk) b.gate payloads)
      → HoldsTexts told a → HoldsTexts told b
  holds_same a b kept notes marks closed held settled holds = record {
    payloads = holds.payloads;
    texts = record {
      held = held holds.payloads holds.texts.held;
      lie = subst (TextsStored holds.payloads b.notes) (sym kept) (subst (λ (n : List (Body × Note)). TextsStored holds.payloads n a.kept) (sym notes) holds.texts.lie);
      revs = subst RevsBelow (sym kept) holds.texts.revs;
      back = subst HasUndoneTexts (sym kept) holds.texts.back;
      runs = subst IsRun (sym kept) holds.texts.runs;
      marks = subst (λ (k : Kept). MarksLie holds.payloads k b.marks) (sym kept) (subst (λ (m : List (ℕ × Place)). MarksLie holds.payloads a.kept m) (sym marks) holds.texts.marks);
    };
    settled = λ is. settled holds.payloads (holds.settled (sym closed ∙ is));
  }

  -- the same of an open desk that may have been closed
  pub holds_closed : (a b : Lasting D) → b.kept ≡ a.kept → b.notes ≡ a.notes → b.marks ≡ a.marks → a.closed ≡ false → (b.closed ≡ true)
      → ((payloads : List (List ℕ)) → IsSettled (told a.disk) a.gate payloads → Holds (told b.disk) payloads)
      → HoldsTexts told a → HoldsTexts told b
  holds_closed a b kept notes marks was shut held holds = record {
    payloads = holds.payloads;
    texts = record {
      held = held holds.payloads (holds.settled was);
      lie = subst (TextsStored holds.payloads b.notes) (sym kept) (subst (λ (n : List (Body × Note)). TextsStored holds.payloads n a.kept) (sym notes) holds.texts.lie);
      revs = subst RevsBelow (sym kept) holds.texts.revs;
      back = subst HasUndoneTexts (sym kept) holds.texts.back;
      runs = subst IsRun (sym kept) holds.texts.runs;
      marks = subst (λ (k : Kept). MarksLie holds.payloads k b.marks) (sym kept) (subst (λ (m : List (ℕ × Place)). MarksLie holds.payloads a.kept m) (sym marks) holds.texts.marks);
    };
    settled = λ is. absurd (let wrong : ◌≡◌ {A = Bool} true false = sym shut ∙ is in cc);
  }

  -- a payload was sealed, and the notes are those after its record
  pub holds_sealed : (a b : Lasting D) (bytes : List ℕ)
      → ((payloads more : List (List ℕ)) (gate count : ℕ) (payload : List ℕ) → LiesAt payloads gate count payload → LiesAt (payloads ++ more) gate count payload)
      → a.closed ≡ false
      → ((payloads : List (List ℕ)) → IsSettled (told a.disk) a.gate payloads → IsSettled (told b.disk) b.gate (payloads ++ bytes ∷ []))
      → ((payloads : List (List ℕ)) → LiesAt payloads a.gate (length bytes) bytes → TextsStored payloads a.notes a.kept → TextsStored payloads b.notes b.kept)
      → (RevsBelow a.kept → HasUndoneTexts a.kept → RevsBelow b.kept) → (RevsBelow a.kept → HasUndoneTexts a.kept → HasUndoneTexts b.kept) → (IsRun a.kept → IsRun b.kept)
      → ((payloads : List (List ℕ)) → LiesAt payloads a.gate (length bytes) bytes → IsRun a.kept → MarksLie payloads a.kept a.marks → MarksLie payloads b.kept b.marks)
      → HoldsTexts told a → HoldsTexts told b
  holds_sealed a b bytes stays was settled lie revs back runs marks holds =
      let before : IsSettled (told a.disk) a.gate holds.payloads = holds.settled was in
      let after : IsSettled (told b.disk) b.gate (holds.payloads ++ bytes ∷ []) = settled holds.payloads before in
      record {
        payloads = holds.payloads ++ bytes ∷ [];
        texts = record {
          held = record { honest = after.honest; front = λ c now. ((after.images c now).rest, (after.images c now).split) };
          lie = lie (holds.payloads ++ bytes ∷ []) (record { before = holds.payloads; after = []; split = refl; gate_is = before.gate_is; count_is = refl })
              (texts_stay stays holds.payloads (bytes ∷ []) a.notes a.kept holds.texts.lie);
          revs = revs holds.texts.revs holds.texts.back;
          back = back holds.texts.revs holds.texts.back;
          runs = runs holds.texts.runs;
          marks = marks (holds.payloads ++ bytes ∷ []) (record { before = holds.payloads; after = []; split = refl; gate_is = before.gate_is; count_is = refl }) holds.texts.runs
              (marks_stay stays holds.payloads (bytes ∷ []) a.kept a.marks holds.texts.marks);
        };
        settled = λ is. after;
      }

-- ---- at first

-- what is known of a desk that was just founded: nothing can come back, no snapshot was taken, the store is what the items leave, and
-- revs are below the next number
pub record IsFirst (kept : Kept) : Type 0 where
  pub undone : kept.undone ≡ None
  pub unmarked : kept.marks.places ≡ []
  pub runs : IsRun kept
  pub revs : RevsBelow kept

-- its texts lie where they are noted
pub held_first : (disk : DiskTold) (payloads : List (List ℕ)) (kept : Kept) (notes : List (Body × Note)) (marks : List (ℕ × Place)) → Holds disk payloads → TextsStored payloads notes kept → marks ≡ []
    → IsFirst kept → TextsHeld disk payloads kept notes marks
held_first disk payloads kept notes marks held lie unmarked is = record {
  held = held;
  lie = lie;
  revs = is.revs;
  back = subst (TextsComeIf kept.timeline) (sym is.undone) tt;
  runs = is.runs;
  marks = subst (MarksLie payloads kept) (sym unmarked) tt;
}

-- nothing is noted where nothing was done
pub none_noted : (P : Note → List ℕ → Type 0) (notes : List (Body × Note)) (kept : Kept) → kept.timeline ≡ [] → kept.undone ≡ None → kept.texts ≡ [] → AllNoted kept.first P notes kept.texts (items_asked kept)
none_noted P notes kept none last bare = record {
  items = subst (AllByRecursion (HasNote kept.first P notes)) (sym (ap₂ (λ (t : List Item) (o : Option UndoneBehind). t ++ items_behind o) none last)) tt;
  base = subst (AllByRecursion (BaseHasNote P notes)) (sym bare) tt;
}

pub holds_first : {D : Type 0} (told : D → DiskTold) (desk : Lasting D) (payloads : List (List ℕ)) → IsSettled (told desk.disk) desk.gate payloads → TextsStored payloads desk.notes desk.kept → desk.marks ≡ [] → IsFirst desk.kept → HoldsTexts told desk
holds_first told desk payloads settled lie unmarked is = record {
  payloads = payloads;
  texts = held_first (told desk.disk) payloads desk.kept desk.notes desk.marks (record { honest = settled.honest; front = λ c now. ((settled.images c now).rest, (settled.images c now).split) }) lie unmarked is;
  settled = λ is. settled;
}

-- a desk on which nothing was done yet
pub new_first : (house : House) (conf : Conf) → IsFirst (new_desk house conf)
new_first house conf = record { undone = refl; unmarked = refl; runs = refl; revs = record { items = tt; base = tt } }

-- where no number is marked no snapshot is
pub none_marked : (marks : List (ℕ × Place)) → map (λ (m : ℕ × Place). m.0) marks ≡ [] → marks ≡ []
none_marked [] none = refl
none_marked (m ∷ marks) none = absurd (cc none)
