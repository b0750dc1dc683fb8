-- An image that ends in a frame that is cut is damaged, whatever its payloads spell.
use Rattle.std.proofs.Common.{◌≡◌, ◌≢◌, ◌⊎◌, inl, inr, ℕ, ◌<◌, ◌&&◌, ◌||◌, not, Bool, true, false, List, [], ◌∷◌, ◌++◌, length, take, Option, Some, None, Err, is_some, refl, sym, ◌∙◌, ap, ap₂, subst, arith, append_assoc, append-nil, length-append}
use Rattle.std.proofs.lemmas.List.{drop_at, take_at}
use Rattle.std.specs.Prelude.{option_and_then}
use Rattle.std.specs.List.{AllByRecursion}
use Rattle.std.specs.Int.{w32, to_be_bytes}
use Rattle.seal_log.specs.Journal.{frame, sealed, IsPayload}
use Rattle.seal_log.specs.Loading.{BeginsCut, IsNotFormatted}
use Rattle.verb_core.specs.Names.{is_empty}
use Rattle.verb_bytes.specs.declared.journal.JournalRecord.{JournalRecord}
use Rattle.verb_bytes.specs.declared.journal.JournalRecord.TheVariants.{Base as BaseRecord, Text as TextRecord, Kept as KeptRecord}
use Rattle.verb_bytes.specs.Decoding.{IsBytes, IsRefused, IsSpelled}
use Rattle.verb_bytes.specs.Spelling.{Spells, record_bytes}
use Rattle.verb_bytes.proofs.FieldLaws.{IsBytes-drop, IsBytes-take}
use Rattle.store_kept.specs.Kept.{Kept}
use Rattle.base_cut.specs.Cutting.{IsUnfinished}
use Rattle.desk_journal.specs.Founding.{Fore, behind, first_fore, fore_after, fore_of, front, goes_on, opening_state, own, settled, while_on}
use Rattle.desk_journal.specs.Records.{after_record, payloads_of, state}
use Rattle.desk_journal.proofs.Fronts.{behind_grows, fore_append, front_alone, stands_behind}
use Rattle.desk_journal.proofs.Runs.{state_then}
use Rattle.time_desk.specs.declared.fault.StartFault.TheVariants.{NotFormatted, Damaged}
use Rattle.time_desk.specs.Opening.{BeginsBad, IsDamagedBehind, IsDamagedInBase, IsDamagedInFront, OpensAs, SpellsNone, can_come, fits}

-- ---- what the payloads spell

abbrev Decided : List ℕ → Type 0
Decided payload = IsSpelled payload ⊎ IsRefused payload

abbrev Decides : Type 0
Decides = (bytes : List ℕ) → IsBytes bytes → Decided bytes

split_frame : (p : List ℕ) (ps : List (List ℕ)) (rest : List ℕ) → sealed (p ∷ ps) ++ rest ≡ (85 ∷ to_be_bytes w32 (length p)) ++ (p ++ (sealed ps ++ rest))
split_frame p ps rest = append_assoc (85 ∷ frame p) (sealed ps) rest ∙ append_assoc (85 ∷ to_be_bytes w32 (length p)) p (sealed ps ++ rest)

decided : Decides → (ps : List (List ℕ)) (rest : List ℕ) → IsBytes (sealed ps ++ rest) → AllByRecursion Decided ps
decided decides [] rest are = tt
decided decides (p ∷ ps) rest are =
    let header = 85 ∷ to_be_bytes w32 (length p) in
    let more = sealed ps ++ rest in
    let behind_header : IsBytes (p ++ more) =
    subst IsBytes (drop_at header (p ++ more) (length header) refl) (IsBytes-drop (length header) (header ++ (p ++ more)) (subst IsBytes (split_frame p ps rest) are)) in (
      decides p (subst IsBytes (take_at p more (length p) refl) (IsBytes-take (length p) (p ++ more) behind_header)),
      decided decides ps rest (subst IsBytes (drop_at p more (length p) refl) (IsBytes-drop (length p) (p ++ more) behind_header)),
    )

-- ---- one more record

grown : (records : List JournalRecord) (what : JournalRecord) (p more : List ℕ) → p ≡ record_bytes what → sealed (payloads_of records) ++ ((85 ∷ frame p) ++ more) ≡ sealed (payloads_of (records ++ what ∷ [])) ++ more
grown [] what p more is = ap (λ (q : List ℕ). (85 ∷ frame q) ++ more) is ∙ ap (λ (l : List ℕ). l ++ more) (sym (append-nil (85 ∷ frame (record_bytes what))))
grown (r ∷ records) what p more is =
    append_assoc (85 ∷ frame (record_bytes r)) (sealed (payloads_of records)) ((85 ∷ frame p) ++ more)
    ∙ ap (λ (l : List ℕ). (85 ∷ frame (record_bytes r)) ++ l) (grown records what p more is)
    ∙ sym (append_assoc (85 ∷ frame (record_bytes r)) (sealed (payloads_of (records ++ what ∷ []))) more)

short_grown : (records : List JournalRecord) (what : JournalRecord) (p : List ℕ) → p ≡ record_bytes what → IsPayload p → AllByRecursion IsPayload (payloads_of records) → AllByRecursion IsPayload (payloads_of (records ++ what ∷ []))
short_grown [] what p is fits short = (subst IsPayload is fits, tt)
short_grown (r ∷ records) what p is fits short = (short.0, short_grown records what p is fits short.1)

some_behind : (records : List JournalRecord) (what : JournalRecord) → is_empty (records ++ what ∷ []) ≡ false
some_behind [] what = refl
some_behind (r ∷ records) what = refl

none_comes : (a g s : Bool) → (a ≡ false) ⊎ (g ≡ false) → s ≡ false → ((a && g) || s) ≡ false
none_comes true g s (inl e) none = absurd (cc e)
none_comes false g s (inl e) none = none
none_comes true g s (inr e) none = ap₂ (λ (x y : Bool). x || y) e none
none_comes false g s (inr e) none = none

-- ---- the records of a front

own_on : (f g : Fore) (r : JournalRecord) → own f r ≡ Some g → goes_on r ≡ true
own_on f g (BaseRecord next deep conf rows stamps reports) e = refl
own_on f g (TextRecord body text) e = refl
own_on f g (KeptRecord i) e = refl
own_on f g _ e = absurd (cc e)

while_is : (f g : Fore) (rs : List JournalRecord) → fore_after f rs ≡ Some g → while_on rs ≡ rs
while_is f g [] e = refl
while_is f g (r ∷ rs) e = by (λ h is. while_is h g rs is) (own f r) refl e
  where
    by : ((h : Fore) → fore_after h rs ≡ Some g → while_on rs ≡ rs) → (o : Option Fore) → own f r ≡ o → option_and_then (λ (h : Fore). fore_after h rs) o ≡ Some g → while_on (r ∷ rs) ≡ r ∷ rs
    by rest None is e = absurd (cc e)
    by rest (Some h) is e = rw (own_on f h r is) (ap (λ (l : List JournalRecord). r ∷ l) (rest h e))

front_whole : (records : List JournalRecord) (f : Fore) → fore_of records ≡ Some f → front records ≡ records
front_whole [] f e = refl
front_whole (r ∷ rs) f e = by (first_fore r) e
  where
    by : (o : Option Fore) → option_and_then (λ (h : Fore). fore_after h rs) o ≡ Some f → front (r ∷ rs) ≡ r ∷ rs
    by None e = absurd (cc e)
    by (Some h) e = ap (λ (l : List JournalRecord). r ∷ l) (while_is h f rs e)

fore_grown : (records : List JournalRecord) (f g : Fore) (what : JournalRecord) → fore_of records ≡ Some f → own f what ≡ Some g → fore_of (records ++ what ∷ []) ≡ Some g
fore_grown [] f g what e is = absurd (cc e)
fore_grown (r ∷ rs) f g what e is = by (first_fore r) e
  where
    by : (o : Option Fore) → option_and_then (λ (h : Fore). fore_after h rs) o ≡ Some f → option_and_then (λ (h : Fore). fore_after h (rs ++ what ∷ [])) o ≡ Some g
    by None e = absurd (cc e)
    by (Some h) e = fore_append h rs (what ∷ []) ∙ ap (option_and_then (λ (k : Fore). fore_after k (what ∷ []))) e ∙ ap (option_and_then (λ (k : Fore). Some k)) is

state_of_front : (records : List JournalRecord) (f : Fore) (kept : Kept) → fore_of records ≡ Some f → settled f ≡ Some kept → state records ≡ Some kept
state_of_front records f kept e left =
    let whole : front records ≡ records = front_whole records f e in
    ap state (sym whole) ∙ front_alone records kept (ap opening_state whole ∙ ap (option_and_then settled) e ∙ left)

some_there : (records : List JournalRecord) (f : Fore) → fore_of records ≡ Some f → records ≢ []
some_there [] f e same = cc e
some_there (r ∷ rs) f e same = cc same

more_there : (records : List JournalRecord) (what : JournalRecord) → records ++ what ∷ [] ≢ []
more_there [] what same = cc same
more_there (r ∷ rs) what same = cc same

-- ---- an image that ends so

module _ (one : (first second : JournalRecord) (bytes : List ℕ) → Spells first bytes → Spells second bytes → first ≡ second) (image rest : List ℕ) (ends : BeginsCut rest) (some : 0 < length rest) where
  abbrev Told : Type 0
  Told = (at : ℕ) × OpensAs image (Err (Damaged at))

  -- these records were read, and these payloads stand behind them
  abbrev Stand : List JournalRecord → List (List ℕ) → Type 0
  Stand records ps = (image ≡ sealed (payloads_of records) ++ (sealed ps ++ rest)) × AllByRecursion IsPayload (payloads_of records) × AllByRecursion IsPayload ps

  on : (records : List JournalRecord) (what : JournalRecord) (p : List ℕ) (ps : List (List ℕ)) → Spells what p → Stand records (p ∷ ps) → Stand (records ++ what ∷ []) ps
  on records what p ps spells (split, short, fit) = (
    split ∙ ap (λ (l : List ℕ). sealed (payloads_of records) ++ l) (append_assoc (85 ∷ frame p) (sealed ps) rest) ∙ grown records what p (sealed ps ++ rest) spells.1,
    short_grown records what p spells.1 fit.0 short,
    fit.1,
  )

  bad_first : (stands : JournalRecord → Bool) (p : List ℕ) (ps : List (List ℕ)) → IsPayload p → SpellsNone stands p → BeginsBad stands (sealed (p ∷ ps) ++ rest)
  bad_first stands p ps fit none = record {
    payload = p;
    more = sealed ps ++ rest;
    split = append_assoc (85 ∷ frame p) (sealed ps) rest;
    fits = fit;
    some = omega (arith, some, length-append (sealed ps) rest);
    stands_none = none;
  }

  refused_none : (stands : JournalRecord → Bool) (p : List ℕ) → IsRefused p → SpellsNone stands p
  refused_none stands p refused = λ what spells. absurd (refused.1.spells_none what spells)

  this_none : (stands : JournalRecord → Bool) (p : List ℕ) (what : JournalRecord) → Spells what p → stands what ≡ false → SpellsNone stands p
  this_none stands p what spells none = λ other also. ap stands (one other what p also spells) ∙ none

  -- behind records that leave something
  behind_bad : (records : List JournalRecord) (kept : Kept) (p : List ℕ) (ps : List (List ℕ)) → Stand records (p ∷ ps) → state records ≡ Some kept → SpellsNone (can_come records kept) p → Told
  behind_bad records kept p ps (split, short, fit) is none =
      let told : IsDamagedBehind image (length (sealed (payloads_of records))) = record {
        records = records;
        rest = sealed (p ∷ ps) ++ rest;
        split = split;
        short = short;
        kept = kept;
        state_is = is;
        place_is = refl;
        bad = inr (bad_first (can_come records kept) p ps fit.0 none);
      } in
      (length (sealed (payloads_of records)), inr (inr told))

  behind_told : (ps : List (List ℕ)) (records : List JournalRecord) (kept : Kept) → AllByRecursion Decided ps → Stand records ps → records ≢ [] → state records ≡ Some kept → is_empty (behind records) ≡ false → Told
  behind_told [] records kept known (split, short, fit) there is over =
      let told : IsDamagedBehind image (length (sealed (payloads_of records))) = record {
        records = records;
        rest = rest;
        split = split;
        short = short;
        kept = kept;
        state_is = is;
        place_is = refl;
        bad = inl ends;
      } in
      (length (sealed (payloads_of records)), inr (inr told))
  behind_told (p ∷ ps) records kept known stand there is over = by (λ more new stand there is over. behind_told ps more new known.1 stand there is over) known.0
    where
      by : ((more : List JournalRecord) (new : Kept) → Stand more ps → more ≢ [] → state more ≡ Some new → is_empty (behind more) ≡ false → Told) → Decided p → Told
      by next (inr refused) = behind_bad records kept p ps stand is (refused_none (can_come records kept) p refused)
      by next (inl (what, spells)) = step (after_record kept what) refl
        where
          step : (o : Option Kept) → after_record kept what ≡ o → Told
          step None e =
              behind_bad records kept p ps stand is
              (this_none (can_come records kept) p what spells (none_comes (is_empty (behind records)) (goes_on what) (is_some (after_record kept what)) (inl over) (ap is_some e)))
          step (Some new) e =
              next (records ++ what ∷ []) new (on records what p ps spells stand) (more_there records what)
              (state_then records (what ∷ []) kept new is (ap (option_and_then (λ (k : Kept). Some k)) e))
              (ap is_empty (behind_grows records (what ∷ []) there (ap not (stands_behind kept new what e))) ∙ some_behind (behind records) what)

  front_bad : (records : List JournalRecord) (f : Fore) (p : List ℕ) (ps : List (List ℕ)) → Stand records (p ∷ ps) → fore_of records ≡ Some f → SpellsNone (fits (Some f)) p → Told
  front_bad records f p ps (split, short, fit) is none =
      let told : IsDamagedInFront image (length (sealed (payloads_of records))) = record {
        records = records;
        fore = Some f;
        is_fore = is;
        rest = sealed (p ∷ ps) ++ rest;
        split = split;
        short = short;
        place_is = refl;
        bad = inr (bad_first (fits (Some f)) p ps fit.0 none);
      } in
      (length (sealed (payloads_of records)), inl told)

  base_lacks : (records : List JournalRecord) (f : Fore) (p : List ℕ) (ps : List (List ℕ)) (what : JournalRecord) → Stand records (p ∷ ps) → fore_of records ≡ Some f → settled f ≡ None → Spells what p → goes_on what ≡ false → Told
  base_lacks records f p ps what (split, short, fit) is lacks spells other =
      let told : IsDamagedInBase image (length (sealed (payloads_of (take 1 records)))) = record {
        records = records;
        fore = f;
        is_fore = is;
        lacks = lacks;
        rest = sealed (p ∷ ps) ++ rest;
        split = split;
        short = short;
        place_is = refl;
        over = inr (record {
          payload = p;
          more = sealed ps ++ rest;
          split = append_assoc (85 ∷ frame p) (sealed ps) rest;
          short = fit.0;
          some = omega (arith, some, length-append (sealed ps) rest);
          what = what;
          spells = spells;
          other = other;
        });
      } in
      (length (sealed (payloads_of (take 1 records))), inr (inl told))

  -- the front is over behind it
  over_told : (records : List JournalRecord) (f : Fore) (p : List ℕ) (ps : List (List ℕ)) (what : JournalRecord) → AllByRecursion Decided ps → Stand records (p ∷ ps) → fore_of records ≡ Some f → Spells what p → goes_on what ≡ false → Told
  over_told records f p ps what known stand is spells other = by (settled f) refl
    where
      there : records ≢ []
      there = some_there records f is

      then : (kept : Kept) → state records ≡ Some kept → (o : Option Kept) → after_record kept what ≡ o → Told
      then kept left None e =
          behind_bad records kept p ps stand left
          (this_none (can_come records kept) p what spells (none_comes (is_empty (behind records)) (goes_on what) (is_some (after_record kept what)) (inr other) (ap is_some e)))
      then kept left (Some new) e =
          behind_told ps (records ++ what ∷ []) new known (on records what p ps spells stand) (more_there records what)
          (state_then records (what ∷ []) kept new left (ap (option_and_then (λ (k : Kept). Some k)) e))
          (ap is_empty (behind_grows records (what ∷ []) there (ap not other)) ∙ some_behind (behind records) what)

      by : (o : Option Kept) → settled f ≡ o → Told
      by None lacks = base_lacks records f p ps what stand is lacks spells other
      by (Some kept) left = let leaves = state_of_front records f kept is left in then kept leaves (after_record kept what) refl

  front_told : (ps : List (List ℕ)) (records : List JournalRecord) (f : Fore) → AllByRecursion Decided ps → Stand records ps → fore_of records ≡ Some f → Told
  front_told [] records f known (split, short, fit) is =
      let told : IsDamagedInFront image (length (sealed (payloads_of records))) = record {
        records = records;
        fore = Some f;
        is_fore = is;
        rest = rest;
        split = split;
        short = short;
        place_is = refl;
        bad = inl ends;
      } in
      (length (sealed (payloads_of records)), inl told)
  front_told (p ∷ ps) records f known stand is = by (λ more g stand is. front_told ps more g known.1 stand is) known.0
    where
      by : ((more : List JournalRecord) (g : Fore) → Stand more ps → fore_of more ≡ Some g → Told) → Decided p → Told
      by next (inr refused) = front_bad records f p ps stand is (refused_none (fits (Some f)) p refused)
      by next (inl (what, spells)) = kind (goes_on what) refl
        where
          goes : goes_on what ≡ true → (o : Option Fore) → own f what ≡ o → Told
          goes on_ None e = front_bad records f p ps stand is (this_none (fits (Some f)) p what spells (ap₂ (λ (x y : Bool). not x || y) on_ (ap is_some e)))
          goes on_ (Some g) e = next (records ++ what ∷ []) g (on records what p ps spells stand) (fore_grown records f g what is e)

          kind : (b : Bool) → goes_on what ≡ b → Told
          kind true e = goes e (own f what) refl
          kind false e = over_told records f p ps what known.1 stand is spells e

  -- from the first payload on
  pub damaged_told : (ps : List (List ℕ)) → AllByRecursion Decided ps → AllByRecursion IsPayload ps → image ≡ sealed ps ++ rest → Told
  damaged_told [] known fit split =
      let told : IsDamagedInFront image 0 = record { records = []; fore = None; is_fore = refl; rest = rest; split = split; short = tt; place_is = refl; bad = inl ends } in
      (0, inl told)
  damaged_told (p ∷ ps) known fit split = by known.0
    where
      bad : SpellsNone (fits None) p → Told
      bad none =
          let told : IsDamagedInFront image 0 = record {
            records = [];
            fore = None;
            is_fore = refl;
            rest = sealed (p ∷ ps) ++ rest;
            split = split;
            short = tt;
            place_is = refl;
            bad = inr (bad_first (fits None) p ps fit.0 none);
          } in
          (0, inl told)

      first : (what : JournalRecord) → Spells what p → (o : Option Fore) → first_fore what ≡ o → Told
      first what spells None e = bad (this_none (fits None) p what spells (ap is_some e))
      first what spells (Some f) e = front_told ps (what ∷ []) f known.1 (on [] what p ps spells (split, tt, fit)) (ap (option_and_then (λ (g : Fore). Some g)) e)

      by : Decided p → Told
      by (inr refused) = bad (refused_none (fits None) p refused)
      by (inl (what, spells)) = first what spells (first_fore what) refl

some_cut : (rest : List ℕ) → BeginsCut rest → 0 < length rest
some_cut [] ends = absurd ends
some_cut (b ∷ rest) ends = omega arith

-- what is unfinished opens as no journal, or as damaged
pub unfinished_told : ((first second : JournalRecord) (bytes : List ℕ) → Spells first bytes → Spells second bytes → first ≡ second) → Decides → (bytes : List ℕ) → IsBytes bytes → IsUnfinished bytes
    → OpensAs bytes (Err NotFormatted) ⊎ ((at : ℕ) × OpensAs bytes (Err (Damaged at)))
unfinished_told one decides bytes are (inl none) = inl (subst IsNotFormatted (sym none) tt)
unfinished_told one decides bytes are (inr (place, d)) =
    inr (damaged_told one bytes d.rest d.cut (some_cut d.rest d.cut) d.payloads (decided decides d.payloads d.rest (subst IsBytes d.split are)) d.short d.split)
