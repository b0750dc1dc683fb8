-- What the bytes of a cut open as, whole and where their end is missing.
use Rattle.std.proofs.Common.{◌≡◌, ◌⊎◌, inl, inr, ℕ, zero, suc, ◌≤◌, ◌<◌, List, [], ◌∷◌, ◌++◌, length, take, drop, Option, Some, None, Result, Ok, Err, refl, sym, ◌∙◌, ap, subst}
use Rattle.std.proofs.lemmas.List.{take-append-drop}
use Rattle.std.specs.Prelude.{option_and_then}
use Rattle.std.specs.List.{AllByRecursion}
use Rattle.undo_outside.specs.Disk.{DiskTold}
use Rattle.seal_log.specs.Journal.{StandsFor, sealed, IsPayload}
use Rattle.seal_log.specs.Loading.{BeginsCut, IsNotFormatted}
use Rattle.verb_bytes.specs.declared.journal.JournalRecord.{JournalRecord}
use Rattle.verb_bytes.specs.Spelling.{record_bytes}
use Rattle.store_kept.specs.Kept.{Kept}
use Rattle.cycle_rules.specs.Cutting.{cut}
use Rattle.base_cut.specs.Cutting.{closed_journal}
use Rattle.desk_journal.specs.Founding.{Fore, behind, cut_records, first_fore, fore_after, fore_of, front, opening_state, settled}
use Rattle.desk_journal.specs.Records.{Leaves, after_records, payloads_of, state}
use Rattle.desk_journal.proofs.Fronts.{fore_append}
use Rattle.time_desk.specs.declared.fault.StartFault.{StartFault}
use Rattle.time_desk.specs.declared.fault.StartFault.TheVariants.{NotFormatted, Damaged, Disk, NoMemory}
use Rattle.time_desk.specs.Opening.{IsDamagedInFront, IsFore, OpensAs, Starts}
use Rattle.cut_laws.specs.Cuts.{CanBeWritten, StartsAs, cut_journal}
use Rattle.cut_laws.proofs.Founded.{front_is}

-- ---- whole

pub opens_as : (s : Kept) (place : ℕ) → CanBeWritten s place
    → ((payloads : List (List ℕ)) → AllByRecursion IsPayload payloads → StandsFor (closed_journal payloads) payloads) → state (cut_records s place) ≡ Some (cut s place)
    → OpensAs (cut_journal s place) (Ok (cut s place))
opens_as s place written stands is = record { records = cut_records s place; stands = stands (payloads_of (cut_records s place)) written.framed; state_is = is }

-- a start on a disk with an image that opens
abbrev pub OneOpening : Type 0
OneOpening = (image : List ℕ) (one two : Result Kept StartFault) → OpensAs image one → OpensAs image two → one ≡ two

pub starts_as : OneOpening → (image : List ℕ) (kept : Kept) (old new : DiskTold) (result : Result (Kept × ℕ) StartFault) → OpensAs image (Ok kept) → old.honest → old.content ≡ image → Starts old new result → StartsAs kept result
starts_as one image kept old new (Ok started) opens honest is starts =
    let found = starts.found honest in
    let again : OpensAs old.content (Ok kept) = subst (λ (content : List ℕ). OpensAs content (Ok kept)) (sym is) opens in
    let leaves : Leaves started.0 old.content = record { records = found.records; stands = found.stands; state_is = found.state_is } in
    let same : Ok started.0 ≡ Ok kept = one old.content (Ok started.0) (Ok kept) leaves again in
    cc same
starts_as one image kept old new (Err NotFormatted) opens honest is starts =
    let again : OpensAs old.content (Ok kept) = subst (λ (content : List ℕ). OpensAs content (Ok kept)) (sym is) opens in
    let clash : Err NotFormatted ≡ Ok kept = one old.content (Err NotFormatted) (Ok kept) (starts.found honest) again in
    absurd (cc clash)
starts_as one image kept old new (Err (Damaged place)) opens honest is starts =
    let again : OpensAs old.content (Ok kept) = subst (λ (content : List ℕ). OpensAs content (Ok kept)) (sym is) opens in
    let clash : Err (Damaged place) ≡ Ok kept = one old.content (Err (Damaged place)) (Ok kept) (starts.found honest) again in
    absurd (cc clash)
starts_as one image kept old new (Err Disk) opens honest is starts = tt
starts_as one image kept old new (Err NoMemory) opens honest is starts = tt

-- ---- without its end

taken_payloads : (n : ℕ) (records : List JournalRecord) → take n (payloads_of records) ≡ payloads_of (take n records)
taken_payloads zero records = refl
taken_payloads (suc n) [] = refl
taken_payloads (suc n) (r ∷ records) = ap (λ (l : List (List ℕ)). record_bytes r ∷ l) (taken_payloads n records)

taken_short : (n : ℕ) (records : List JournalRecord) → AllByRecursion IsPayload (payloads_of records) → AllByRecursion IsPayload (payloads_of (take n records))
taken_short zero records short = tt
taken_short (suc n) [] short = tt
taken_short (suc n) (r ∷ records) short = (short.0, taken_short n records short.1)

-- what was read of records that leave something
fore_read : (records : List JournalRecord) (kept : Kept) → front records ≡ records → state records ≡ Some kept → (f : Fore) × (fore_of records ≡ Some f)
fore_read records kept all is = by (fore_of records) refl (ap (λ (rs : List JournalRecord). option_and_then (λ (k : Kept). after_records k (behind records)) (opening_state rs)) (sym all) ∙ is)
  where
    by : (o : Option Fore) → fore_of records ≡ o → option_and_then (λ (k : Kept). after_records k (behind records)) (option_and_then settled o) ≡ Some kept → (f : Fore) × (fore_of records ≡ Some f)
    by None e is = absurd (cc is)
    by (Some f) e is = (f, e)

-- of some of the records behind the first
after_some : (f g : Fore) (n : ℕ) (records : List JournalRecord) → fore_after f records ≡ Some g → (h : Fore) × (fore_after f (take n records) ≡ Some h)
after_some f g n records is =
    by (fore_after f (take n records)) refl (sym (fore_append f (take n records) (drop n records)) ∙ ap (fore_after f) (take-append-drop n records) ∙ is)
  where
    by : (o : Option Fore) → fore_after f (take n records) ≡ o → option_and_then (λ (h : Fore). fore_after h (drop n records)) o ≡ Some g → (h : Fore) × (fore_after f (take n records) ≡ Some h)
    by None e is = absurd (cc is)
    by (Some h) e is = (h, e)

-- of the first so many
taken_fore : (n : ℕ) (records : List JournalRecord) (f : Fore) → fore_of records ≡ Some f → (o : Option Fore) × IsFore (take n records) o
taken_fore zero records f is = (None, refl)
taken_fore (suc n) [] f is = (None, refl)
taken_fore (suc n) (r ∷ records) f is = by (first_fore r) refl is
  where
    by : (o : Option Fore) → first_fore r ≡ o → option_and_then (λ (g : Fore). fore_after g records) o ≡ Some f → (o : Option Fore) × IsFore (r ∷ take n records) o
    by None e is = absurd (cc is)
    by (Some g) e is = let some = after_some g f n records is in (Some some.0, ap (option_and_then (λ (h : Fore). fore_after h (take n records))) e ∙ some.1)

-- an image that ends in a frame that is cut, behind some records of a front
cut_there : (records : List JournalRecord) (f : Fore) (n : ℕ) (image part : List ℕ) → AllByRecursion IsPayload (payloads_of records) → fore_of records ≡ Some f
    → image ≡ sealed (take n (payloads_of records)) ++ part → BeginsCut part → (at : ℕ) × OpensAs image (Err (Damaged at))
cut_there records f n image part short is split cut_here =
    let fore = taken_fore n records f is in
    let front : IsDamagedInFront image (length (sealed (payloads_of (take n records)))) = record {
      records = take n records;
      fore = fore.0;
      is_fore = fore.1;
      rest = part;
      split = split ∙ ap (λ (payloads : List (List ℕ)). sealed payloads ++ part) (taken_payloads n records);
      short = taken_short n records short;
      place_is = refl;
      bad = inl cut_here;
    } in
    (length (sealed (payloads_of (take n records))), inl front)

-- what is told of the end of a journal
abbrev pub EndsAreTold : Type 0
EndsAreTold = (payloads : List (List ℕ)) (front back : List ℕ) → AllByRecursion IsPayload payloads → closed_journal payloads ≡ front ++ back → 0 < length back
    → (front ≡ []) ⊎ ((count : ℕ) × (part : List ℕ) × (count ≤ length payloads) × (front ≡ sealed (take count payloads) ++ part) × BeginsCut part)

pub refused : EndsAreTold → (s : Kept) (place : ℕ) → CanBeWritten s place → state (cut_records s place) ≡ Some (cut s place) → (front back : List ℕ) → cut_journal s place ≡ front ++ back → 0 < length back
    → OpensAs front (Err NotFormatted) ⊎ ((at : ℕ) × OpensAs front (Err (Damaged at)))
refused ends s place written is front back split some = by (ends (payloads_of (cut_records s place)) front back written.framed split some)
  where
    by : (front ≡ []) ⊎ ((count : ℕ) × (part : List ℕ) × (count ≤ length (payloads_of (cut_records s place))) × (front ≡ sealed (take count (payloads_of (cut_records s place))) ++ part) × BeginsCut part)
        → OpensAs front (Err NotFormatted) ⊎ ((at : ℕ) × OpensAs front (Err (Damaged at)))
    by (inl none) = inl (subst IsNotFormatted (sym none) tt)
    by (inr (count, part, few, is_front, cut_here)) =
        let read = fore_read (cut_records s place) (cut s place) (front_is (cut s place)) is in
        inr (cut_there (cut_records s place) read.0 count front part written.framed read.1 is_front cut_here)
