-- What a journal opens with: its Format. In a journal whose past was cut off there is a Base too, the Texts of the messages in
-- it, and the items that were kept, each in a Kept. When each of them can stand, and what they leave.
use Rattle.std.specs.Prelude.{ℕ, Bool, true, false, not, ◌&&◌, List, [], ◌∷◌, ◌++◌, map, is_none, Option, Some, None, option_and_then, option_map, if◌then◌else◌}
use Rattle.verb_core.specs.declared.conf.Conf.{Conf}
use Rattle.verb_core.specs.declared.conf.House.{House}
use Rattle.verb_core.specs.declared.item.Item.{Item}
use Rattle.verb_core.specs.declared.mailbox.Body.{Body}
use Rattle.verb_bytes.specs.declared.journal.JournalRecord.{JournalRecord}
use Rattle.verb_bytes.specs.declared.journal.JournalRecord.TheVariants.{Format, Base as BaseRecord, Text as TextRecord, Kept as KeptRecord}
use Rattle.store_kept.specs.Founding.{Based, base_stands, based_on, can_be_kept, founded, is_whole, text_stands, with_item, with_text}
use Rattle.store_kept.specs.Kept.{Kept, new_desk}
use Rattle.cycle_rules.specs.Cutting.{cut}
use Rattle.house_text.specs.Beginning.{can_begin}
use Rattle.desk_journal.specs.Formed.{is_formed, is_spelled}

-- ---- as far as it was read

-- the house and the configuration of the Format, and the base, where there is one
pub record Fore : Type 0 where
  pub house : House
  pub opening : Conf
  pub based : Option Based

-- ---- one more record

-- whether a Kept can stand: its item is well formed, and can be kept behind the base
abbrev pub kept_stands : House → Based → Item → Bool
kept_stands house b i = is_formed house i && can_be_kept b i

-- the base behind a Base, which is the second record; and behind a Text and behind a Kept, where there is one
abbrev pub after_base : Fore → JournalRecord → Based → Option Based
after_base f what b = if is_spelled what && is_none f.based && base_stands f.house b then Some b else None

abbrev pub after_text : JournalRecord → Body → List ℕ → Based → Option Based
after_text what body text b = if is_spelled what && text_stands b body then Some (with_text b body text) else None

abbrev pub after_kept_item : House → JournalRecord → Item → Based → Option Based
after_kept_item house what i b = if is_spelled what && kept_stands house b i then Some (with_item b i) else None

-- the same of each record that a journal can open with behind its Format, and none of any other
abbrev pub based_by : Fore → JournalRecord → Option Based
based_by f (BaseRecord next deep conf rows stamps reports) =
    after_base f (BaseRecord next deep conf rows stamps reports) (based_on next deep conf rows stamps reports)
based_by f (TextRecord body text) = option_and_then (after_text (TextRecord body text) body text) f.based
based_by f (KeptRecord i) = option_and_then (after_kept_item f.house (KeptRecord i) i) f.based
based_by f _ = None

-- what was read, with one more record, where it meets its own rules
abbrev pub own : Fore → JournalRecord → Option Fore
own f what = option_map (λ (b : Based). record f { based = Some b }) (based_by f what)

-- ---- all of them

-- the house and the configuration at first, of a Format
abbrev pub format_of : JournalRecord → Option (House × Conf)
format_of (Format house conf) = Some (house, conf)
format_of _ = None

-- what was read with a journal's first record: it is a Format
abbrev pub first_fore : JournalRecord → Option Fore
first_fore what =
    option_and_then (λ (parts : House × Conf). if is_spelled what && can_begin parts.0 parts.1 then Some (record { house = parts.0; opening = parts.1; based = None }) else None) (format_of what)

-- and with more records, each of which meets its own rules
abbrev pub fore_after : Fore → List JournalRecord → Option Fore
fore_after f [] = Some f
fore_after f (r ∷ rs) = option_and_then (λ next. fore_after next rs) (own f r)

abbrev pub fore_of : List JournalRecord → Option Fore
fore_of [] = None
fore_of (r ∷ rs) = option_and_then (λ f. fore_after f rs) (first_fore r)

-- ---- what they leave

-- what is kept behind the records that a journal opens with, where they can stand: without a Base nothing was done yet
abbrev pub settled_by : House → Conf → Option Based → Option Kept
settled_by house opening None = Some (new_desk house opening)
settled_by house opening (Some b) = if is_whole house b then Some (founded house opening b) else None

abbrev pub settled : Fore → Option Kept
settled f = settled_by f.house f.opening f.based

-- ---- the front of a journal

-- whether a record goes on with what a journal opens with: such a one can stand nowhere else
abbrev pub goes_on : JournalRecord → Bool
goes_on (BaseRecord next deep conf rows stamps reports) = true
goes_on (TextRecord body text) = true
goes_on (KeptRecord i) = true
goes_on _ = false

-- the first records, as long as they go on, and those behind them
abbrev pub while_on : List JournalRecord → List JournalRecord
while_on [] = []
while_on (r ∷ rs) = if goes_on r then r ∷ while_on rs else []

abbrev pub when_over : List JournalRecord → List JournalRecord
when_over [] = []
when_over (r ∷ rs) = if goes_on r then when_over rs else r ∷ rs

-- the records that a journal opens with, which are judged as one: its first, and those that go on behind it
abbrev pub front : List JournalRecord → List JournalRecord
front [] = []
front (r ∷ rs) = r ∷ while_on rs

-- those behind them, each of which is judged by what the ones before it left
abbrev pub behind : List JournalRecord → List JournalRecord
behind [] = []
behind (r ∷ rs) = when_over rs

-- whether records stand behind a front: the first of them does not go on with it
abbrev pub is_behind : List JournalRecord → Bool
is_behind [] = true
is_behind (r ∷ rs) = not (goes_on r)

-- what the records of a front leave, where they can stand
abbrev pub opening_state : List JournalRecord → Option Kept
opening_state records = option_and_then settled (fore_of records)

-- ---- the records of a cut

-- the records that a journal opens with of what is kept behind a base: the house and the configuration at first, the base, the texts
-- that come with it, and the items
abbrev pub founding_records : Kept → List JournalRecord
founding_records s =
    Format s.house s.opening ∷ BaseRecord s.next s.deep s.base.conf s.base.boxes s.stamps s.reports
    ∷ (map (λ (t : Body × List ℕ). TextRecord t.0 t.1) s.texts ++ map KeptRecord s.timeline)

-- the records of a cut at a place of the timeline
abbrev pub cut_records : Kept → ℕ → List JournalRecord
cut_records s place = founding_records (cut s place)
