-- The parts of a cut: its payloads and the items behind it.
use Rattle.std.proofs.Common.{◌≡◌, ℕ, List, [], ◌∷◌, map, drop, is_some, true, refl, sym, ap, ap₂, subst, ◌∙◌}
use Rattle.std.specs.List.{AllByRecursion}
use Rattle.verb_core.specs.declared.conf.Conf.{Conf}
use Rattle.verb_core.specs.declared.conf.House.{House}
use Rattle.verb_core.specs.declared.item.Act.TheVariants.{Give}
use Rattle.verb_core.specs.declared.item.Deed.{Deed}
use Rattle.verb_core.specs.declared.item.Deed.TheVariants.{Act as Acts}
use Rattle.verb_core.specs.declared.item.Item.{Item}
use Rattle.verb_core.specs.declared.mailbox.BoxId.{BoxId}
use Rattle.verb_core.specs.declared.mailbox.Mailbox.{Mailbox}
use Rattle.verb_core.specs.Deeds.{with_text}
use Rattle.verb_core.specs.Items.{text_in}
use Rattle.verb_core.specs.Store.{MailStore}
use Rattle.verb_bytes.specs.declared.journal.JournalRecord.TheVariants.{Base as BaseRecord, Format}
use Rattle.verb_bytes.specs.Spelling.{HasSpelling, record_bytes}
use Rattle.repair_desk.proofs.Everywhere.{rest_of}
use Rattle.store_kept.specs.Kept.{BaseTexts, Kept}
use Rattle.store_kept.specs.Texts.{all_bodies, has_text_kept, has_text_with, text_kept}
use Rattle.cycle_rules.specs.Cutting.{bodies_of, cut}
use Rattle.mail_desk.specs.Counting.{bare_item}
use Rattle.mail_desk.specs.Timeline.{body_of}
use Rattle.mail_desk.proofs.Going.{own_with}
use Rattle.base_cut.specs.declared.parts.CutParts.{CutParts}
use Rattle.desk_journal.specs.Stored.{store_at}
use Rattle.time_desk.specs.Cutting.{AreParts, bodies_once}
use Rattle.time_desk.proofs.CutBodies.{boxes_told}

-- the payloads, the bodies and the items are those of what is kept, cut there, where the store is that of the items through the place
pub parts_are : (kept : Kept) (place : ℕ) (s : MailStore) (house : House) (opening : Conf) (rows : List (BoxId × Mailbox)) (parts : CutParts)
    → s ≡ store_at kept place → house ≡ kept.house → opening ≡ kept.opening → rows ≡ s.boxes → all_bodies (has_text_kept kept) s.boxes ≡ true
    → parts.head ≡ record_bytes (Format house opening) → HasSpelling (Format house opening)
    → parts.base ≡ record_bytes (BaseRecord kept.next kept.deep s.conf rows kept.stamps kept.reports) → HasSpelling (BaseRecord kept.next kept.deep s.conf rows kept.stamps kept.reports)
    → parts.bodies ≡ bodies_once (bodies_of rows) → parts.kept ≡ map bare_item (drop place kept.timeline) → AreParts (cut kept place) parts
parts_are kept place s house opening rows parts store_is house_is opening_is rows_are texts head head_spelled base base_spelled bodies items =
    let boxes : rows ≡ (store_at kept place).boxes = rows_are ∙ ap (λ (t : MailStore). t.boxes) store_is in
    let conf : s.conf ≡ (store_at kept place).conf = ap (λ (t : MailStore). t.conf) store_is in
    let formats : Format house opening ≡ Format kept.house kept.opening = ap₂ Format house_is opening_is in
    let bases : BaseRecord kept.next kept.deep s.conf rows kept.stamps kept.reports ≡ BaseRecord kept.next kept.deep (store_at kept place).conf (store_at kept place).boxes kept.stamps kept.reports =
    ap₂ (λ (c : Conf) (bs : List (BoxId × Mailbox)). BaseRecord kept.next kept.deep c bs kept.stamps kept.reports) conf boxes in
    record {
      head = head ∙ ap record_bytes formats;
      base = base ∙ ap record_bytes bases;
      bodies = bodies ∙ ap (λ (bs : List (BoxId × Mailbox)). bodies_once (bodies_of bs)) boxes
          ∙ boxes_told (text_kept kept) (store_at kept place).boxes (subst (λ (t : MailStore). all_bodies (has_text_kept kept) t.boxes ≡ true) store_is texts);
      kept_are = items;
      head_spelled = subst HasSpelling formats head_spelled;
      base_spelled = subst HasSpelling bases base_spelled;
    }

-- ---- the texts of the items behind it

some_bare : (d : Deed) → is_some (text_in (with_text [] d)) ≡ is_some (text_in d)
some_bare (Acts (Give v mailbox text)) = refl
some_bare d = refl

bare_own : (texts : BaseTexts) (all t : List Item) → AllByRecursion (λ (i : Item). is_some (text_in i.deed) ≡ true → has_text_with texts all (body_of i) ≡ true) t
    → AllByRecursion (λ (i : Item). is_some (text_in i.deed) ≡ true → has_text_with texts all (body_of i) ≡ true) (map bare_item t)
bare_own texts all [] own = tt
bare_own texts all (i ∷ t) own = (λ some. own.0 (sym (some_bare i.deed) ∙ some), bare_own texts all t own.1)

-- each of them that has a text has one that is kept
pub bare_kept : (kept : Kept) (place : ℕ) → AllByRecursion (λ (i : Item). is_some (text_in i.deed) ≡ true → has_text_kept kept (body_of i) ≡ true) (map bare_item (drop place kept.timeline))
bare_kept kept place =
    bare_own kept.texts kept.timeline (drop place kept.timeline)
    (rest_of (λ (i : Item). is_some (text_in i.deed) ≡ true → has_text_with kept.texts kept.timeline (body_of i) ≡ true) place kept.timeline (own_with kept.texts kept.timeline))
