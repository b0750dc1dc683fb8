-- What a client is told of messages (RFC 3501, 7.4.2).
use Rattle.std.specs.Prelude.{ℕ, Bool, not, true, ◌&&◌, Option, None, Some, List, [], ◌∷◌, ◌++◌, codes, map, flat_map, min, get_or, if◌then◌else◌}
use Rattle.std.specs.List.{list_any, enumerate_from}
use Rattle.std.specs.Fmt.{decimal}
use Rattle.undo_base.specs.declared.limits.TheConstants.{LAST_MOMENT}
use Rattle.undo_base.specs.declared.keys.Flags.{Flags}
use Rattle.verb_core.specs.Mailboxes.{changed, no_flags}
use Rattle.undo_base.specs.declared.asks.How.TheVariants.{Add}
use Rattle.imap_text.specs.declared.facts.FetchPart.{FetchPart}
use Rattle.imap_text.specs.declared.facts.FetchValue.{FetchValue}
use Rattle.imap_text.specs.declared.facts.FetchValue.TheVariants.{Flags as FlagsValue, Number, Moment, Literal}
use Rattle.undo_base.specs.declared.asks.Section.{Section}
use Rattle.undo_base.specs.declared.asks.Section.TheVariants.{Whole, Header, Text, Fields, NotFields}
use Rattle.undo_base.specs.declared.asks.SectionAsk.{SectionAsk}
use Rattle.mail_sections.specs.Sections.{section_of}
use Rattle.imap_text.specs.Words.{spaced}
use Rattle.imap_text.specs.Answers.{fetch_line}
use Rattle.imap_fetch.specs.declared.asked.Attribute.{Attribute}
use Rattle.imap_fetch.specs.declared.asked.Attribute.TheVariants.{Flags as FlagsOf, Uid, InternalDate, Size, Rfc822, Rfc822Header, Rfc822Text, Body}
use Rattle.imap_fetch.specs.declared.messages.Message.{Message}
use Rattle.imap_fetch.specs.declared.lines.FetchForm.{FetchForm}
use Rattle.imap_fetch.specs.declared.lines.StoreForm.{StoreForm}
use Rattle.imap_fetch.specs.Asked.{is_uid, is_flags}

-- a moment past the year 9999 is told as its last second
abbrev pub dated : ℕ → ℕ
dated at = min at LAST_MOMENT

-- a word and field names
unfoldable pub field_list : List ℕ → List (List ℕ) → List ℕ
field_list word names = word ++ codes " (" ++ spaced names ++ codes ")"

-- the name of a section (RFC 3501, 6.4.5), with field names as they were asked
abbrev pub section_word : Section → List ℕ
section_word Whole = []
section_word Header = codes "HEADER"
section_word Text = codes "TEXT"
section_word (Fields names) = field_list (codes "HEADER.FIELDS") names
section_word (NotFields names) = field_list (codes "HEADER.FIELDS.NOT") names

-- the first place of a part
abbrev pub origin : Option (ℕ × ℕ) → List ℕ
origin None = []
origin (Some (first, n)) = codes "<" ++ decimal first ++ codes ">"

-- the name of a section of a body
abbrev pub body_label : SectionAsk → List ℕ
body_label section = codes "BODY[" ++ section_word section.what ++ codes "]" ++ origin section.part

-- the name of an attribute as it is written: that of BODY.PEEK is BODY
abbrev pub label : Attribute → List ℕ
label FlagsOf = codes "FLAGS"
label Uid = codes "UID"
label InternalDate = codes "INTERNALDATE"
label Size = codes "RFC822.SIZE"
label Rfc822 = codes "RFC822"
label Rfc822Header = codes "RFC822.HEADER"
label Rfc822Text = codes "RFC822.TEXT"
label (Body section peek) = body_label section

-- a section from its first place to its end
abbrev pub all_of : Section → SectionAsk
all_of what = record { what = what; part = None }

-- what is asked of a text, as a literal
abbrev pub literal_of : SectionAsk → List ℕ → FetchValue
literal_of section text = Literal (section_of section text)

-- its value for a message, where these are its flags by now and this is its text
abbrev pub value : Message → Flags → List ℕ → Attribute → FetchValue
value m flags text FlagsOf = FlagsValue flags
value m flags text Uid = Number m.entry.uid
value m flags text InternalDate = Moment (dated m.entry.at)
value m flags text Size = Number m.size
value m flags text Rfc822 = literal_of (all_of Whole) text
value m flags text Rfc822Header = literal_of (all_of Header) text
value m flags text Rfc822Text = literal_of (all_of Text) text
value m flags text (Body section peek) = literal_of section text

abbrev pub part_of : Message → Flags → List ℕ → Attribute → FetchPart
part_of m flags text a = record { label = label a; value = value m flags text a }

-- a message's line, with these of its attributes
abbrev pub line_of : Message → Flags → List ℕ → List Attribute → List ℕ
line_of m flags text attributes = fetch_line m.place (map (part_of m flags text) attributes)

-- an attribute where it is wanted
abbrev pub only_where : Bool → Attribute → List Attribute
only_where b a = if b then a ∷ [] else []

-- whether the FETCH sets \Seen on a message that lacked it
abbrev pub is_newly_seen : FetchForm → Message → Bool
is_newly_seen form m = form.sets_seen && not m.entry.flags.seen

-- whether its UID is told although it was not asked for: in a UID command
abbrev pub adds_uid : FetchForm → Bool
adds_uid form = form.by_uid && not (list_any is_uid form.attributes)

-- whether its flags are told although they were not asked for: where they changed
abbrev pub adds_flags : FetchForm → Message → Bool
adds_flags form m = is_newly_seen form m && not (list_any is_flags form.attributes)

-- its UID first, what was asked for, and its flags last
abbrev pub attributes_told : FetchForm → Message → List Attribute
attributes_told form m = only_where (adds_uid form) Uid ++ form.attributes ++ only_where (adds_flags form m) FlagsOf

-- its flags after the FETCH
abbrev pub flags_fetched : FetchForm → Message → Flags
flags_fetched form m = if form.sets_seen then changed Add (record no_flags { seen = true }) m.entry.flags else m.entry.flags

unfoldable pub fetched_line : FetchForm → Message → List ℕ → List ℕ
fetched_line form m text = line_of m (flags_fetched form m) text (attributes_told form m)

-- the text of the message at a place: no bytes where there is none
abbrev pub text_beside : List (List ℕ) → ℕ → List ℕ
text_beside texts i = get_or texts i []

abbrev pub beside_line : FetchForm → List (List ℕ) → ℕ × Message → List ℕ
beside_line form texts row = fetched_line form row.1 (text_beside texts row.0)

-- the messages in order, each with its text
unfoldable pub fetch_lines : FetchForm → List Message → List (List ℕ) → List ℕ
fetch_lines form rows texts = flat_map (beside_line form texts) (enumerate_from 0 rows)

-- a message's flags after a STORE (RFC 3501, 6.4.6), behind its UID for a UID command
unfoldable pub stored_line : StoreForm → Message → List ℕ
stored_line form m = line_of m (changed form.how form.flags m.entry.flags) [] (only_where form.by_uid Uid ++ FlagsOf ∷ [])

-- the messages in order
unfoldable pub store_lines : StoreForm → List Message → List ℕ
store_lines form rows = flat_map (stored_line form) rows
