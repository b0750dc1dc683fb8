-- Each part has a moment that has a date.
use Rattle.std.proofs.Common.{◌≡◌, ℕ, List, All, map, sym, subst}
use Rattle.std.proofs.Math.Nat.{min-le_right}
use Rattle.std.proofs.lemmas.List.Elements.{All-map}
use Rattle.std.specs.Prelude.{slice_index_or}
use Rattle.undo_base.specs.declared.keys.Flags.{Flags}
use Rattle.imap_text.specs.declared.facts.FetchPart.{FetchPart}
use Rattle.imap_text.specs.Answers.{HasDate}
use Rattle.imap_fetch.specs.declared.asked.Attribute.{Attribute}
use Rattle.imap_fetch.specs.declared.asked.Attribute.TheVariants.{Flags as FlagsOf, Uid, InternalDate, Size, Rfc822, Rfc822Header, Rfc822Text, Body}
use Rattle.imap_fetch.specs.declared.messages.Message.{Message}
use Rattle.imap_fetch.specs.Told.{part_of}

-- one part
pub dated_part : (m : Message) (flags : Flags) (text : List ℕ) (a : Attribute) → HasDate (part_of m flags text a)
dated_part m flags text FlagsOf = tt
dated_part m flags text Uid = tt
dated_part m flags text InternalDate = min-le_right m.entry.at 253402300799
dated_part m flags text Size = tt
dated_part m flags text Rfc822 = tt
dated_part m flags text Rfc822Header = tt
dated_part m flags text Rfc822Text = tt
dated_part m flags text (Body section peek) = tt

-- those of a message
pub dated_parts : (m : Message) (flags : Flags) (text : List ℕ) (attributes : List Attribute) (parts : List FetchPart) → parts ≡ map (part_of m flags text) attributes → All HasDate parts
dated_parts m flags text attributes parts is =
    subst (All HasDate) (sym is) (All-map HasDate (part_of m flags text) attributes (λ k d h. dated_part m flags text (slice_index_or attributes k d)))
