-- Transcripts of what was sent over a link.
use Rattle.std.specs.Prelude.{ℕ, ◌-◌, List, [], ◌∷◌, ◌++◌, length, take, nat_eq, codes, decimal, if◌then◌else◌}
use Rattle.std.specs.List.{flat_map, ends_with}
use Rattle.undo_base.specs.LineEnd.{crlf}
use Rattle.undo_outside.specs.declared.event.LinkNote.{LinkNote}
use Rattle.undo_outside.specs.declared.event.LinkNote.TheVariants.{Came, Sent, Missed, Closed}
use Rattle.script_link.specs.Pieces.{pieces_of}
use Rattle.script_link.specs.Texts.{spelled}

abbrev pub lf : List ℕ
lf = 10 ∷ []

-- a piece that ends in CRLF, without it, or any other piece, as bytes are written
abbrev pub piece_text : ℕ → List ℕ → List ℕ
piece_text conn piece =
    if ends_with nat_eq piece crlf then decimal conn ++ codes "< " ++ flat_map spelled (take (length piece - 2) piece) ++ lf
    else decimal conn ++ codes "+ " ++ flat_map spelled piece ++ lf

-- what is written of a note
abbrev pub note_text : LinkNote → List ℕ
note_text (Came event) = []
note_text (Sent conn bytes) = flat_map (piece_text conn) (pieces_of bytes)
note_text (Missed conn bytes) = []
note_text (Closed conn) = decimal conn ++ codes " closed" ++ lf

abbrev pub transcript_of : List LinkNote → List ℕ
transcript_of notes = flat_map note_text notes
