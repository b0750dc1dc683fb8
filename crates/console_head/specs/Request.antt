-- What the bytes of a connection are: a request, not yet one, or refused.
use Rattle.std.specs.Prelude.{◌≡◌, ◌⊎◌, ℕ, Bool, true, false, List, [], length, take, drop, map, nat_lt, Option, Some, None, Result, Ok, Err, if◌then◌else◌}
use Rattle.httparse.specs.Grammar.{RequestHead, ReadsRequest}
use Rattle.httparse.specs.Spans.{name_and_value}
use Rattle.console_head.specs.declared.lines.Head.{Head}
use Rattle.console_head.specs.declared.request.TheConstants.{MOST_BODY}
use Rattle.console_head.specs.declared.request.HeadRefused.{HeadRefused}
use Rattle.console_head.specs.declared.request.HeadRefused.TheVariants.{Head as BadHead, Size}
use Rattle.console_head.specs.Lines.{head_of}
use Rattle.console_head.specs.Lengths.{body_length}

-- a request, as far as the bytes alone decide
pub record Request : Type 0 where
  pub method : List ℕ
  pub target : List ℕ
  pub body : List ℕ

-- a request, or none yet, or why it is refused
abbrev pub Stage : Type 0
Stage = Result (Option Request) HeadRefused

-- the bytes are, as a whole, this head of the grammar
abbrev pub IsWhole : List ℕ → RequestHead → Type 0
IsWhole text h = ReadsRequest text h []

-- a head whose body has so many octets, and what follows the head
abbrev pub with_length : RequestHead → List ℕ → Option ℕ → Stage
with_length h rest None = Err BadHead
with_length h rest (Some n) =
    if nat_lt MOST_BODY n then Err Size
    else (if nat_lt (length rest) n then Ok None
    else Ok (Some (record { method = h.method; target = h.target; body = take n rest })))

-- a head of the grammar, and what follows it
abbrev pub with_body : RequestHead → List ℕ → Stage
with_body h rest = with_length h rest (body_length (map name_and_value h.fields))

-- what is a head by its lines is one of the grammar, or it is refused
abbrev pub SaysHead : List ℕ → List ℕ → Stage → Type 0
SaysHead text rest stage =
    ((h : RequestHead) × IsWhole text h × (stage ≡ with_body h rest))
    ⊎ (((h : RequestHead) → ¬ (IsWhole text h)) × (stage ≡ Err BadHead))

-- a head that has more than 64 header lines, or any other
abbrev pub SaysFields : Bool → List ℕ → List ℕ → Stage → Type 0
SaysFields true text rest stage = stage ≡ Err Size
SaysFields false text rest stage = SaysHead text rest stage

-- what the bytes are, by the head that their first 16,384 hold
abbrev pub SaysBy : List ℕ → Option Head → Stage → Type 0
SaysBy bytes None stage = stage ≡ (if nat_lt (length bytes) 16384 then Ok None else Err Size)
SaysBy bytes (Some head) stage = SaysFields (nat_lt 64 head.fields) (take head.size bytes) (drop head.size bytes) stage

-- what the bytes of a connection are
abbrev pub Says : List ℕ → Stage → Type 0
Says bytes stage = SaysBy bytes (head_of (take 16384 bytes)) stage
