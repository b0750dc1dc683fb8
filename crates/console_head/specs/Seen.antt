-- What contracts see of a request.
use Rattle.std.specs.Prelude.{◌≡◌, ◌⊎◌, ◌≤◌, List, ℕ, map, option_map, Option, Some, Result, Ok, Err}
use Rattle.httparse.specs.Grammar.{RequestHead}
use Rattle.httparse.specs.Spans.{name_and_value}
use Rattle.console_head.specs.declared.request.Request.{Request as Parts}
use Rattle.console_head.specs.declared.request.Announced.{Announced}
use Rattle.console_head.specs.declared.request.TheConstants.{MOST_BODY}
use Rattle.console_head.specs.declared.request.HeadRefused.{HeadRefused}
use Rattle.console_head.specs.declared.request.HeadRefused.TheVariants.{Head as BadHead}
use Rattle.console_head.specs.Lengths.{body_length}
use Rattle.console_head.specs.Request.{Request, Stage, IsWhole, with_body}

-- the request whose parts these are
abbrev pub parts_seen : Parts → Request
parts_seen r = record { method = r.method.now; target = r.target.now; body = r.body.now }

abbrev pub seen : Result (Option Parts) HeadRefused → Stage
seen (Ok request) = Ok (option_map parts_seen request)
seen (Err refused) = Err refused

-- what a head of the grammar announces
pub record IsAnnounced (a : Announced) (h : RequestHead) : Type 0 where
  pub method : a.method.now ≡ h.method
  pub target : a.target.now ≡ h.target
  pub most : a.length ≤ MOST_BODY
  pub length : body_length (map name_and_value h.fields) ≡ Some a.length

-- a text announces what the head does that it is as a whole, or it is refused, whatever follows it
abbrev pub Announces : List ℕ → Result Announced HeadRefused → Type 0
Announces text (Ok a) = (h : RequestHead) × IsWhole text h × IsAnnounced a h
Announces text (Err refused) =
    ((h : RequestHead) × IsWhole text h × ((rest : List ℕ) → with_body h rest ≡ Err refused))
    ⊎ (((h : RequestHead) → ¬ (IsWhole text h)) × (refused ≡ BadHead))
