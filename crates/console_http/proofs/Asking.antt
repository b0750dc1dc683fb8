-- What the bytes ask, by the request that they are.
use Rattle.std.proofs.Common.{ℕ, List, Option, Some, None}
use Rattle.std.specs.Prelude.{Result, Ok, Err, IfNone, option_map}
use Rattle.verb_core.specs.declared.conf.House.{House}
use Rattle.console_head.specs.Request.{Request, Says}
use Rattle.console_head.specs.declared.request.HeadRefused.{HeadRefused}
use Rattle.console_head.specs.declared.request.HeadRefused.TheVariants.{Head as BadHead, Size as TooLarge}
use Rattle.console_http.specs.declared.request.Asked.{Asked}
use Rattle.console_http.specs.declared.request.Asked.TheVariants.{NotYet, Whole}
use Rattle.console_http.specs.declared.request.HttpRefused.{HttpRefused}
use Rattle.console_http.specs.declared.request.HttpRefused.TheVariants.{Head, Size, Route, Json, NoMemory}
use Rattle.console_head.specs.declared.request.Request.{Request as Parts}
use Rattle.console_head.specs.declared.request.Coming.{Coming}
use Rattle.console_head.specs.Coming.{HasLearnt}
use Rattle.console_head.specs.Seen.{parts_seen}
use Rattle.console_http.specs.Requests.{Asks, AsksOf, Learns, told_of}

pub asks_of : (house : House) (bytes : List ℕ) (o : Option Request) (r : Result Asked HttpRefused) → Says bytes (Ok o) → AsksOf house o r → Asks house bytes r
asks_of house bytes None (Ok NotYet) says e = says
asks_of house bytes None (Ok (Whole route)) says e = absurd e
asks_of house bytes None (Err x) says e = absurd e
asks_of house bytes (Some q) (Ok NotYet) says e = absurd e
asks_of house bytes (Some q) (Ok (Whole route)) says e = record { request = q; says = says; route = e }
asks_of house bytes (Some q) (Err Head) says e = absurd e
asks_of house bytes (Some q) (Err Size) says e = absurd e
asks_of house bytes (Some q) (Err Route) says e = record { request = q; says = says; route = e }
asks_of house bytes (Some q) (Err Json) says e = record { request = q; says = says; route = e }
asks_of house bytes (Some q) (Err NoMemory) says e = record { request = q; says = says }

pub asks_refused : (house : House) (bytes : List ℕ) (e : HeadRefused) → Says bytes (Err e) → Asks house bytes (Err (told_of e))
asks_refused house bytes BadHead says = says
asks_refused house bytes TooLarge says = says

-- what is learnt where no request is there yet
pub learns_of : (house : House) (coming : Coming) (bytes : List ℕ) (o : Option Parts) (r : Result Asked HttpRefused)
    → AsksOf house (option_map parts_seen o) r → IfNone o (HasLearnt coming bytes) → Learns coming bytes r
learns_of house coming bytes None (Ok NotYet) asks learnt = learnt
learns_of house coming bytes None (Ok (Whole route)) asks learnt = tt
learns_of house coming bytes None (Err e) asks learnt = tt
learns_of house coming bytes (Some q) (Ok NotYet) asks learnt = absurd asks
learns_of house coming bytes (Some q) (Ok (Whole route)) asks learnt = tt
learns_of house coming bytes (Some q) (Err e) asks learnt = tt
