-- What the console answers to the bytes of a connection, as far as no store is needed.
use Rattle.std.specs.Prelude.{◌≡◌, List, ℕ, Option, Some, None, Result, Ok, Err, IsTrue}
use Rattle.std.specs.List.{list_all}
use Rattle.verb_core.specs.declared.conf.House.{House}
use Rattle.verb_core.specs.declared.item.Deed.TheVariants.{Act as Acts}
use Rattle.verb_core.specs.Items.{users_in}
use Rattle.verb_core.specs.Store.{is_known}
use Rattle.verb_bytes.specs.Spelling.{HasSpelling}
use Rattle.verb_bytes.specs.declared.journal.JournalRecord.TheVariants.{Operator, Cycle, Withdraw}
use Rattle.repair_desk.specs.Repairs.{are_known}
use Rattle.console_head.specs.Request.{Request, Says}
use Rattle.console_head.specs.declared.request.HeadRefused.{HeadRefused}
use Rattle.console_head.specs.declared.request.HeadRefused.TheVariants.{Head as BadHead, Size as TooLarge}
use Rattle.console_head.specs.declared.request.Coming.{Coming}
use Rattle.console_head.specs.Coming.{HasLearnt}
use Rattle.console_http.specs.declared.request.Asked.{Asked}
use Rattle.console_http.specs.declared.request.Asked.TheVariants.{NotYet, Whole}
use Rattle.console_http.specs.declared.request.HttpRefused.{HttpRefused}
use Rattle.console_http.specs.declared.request.HttpRefused.TheVariants.{Head, Size, Route, Json, NoMemory}
use Rattle.console_http.specs.declared.request.Route.{Route as Taken}
use Rattle.console_http.specs.declared.request.Route.TheVariants as route
use Rattle.console_http.specs.Routes.{Choice, route_of}

-- the route that is due is found, or why there is none, or no memory
abbrev pub Found : Choice → Choice → Type 0
Found due (Ok route) = due ≡ Ok route
Found due (Err Head) = ⊥
Found due (Err Size) = ⊥
Found due (Err Route) = due ≡ Err Route
Found due (Err Json) = due ≡ Err Json
Found due (Err NoMemory) = Unit {0}

abbrev pub told_of : HeadRefused → HttpRefused
told_of BadHead = Head
told_of TooLarge = Size

-- what is asked by a request, or by none yet
abbrev pub AsksOf : House → Option Request → Result Asked HttpRefused → Type 0
AsksOf house None (Ok NotYet) = Unit {0}
AsksOf house None (Ok (Whole route)) = ⊥
AsksOf house None (Err e) = ⊥
AsksOf house (Some r) (Ok NotYet) = ⊥
AsksOf house (Some r) (Ok (Whole route)) = route_of house r ≡ Ok route
AsksOf house (Some r) (Err Head) = ⊥
AsksOf house (Some r) (Err Size) = ⊥
AsksOf house (Some r) (Err Route) = route_of house r ≡ Err Route
AsksOf house (Some r) (Err Json) = route_of house r ≡ Err Json
AsksOf house (Some r) (Err NoMemory) = Unit {0}

-- the bytes are a request, and this is its route, or why it has none
pub record Chooses (house : House) (bytes : List ℕ) (choice : Choice) : Type 0 where
  pub request : Request
  pub says : Says bytes (Ok (Some request))
  pub route : route_of house request ≡ choice

-- the bytes are a request, for which no memory was found
pub record FindsNone (bytes : List ℕ) : Type 0 where
  pub request : Request
  pub says : Says bytes (Ok (Some request))

-- what is asked, or the first refusal that holds; no memory is wanted for anything but a request
abbrev pub Asks : House → List ℕ → Result Asked HttpRefused → Type 0
Asks house bytes (Ok NotYet) = Says bytes (Ok None)
Asks house bytes (Ok (Whole route)) = Chooses house bytes (Ok route)
Asks house bytes (Err Head) = Says bytes (Err BadHead)
Asks house bytes (Err Size) = Says bytes (Err TooLarge)
Asks house bytes (Err Route) = Chooses house bytes (Err Route)
Asks house bytes (Err Json) = Chooses house bytes (Err Json)
Asks house bytes (Err NoMemory) = FindsNone bytes

-- bytes that are not yet a request have been looked at, or more are known to be wanted
abbrev pub Learns : Coming → List ℕ → Result Asked HttpRefused → Type 0
Learns coming bytes (Ok NotYet) = HasLearnt coming bytes
Learns coming bytes (Ok (Whole route)) = Unit {0}
Learns coming bytes (Err e) = Unit {0}

-- an act, and the acts of a cycle, name no other users than those of the house
abbrev pub KnowsUsers : House → Taken → Type 0
KnowsUsers house route.Status = Unit {0}
KnowsUsers house (route.Timeline start) = Unit {0}
KnowsUsers house (route.Box user name) = Unit {0}
KnowsUsers house (route.Body number) = Unit {0}
KnowsUsers house route.Conf = Unit {0}
KnowsUsers house (route.Plan point) = Unit {0}
KnowsUsers house (route.Act act) = IsTrue (list_all (is_known house) (users_in (Acts act)))
KnowsUsers house (route.Cycle ask) = IsTrue (are_known house ask.inserts)
KnowsUsers house (route.Try ask) = IsTrue (are_known house ask.inserts)
KnowsUsers house route.Snapshot = Unit {0}
KnowsUsers house route.Stop = Unit {0}
KnowsUsers house route.Upgrade = Unit {0}
KnowsUsers house (route.Withdraw key of) = Unit {0}

abbrev pub AskKnows : House → Result Asked HttpRefused → Type 0
AskKnows house (Ok NotYet) = Unit {0}
AskKnows house (Ok (Whole route)) = KnowsUsers house route
AskKnows house (Err e) = Unit {0}

-- the record of what is asked has a spelling, under a number and at a moment
abbrev pub IsRecordable : ℕ → ℕ → Taken → Type 0
IsRecordable number at route.Status = Unit {0}
IsRecordable number at (route.Timeline start) = Unit {0}
IsRecordable number at (route.Box user name) = Unit {0}
IsRecordable number at (route.Body n) = Unit {0}
IsRecordable number at route.Conf = Unit {0}
IsRecordable number at (route.Plan point) = Unit {0}
IsRecordable number at (route.Act act) = HasSpelling (Operator number at act)
IsRecordable number at (route.Cycle ask) = HasSpelling (Cycle number at ask)
IsRecordable number at (route.Try ask) = HasSpelling (Cycle number at ask)
IsRecordable number at route.Snapshot = Unit {0}
IsRecordable number at route.Stop = Unit {0}
IsRecordable number at route.Upgrade = Unit {0}
IsRecordable number at (route.Withdraw key of) = HasSpelling (Withdraw number at key of)

abbrev pub AskRecords : ℕ → ℕ → Result Asked HttpRefused → Type 0
AskRecords number at (Ok NotYet) = Unit {0}
AskRecords number at (Ok (Whole route)) = IsRecordable number at route
AskRecords number at (Err e) = Unit {0}
