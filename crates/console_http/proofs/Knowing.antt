-- What is made of a request: each act and each cycle that it asks for names known users, and has a spelling as a record.
use Rattle.std.proofs.Common.{ℕ, ◌≤◌, true, false, List, [], ◌∷◌, length, drop, Option, Some, None, refl, subst}
use Rattle.std.specs.Prelude.{Result, Ok, Err, IsTrue, option_and_then, option_map, if◌then◌else◌}
use Rattle.std.specs.List.{AllByRecursion, list_all, after_first, before_first}
use Rattle.std.specs.Str.{bytes_eq}
use Rattle.undo_base.specs.declared.keys.User.{User}
use Rattle.undo_base.specs.Name.{IsName}
use Rattle.serde_json.specs.Data.{Data}
use Rattle.verb_core.specs.declared.conf.House.{House}
use Rattle.verb_core.specs.declared.item.Act.{Act}
use Rattle.verb_core.specs.declared.item.Act.TheVariants.{SetAlias, DropAlias, SetFilter, DropFilter, Remove, Give}
use Rattle.verb_core.specs.declared.item.Deed.TheVariants.{Act as Acts}
use Rattle.verb_core.specs.Items.{users_in}
use Rattle.verb_core.specs.Recipients.{user_named}
use Rattle.verb_core.specs.Store.{is_house, is_known}
use Rattle.verb_bytes.specs.declared.journal.CycleAsk.{CycleAsk}
use Rattle.verb_bytes.proofs.AskedRanges.{withdraw_is_spelled}
use Rattle.console_head.specs.Request.{Request}
use Rattle.console_http.specs.declared.pages.Page.{Page}
use Rattle.console_http.specs.declared.pages.Page.TheVariants as page
use Rattle.console_http.specs.declared.request.Asked.{Asked}
use Rattle.console_http.specs.declared.request.Asked.TheVariants.{NotYet, Whole}
use Rattle.console_http.specs.declared.request.HttpRefused.{HttpRefused}
use Rattle.console_http.specs.declared.request.HttpRefused.TheVariants.{Route}
use Rattle.console_http.specs.declared.request.Route.{Route as Taken}
use Rattle.console_http.specs.declared.request.Route.TheVariants as route
use Rattle.console_http.specs.Parts.{box_name, is_slash, part_of}
use Rattle.console_http.specs.Members.{has_members, value_of}
use Rattle.console_http.specs.Acts.{act_in}
use Rattle.console_http.specs.Cycles.{cycle_in, try_in, withdraw_in}
use Rattle.console_http.specs.Routes.{Choice, alone, asked_plainly, box_in, front_of, method_of, number_in, page_of, route_at, route_on, said, taken}
use Rattle.repair_desk.specs.Repairs.{are_known}
use Rattle.console_http.specs.Requests.{AskKnows, AskRecords, Asks, IsRecordable, KnowsUsers}
use Rattle.console_http.proofs.Bodies.{request_fits}
use Rattle.console_http.proofs.Each.{Each, Anything, anything, each_then, each_map, each_if}
use Rattle.console_http.proofs.Made.{IsMade, IsAsk, IsWithdrawal, act_in_made, cycle_in_made, try_in_made, withdraw_in_made}
use Rattle.console_http.proofs.Recording.{act_recorded, ask_recorded}

-- ---- what a route is made of

abbrev MadeOf : House → Taken → Type 0
MadeOf house route.Status = Unit {0}
MadeOf house (route.Timeline start) = Unit {0}
MadeOf house (route.Box user name) = Unit {0}
MadeOf house (route.Body number) = Unit {0}
MadeOf house route.Conf = Unit {0}
MadeOf house (route.Plan point) = Unit {0}
MadeOf house (route.Act act) = IsMade house act
MadeOf house (route.Cycle ask) = IsAsk house ask
MadeOf house (route.Try ask) = IsAsk house ask
MadeOf house route.Snapshot = Unit {0}
MadeOf house route.Stop = Unit {0}
MadeOf house route.Upgrade = Unit {0}
MadeOf house (route.Withdraw key of) = IsName key × (of ≤ 4294967295)

abbrev ChoiceMade : House → Choice → Type 0
ChoiceMade house (Ok route) = MadeOf house route
ChoiceMade house (Err e) = Unit {0}

alone_made : (house : House) (choice : Choice) (parts : List ℕ) → ChoiceMade house choice → ChoiceMade house (alone choice parts)
alone_made house choice [] h = h
alone_made house choice (b ∷ rest) h = tt

taken_made : (house : House) (o : Option Taken) → Each (MadeOf house) o → ChoiceMade house (taken o)
taken_made house None h = tt
taken_made house (Some route) h = h

said_made : (house : House) (o : Option Taken) → Each (MadeOf house) o → ChoiceMade house (said o)
said_made house None h = tt
said_made house (Some route) h = h

box_made : (house : House) (parts : List ℕ) → Each (MadeOf house) (box_in house parts)
box_made house parts =
    let name = option_and_then box_name (part_of (after_first is_slash parts)) in
    let user = option_and_then (user_named house) (part_of (before_first is_slash parts)) in
    each_then {A = User} Anything (MadeOf house) (λ user. option_map (λ name. route.Box user name) name)
    (λ user h. each_map {A = List ℕ} Anything (MadeOf house) (λ name. route.Box user name) (λ name h. tt) name (anything name))
    user (anything user)

number_made : (house : House) (to : ℕ → Taken) (parts : List ℕ) → ((n : ℕ) → MadeOf house (to n)) → Each (MadeOf house) (option_map to (number_in parts))
number_made house to parts made = each_map {A = ℕ} Anything (MadeOf house) to (λ n h. made n) (number_in parts) (anything (number_in parts))

plainly_made : (house : House) (r : Taken) (body : List ℕ) → MadeOf house r → Each (MadeOf house) (asked_plainly r body)
plainly_made house r [] made = made
plainly_made house r (b ∷ body) made =
    each_then {A = Data} Anything (MadeOf house) (λ d. if has_members 0 d then Some r else None) (λ d h. each_if (MadeOf house) (has_members 0 d) (Some r) made)
    (value_of (b ∷ body)) (anything (value_of (b ∷ body)))

on_page : (house : House) (p : Page) (parts body : List ℕ) → length body ≤ 4194304 → ChoiceMade house (route_on house p parts body)
on_page house page.Status parts body few = alone_made house (Ok route.Status) parts tt
on_page house page.Timeline parts body few = taken_made house _ (number_made house (λ start. route.Timeline start) parts (λ n. tt))
on_page house page.Box parts body few = taken_made house _ (box_made house parts)
on_page house page.Body parts body few = taken_made house _ (number_made house (λ number. route.Body number) parts (λ n. tt))
on_page house page.Conf parts body few = alone_made house (Ok route.Conf) parts tt
on_page house page.Plan parts body few = taken_made house _ (number_made house (λ point. route.Plan point) parts (λ n. tt))
on_page house page.Act parts body few =
    let acts = option_map (λ (act : Act). route.Act act) (act_in house body) in
    alone_made house (said acts) parts (said_made house acts (each_map (IsMade house) (MadeOf house) (λ (act : Act). route.Act act) (λ act h. h) (act_in house body) (act_in_made house body few)))
on_page house page.Cycle parts body few =
    let asks = option_map (λ (ask : CycleAsk). route.Cycle ask) (cycle_in house body) in
    alone_made house (said asks) parts (said_made house asks (each_map (IsAsk house) (MadeOf house) (λ (ask : CycleAsk). route.Cycle ask) (λ ask h. h) (cycle_in house body) (cycle_in_made house body few)))
on_page house page.Try parts body few =
    let asks = option_map (λ (ask : CycleAsk). route.Try ask) (try_in house body) in
    alone_made house (said asks) parts (said_made house asks (each_map (IsAsk house) (MadeOf house) (λ (ask : CycleAsk). route.Try ask) (λ ask h. h) (try_in house body) (try_in_made house body few)))
on_page house page.Snapshot parts body few = alone_made house (Ok route.Snapshot) parts tt
on_page house page.Stop parts body few = alone_made house (Ok route.Stop) parts tt
on_page house page.Upgrade parts body few =
    let asked = asked_plainly route.Upgrade body in
    alone_made house (said asked) parts (said_made house asked (plainly_made house route.Upgrade body tt))
on_page house page.Withdraw parts body few =
    let asked = option_map (λ (a : List ℕ × ℕ). route.Withdraw a.0 a.1) (withdraw_in body) in
    alone_made house (said asked) parts (said_made house asked (each_map IsWithdrawal (MadeOf house) (λ (a : List ℕ × ℕ). route.Withdraw a.0 a.1) (λ a h. h) (withdraw_in body) (withdraw_in_made body)))

at_page : (house : House) (r : Request) (o : Option Page) → length r.body ≤ 4194304 → ChoiceMade house (route_at house r o)
at_page house r None few = tt
at_page house r (Some p) few =
    let parts = drop (length (front_of p)) r.target in
    elim (bytes_eq r.method (method_of p)) as (λ t. ChoiceMade house (if t then route_on house p parts r.body else Err Route)) [
      | true ↦ on_page house p parts r.body few
      | false ↦ tt
    ]

-- ---- who is named

act_knows : (house : House) (act : Act) → IsMade house act → IsTrue (list_all (is_known house) (users_in (Acts act)))
act_knows house (SetAlias local users) made = made.1
act_knows house (DropAlias local) made = refl
act_knows house (SetFilter f) made = refl
act_knows house (DropFilter id) made = refl
act_knows house (Remove u mailbox k) made = rw made.0 refl
act_knows house (Give u mailbox text) made = rw made.0 refl

acts_know : (house : House) (acts : List Act) → AllByRecursion (IsMade house) acts → IsTrue (are_known house acts)
acts_know house [] all = refl
acts_know house (act ∷ acts) all = rw (act_knows house act all.0, acts_know house acts all.1) refl

route_knows : (house : House) (r : Taken) → MadeOf house r → KnowsUsers house r
route_knows house route.Status made = tt
route_knows house (route.Timeline start) made = tt
route_knows house (route.Box user name) made = tt
route_knows house (route.Body number) made = tt
route_knows house route.Conf made = tt
route_knows house (route.Plan point) made = tt
route_knows house (route.Act act) made = act_knows house act made
route_knows house (route.Cycle ask) made = acts_know house ask.inserts made.inserts.each
route_knows house (route.Try ask) made = acts_know house ask.inserts made.inserts.each
route_knows house route.Snapshot made = tt
route_knows house route.Stop made = tt
route_knows house route.Upgrade made = tt
route_knows house (route.Withdraw key of) made = tt

pub ask_knows : (house : House) (bytes : List ℕ) (asked : Result Asked HttpRefused) → Asks house bytes asked → AskKnows house asked
ask_knows house bytes (Ok NotYet) asks = tt
ask_knows house bytes (Ok (Whole route)) asks =
    route_knows house route (subst (ChoiceMade house) asks.route (at_page house asks.request (page_of asks.request.target) (request_fits bytes asks.request asks.says).body))
ask_knows house bytes (Err e) asks = tt

-- ---- what is recorded

route_recorded : (house : House) (number at : ℕ) (r : Taken) → IsTrue (is_house house) → number ≤ 4294967295 → at ≤ 253402300799 → MadeOf house r → IsRecordable number at r
route_recorded house number at route.Status is n t made = tt
route_recorded house number at (route.Timeline start) is n t made = tt
route_recorded house number at (route.Box user name) is n t made = tt
route_recorded house number at (route.Body k) is n t made = tt
route_recorded house number at route.Conf is n t made = tt
route_recorded house number at (route.Plan point) is n t made = tt
route_recorded house number at (route.Act act) is n t made = act_recorded house number at act is n t made
route_recorded house number at (route.Cycle ask) is n t made = ask_recorded house number at ask is n t made
route_recorded house number at (route.Try ask) is n t made = ask_recorded house number at ask is n t made
route_recorded house number at route.Snapshot is n t made = tt
route_recorded house number at route.Stop is n t made = tt
route_recorded house number at route.Upgrade is n t made = tt
route_recorded house number at (route.Withdraw key of) is n t made = withdraw_is_spelled number at key of n t made.0 made.1

pub ask_records : (house : House) (bytes : List ℕ) (asked : Result Asked HttpRefused) (number at : ℕ) → IsTrue (is_house house) → number ≤ 4294967295 → at ≤ 253402300799
    → Asks house bytes asked → AskRecords number at asked
ask_records house bytes (Ok NotYet) number at is n t asks = tt
ask_records house bytes (Ok (Whole route)) number at is n t asks =
    route_recorded house number at route is n t (subst (ChoiceMade house) asks.route (at_page house asks.request (page_of asks.request.target) (request_fits bytes asks.request asks.says).body))
ask_records house bytes (Err e) number at is n t asks = tt
