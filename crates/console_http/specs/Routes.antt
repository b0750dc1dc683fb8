-- Which route a request takes.
use Rattle.std.specs.Prelude.{ℕ, List, [], ◌∷◌, length, drop, find, nat_eq, codes, Option, Some, None, Ok, Err, Result, option_and_then, option_map, if◌then◌else◌}
use Rattle.std.specs.List.{starts_with, before_first, after_first}
use Rattle.std.specs.Str.{bytes_eq}
use Rattle.verb_core.specs.declared.conf.House.{House}
use Rattle.verb_core.specs.Recipients.{user_named}
use Rattle.console_head.specs.Request.{Request}
use Rattle.console_http.specs.declared.pages.Page.{Page}
use Rattle.console_http.specs.declared.pages.Page.TheVariants as page
use Rattle.console_http.specs.declared.request.Route.{Route as Taken}
use Rattle.console_http.specs.declared.request.Route.TheVariants.{Status, Timeline, Box, Body, Conf, Plan, Act, Cycle, Try, Snapshot, Stop, Upgrade, Withdraw}
use Rattle.console_http.specs.declared.request.HttpRefused.{HttpRefused}
use Rattle.console_http.specs.declared.request.HttpRefused.TheVariants.{Route, Json}
use Rattle.console_http.specs.Parts.{part_of, number32, box_name, is_slash}
use Rattle.console_http.specs.Members.{has_members, value_of}
use Rattle.console_http.specs.Acts.{act_in}
use Rattle.console_http.specs.Cycles.{cycle_in, try_in, withdraw_in}

-- what stands before the parts of a page's path
abbrev pub front_of : Page → List ℕ
front_of page.Status = codes "/status"
front_of page.Timeline = codes "/timeline/"
front_of page.Box = codes "/box/"
front_of page.Body = codes "/body/"
front_of page.Conf = codes "/conf"
front_of page.Plan = codes "/plan/"
front_of page.Act = codes "/act"
front_of page.Cycle = codes "/cycle"
front_of page.Try = codes "/try"
front_of page.Snapshot = codes "/snapshot"
front_of page.Stop = codes "/stop"
front_of page.Upgrade = codes "/upgrade"
front_of page.Withdraw = codes "/withdraw"

abbrev pub all_pages : List Page
all_pages = page.Status ∷ page.Timeline ∷ page.Box ∷ page.Body ∷ page.Conf ∷ page.Plan ∷ page.Act ∷ page.Cycle ∷ page.Try ∷ page.Snapshot ∷ page.Stop ∷ page.Upgrade
    ∷ page.Withdraw ∷ []

-- the page whose front the path has
abbrev pub page_of : List ℕ → Option Page
page_of path = find (λ page. starts_with nat_eq path (front_of page)) all_pages

abbrev pub method_of : Page → List ℕ
method_of page.Status = codes "GET"
method_of page.Timeline = codes "GET"
method_of page.Box = codes "GET"
method_of page.Body = codes "GET"
method_of page.Conf = codes "GET"
method_of page.Plan = codes "GET"
method_of page.Act = codes "POST"
method_of page.Cycle = codes "POST"
method_of page.Try = codes "POST"
method_of page.Snapshot = codes "POST"
method_of page.Stop = codes "POST"
method_of page.Upgrade = codes "POST"
method_of page.Withdraw = codes "POST"

abbrev pub Choice : Type 0
Choice = Result Taken HttpRefused

abbrev pub taken : Option Taken → Choice
taken None = Err Route
taken (Some route) = Ok route

-- a path that has no parts
abbrev pub alone : Choice → List ℕ → Choice
alone choice [] = choice
alone choice (b ∷ rest) = Err Route

-- a path with one number
abbrev pub number_in : List ℕ → Option ℕ
number_in raw = option_and_then number32 (part_of raw)

-- a user and the name of a mailbox
abbrev pub box_in : House → List ℕ → Option Taken
box_in house raw =
    option_and_then (λ user. option_map (λ name. Box user name) (option_and_then box_name (part_of (after_first is_slash raw))))
    (option_and_then (user_named house) (part_of (before_first is_slash raw)))

-- what a body asks for
abbrev pub said : Option Taken → Choice
said None = Err Json
said (Some route) = Ok route

-- what a body without a member asks for: no octet, or an object of none
abbrev pub asked_plainly : Taken → List ℕ → Option Taken
asked_plainly route [] = Some route
asked_plainly route (b ∷ body) = option_and_then (λ d. if has_members 0 d then Some route else None) (value_of (b ∷ body))

-- the route of a page, by the parts of its path and the body
abbrev pub route_on : House → Page → List ℕ → List ℕ → Choice
route_on house page.Status parts body = alone (Ok Status) parts
route_on house page.Timeline parts body = taken (option_map (λ start. Timeline start) (number_in parts))
route_on house page.Box parts body = taken (box_in house parts)
route_on house page.Body parts body = taken (option_map (λ number. Body number) (number_in parts))
route_on house page.Conf parts body = alone (Ok Conf) parts
route_on house page.Plan parts body = taken (option_map (λ point. Plan point) (number_in parts))
route_on house page.Act parts body = alone (said (option_map (λ act. Act act) (act_in house body))) parts
route_on house page.Cycle parts body = alone (said (option_map (λ ask. Cycle ask) (cycle_in house body))) parts
route_on house page.Try parts body = alone (said (option_map (λ ask. Try ask) (try_in house body))) parts
route_on house page.Snapshot parts body = alone (Ok Snapshot) parts
route_on house page.Stop parts body = alone (Ok Stop) parts
route_on house page.Upgrade parts body = alone (said (asked_plainly Upgrade body)) parts
route_on house page.Withdraw parts body = alone (said (option_map (λ (asked : List ℕ × ℕ). Withdraw asked.0 asked.1) (withdraw_in body))) parts

abbrev pub route_at : House → Request → Option Page → Choice
route_at house r None = Err Route
route_at house r (Some page) = if bytes_eq r.method (method_of page) then route_on house page (drop (length (front_of page)) r.target) r.body else Err Route

-- the route that a request takes, or why it takes none
abbrev pub route_of : House → Request → Choice
route_of house r = route_at house r (page_of r.target)
