-- The rows of the router, one a page: the first token that differs decides their order.
use Rattle.std.specs.Prelude.{ℕ, ◌<◌, get_or, Bool, true, false, nat_eq, if◌then◌else◌, List, [], ◌∷◌, ◌++◌, codes, Option, Some, Err, option_map}
use Rattle.std.specs.List.{starts_with}
use Rattle.verb_core.specs.declared.conf.House.{House}
use Rattle.matchit.specs.Router.{RouteOf}
use Rattle.matchit.specs.Rows.{RowsOf, param_token, catch_all_token}
use Rattle.matchit.specs.Seek.{first}
use Rattle.console_head.specs.Request.{Request}
use Rattle.console_http.specs.declared.pages.Page.{Page}
use Rattle.console_http.specs.declared.pages.Page.TheVariants as page
use Rattle.console_http.specs.declared.request.HttpRefused.TheVariants.{Route}
use Rattle.console_http.specs.Routes.{Choice, front_of, route_at}

-- a page's route as it is written
abbrev pub text_of : Page → List ℕ
text_of page.Status = codes "/status"
text_of page.Timeline = codes "/timeline/{start}"
text_of page.Box = codes "/box/{*mailbox}"
text_of page.Body = codes "/body/{number}"
text_of page.Conf = codes "/conf"
text_of page.Plan = codes "/plan/{point}"
text_of page.Act = codes "/act"
text_of page.Cycle = codes "/cycle"
text_of page.Try = codes "/try"
text_of page.Snapshot = codes "/snapshot"
text_of page.Stop = codes "/stop"
text_of page.Upgrade = codes "/upgrade"
text_of page.Withdraw = codes "/withdraw"

-- its tokens: bytes, and what takes the rest of a path or a part of it
abbrev pub pattern_of : Page → List ℕ
pattern_of page.Status = codes "/status"
pattern_of page.Timeline = codes "/timeline/" ++ param_token ∷ []
pattern_of page.Box = codes "/box/" ++ catch_all_token ∷ []
pattern_of page.Body = codes "/body/" ++ param_token ∷ []
pattern_of page.Conf = codes "/conf"
pattern_of page.Plan = codes "/plan/" ++ param_token ∷ []
pattern_of page.Act = codes "/act"
pattern_of page.Cycle = codes "/cycle"
pattern_of page.Try = codes "/try"
pattern_of page.Snapshot = codes "/snapshot"
pattern_of page.Stop = codes "/stop"
pattern_of page.Upgrade = codes "/upgrade"
pattern_of page.Withdraw = codes "/withdraw"

-- a page whose path has no parts
abbrev pub is_alone : Page → Bool
is_alone page.Timeline = false
is_alone page.Box = false
is_alone page.Body = false
is_alone page.Plan = false
is_alone p = true

-- where the name of its parameter stands in its text
abbrev pub names_of : Page → List (ℕ × ℕ)
names_of page.Status = []
names_of page.Timeline = (11, 16) ∷ []
names_of page.Box = (7, 14) ∷ []
names_of page.Body = (7, 13) ∷ []
names_of page.Conf = []
names_of page.Plan = (7, 12) ∷ []
names_of page.Act = []
names_of page.Cycle = []
names_of page.Try = []
names_of page.Snapshot = []
names_of page.Stop = []
names_of page.Upgrade = []
names_of page.Withdraw = []

abbrev pub entry_of : Page → RouteOf Page
entry_of page = record { pattern = pattern_of page; text = text_of page; names = names_of page; value = page }

abbrev pub row_of : Page → List ℕ × RouteOf Page
row_of page = (pattern_of page, entry_of page)

-- ---- the rows as they come in

abbrev pub acting_rows : RowsOf (RouteOf Page)
acting_rows = row_of page.Act ∷ row_of page.Cycle ∷ row_of page.Snapshot ∷ row_of page.Stop ∷ row_of page.Try ∷ row_of page.Upgrade ∷ row_of page.Withdraw ∷ []

abbrev pub whole_rows : RowsOf (RouteOf Page)
whole_rows = row_of page.Act ∷ row_of page.Conf ∷ row_of page.Cycle ∷ row_of page.Snapshot ∷ row_of page.Status ∷ row_of page.Stop ∷ row_of page.Try ∷ row_of page.Upgrade ∷ row_of page.Withdraw ∷ []

abbrev pub page_rows : RowsOf (RouteOf Page)
page_rows =
    row_of page.Act ∷ row_of page.Body ∷ row_of page.Box ∷ row_of page.Conf ∷ row_of page.Cycle ∷ row_of page.Plan ∷ row_of page.Snapshot ∷ row_of page.Status
    ∷ row_of page.Stop ∷ row_of page.Timeline ∷ row_of page.Try ∷ row_of page.Upgrade ∷ row_of page.Withdraw ∷ []

-- each is below 256
abbrev pub AreBytes : List ℕ → Type 0
AreBytes path = (i : ℕ) → get_or path i 0 < 256

-- the page whose row a path matches
abbrev pub page_at : List ℕ → Option Page
page_at path = option_map (λ (r : RouteOf Page). r.value) (first page_rows path)

-- the route that a request takes as this page's, where its path has the page's front
abbrev pub route_by : House → Request → Page → Choice
route_by house r page = if starts_with nat_eq r.target (front_of page) then route_at house r (Some page) else Err Route
