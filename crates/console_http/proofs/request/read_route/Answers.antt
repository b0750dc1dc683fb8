use Rattle.std.proofs.Common.{sym, subst, ◌∙◌}
use Rattle.console_head.specs.Seen.{parts_seen}
use Rattle.console_http.specs.Requests.{Found}
use Rattle.console_http.specs.Routes.{Choice}
use Rattle.console_http.proofs.Routing.{no_page, page_routes}
use Rattle.console_http.proofs.request.read_route.Goals as goal

pub returns-in-None : goal.returns-in-None
returns-in-None c =
    no_page c.args.house.now (parts_seen c.args.request) c.find_page.ensures.bytes (sym c.in-None.is ∙ c.in_ok-find_page.ensures.page)

pub returns-in-Some : goal.returns-in-Some
returns-in-Some c =
    subst (λ (choice : Choice). Found choice c.read_page.result)
    (page_routes c.args.house.now (parts_seen c.args.request) c.in-Some.page c.find_page.ensures.bytes (sym c.in-Some.is ∙ c.in_ok-find_page.ensures.page)) c.read_page.ensures
