-- A request takes no route, or its path is a page's front and parts, and the row that the path matches is the page's.
use Rattle.std.proofs.Common.{◌≡◌, ◌⊎◌, inl, inr, ℕ, suc, ◌<◌, List, [], ◌∷◌, ◌++◌, Bool, true, false, Option, Some, None, length, drop, refl, sym, ap, subst, ◌∙◌, cond, ◌==◌, append-nil}
use Rattle.std.proofs.lemmas.Bool.{true≢false}
use Rattle.std.specs.Prelude.{find, nat_eq, option_and_then, option_map, codes, if◌then◌else◌, Ok, Err}
use Rattle.std.specs.List.{list_any, starts_with, before_first}
use Rattle.std.specs.Str.{bytes_eq}
use Rattle.std.proofs.lemmas.Bool.Decides.{Decides-eqb}
use Rattle.std.proofs.lemmas.Slice.Eq.{starts_is}
use Rattle.percent_encoding.specs.Percent.{percent_decode}
use Rattle.undo_base.specs.declared.keys.User.{User}
use Rattle.verb_core.specs.declared.conf.House.{House}
use Rattle.verb_core.specs.Recipients.{user_named}
use Rattle.matchit.specs.Router.{RouteOf}
use Rattle.matchit.proofs.OnLiterals.{matchit_on_literals}
use Rattle.console_head.specs.Request.{Request}
use Rattle.console_http.specs.declared.pages.Page.{Page}
use Rattle.console_http.specs.declared.pages.Page.TheVariants as page
use Rattle.console_http.specs.declared.request.HttpRefused.TheVariants.{Route}
use Rattle.console_http.specs.declared.request.Route.{Route as Taken}
use Rattle.console_http.specs.declared.request.Route.TheVariants as route
use Rattle.console_http.specs.Parts.{is_slash, part_of}
use Rattle.console_http.specs.Acts.{act_in}
use Rattle.console_http.specs.Cycles.{cycle_in, try_in, withdraw_in}
use Rattle.console_http.specs.Routes.{Choice, all_pages, alone, asked_plainly, box_in, front_of, method_of, number_in, page_of, route_at, route_of, route_on, said, taken}
use Rattle.console_http.specs.Pages.{AreBytes, entry_of, is_alone, page_at, page_rows, route_by}
use Rattle.console_http.proofs.Rows.{Plain, seek-part, seek-all, seek-along}

rest_bytes : (b : ℕ) (path : List ℕ) → AreBytes (b ∷ path) → AreBytes path
rest_bytes b path h = λ i. h (suc i)

behind_bytes : (front path : List ℕ) → AreBytes (front ++ path) → AreBytes path
behind_bytes [] path h = h
behind_bytes (b ∷ front) path h = behind_bytes front path (rest_bytes b (front ++ path) h)

plain : (p : List ℕ) → AreBytes p → list_any is_slash p ≡ false → Plain p
plain [] h e = tt
plain (b ∷ p) h e =
    elim (b == 47) as (λ v. (b == 47) ≡ v → Plain (b ∷ p)) [
      | true ↦ λ s. absurd (true≢false (sym (rw s refl) ∙ e))
      | false ↦ λ s. (h 0, s, plain p (rest_bytes b p h) (rw s at e))
    ] refl

-- ---- the row of a page

number_none : (raw : List ℕ) → list_any is_slash raw ≡ true → number_in raw ≡ None
number_none raw e = rw e refl

abbrev no_box : User → Option Taken
no_box user = None

box_none : (o : Option User) → option_and_then no_box o ≡ None
box_none None = refl
box_none (Some user) = refl

finds_timeline : (b : ℕ) (p : List ℕ) → Plain (b ∷ p) → page_at (codes "/timeline/" ++ b ∷ p) ≡ Some page.Timeline
unfolding matchit_on_literals
finds_timeline b p h = ap (option_map (λ (e : RouteOf Page). e.value)) (seek-along (codes "/timeline/") (b ∷ p) page_rows refl ∙ seek-part b p (entry_of page.Timeline) h)

finds_body : (b : ℕ) (p : List ℕ) → Plain (b ∷ p) → page_at (codes "/body/" ++ b ∷ p) ≡ Some page.Body
unfolding matchit_on_literals
finds_body b p h = ap (option_map (λ (e : RouteOf Page). e.value)) (seek-along (codes "/body/") (b ∷ p) page_rows refl ∙ seek-part b p (entry_of page.Body) h)

finds_plan : (b : ℕ) (p : List ℕ) → Plain (b ∷ p) → page_at (codes "/plan/" ++ b ∷ p) ≡ Some page.Plan
unfolding matchit_on_literals
finds_plan b p h = ap (option_map (λ (e : RouteOf Page). e.value)) (seek-along (codes "/plan/") (b ∷ p) page_rows refl ∙ seek-part b p (entry_of page.Plan) h)

finds_box : (b : ℕ) (p : List ℕ) → b < 256 → page_at (codes "/box/" ++ b ∷ p) ≡ Some page.Box
unfolding matchit_on_literals
finds_box b p h = ap (option_map (λ (e : RouteOf Page). e.value)) (seek-along (codes "/box/") (b ∷ p) page_rows refl ∙ seek-all b p (entry_of page.Box) h)

finds_alone : (p : Page) → is_alone p ≡ true → page_at (front_of p) ≡ Some p
unfolding matchit_on_literals
finds_alone page.Status e = refl
finds_alone page.Timeline e = absurd (cc)
finds_alone page.Box e = absurd (cc)
finds_alone page.Body e = absurd (cc)
finds_alone page.Conf e = refl
finds_alone page.Plan e = absurd (cc)
finds_alone page.Act e = refl
finds_alone page.Cycle e = refl
finds_alone page.Try e = refl
finds_alone page.Snapshot e = refl
finds_alone page.Stop e = refl
finds_alone page.Upgrade e = refl
finds_alone page.Withdraw e = refl

-- a path that has no parts, and a page whose row has none
by_none : (p : Page) (choice : Choice) → is_alone p ≡ true → (parts : List ℕ) → (alone choice parts ≡ Err Route) ⊎ (page_at (front_of p ++ parts) ≡ Some p)
by_none p choice e [] = inr (rw append-nil (finds_alone p e))
by_none p choice e (b ∷ parts) = inl refl

by_number : (to : ℕ → Taken) (Q : List ℕ → Type 0) → ((b : ℕ) (p : List ℕ) → Plain (b ∷ p) → Q (b ∷ p)) → (raw : List ℕ) → AreBytes raw
    → (taken (option_map to (number_in raw)) ≡ Err Route) ⊎ Q raw
unfolding percent_decode
by_number to Q found [] h = inl refl
by_number to Q found (b ∷ p) h =
    elim (list_any is_slash (b ∷ p)) as (λ v. list_any is_slash (b ∷ p) ≡ v → (taken (option_map to (number_in (b ∷ p))) ≡ Err Route) ⊎ Q (b ∷ p)) [
      | true ↦ λ e. inl (ap (λ o. taken (option_map to o)) (number_none (b ∷ p) e))
      | false ↦ λ e. inr (found b p (plain (b ∷ p) h e))
    ] refl

by_box : (house : House) (raw : List ℕ) → AreBytes raw → (taken (box_in house raw) ≡ Err Route) ⊎ (page_at (codes "/box/" ++ raw) ≡ Some page.Box)
unfolding percent_decode
by_box house [] h = inl (ap taken (box_none (option_and_then (user_named house) (part_of (before_first is_slash [])))))
by_box house (b ∷ p) h = inr (finds_box b p (h 0))

on_row : (house : House) (p : Page) (parts body : List ℕ) → AreBytes parts → (route_on house p parts body ≡ Err Route) ⊎ (page_at (front_of p ++ parts) ≡ Some p)
on_row house page.Status parts body h = by_none page.Status (Ok route.Status) refl parts
on_row house page.Timeline parts body h = by_number (λ start. route.Timeline start) (λ raw. page_at (codes "/timeline/" ++ raw) ≡ Some page.Timeline) finds_timeline parts h
on_row house page.Box parts body h = by_box house parts h
on_row house page.Body parts body h = by_number (λ number. route.Body number) (λ raw. page_at (codes "/body/" ++ raw) ≡ Some page.Body) finds_body parts h
on_row house page.Conf parts body h = by_none page.Conf (Ok route.Conf) refl parts
on_row house page.Plan parts body h = by_number (λ point. route.Plan point) (λ raw. page_at (codes "/plan/" ++ raw) ≡ Some page.Plan) finds_plan parts h
on_row house page.Act parts body h = by_none page.Act (said (option_map (λ act. route.Act act) (act_in house body))) refl parts
on_row house page.Cycle parts body h = by_none page.Cycle (said (option_map (λ ask. route.Cycle ask) (cycle_in house body))) refl parts
on_row house page.Try parts body h = by_none page.Try (said (option_map (λ ask. route.Try ask) (try_in house body))) refl parts
on_row house page.Snapshot parts body h = by_none page.Snapshot (Ok route.Snapshot) refl parts
on_row house page.Stop parts body h = by_none page.Stop (Ok route.Stop) refl parts
on_row house page.Upgrade parts body h = by_none page.Upgrade (said (asked_plainly route.Upgrade body)) refl parts
on_row house page.Withdraw parts body h = by_none page.Withdraw (said (option_map (λ (a : List ℕ × ℕ). route.Withdraw a.0 a.1) (withdraw_in body))) refl parts

-- ---- a request

find_holds : (test : Page → Bool) (ps : List Page) (p : Page) → find test ps ≡ Some p → test p ≡ true
find_holds test [] p e = absurd (cc)
find_holds test (x ∷ ps) p e =
    elim (test x) as (λ v. test x ≡ v → cond v (Some x) (find test ps) ≡ Some p → test p ≡ true) [
      | true ↦ λ t f. let same : x ≡ p = cc in subst (λ (y : Page). test y ≡ true) same t
      | false ↦ λ t f. find_holds test ps p f
    ] refl e

-- the path has the front of a page whose row it matches, or there is no route
abbrev IsRouted : House → Request → Option Page → Type 0
IsRouted house r o =
    (route_at house r o ≡ Err Route)
    ⊎ ((p : Page) × (page_at r.target ≡ Some p) × (starts_with nat_eq r.target (front_of p) ≡ true))

by_test : (house : House) (r : Request) (p : Page) (t : Bool) → bytes_eq r.method (method_of p) ≡ t → starts_with nat_eq r.target (front_of p) ≡ true
    → (route_on house p (drop (length (front_of p)) r.target) r.body ≡ Err Route) ⊎ (page_at r.target ≡ Some p) → IsRouted house r (Some p)
by_test house r p false m s h = inl (rw m refl)
by_test house r p true m s (inl e) = inl (rw m e)
by_test house r p true m s (inr e) = inr (p, e, s)

by_page : (house : House) (r : Request) (o : Option Page) → page_of r.target ≡ o → AreBytes r.target → IsRouted house r o
by_page house r None e h = inl refl
by_page house r (Some p) e h =
    let begins = find_holds (λ page. starts_with nat_eq r.target (front_of page)) all_pages p e in
    let split = (starts_is Decides-eqb r.target (front_of p) _ refl).0 begins in
    let parts = drop (length (front_of p)) r.target in
    let found : (route_on house p parts r.body ≡ Err Route) ⊎ (page_at (front_of p ++ parts) ≡ Some p) =
    on_row house p parts r.body (behind_bytes (front_of p) parts (subst AreBytes split h)) in
    by_test house r p (bytes_eq r.method (method_of p)) refl begins (subst (λ (path : List ℕ). (route_on house p parts r.body ≡ Err Route) ⊎ (page_at path ≡ Some p)) (sym split) found)

-- no other page's front begins a path that has a page's
page_front : (p : Page) (rest : List ℕ) → page_of (front_of p ++ rest) ≡ Some p
page_front page.Status rest = refl
page_front page.Timeline rest = refl
page_front page.Box rest = refl
page_front page.Body rest = refl
page_front page.Conf rest = refl
page_front page.Plan rest = refl
page_front page.Act rest = refl
page_front page.Cycle rest = refl
page_front page.Try rest = refl
page_front page.Snapshot rest = refl
page_front page.Stop rest = refl
page_front page.Upgrade rest = refl
page_front page.Withdraw rest = refl

by_routed : (house : House) (r : Request) (o : Option Page) → IsRouted house r o → None ≡ page_at r.target → route_at house r o ≡ Err Route
by_routed house r o (inl none) e = none
by_routed house r o (inr (p, at, s)) e = absurd (cc)

by_other : (house : House) (r : Request) (o : Option Page) (p : Page) → IsRouted house r o → starts_with nat_eq r.target (front_of p) ≡ false → Some p ≡ page_at r.target
    → Err Route ≡ route_at house r o
by_other house r o p (inl none) s e = sym none
by_other house r o p (inr (q, at, t)) s e =
    let same : q ≡ p = cc in
    absurd (true≢false (sym (subst (λ (y : Page). starts_with nat_eq r.target (front_of y) ≡ true) same t) ∙ s))

by_front : (house : House) (r : Request) (p : Page) (t : Bool) → starts_with nat_eq r.target (front_of p) ≡ t → AreBytes r.target → Some p ≡ page_at r.target
    → (if t then route_at house r (Some p) else Err Route) ≡ route_of house r
by_front house r p true s h e =
    let split = (starts_is Decides-eqb r.target (front_of p) _ refl).0 s in
    let here : page_of r.target ≡ Some p = ap page_of split ∙ page_front p (drop (length (front_of p)) r.target) in
    ap (route_at house r) (sym here)
by_front house r p false s h e = by_other house r (page_of r.target) p (by_page house r (page_of r.target) refl h) s e

pub no_page : (house : House) (r : Request) → AreBytes r.target → None ≡ page_at r.target → route_of house r ≡ Err Route
no_page house r h e = by_routed house r (page_of r.target) (by_page house r (page_of r.target) refl h) e

pub page_routes : (house : House) (r : Request) (p : Page) → AreBytes r.target → Some p ≡ page_at r.target → route_by house r p ≡ route_of house r
page_routes house r p h e = by_front house r p (starts_with nat_eq r.target (front_of p)) refl h e
