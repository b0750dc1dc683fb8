-- What each item touches: messages of a mailbox by their keys, its end, the whole mailbox, a user's names, or all of a user.
use Rattle.std.specs.Prelude.{ℕ, true, false, List, [], ◌∷◌, ◌++◌, map}
use Rattle.undo_base.specs.declared.keys.User.{User}
use Rattle.verb_core.specs.declared.item.Aim.{Aim}
use Rattle.verb_core.specs.declared.item.Resolved.{Resolved}
use Rattle.verb_core.specs.declared.item.Deed.{Deed}
use Rattle.verb_core.specs.declared.item.Deed.TheVariants.{Deliver, Append, Fetch, Store, Copy, List as Lists, Status, Select, Expunge, Close, Create, Rename, Delete, Act as Acts, Notice}
use Rattle.verb_core.specs.declared.item.Act.{Act}
use Rattle.verb_core.specs.declared.item.Act.TheVariants.{SetAlias, DropAlias, SetFilter, DropFilter, Remove, Give}
use Rattle.verb_core.specs.Names.{lost_found, with_superiors}
use Rattle.verb_core.specs.Items.{actor}
use Rattle.touch_rules.specs.declared.touched.Touch.{Touch}
use Rattle.touch_rules.specs.declared.touched.Touch.TheVariants.{Keys, Tail, Whole, Names, Every}

-- new mail of the item of a number, at an aim
abbrev pub tail_on : ℕ → Aim → Touch
tail_on number aim = Tail aim.user aim.mailbox number

-- a mailbox that was looked for and is missing
abbrev pub looked_for : Aim → Touch
looked_for aim = Whole aim.user aim.mailbox false

-- a mailbox that comes, changes or goes
abbrev pub written : User → List ℕ → Touch
written u mailbox = Whole u mailbox true

-- where an item's new mail goes, and where it looked in vain
abbrev pub arrivals : Resolved → List Touch
arrivals r = map (tail_on r.item.number) r.aims ++ map looked_for r.missed

-- what an act touches
abbrev pub act_row : List Touch → Act → List Touch
act_row arriving (Give u mailbox text) = arriving
act_row arriving (Remove u mailbox key) = Keys u mailbox (key ∷ []) true ∷ []
act_row arriving (SetAlias local users) = []
act_row arriving (DropAlias local) = []
act_row arriving (SetFilter filter) = []
act_row arriving (DropFilter id) = []

-- the table: what a deed of this user touches, whose new mail has these arrivals
abbrev pub table_row : User → List Touch → Deed → List Touch
table_row u arriving (Deliver from to text) = arriving
table_row u arriving (Append mailbox flags moment text) = arriving
table_row u arriving (Notice _ text) = arriving
table_row u arriving (Fetch mailbox keys sets_seen shows_body) = Keys u mailbox keys sets_seen ∷ []
table_row u arriving (Store mailbox keys how flags) = Keys u mailbox keys true ∷ []
table_row u arriving (Expunge mailbox keys) = Keys u mailbox keys true ∷ []
table_row u arriving (Close mailbox keys) = Keys u mailbox keys true ∷ []
table_row u arriving (Copy mailbox keys target) = Keys u mailbox keys false ∷ arriving
table_row u arriving (Status mailbox) = Whole u mailbox false ∷ []
table_row u arriving (Select mailbox) = Whole u mailbox false ∷ []
table_row u arriving (Lists pattern) = Names u false ∷ []
table_row u arriving (Create mailbox) = map (written u) (with_superiors mailbox) ++ Names u true ∷ []
table_row u arriving (Rename mailbox target) = Every u ∷ []
table_row u arriving (Delete mailbox keys) = written u mailbox ∷ written u lost_found ∷ Names u true ∷ []
table_row u arriving (Acts act) = act_row arriving act

-- what an item touches whose aims are known
abbrev pub touches_of : Resolved → List Touch
touches_of r = table_row (actor r.item.by r.item.deed) (arrivals r) r.item.deed
