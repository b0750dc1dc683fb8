-- A configuration as JSON data.
use Rattle.std.specs.Prelude.{ℕ, List, codes, map, fold, Option, Some, None}
use Rattle.serde_json.specs.Data.{Data, null, string, array, object, Members, no_members, member, put}
use Rattle.serde_json.specs.View.{items_of}
use Rattle.undo_base.specs.declared.keys.User.{User}
use Rattle.verb_core.specs.declared.conf.Alias.{Alias}
use Rattle.verb_core.specs.declared.conf.Filter.{Filter}
use Rattle.verb_core.specs.declared.conf.Scope.{Scope}
use Rattle.verb_core.specs.declared.conf.Scope.TheVariants.{Body, Field, Sender, Recipient}
use Rattle.verb_core.specs.declared.conf.Conf.{Conf}
use Rattle.verb_core.specs.declared.conf.House.{House}
use Rattle.paradox.specs.Letters.{user_name}

abbrev pub user_data : House → User → Data
user_data house user = string (user_name house user)

abbrev pub users_data : House → List User → Data
users_data house users = array (items_of (map (user_data house) users))

-- each alias's users under its local part
abbrev pub put_alias : House → Members → Alias → Members
put_alias house members alias = put alias.local (users_data house alias.users) members

abbrev pub aliases_members : House → List Alias → Members
aliases_members house aliases = fold (put_alias house) no_members aliases

-- a mailbox, or null
abbrev pub file_data : Option (List ℕ) → Data
file_data None = null
file_data (Some name) = string name

-- a filter that looks in the body
abbrev pub plain_data : Filter → Data
plain_data f = object (member (codes "file") (file_data f.file) (member (codes "name") (string f.id) (member (codes "needle") (string f.needle) no_members)))

-- a filter that looks where a word says
abbrev pub worded_members : Filter → List ℕ → Members
worded_members f word =
    member (codes "file") (file_data f.file) (member (codes "name") (string f.id) (member (codes "needle") (string f.needle) (member (codes "scope") (string word) no_members)))

-- a filter by its scope, which is told unless it is the body, with the header field that it names
abbrev pub scoped_data : Filter → Scope → Data
scoped_data f Body = plain_data f
scoped_data f (Field field) = object (member (codes "field") (string field) (worded_members f (codes "header")))
scoped_data f Sender = object (worded_members f (codes "sender"))
scoped_data f Recipient = object (worded_members f (codes "recipient"))

abbrev pub filter_data : Filter → Data
filter_data f = scoped_data f f.scope

abbrev pub conf_data : House → Conf → Data
conf_data house conf =
    object (member (codes "aliases") (object (aliases_members house conf.aliases)) (member (codes "filters") (array (items_of (map filter_data conf.filters))) no_members))
