-- What the console answers, over what the desk keeps.
use Rattle.std.specs.Prelude.{ℕ, Bool, false, List, codes, Option, None, Some, option_and_then, option_map, unwrap_or}
use Rattle.std.specs.Option.{option_map_or}
use Rattle.serde_json.specs.Data.{Data}
use Rattle.serde_json.specs.Written.{compact_text}
use Rattle.undo_base.specs.declared.keys.User.{User}
use Rattle.verb_core.specs.declared.item.Item.{Item}
use Rattle.verb_core.specs.declared.mailbox.Body.{Body}
use Rattle.verb_core.specs.declared.mailbox.Mailbox.{Mailbox}
use Rattle.verb_core.specs.Boxes.{box_of, row_at}
use Rattle.verb_core.specs.Items.{text_in}
use Rattle.mail_desk.specs.declared.counts.Counts.{Counts as DeskCounts}
use Rattle.mail_desk.specs.Counting.{counts_of, page}
use Rattle.store_kept.specs.Kept.{store_of, Kept}
use Rattle.mail_desk.specs.Timeline.{item_of, rev_of}
use Rattle.desk_journal.specs.Stored.{is_recorded}
use Rattle.time_desk.specs.Planning.{plan_of}
use Rattle.console_http.specs.declared.request.HttpRefused.{HttpRefused}
use Rattle.console_http.specs.declared.request.HttpRefused.TheVariants as why
use Rattle.console_replies.specs.declared.bodies.StatusCounts.{StatusCounts}
use Rattle.console_replies.specs.declared.bodies.ErrorWord.TheVariants as word
use Rattle.console_replies.specs.Bodies.{status_data, body_data, error_data, point_data, uncycled_data}
use Rattle.console_replies.specs.Confs.{conf_data}
use Rattle.console_replies.specs.Mailboxes.{box_data}
use Rattle.console_replies.specs.Reply.{reply_of}
use Rattle.console_replies.specs.Timeline.{timeline_data}

-- the body of an answer: JSON data, or text
pub data Content : Type 0 where
  Json : Data → Content
  Plain : List ℕ → Content

-- the kind of a body (RFC 9110, 8.3)
abbrev pub kind_of : Content → List ℕ
kind_of (Json body) = codes "application/json"
kind_of (Plain text) = codes "text/plain"

-- its bytes
abbrev pub content_of : Content → List ℕ
content_of (Json body) = compact_text body
content_of (Plain text) = text

-- an answer: its status, and its body
pub record Answer : Type 0 where
  pub status : ℕ
  pub body : Content

abbrev pub answer : ℕ → Data → Answer
answer status body = record { status = status; body = Json body }

-- text that is found
abbrev pub told_plainly : List ℕ → Answer
told_plainly text = record { status = 200; body = Plain text }

-- the bytes of an answer
unfoldable pub answer_text : Answer → List ℕ
answer_text a = reply_of a.status (kind_of a.body) (content_of a.body)

-- a route that names nothing
abbrev pub not_found : Answer
not_found = answer 404 (error_data word.Route)

-- what is found, or that there is none
abbrev pub found : Option Data → Answer
found None = not_found
found (Some body) = answer 200 body

-- the desk's counts
abbrev pub counted_as : DeskCounts → StatusCounts
counted_as c = record { cycles = c.cycles; items = c.items; messages = c.messages; next = c.next; notices = c.notices; users = c.users }

abbrev pub status_answer : Kept → Answer
status_answer kept = answer 200 (status_data (counted_as (counts_of kept)))

-- at most a thousand items from a place on
abbrev pub timeline_answer : Kept → ℕ → Answer
timeline_answer kept start = answer 200 (timeline_data kept.house (page kept.timeline start))

-- the mailbox of a user and a name with its stamp, where it is there; each that is there has one
abbrev pub box_found : Kept → User → List ℕ → Option Data
box_found kept user name =
    option_map (λ (box : Mailbox). box_data box (unwrap_or (row_at (box_of user name) kept.stamps) 0)) (row_at (box_of user name) (store_of kept).boxes)

abbrev pub box_answer : Kept → User → List ℕ → Answer
box_answer kept user name = found (box_found kept user name)

-- the body of an item's own text
abbrev pub body_at : ℕ → ℕ → Body
body_at number rev = record { origin = number; rev = rev }

-- a text with its rev, or that there is none
abbrev pub text_answer : Option (List ℕ) → ℕ → Answer
text_answer text rev = found (option_map (λ (t : List ℕ). body_data t rev) text)

-- the text that an item brings, and its rev
abbrev pub body_told : Item → Option Data
body_told i = option_map (λ (text : List ℕ). body_data text i.rev) (text_in i.deed)

-- the same of the item of a number, where there is such an item with a text
abbrev pub body_found : List Item → ℕ → Option Data
body_found timeline number = option_and_then body_told (item_of timeline number)

-- whether a record has that text, which is read there then; a notice's is in memory
abbrev pub is_text_recorded : Kept → ℕ → Bool
is_text_recorded kept number = option_map_or (λ (rev : ℕ). is_recorded kept kept.timeline (body_at number rev)) (rev_of kept.timeline number) false

abbrev pub body_answer : Kept → ℕ → Answer
body_answer kept number = found (body_found kept.timeline number)

-- the configuration in force
abbrev pub conf_answer : Kept → Answer
conf_answer kept = answer 200 (conf_data kept.house (store_of kept).conf)

-- the timeline does not have the point
abbrev pub pointless : ℕ → Answer
pointless given = answer 422 (point_data given)

-- the cycle that is to be withdrawn is not the last of all cycles and withdrawals
abbrev pub uncycled : ℕ → Answer
uncycled given = answer 422 (uncycled_data given)

-- a plan of what could run side by side, or that the timeline does not have its point
abbrev pub planned : ℕ → Option (List ℕ) → Answer
planned point None = pointless point
planned point (Some text) = told_plainly text

abbrev pub plan_answer : Kept → ℕ → Answer
plan_answer kept point = planned point (plan_of kept point)

-- why a request is refused
abbrev pub refused : HttpRefused → Answer
refused why.Head = answer 400 (error_data word.Head)
refused why.Size = answer 413 (error_data word.Size)
refused why.Route = answer 404 (error_data word.Route)
refused why.Json = answer 400 (error_data word.Json)
refused why.NoMemory = answer 503 (error_data word.Memory)
