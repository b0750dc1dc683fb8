-- The messages at places of a view, one by one.
use Rattle.std.proofs.Common.{◌≡◌, ℕ, ◌+◌, ◌<◌, List, [], ◌∷◌, ◌++◌, Option, take, length, get_or, ap, ◌∙◌}
use Rattle.std.specs.List.{cons_option}
use Rattle.std.proofs.lemmas.List.{take_more}
use Rattle.std.proofs.lemmas.List.Elements.{filter_map-append}
use Rattle.verb_core.specs.declared.mailbox.Body.{Body}
use Rattle.verb_core.specs.declared.mailbox.Entry.{Entry}
use Rattle.imap_view.specs.declared.messages.Known.{Known}
use Rattle.imap_view.specs.Named.{message_at, rows_at}

-- one place more
pub rows_more : (sizes : Body → Option ℕ) (entries : List Entry) (view : List Known) (places : List ℕ) (i : ℕ) (d : ℕ) → i < length places
    → rows_at sizes entries view (take (i + 1) places) ≡ rows_at sizes entries view (take i places) ++ cons_option (message_at sizes entries view (get_or places i d)) []
rows_more sizes entries view places i d lt = ap (rows_at sizes entries view) (take_more places i d lt) ∙ filter_map-append (message_at sizes entries view) (take i places) (get_or places i d ∷ [])
