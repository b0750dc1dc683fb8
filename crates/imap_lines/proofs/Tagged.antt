-- What stands behind a tag has a tag.
use Rattle.std.proofs.Common.{ℕ, Bool, List, Option, None, Some}
use Rattle.imap_lines.specs.declared.verbs.Verb.{Verb}
use Rattle.imap_lines.specs.declared.command.ImapWhat.{ImapWhat}
use Rattle.imap_lines.specs.Command.{IsTagged, if_asked, if_headed, tagged, heading_of, spoken}

asked_tagged : (tag : List ℕ) (o : Option ImapWhat) → IsTagged (if_asked tag o)
asked_tagged tag None = tt
asked_tagged tag (Some asked) = tt

headed_tagged : (tag : List ℕ) (h : Option (Verb × Bool × List ℕ)) (lines literals : List (List ℕ)) → IsTagged (if_headed tag h lines literals)
headed_tagged tag None lines literals = tt
headed_tagged tag (Some h) lines literals = asked_tagged tag (spoken h.0 h.1 h.2 lines literals)

pub is_tagged : (tag line : List ℕ) (lines literals : List (List ℕ)) → IsTagged (tagged tag line lines literals)
is_tagged tag line lines literals = headed_tagged tag (heading_of line) lines literals
