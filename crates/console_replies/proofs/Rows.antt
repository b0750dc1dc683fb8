-- Whole answers as they are told, so that a wrong definition does not check. They are the reports of a filter by mistake and of an
-- infected delivery that was dropped, and configurations with filters of each scope.
use Rattle.std.proofs.Common.{◌≡◌, refl, ℕ}
use Rattle.std.specs.Prelude.{List, [], ◌∷◌, length, Option, Some, None, codes}
use Rattle.std.specs.Fmt.{digits}
use Rattle.serde_json.proofs.OnLiterals.{serde_json_on_literals}
use Rattle.serde_json.specs.Written.{compact_text}
use Rattle.undo_base.specs.declared.keys.User.{User}
use Rattle.verb_core.specs.declared.conf.Conf.{Conf}
use Rattle.verb_core.specs.declared.conf.Filter.{Filter}
use Rattle.verb_core.specs.declared.conf.House.{House}
use Rattle.verb_core.specs.declared.conf.Scope.{Scope}
use Rattle.verb_core.specs.declared.conf.Scope.TheVariants.{Body, Field, Sender, Recipient}
use Rattle.verb_core.specs.declared.mailbox.BoxId.{BoxId}
use Rattle.paradox.specs.declared.reports.BrokenItem.{BrokenItem}
use Rattle.paradox.specs.declared.reports.Report.{Report}
use Rattle.paradox.specs.declared.words.Verb.{Verb}
use Rattle.paradox.specs.declared.words.Verb.TheVariants.{Fetch, Copy}
use Rattle.paradox.specs.declared.words.Reason.TheVariants.{Missing}
use Rattle.console_replies.specs.Bodies.{upgraded_data}
use Rattle.console_replies.specs.Confs.{conf_data}
use Rattle.console_replies.specs.Reports.{report_data}

abbrev ann : User
ann = record { 0 = 0 }

abbrev house : House
house = record {
  host = codes "mail.test";
  domains = codes "mail.test" ∷ [];
  first = 2;
  accounts = record { name = codes "ann"; password = codes "a1" } ∷ [];
  postmaster = ann;
}

abbrev filter_dropped : Report
filter_dropped = record { cycle = 7; point = 4; kept = 1; broken = []; notices = []; renewed = []; unmatched = [] }

pub a_filter_by_mistake : compact_text (report_data house filter_dropped) ≡ codes "{\"broken\":[],\"cycle\":7,\"kept\":1,\"notices\":[],\"point\":4,\"renewed\":[],\"unmatched\":[]}"
unfolding serde_json_on_literals digits
a_filter_by_mistake = refl

pub its_length : length (compact_text (report_data house filter_dropped)) ≡ 83
unfolding serde_json_on_literals digits
its_length = refl

abbrev missing : ℕ → Verb → BrokenItem
missing number verb = record { number = number; user = ann; verb = verb; mailbox = None; reason = Missing }

abbrev box : List ℕ → BoxId
box name = record { user = ann; name = name }

abbrev delivery_dropped : Report
delivery_dropped = record {
  cycle = 7;
  point = 3;
  kept = 2;
  broken = missing 5 Fetch ∷ missing 6 Copy ∷ [];
  notices = 8 ∷ [];
  renewed = (box (codes "INBOX"), 7) ∷ (box (codes "Keep"), 7) ∷ [];
  unmatched = [];
}

pub an_infected_delivery : compact_text (report_data house delivery_dropped) ≡ codes "{\"broken\":[{\"item\":5,\"reason\":\"a message is missing\",\"user\":\"ann\",\"verb\":\"FETCH\"},{\"item\":6,\"reason\":\"a message is missing\",\"user\":\"ann\",\"verb\":\"COPY\"}],\"cycle\":7,\"kept\":2,\"notices\":[8],\"point\":3,\"renewed\":[{\"box\":\"INBOX\",\"stamp\":7,\"user\":\"ann\"},{\"box\":\"Keep\",\"stamp\":7,\"user\":\"ann\"}],\"unmatched\":[]}"
unfolding serde_json_on_literals digits
an_infected_delivery = refl

pub an_upgrade : compact_text upgraded_data ≡ codes "{\"upgraded\":true}"
unfolding serde_json_on_literals digits
an_upgrade = refl

abbrev offers : Option (List ℕ) → Scope → Filter
offers file scope = record { id = codes "f"; needle = codes "offer"; file = file; scope = scope }

abbrev filtered : List Filter → Conf
filtered filters = record { aliases = record { local = codes "team"; users = ann ∷ [] } ∷ []; filters = filters }

pub a_filter_of_the_body : compact_text (conf_data house (filtered (offers (Some (codes "Keep")) Body ∷ []))) ≡ codes "{\"aliases\":{\"team\":[\"ann\"]},\"filters\":[{\"file\":\"Keep\",\"name\":\"f\",\"needle\":\"offer\"}]}"
unfolding serde_json_on_literals digits
a_filter_of_the_body = refl

pub a_filter_of_a_field : compact_text (conf_data house (filtered (offers None (Field (codes "Subject")) ∷ []))) ≡ codes "{\"aliases\":{\"team\":[\"ann\"]},\"filters\":[{\"field\":\"Subject\",\"file\":null,\"name\":\"f\",\"needle\":\"offer\",\"scope\":\"header\"}]}"
unfolding serde_json_on_literals digits
a_filter_of_a_field = refl

pub filters_of_the_envelope : compact_text (conf_data house (filtered (offers None Sender ∷ offers None Recipient ∷ []))) ≡ codes "{\"aliases\":{\"team\":[\"ann\"]},\"filters\":[{\"file\":null,\"name\":\"f\",\"needle\":\"offer\",\"scope\":\"sender\"},{\"file\":null,\"name\":\"f\",\"needle\":\"offer\",\"scope\":\"recipient\"}]}"
unfolding serde_json_on_literals digits
filters_of_the_envelope = refl
