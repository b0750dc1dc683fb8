-- The house that `play` has, and what it configures at first.
use Rattle.std.specs.Prelude.{ℕ, List, [], ◌∷◌, codes}
use Rattle.verb_core.specs.declared.conf.House.{House}
use Rattle.verb_core.specs.declared.conf.Conf.{Conf}

abbrev pub house_text : List ℕ
house_text = codes "host = \"mail.test\"\ndomains = [\"mail.test\"]\npostmaster = \"ann\"\n[[user]]\nname = \"ann\"\npassword = \"a1\"\n[[user]]\nname = \"bob\"\npassword = \"b2\"\n[[user]]\nname = \"carl\"\npassword = \"c3\"\n[aliases]\nteam = [\"ann\", \"bob\"]\n"

-- its host, its domain, three users, of whom the first is the postmaster, and the first number
abbrev pub playing_house : House
playing_house = record {
  host = codes "mail.test";
  domains = codes "mail.test" ∷ [];
  accounts =
      record { name = codes "ann"; password = codes "a1" }
      ∷ record { name = codes "bob"; password = codes "b2" }
      ∷ record { name = codes "carl"; password = codes "c3" }
      ∷ [];
  postmaster = record { 0 = 0 };
  first = 2;
}

-- one alias, of the first two users
abbrev pub playing_conf : Conf
playing_conf = record {
  aliases = record { local = codes "team"; users = record { 0 = 0 } ∷ record { 0 = 1 } ∷ [] } ∷ [];
  filters = [];
}
