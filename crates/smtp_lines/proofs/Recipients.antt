-- The recipients whom paths name.
use Rattle.std.proofs.Common.{◌≡◌, ◌⊎◌, ℕ, Bool, true, false, not, ◌&&◌, ◌==◌, List, ◌∷◌, ◌++◌, refl, ap, subst, sym, ◌∙◌, inl, inr, codes}
use Rattle.std.specs.Prelude.{Option, None, Some, if◌then◌else◌}
use Rattle.std.specs.List.{list_all}
use Rattle.smtp_lines.specs.declared.command.SmtpCommand.{SmtpCommand}
use Rattle.smtp_lines.specs.declared.command.SmtpCommand.TheVariants.{Helo, Ehlo, Mail, Rcpt, Data, Rset, Noop, Vrfy, Quit}
use Rattle.smtp_lines.specs.Parts.{is_short, is_spelled}
use Rattle.smtp_lines.specs.Path.{domain_of, has_domain, is_recipient, local_of}
use Rattle.smtp_lines.specs.Command.{recipient}
use Rattle.smtp_lines.specs.Grammar.{Lacks, Names}
use Rattle.smtp_lines.proofs.Parting.{Last, both, and_true, last, before_last_stop, after_last_stop, some_at, none_any}
use Rattle.smtp_lines.proofs.Wording.{spelled_lacks}
use Rattle.smtp_lines.proofs.Routing.{byte_is}

-- the command is of the recipient whom the path names
abbrev pub NamesCommand : List ℕ → SmtpCommand → Type 0
NamesCommand path (Rcpt local domain) = Names path local domain
NamesCommand path (Helo client) = ⊥
NamesCommand path (Ehlo client) = ⊥
NamesCommand path (Mail p) = ⊥
NamesCommand path Data = ⊥
NamesCommand path Rset = ⊥
NamesCommand path (Noop rest) = ⊥
NamesCommand path (Vrfy what) = ⊥
NamesCommand path Quit = ⊥

-- a path with a domain, cut at its last '@'
record Address (path local domain : List ℕ) : Type 0 where
  there : has_domain path ≡ true
  local_ : local_of path ≡ local
  domain_ : domain_of path ≡ domain

address : (path local domain : List ℕ) → path ≡ local ++ 64 ∷ domain → Lacks 64 domain → Address path local domain
address path local domain e l =
    record {
      there = ap has_domain e ∙ some_at (λ b. b == 64) local 64 domain refl;
      local_ = ap local_of e ∙ before_last_stop (λ b. b == 64) local 64 domain l refl;
      domain_ = ap domain_of e ∙ after_last_stop (λ b. b == 64) local 64 domain l refl;
    }

recipient_with : (path local domain : List ℕ) → Address path local domain → recipient path ≡ Rcpt local (Some domain)
recipient_with path local domain a =
    ap (λ (t : Bool). if t then Rcpt (local_of path) (Some (domain_of path)) else Rcpt path None) a.there
    ∙ ap (λ (l : List ℕ). Rcpt l (Some (domain_of path))) a.local_ ∙ ap (λ (d : List ℕ). Rcpt local (Some d)) a.domain_

test_with : (path local domain : List ℕ) → Address path local domain → is_recipient path ≡ (is_short local && is_short domain)
test_with path local domain a =
    ap (λ (t : Bool). if t then is_short (local_of path) && is_short (domain_of path) else is_spelled (codes "postmaster") path) a.there
    ∙ ap (λ (l : List ℕ). is_short l && is_short (domain_of path)) a.local_ ∙ ap (λ (d : List ℕ). is_short local && is_short d) a.domain_

recipient_alone : (path : List ℕ) → has_domain path ≡ false → recipient path ≡ Rcpt path None
recipient_alone path e = ap (λ (t : Bool). if t then Rcpt (local_of path) (Some (domain_of path)) else Rcpt path None) e

test_alone : (path : List ℕ) → has_domain path ≡ false → is_recipient path ≡ is_spelled (codes "postmaster") path
test_alone path e =
    ap (λ (t : Bool). if t then is_short (local_of path) && is_short (domain_of path) else is_spelled (codes "postmaster") path) e

named_by : (path : List ℕ) → is_recipient path ≡ true → (list_all (λ b. not (b == 64)) path ≡ true) ⊎ Last (λ b. not (b == 64)) path
    → NamesCommand path (recipient path)
named_by path e (inl all) =
    let none = none_any (λ b. b == 64) path all in
    subst (λ (c : SmtpCommand). NamesCommand path c) (sym (recipient_alone path none))
    (record { whole = refl; in_any_case = sym (test_alone path none) ∙ e })
named_by path e (inr l) =
    let whole : path ≡ l.front ++ 64 ∷ l.back = l.whole ∙ ap (λ (c : ℕ). l.front ++ c ∷ l.back) (byte_is l.stop 64 l.fails) in
    let a = address path l.front l.back whole l.pass in
    let h = both (is_short l.front) (is_short l.back) (sym (test_with path l.front l.back a) ∙ e) in
    subst (λ (c : SmtpCommand). NamesCommand path c) (sym (recipient_with path l.front l.back a))
    (record { whole = whole; plain = l.pass; local_short = h.0; domain_short = h.1 })

-- the path of a recipient names the one of its command
pub named : (path : List ℕ) → is_recipient path ≡ true → NamesCommand path (recipient path)
named path e = named_by path e (last (λ b. not (b == 64)) path)

-- a path that names a recipient is one, and its command is of that recipient
pub record Recipient (path local : List ℕ) (domain : Option (List ℕ)) : Type 0 where
  pub is : is_recipient path ≡ true
  pub command : recipient path ≡ Rcpt local domain

pub names_recipient : (path local : List ℕ) (domain : Option (List ℕ)) → Names path local domain → Recipient path local domain
names_recipient path local None p =
    let none : has_domain path ≡ false =
    ap has_domain p.whole ∙ none_any (λ b. b == 64) local (spelled_lacks (codes "postmaster") local 64 p.in_any_case refl refl) in
    record {
      is = test_alone path none ∙ ap (is_spelled (codes "postmaster")) p.whole ∙ p.in_any_case;
      command = recipient_alone path none ∙ ap (λ (l : List ℕ). Rcpt l None) p.whole;
    }
names_recipient path local (Some domain) a =
    let cut = address path local domain a.whole a.plain in
    record {
      is = test_with path local domain cut ∙ and_true (is_short local) (is_short domain) a.local_short a.domain_short;
      command = recipient_with path local domain cut;
    }
