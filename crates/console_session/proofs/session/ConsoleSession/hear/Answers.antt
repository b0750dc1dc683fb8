use Rattle.std.proofs.Common.{◌≡◌, ◌<◌, ℕ, List, ◌++◌, ap, length, sym, ◌∙◌, subst}
use Rattle.verb_core.specs.declared.conf.House.{House}
use Rattle.console_http.specs.Requests.{AskKnows, Asks}
use Rattle.console_session.proofs.Requests.{heard, serves_closed}
use Rattle.console_session.proofs.Waiting.{few_wait}
use Rattle.console_session.proofs.session.ConsoleSession.hear.Goals as goal

pub serve-requires-clause-known : goal.serve-requires-clause-known
serve-requires-clause-known g c κs within =
    subst (λ (h : House). AskKnows h c.read_coming-asked.result) c.house.ensures.value
    (c.acts_name_known_users.ensures c.house.result.now c.bytes.result.now c.read_coming-asked.result c.read_coming-asked.ensures.asks)

pub returns-clause-heard : goal.returns-clause-heard
returns-clause-heard g c =
    let came : c.bytes.result.now ≡ c.args.self.now ++ c.args.bytes.now =
    c.bytes.ensures.value ∙ c.in_default.ensures.ok ∙ ap (λ (l : List ℕ). l ++ c.args.bytes.now) c.self.view_is in
    heard g.D.Disk.told c.args.at c.args.self.now c.args.bytes.now c.args.desk.now c.serve.new.desk c.serve.result c.read_coming-asked.result
    (subst (λ (l : List ℕ). Asks c.args.desk.now.kept.house l c.read_coming-asked.result) came
    (subst (λ (h : House). Asks h c.bytes.result.now c.read_coming-asked.result) c.house.ensures.value c.read_coming-asked.ensures.asks))
    c.serve.ensures

pub returns-clause-closed : goal.returns-clause-closed
returns-clause-closed g c =
    serves_closed g.D.Disk.told c.args.at c.read_coming-asked.result c.args.desk.now c.serve.new.desk c.serve.result c.requires.open c.serve.ensures

pub returns-clause-bound : goal.returns-clause-bound
returns-clause-bound g c = λ waits.
    let came : c.bytes.result.now ≡ c.args.self.now ++ c.args.bytes.now =
    c.bytes.ensures.value ∙ c.in_default.ensures.ok ∙ ap (λ (l : List ℕ). l ++ c.args.bytes.now) c.self.view_is in
    subst (λ (l : List ℕ). length l < 4210688) (sym came ∙ c.bytes.ensures.value)
    (few_wait g.D.Disk.told c.what_waits_is_bounded.ensures.both c.args.at c.args.self.now c.args.bytes.now c.args.desk.now c.serve.new.desk c.serve.result (returns-clause-heard g c) waits)
