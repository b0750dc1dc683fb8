use Rattle.std.proofs.Common.{List, ℕ, ◌∙◌, ap, subst}
use Rattle.header_fields.specs.Fields.{fields_of}
use Rattle.mail_rows.specs.Headers.{HoldsFields, some_beside, with_names}
use Rattle.mail_rows.proofs.Headers.{found_is, found_in}
use Rattle.mail_rows.proofs.header.Header.has.Goals as goal

pub returns-in-Some-clause-found : goal.returns-in-Some-clause-found
returns-in-Some-clause-found c =
    found_in c.args.self.now c.self.inside.text.now c.args.name.now c.args.needle.now c.in_ok-name.name c.self.inside.fields c.in-Some.fields c.have.result c.self.view_is c.self.invariant c.in-Some.is c.in_ok-name.ensures
    (c.have.ensures ∙ ap (λ (n : List ℕ). some_beside n c.args.needle.now c.in-Some.fields.values) c.bytes.ensures.value)

pub returns-clause-found : goal.returns-clause-found
returns-clause-found c =
    found_is c.args.self.now c.args.name.now c.args.needle.now c.in_ok-name.name c.in_ok-fields.fields c.have-found.result
    (subst (λ (t : List ℕ). HoldsFields c.in_ok-fields.fields.values (with_names (fields_of t))) c.self.view_is c.in_ok-fields.ensures) c.in_ok-name.ensures
    (c.have-found.ensures ∙ ap (λ (n : List ℕ). some_beside n c.args.needle.now c.in_ok-fields.fields.values) c.bytes-2.ensures.value)
