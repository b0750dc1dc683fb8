use Rattle.std.proofs.Common.{◌∙◌, ℕ, List, ap}
use Rattle.std.specs.Ordering.{nat_cmp}
use Rattle.std.specs.Cmp.Lexicographic.{slice_cmp}
use Rattle.std.specs.BTreeMap.{is_at}
use Rattle.std.specs.Map.{remove_entry}
use Rattle.mail_rows.specs.Headers.{some_beside}
use Rattle.mail_rows.proofs.Headers.{pushed}
use Rattle.mail_rows.proofs.header.push_value.Goals as goal

pub returns : goal.returns
returns c =
    let old = c.args.fields.now.values in
    pushed old c.insert.new.self c.args.name c.take_values-values.new.fields.values.entries c.take_values-values.result c.push.new.self (record { bytes = c.args.bytes })
    (λ needle. c.take_values-values.ensures.values needle ∙ ap (λ (n : List ℕ). some_beside n needle old) c.as_slice.ensures.value)
    (c.take_values-values.ensures.others ∙ ap (λ (n : List ℕ). remove_entry (is_at (λ k. slice_cmp nat_cmp n k.items)) old.entries) c.as_slice.ensures.value)
    c.in_ok-push.ensures.items
    c.in_ok-insert.ensures.entries
