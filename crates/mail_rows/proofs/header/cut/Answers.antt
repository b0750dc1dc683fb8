use Rattle.std.proofs.Common.{◌∙◌, ◌||◌, ◌∷◌, [], ℕ, List, ap}
use Rattle.header_fields.specs.Fields.{fields_of}
use Rattle.mail_rows.specs.Headers.{some_beside, some_value, with_names}
use Rattle.mail_rows.proofs.Headers.{all_cut, cut_more}
use Rattle.mail_rows.proofs.header.cut.Goals as goal

pub loop-rest-preserved : goal.loop-rest-preserved
loop-rest-preserved c = λ own needle.
    let before = some_beside own needle c.loop-rest.fields.values in
    let now = some_beside own needle c.push_field.new.fields.values in
    ap (λ (r : List ℕ). now || some_value own needle (with_names (fields_of r))) c.after-rest.ensures
    ∙ cut_more own needle c.args.text.now c.loop-rest.rest.now c.field_len-count.result before now (c.loop-rest.invariant own needle) c.field_len-count.ensures.fields
    (c.in_ok-push_field.ensures own needle ∙ ap (λ (f : List ℕ). before || some_value own needle (with_names (f ∷ []))) c.before-field.ensures)

pub returns : goal.returns
returns c = λ own needle. all_cut own needle c.args.text.now c.loop-rest.rest.now (some_beside own needle c.loop-rest.fields.values) (c.loop-rest.invariant own needle) (c.begins_field.ensures.none c.loop-rest-test.false)
