use Rattle.std.proofs.Common.{◌≡◌, ◌++◌, ◌∙◌, ℕ, List, Option, length, take, drop, ap, sym}
use Rattle.mail_sections.specs.Sections.{is_wanted, asked_behind, fields_where, part_of}
use Rattle.mail_sections.proofs.Telling.{passed_field, told_field}
use Rattle.mail_sections.proofs.asked.fields.Goals.{then-is_wanted+in_ok-left, else-is_wanted}
use Rattle.mail_sections.proofs.asked.fields.Goals as goal

pub loop-count-preserved : goal.loop-count-preserved
loop-count-preserved c =
    let test = is_wanted c.args.among c.args.names.now in
    let text = c.args.text.now in
    let told = c.loop-count.told in
    let left = c.loop-count.left in
    let rest = c.loop-count.rest.now in
    let m = c.field_len-count.result in
    let field = take m rest in
    let more = drop m rest in
    let next : fields_where test more ≡ fields_where test c.after-rest.result.now = ap (fields_where test) (sym c.after-rest.ensures) in
    let is = c.field_len-count.ensures.fields in
    let ends = c.field_len-count.ensures.end in
    let listed = ap (λ (names : List (List ℕ)). is_wanted c.args.among names c.before-field.result.now) (sym c.in_ok-listed.ensures) in
    let tested = ap test (sym c.before-field.ensures) ∙ listed ∙ sym c.is_wanted.ensures in
    elim c.if-is_wanted.branch [
      | then-is_wanted+in_ok-left w ↦
          let same : c.before-field.result.now ≡ field = c.before-field.ensures in
          let told_is : told ++ part_of left field ≡ c.if-is_wanted.told = ap (λ (l : List ℕ). told ++ part_of left l) (sym same) ∙ sym w.in_ok-left.ensures.told ∙ sym w.told-is in
          let left_is : asked_behind left (length field) (length (part_of left field)) ≡ c.if-is_wanted.left =
          ap (λ (l : List ℕ). asked_behind left (length l) (length (part_of left l))) (sym same) ∙ sym w.in_ok-left.ensures.left ∙ sym w.left-is in
          told_field test c.args.asked left text told rest field more is ends (tested ∙ w.if-is_wanted.true) c.loop-count.invariant
          ∙ ap (λ (l : List ℕ). l ++ part_of (asked_behind left (length field) (length (part_of left field))) (fields_where test more)) told_is
          ∙ ap (λ (a : Option (ℕ × ℕ)). c.if-is_wanted.told ++ part_of a (fields_where test more)) left_is
          ∙ ap (λ (l : List ℕ). c.if-is_wanted.told ++ part_of c.if-is_wanted.left l) next
      | else-is_wanted w ↦
          passed_field test c.args.asked left text told rest field more is ends (tested ∙ w.if-is_wanted.false) c.loop-count.invariant
          ∙ ap (λ (l : List ℕ). l ++ part_of left (fields_where test more)) (sym w.told-is)
          ∙ ap (λ (a : Option (ℕ × ℕ)). c.if-is_wanted.told ++ part_of a (fields_where test more)) (sym w.left-is)
          ∙ ap (λ (l : List ℕ). c.if-is_wanted.told ++ part_of c.if-is_wanted.left l) next
    ]
