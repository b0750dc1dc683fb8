use Rattle.std.proofs.Common.{true, length, ◌∷◌, ap, subst, ◌∙◌}
use Rattle.verb_bytes.specs.Fields.{field}
use Rattle.verb_bytes.specs.Writing.{Puts}
use Rattle.verb_bytes.proofs.Puts.{name_same}
use Rattle.verb_bytes.proofs.write.put_name.Goals as goal

pub returns : goal.returns
returns c =
    let same = ap (λ b. field true (length b ∷ b)) c.bytes-bytes.ensures.value ∙ name_same c.args.value.now c.bytes-bytes.ensures.name in
    subst (λ fs. Puts fs c.args.out.now c.put_both.new.out c.put_both.result) same c.put_both.ensures
