use Rattle.std.proofs.Common.{◌≡◌, Bool, true, length, IfOk, ap, sym, subst, ◌∙◌, is_none, refl}
use Rattle.std.specs.Prelude.{nat_le}
use Rattle.std.proofs.lemmas.Bool.{le-leb}
use Rattle.undo_base.specs.Name.{IsName, first_unprintable}
use Rattle.undo_base.proofs.Names.{name_is}
use Rattle.header_fields.specs.Values.{is_field_name}
use Rattle.header_fields.proofs.FieldNames.{field_name}
use Rattle.verb_bytes.specs.Fields.{is_name}
use Rattle.verb_bytes.specs.Readers.{when}
use Rattle.verb_bytes.proofs.cursor.field_name_of.Goals as goal

pub returns : goal.returns
returns c =
    let bytes = c.args.bytes.now in
    let asked : is_field_name bytes ≡ true = search (c.is_field_name.ensures, c.if-not-is_field_name.false, c.if-not-is_field_name.ensures) in
    let name : IsName bytes = name_is bytes (field_name bytes asked) in
    let printable : is_none (first_unprintable bytes) ≡ true = ap is_none name.printable in
    let long : nat_le 1 (length bytes) ≡ true = le-leb _ _ name.some in
    let short : nat_le (length bytes) 200 ≡ true = le-leb _ _ name.most in
    let named : is_name bytes ≡ true = rw (long, short, printable) refl in
    subst (λ (b : Bool). IfOk c.name_of.result (λ found. found ≡ when b bytes)) (named ∙ sym asked) c.name_of.ensures
