use Rattle.std.proofs.Common.{◌≡◌, ◌≤◌, ◌∙◌, List, ℕ, Some, length, sym, arith}
use Rattle.verb_core.specs.Items.{text_in}
use Rattle.verb_bytes.specs.declared.journal.JournalRecord.TheVariants.{Kept as KeptRecord}
use Rattle.verb_bytes.specs.Places.{IsTextAt}
use Rattle.verb_bytes.specs.Spelling.{record_bytes}
use Rattle.time_desk.proofs.Fronts.{item_before_gate, item_grounded, item_lies}
use Rattle.time_desk.proofs.front.keep_item.Goals as goal

pub returns-in-Ok-clause-grounded : goal.returns-in-Ok-clause-grounded
returns-in-Ok-clause-grounded c =
    let short : length (record_bytes (KeptRecord c.args.item)) ≤ 4294967295 = omega (arith, c.requires.long, c.length_at-length.ensures, c.length_at-length.type_inv) in
    item_grounded c.args.founding.now c.keep.new.self c.args.item c.args.place c.kept_text_from-from.result (sym c.can_keep.ensures ∙ c.if-not-can_keep.false) c.in-Ok.ensures.based c.requires.grounded
    c.in-Ok.ensures.notes c.requires.long (λ text is. c.kept_text_from-from.ensures.lies text short is)

pub returns-in-Ok-clause-noted : goal.returns-in-Ok-clause-noted
returns-in-Ok-clause-noted c =
    let short : length (record_bytes (KeptRecord c.args.item)) ≤ 4294967295 = omega (arith, c.requires.long, c.length_at-length.ensures, c.length_at-length.type_inv) in
    item_before_gate c.args.founding.now c.keep.new.self c.args.item c.args.place c.kept_text_from-from.result (sym c.can_keep.ensures ∙ c.if-not-can_keep.false) c.in-Ok.ensures.based c.requires.grounded
    c.in-Ok.ensures.notes c.requires.long (λ text is. c.kept_text_from-from.ensures.lies text short is)

pub returns-in-Ok-clause-stored : goal.returns-in-Ok-clause-stored
returns-in-Ok-clause-stored c =
    let short : length (record_bytes (KeptRecord c.args.item)) ≤ 4294967295 = omega (arith, c.requires.long, c.length_at-length.ensures, c.length_at-length.type_inv) in
    item_lies c.args.founding.now c.keep.new.self c.args.item c.args.place c.kept_text_from-from.result (sym c.can_keep.ensures ∙ c.if-not-can_keep.false) c.in-Ok.ensures.based c.requires.grounded
    c.in-Ok.ensures.notes c.requires.long (λ text is. c.kept_text_from-from.ensures.lies text short is)
