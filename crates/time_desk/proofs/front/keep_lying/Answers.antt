use Rattle.std.proofs.Common.{◌≡◌, ◌∙◌, sym, true}
use Rattle.std.proofs.lemmas.Bool.{and_parts}
use Rattle.verb_bytes.specs.declared.journal.JournalRecord.TheVariants.{Kept as KeptRecord}
use Rattle.verb_bytes.specs.Spelling.{record_bytes}
use Rattle.verb_core.specs.declared.item.Item.{Item}
use Rattle.stored_items.specs.Stored.{whole}
use Rattle.store_kept.specs.Founding.{can_be_kept, store_based}
use Rattle.desk_journal.specs.Founding.{kept_stands}
use Rattle.desk_journal.specs.Records.{is_formed}
use Rattle.time_desk.proofs.Headed.{stands_whole, text_there, unlooked}
use Rattle.desk_journal.proofs.Founded.{formed_is}
use Rattle.time_desk.proofs.Fronts.{item_before_gate, item_grounded, item_lies}
use Rattle.time_desk.proofs.front.keep_lying.Goals as goal

pub returns-in-Ok-clause-grounded : goal.returns-in-Ok-clause-grounded
returns-in-Ok-clause-grounded c =
    let i : Item = whole c.args.item c.args.text in
    item_grounded c.args.founding.now c.keep_lying.new.self i c.args.place c.args.from (stands_whole c.args.founding.now.house c.args.founding.now.based c.args.item c.args.text ∙ sym c.can_keep.ensures ∙ c.if-not-can_keep.false) c.in-Ok.ensures.based c.requires.grounded
    c.in-Ok.ensures.notes c.requires.long (text_there c.args.item (record_bytes (KeptRecord i)) c.args.text c.args.from c.requires.empty c.requires.lies)

pub returns-in-Ok-clause-noted : goal.returns-in-Ok-clause-noted
returns-in-Ok-clause-noted c =
    let i : Item = whole c.args.item c.args.text in
    item_before_gate c.args.founding.now c.keep_lying.new.self i c.args.place c.args.from (stands_whole c.args.founding.now.house c.args.founding.now.based c.args.item c.args.text ∙ sym c.can_keep.ensures ∙ c.if-not-can_keep.false) c.in-Ok.ensures.based c.requires.grounded
    c.in-Ok.ensures.notes c.requires.long (text_there c.args.item (record_bytes (KeptRecord i)) c.args.text c.args.from c.requires.empty c.requires.lies)

pub returns-in-Ok-clause-stored : goal.returns-in-Ok-clause-stored
returns-in-Ok-clause-stored c =
    let i : Item = whole c.args.item c.args.text in
    item_lies c.args.founding.now c.keep_lying.new.self i c.args.place c.args.from (stands_whole c.args.founding.now.house c.args.founding.now.based c.args.item c.args.text ∙ sym c.can_keep.ensures ∙ c.if-not-can_keep.false) c.in-Ok.ensures.based c.requires.grounded
    c.in-Ok.ensures.notes c.requires.long (text_there c.args.item (record_bytes (KeptRecord i)) c.args.text c.args.from c.requires.empty c.requires.lies)

pub keep_lying-requires-clause-formed : goal.keep_lying-requires-clause-formed
keep_lying-requires-clause-formed c =
    let i : Item = whole c.args.item c.args.text in
    let house = c.args.founding.now.house in
    let b = c.args.founding.now.based in
    let can : kept_stands house b i ≡ true = stands_whole house b c.args.item c.args.text ∙ sym c.can_keep.ensures ∙ c.if-not-can_keep.false in
    formed_is house i (and_parts (is_formed house i) (can_be_kept b i) can).0

pub keep_lying-requires-clause-may : goal.keep_lying-requires-clause-may
keep_lying-requires-clause-may c =
    let i : Item = whole c.args.item c.args.text in
    let house = c.args.founding.now.house in
    let b = c.args.founding.now.based in
    let can : kept_stands house b i ≡ true = stands_whole house b c.args.item c.args.text ∙ sym c.can_keep.ensures ∙ c.if-not-can_keep.false in
    (and_parts (is_formed house i) (can_be_kept b i) can).1

pub keep_lying-requires-clause-unlooked : goal.keep_lying-requires-clause-unlooked
keep_lying-requires-clause-unlooked c = unlooked (store_based c.args.founding.now.house c.args.founding.now.based) c.args.item.deed c.requires.unfiltered
