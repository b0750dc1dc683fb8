use Rattle.std.proofs.Common.{ap, sym, ◌∙◌, ℕ}
use Rattle.std.specs.Prelude.{min}
use Rattle.std.specs.Option.{option_to_list}
use Rattle.verb_bytes.specs.declared.kinds.TheConstants.{LAST_DEED}
use Rattle.verb_bytes.specs.Fields.{most_of_four}
use Rattle.verb_bytes.specs.Places.{deed_place, first_from}
use Rattle.verb_bytes.proofs.Sizes.{before_deed_is}
use Rattle.verb_bytes.proofs.places.before_item_text.Goals as goal

pub returns : goal.returns
returns c =
    let i = c.args.item.now in
    c.deed_text_from.ensures LAST_DEED ∙ ap (λ (n : ℕ). min (first_from (option_to_list (deed_place LAST_DEED n i.deed))) most_of_four) (sym (before_deed_is i.number i.at i.by))
