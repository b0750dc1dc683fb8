use Rattle.std.proofs.Common.{◌∙◌, sym, string_bytes}
use Rattle.std.proofs.lemmas.List.Folds.{list_all-map}
use Rattle.command_words.specs.Usage.{is_word}
use Rattle.command_words.proofs.shapes.are_words.Goals as goal

pub returns : goal.returns
returns c = c.all_are_words.ensures ∙ sym (list_all-map is_word string_bytes c.args.words.now)
