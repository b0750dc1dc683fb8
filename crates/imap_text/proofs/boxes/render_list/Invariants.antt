use Rattle.std.proofs.Common.{◌≡◌, ◌++◌, take}
use Rattle.std.specs.List.{flat_map}
use Rattle.imap_text.specs.Answers.{list_line}
use Rattle.imap_text.proofs.boxes.render_list.Given as goal

abbrev pub invariant-loop-name : goal.invariant-loop-name
invariant-loop-name l = l.out ≡ flat_map (list_line l.word l.deep) (take l.name-index l.names)
