use Rattle.std.proofs.Common.{◌≡◌, [], take}
use Rattle.std.specs.List.{list_any}
use Rattle.verb_core.specs.declared.mailbox.Body.{Body}
use Rattle.verb_core.specs.Deeds.{same_body}
use Rattle.store_kept.specs.Naming.{is_named, texts_come}
use Rattle.store_kept.proofs.texts.BaseTexts.naming.Given as goal

abbrev pub invariant-loop-body : goal.invariant-loop-body
invariant-loop-body l = ((other : Body) → is_named l.texts other ≡ list_any (same_body other) (take l.body-index l.body-items)) × (texts_come l.texts ≡ [])
