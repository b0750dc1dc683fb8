use Rattle.std.proofs.Common.{◌∙◌, List, [], ◌++◌, ap, subst, sym}
use Rattle.verb_core.specs.declared.conf.House.{House}
use Rattle.verb_core.specs.declared.item.Item.{Item}
use Rattle.verb_core.specs.Stamps.{opening_stamps}
use Rattle.verb_core.specs.Store.{IsValid, opening}
use Rattle.store_kept.specs.Kept.{Kept, Origin}
use Rattle.mail_desk.specs.Desk.{IsDesk}
use Rattle.mail_desk.proofs.Desks.{new_desk_holds, new_desk_is, nothing_known}
use Rattle.mail_desk.proofs.desk.begun.Goals as goal

pub invariant_of-result : goal.invariant_of-result
invariant_of-result c =
    let origin = c.args.base in
    let given = c.requires in
    record {
      desk = subst (λ (k : Kept). IsDesk k)
          (sym (new_desk_is origin c.args.store.store c.args.stamps c.house.result.now.first c.new.result.items c.new-2.result.items c.new-3.result.marks given.base given.store (given.stamps ∙ ap opening_stamps given.store)
          (ap (λ (h : House). h.first) c.house.ensures.value) c.new.ensures c.new-2.ensures.items c.new-3.ensures.marks))
          (new_desk_holds origin.house origin.opening given.house given.aliases given.filters (subst IsValid (given.store ∙ ap (λ (o : Origin). o.base) given.base) given.valid)
          (c.stamps_name_mailboxes.ensures.opening (opening origin.house origin.opening)));
      sizes = nothing_known c.new-3.result.notes origin.texts (c.new.result.items ++ []) c.new-3.ensures.notes (ap (λ (o : Origin). o.texts) given.base) (ap (λ (t : List Item). t ++ []) c.new.ensures);
    }

pub returns-clause-kept : goal.returns-clause-kept
returns-clause-kept c =
    let given = c.requires in
    new_desk_is c.args.base c.args.store.store c.args.stamps c.house.result.now.first c.new.result.items c.new-2.result.items c.new-3.result.marks given.base given.store (given.stamps ∙ ap opening_stamps given.store)
    (ap (λ (h : House). h.first) c.house.ensures.value) c.new.ensures c.new-2.ensures.items c.new-3.ensures.marks
