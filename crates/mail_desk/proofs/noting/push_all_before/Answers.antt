use Rattle.std.proofs.Common.{◌≡◌, ◌+◌, List, ℕ, Option, [], ◌∷◌, ◌++◌, take, ap, option_map, sym, subst, ◌∙◌}
use Rattle.std.specs.List.{AllByRecursion}
use Rattle.std.proofs.lemmas.List.{append_assoc, take_more}
use Rattle.std.proofs.lemmas.List.Elements.{filter_map-append}
use Rattle.verb_core.specs.declared.mailbox.Body.{Body}
use Rattle.shelf.specs.declared.note.Note.{Note}
use Rattle.shelf.specs.Notes.{note_of}
use Rattle.store_kept.specs.Kept.{BaseTexts}
use Rattle.store_kept.specs.Naming.{NamedTexts, texts_come}
use Rattle.mail_desk.specs.Noting.{IsNotedBefore, rows_before}
use Rattle.mail_desk.proofs.Timelines.{all_joined}
use Rattle.mail_desk.proofs.noting.push_all_before.Goals as goal

come_more : (named more : NamedTexts) → texts_come (named ++ more) ≡ texts_come named ++ texts_come more
come_more named more = filter_map-append (λ (r : Body × Option (List ℕ)). option_map (λ (text : List ℕ). (r.0, text)) r.1) named more

rows_more : (old : List (Body × Note)) (texts more : BaseTexts) → rows_before old (texts ++ more) ≡ rows_before old texts ++ rows_before old more
rows_more old texts more = filter_map-append (λ (r : Body × List ℕ). option_map (λ (note : Note). (r.0, note)) (note_of old r.0)) texts more

pub loop-row-preserved : goal.loop-row-preserved
loop-row-preserved c =
    let before : NamedTexts = c.args.before.now in
    let k = c.loop-row.row-index in
    let row : Body × Option (List ℕ) = c.row-item.result in
    let old = c.args.old.now.notes in
    let more : take (k + 1) before ≡ take k before ++ row ∷ [] = take_more before k row c.loop-row-test.true ∙ ap (λ (r : Body × Option (List ℕ)). take k before ++ r ∷ []) (sym c.row-item.is) in
    let come : texts_come (take (k + 1) before) ≡ texts_come (take k before) ++ texts_come (row ∷ []) = ap texts_come more ∙ come_more (take k before) (row ∷ []) in (
      c.in_ok-push_before.ensures.rows ∙ ap (λ (rows : List (Body × Note)). rows ++ rows_before old (texts_come (row ∷ []))) c.loop-row.invariant.0
          ∙ append_assoc c.args.rows.now.items (rows_before old (texts_come (take k before))) (rows_before old (texts_come (row ∷ [])))
          ∙ ap (λ (rows : List (Body × Note)). c.args.rows.now.items ++ rows) (sym (ap (rows_before old) come ∙ rows_more old (texts_come (take k before)) (texts_come (row ∷ [])))),
      subst (AllByRecursion (IsNotedBefore old)) (sym come) (all_joined (IsNotedBefore old) (texts_come (take k before)) (texts_come (row ∷ [])) c.loop-row.invariant.1 c.in_ok-push_before.ensures.noted),
    )
