use Rattle.std.proofs.Common.{◌≡◌, ◌∙◌, ap, sym, drop, length, take_while}
use Rattle.verb_core.specs.Boxes.{box_of}
use Rattle.mail_desk.specs.Stamping.{StampRows, begins_with, stands_before}
use Rattle.mail_desk.proofs.RowPlaces.{found_there, none_taken, taken_there}
use Rattle.mail_desk.proofs.stamps.take_row.Goals as goal

pub returns-then-is_first-clause-found : goal.returns-then-is_first-clause-found
returns-then-is_first-clause-found c =
    let id = box_of c.args.user c.args.name.now in
    let rows = c.args.rows.now.items in
    let place = c.place_for-place.result in
    let at : place ≡ length (take_while (stands_before id) rows) = c.place_for-place.ensures ∙ ap (λ (rs : StampRows). length (take_while (stands_before id) rs)) c.as_slice.ensures.value in
    let first : c.is_first.result ≡ begins_with id (drop place rows) = c.is_first.ensures ∙ ap (begins_with id) (c.after.ensures ∙ ap (drop place) c.as_slice-2.ensures.value) in
    sym (sym first ∙ c.if-is_first.true) ∙ found_there id rows place c.requires.rising at

pub returns-then-is_first-clause-rows : goal.returns-then-is_first-clause-rows
returns-then-is_first-clause-rows c =
    let id = box_of c.args.user c.args.name.now in
    let rows = c.args.rows.now.items in
    let place = c.place_for-place.result in
    let at : place ≡ length (take_while (stands_before id) rows) = c.place_for-place.ensures ∙ ap (λ (rs : StampRows). length (take_while (stands_before id) rs)) c.as_slice.ensures.value in
    let first : c.is_first.result ≡ begins_with id (drop place rows) = c.is_first.ensures ∙ ap (begins_with id) (c.after.ensures ∙ ap (drop place) c.as_slice-2.ensures.value) in
    c.remove.ensures.items ∙ taken_there id rows place c.requires.rising at (sym first ∙ c.if-is_first.true)

pub returns-clause-found : goal.returns-clause-found
returns-clause-found c =
    let id = box_of c.args.user c.args.name.now in
    let rows = c.args.rows.now.items in
    let place = c.place_for-place.result in
    let at : place ≡ length (take_while (stands_before id) rows) = c.place_for-place.ensures ∙ ap (λ (rs : StampRows). length (take_while (stands_before id) rs)) c.as_slice.ensures.value in
    let first : c.is_first.result ≡ begins_with id (drop place rows) = c.is_first.ensures ∙ ap (begins_with id) (c.after.ensures ∙ ap (drop place) c.as_slice-2.ensures.value) in
    sym (sym first ∙ c.if-is_first.false) ∙ found_there id rows place c.requires.rising at

pub returns-clause-rows : goal.returns-clause-rows
returns-clause-rows c =
    let id = box_of c.args.user c.args.name.now in
    let rows = c.args.rows.now.items in
    let place = c.place_for-place.result in
    let at : place ≡ length (take_while (stands_before id) rows) = c.place_for-place.ensures ∙ ap (λ (rs : StampRows). length (take_while (stands_before id) rs)) c.as_slice.ensures.value in
    let first : c.is_first.result ≡ begins_with id (drop place rows) = c.is_first.ensures ∙ ap (begins_with id) (c.after.ensures ∙ ap (drop place) c.as_slice-2.ensures.value) in
    none_taken id rows place c.requires.rising at (sym first ∙ c.if-is_first.false)
