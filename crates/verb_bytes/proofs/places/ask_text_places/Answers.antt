use Rattle.std.proofs.Common.{◌≡◌, ℕ}
use Rattle.verb_bytes.specs.declared.journal.JournalRecord.TheVariants.{Cycle}
use Rattle.verb_bytes.specs.Places.{text_places_of}
use Rattle.verb_bytes.proofs.Found.{ask_found, ask_given, ask_replaced, counted}
use Rattle.verb_bytes.proofs.places.ask_text_places.Goals as goal

found : (c : goal.In_ok-place_each) (number at : ℕ) → c.place_each-2.new.places ≡ text_places_of (Cycle number at c.args.ask.now)
found c number at =
    ask_found number at c.args.ask.now c.in_ok-at-3.at c.in_ok-at-5.at c.place_each.new.places c.place_each-2.new.places
    (counted c.args.ask.now c.in_ok-at.at c.in_ok-at-2.at c.len.result c.in_ok-at-3.at c.in_ok-at-4.at c.in_ok-at-5.at c.as_slice.result.now c.as_slice-2.result.now c.new-places.result c.place_each.new.places c.place_each-2.new.places c.in_ok-at.ensures c.in_ok-at-2.ensures c.len.ensures c.in_ok-at-3.ensures c.as_slice.ensures c.new-places.ensures c.in_ok-at-4.ensures.0 c.in_ok-at-4.ensures.1 c.in_ok-at-5.ensures c.as_slice-2.ensures c.in_ok-place_each.ensures.1)

pub returns-clause-places : goal.returns-clause-places
returns-clause-places c = λ number at. found c number at

pub returns-clause-replaced : goal.returns-clause-replaced
returns-clause-replaced c = λ number at. ask_replaced number at c.args.ask.now c.place_each-2.new.places (found c number at)

pub returns-clause-given : goal.returns-clause-given
returns-clause-given c = λ number at. ask_given number at c.args.ask.now c.place_each-2.new.places (found c number at)
