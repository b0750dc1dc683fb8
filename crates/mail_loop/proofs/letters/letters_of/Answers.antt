use Rattle.std.proofs.Common.{◌≤◌, ℕ, List, [], ◌∷◌, ◌++◌, Option, length, nat_lt, unwrap_or, ap, refl, subst, sym, ◌∙◌}
use Rattle.std.specs.List.{insert, position_or_len}
use Rattle.mail_loop.specs.declared.letters.Letter.{Letter}
use Rattle.mail_loop.specs.declared.letters.Said.TheVariants.{Answers}
use Rattle.mail_loop.specs.declared.aftermath.Aftermath.{Aftermath}
use Rattle.mail_loop.specs.Machine.{Reply, told_others, with_reply}
use Rattle.mail_loop.specs.Stands.{replies_of, reply_of}
use Rattle.mail_loop.proofs.Placing.{none_told, place_is, place_within, quiet_is, with_placed}
use Rattle.mail_loop.proofs.letters.letters_of.Goals as goal

-- a letter stands within the others
pub with_letter-requires-clause-place : goal.with_letter-requires-clause-place
with_letter-requires-clause-place c =
    let own = c.args.turned.conn in
    let others = c.as_slice-others.result.now in
    let is = c.unwrap_or-place.ensures
    ∙ ap (λ (o : Option ℕ). unwrap_or o (length others)) c.first_behind.ensures
    ∙ place_is (λ (l : Letter). nat_lt own l.conn) others
    ∙ ap (λ (ls : List Letter). position_or_len (λ (l : Letter). nat_lt own l.conn) ls) c.as_slice-others.ensures.value in
    let items = c.letters_to_others-letters.result.items in
    subst (λ (n : ℕ). n ≤ length items) (sym is) (place_within (λ (l : Letter). nat_lt own l.conn) items)

-- where nothing follows it is the only one
pub returns-then-is_quiet : goal.returns-then-is_quiet
returns-then-is_quiet c =
    let turned = c.args.turned in
    let own : Letter = record { conn = turned.conn; said = Answers turned.said; closes = turned.closes } in
    let es = c.args.connections.now.entries in
    let none = sym (none_told c.args.conn es) ∙ ap (λ (a : Aftermath). told_others c.args.conn a es) (sym (quiet_is turned.aftermath (sym c.is_quiet.ensures ∙ c.if-is_quiet.true))) in
    ap replies_of (c.push_reserved.ensures.items ∙ ap (λ (ls : List Letter). ls ++ own ∷ []) c.requires.none)
    ∙ ap (λ (rs : List Reply). with_reply (reply_of turned) rs) none

pub returns : goal.returns
returns c =
    let turned = c.args.turned in
    let own : Letter = record { conn = turned.conn; said = Answers turned.said; closes = turned.closes } in
    let items = c.letters_to_others-letters.result.items in
    let others = c.as_slice-others.result.now in
    let is = c.unwrap_or-place.ensures
    ∙ ap (λ (o : Option ℕ). unwrap_or o (length others)) c.first_behind.ensures
    ∙ place_is (λ (l : Letter). nat_lt turned.conn l.conn) others
    ∙ ap (λ (ls : List Letter). position_or_len (λ (l : Letter). nat_lt turned.conn l.conn) ls) c.as_slice-others.ensures.value in
    ap replies_of c.with_letter.ensures
    ∙ ap (λ (n : ℕ). replies_of (insert items n own)) is
    ∙ with_placed own turned.conn items refl
    ∙ ap (λ (rs : List Reply). with_reply (reply_of turned) rs) c.letters_to_others-letters.ensures.letters
