use Rattle.std.proofs.Common.{◌≡◌, ℕ, List, [], ◌∷◌, length, true, cond, refl, ap, ◌∙◌, sym, subst}
use Rattle.std.proofs.lemmas.List.{length-append}
use Rattle.std.specs.Ordering.{nat_cmp, is_eq}
use Rattle.std.specs.Cmp.Lexicographic.{slice_cmp}
use Rattle.std.specs.BTreeSet.{btree_set_len, contains}
use Rattle.smtp_session.specs.Held.{HoldsNames}
use Rattle.smtp_session.proofs.Held.{holds_more, one_more}
use Rattle.smtp_session.proofs.recipients.Recipients.put.Goals as goal

pub invariant_of-self-in-Ok : goal.invariant_of-self-in-Ok
invariant_of-self-in-Ok c =
    let R = slice_cmp nat_cmp in
    let updated = subst (λ (k : List ℕ). (q : List ℕ) → contains R c.insert.new.self q ≡ cond (is_eq (R k q)) true (contains R c.self.inside.held q))
    c.in_ok-copy.ensures c.in-Ok.ensures.updates.0 in
    let holds = subst (λ (names : List (List ℕ)). HoldsNames c.insert.new.self names) (sym c.in_ok-push.ensures.items)
    (holds_more c.self.inside.held c.insert.new.self c.self.inside.names.items c.args.name c.self.invariant.0 updated) in
    let more = ap length c.in_ok-push.ensures.items ∙ length-append c.self.inside.names.items (c.args.name ∷ []) in
    (holds, one_more _ (btree_set_len c.self.inside.held) (btree_set_len c.insert.new.self) (length c.self.inside.names.items) (length c.push.new.self.items) c.in-Ok.ensures.len c.self.invariant.1 more, λ other. refl)
