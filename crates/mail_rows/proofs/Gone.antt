-- An entry that goes from mail whose keys rise.
use Rattle.std.proofs.Common.{◌≡◌, ◌+◌, ◌<◌, ◌&&◌, ◌||◌, ℕ, zero, suc, Bool, cond, true, false, not, List, [], ◌∷◌, length, get_or, Option, Some, None, filter, remove, refl, sym, ap, ◌∙◌, subst, arith, true≢false, Less, is_lt}
use Rattle.std.specs.Cmp.{first_so, second_so}
use Rattle.std.specs.List.{list_any}
use Rattle.undo_base.specs.declared.keys.Key.{Key}
use Rattle.verb_core.specs.declared.mailbox.Entry.{Entry}
use Rattle.verb_core.specs.KeyOrder.{key_cmp, is_above, keys_rise, keys_rise_from}
use Rattle.verb_core.specs.Mailboxes.{same_key, is_among, without}
use Rattle.verb_core.proofs.KeyOrders.{keys_total}
use Rattle.verb_core.proofs.Searched.{less_is}
use Rattle.mail_rows.specs.Indexed.{IsKeyPlace}
use Rattle.mail_rows.proofs.KeyPlaces.{above_low, apart_above, apart_below, any_none, or_false, same_back}
use Rattle.mail_rows.proofs.KeysSeen.{itself}

one_among : (key : Key) (q : Key) → is_among (key ∷ []) q ≡ same_key key q
one_among key q = or_false (same_key q key) ∙ same_back q key

-- where the key is none of them, all stay
pub none_goes : (key : Key) (es : List Entry) → list_any (λ (e : Entry). same_key key e.key) es ≡ false → without (key ∷ []) es ≡ es
none_goes key [] none = refl
none_goes key (e ∷ es) none = go (same_key key e.key) refl none (none_goes key es)
  where
    go : (b : Bool) → same_key key e.key ≡ b → (b || list_any (λ (x : Entry). same_key key x.key) es) ≡ false
        → (list_any (λ (x : Entry). same_key key x.key) es ≡ false → without (key ∷ []) es ≡ es)
        → without (key ∷ []) (e ∷ es) ≡ e ∷ es
    go true is h more = absurd (true≢false h)
    go false is h more = ap (λ b. cond (not b) (e ∷ without (key ∷ []) es) (without (key ∷ []) es)) (one_among key e.key ∙ is) ∙ ap (λ (xs : List Entry). e ∷ xs) (more h)

goes_at : (low : Option Key) (es : List Entry) (key : Key) (at : ℕ) → keys_rise_from low es ≡ true → at < length es → ((d : Entry) → (get_or es at d).key ≡ key) → remove es at ≡ without (key ∷ []) es
goes_at low [] key at rise within is = absurd (omega arith)
goes_at low (e ∷ es) key zero rise within is =
    let rest : keys_rise_from (Some e.key) es ≡ true = second_so (is_above low e.key) _ rise in
    let here : same_key key e.key ≡ true = ap (λ (k : Key). same_key key k) (is e) ∙ itself key in
    let none : list_any (λ (x : Entry). same_key key x.key) es ≡ false =
    any_none (λ (x : Entry). same_key key x.key) es (λ j x inside. subst (λ (k : Key). same_key k (get_or es j x).key ≡ false) (is e) (apart_below e.key (get_or es j x).key (above_low e.key es rest j x inside))) in
    sym (ap (λ b. cond (not b) (e ∷ without (key ∷ []) es) (without (key ∷ []) es)) (one_among key e.key ∙ here) ∙ none_goes key es none)
goes_at low (e ∷ es) key (suc at) rise within is =
    let rest : keys_rise_from (Some e.key) es ≡ true = second_so (is_above low e.key) _ rise in
    let below : key_cmp e.key key ≡ Less = subst (λ (k : Key). key_cmp e.key k ≡ Less) (is e) (above_low e.key es rest at e (omega arith)) in
    ap (λ (xs : List Entry). e ∷ xs) (goes_at (Some e.key) es key at rest (omega arith) is)
    ∙ sym (ap (λ b. cond (not b) (e ∷ without (key ∷ []) es) (without (key ∷ []) es)) (one_among key e.key ∙ apart_above key e.key below))

-- the entry of the key alone goes
pub goes : (es : List Entry) (key : Key) (at : ℕ) → keys_rise es ≡ true → IsKeyPlace key es (Some at) → remove es at ≡ without (key ∷ []) es
goes es key at rise is = goes_at None es key at rise is.0 is.1

-- ---- keys that still rise

lower : (low high : Key) (es : List Entry) → key_cmp low high ≡ Less → keys_rise_from (Some high) es ≡ true → keys_rise_from (Some low) es ≡ true
lower low high [] less rise = refl
lower low high (e ∷ es) less rise =
    let next : key_cmp low e.key ≡ Less = keys_total.trans low high e.key less (less_is (key_cmp high e.key) (first_so _ _ rise)) in
    ap (λ o. is_lt o && keys_rise_from (Some e.key) es) next ∙ second_so (is_lt (key_cmp high e.key)) _ rise

lowered : (low : Option Key) (high : Key) (es : List Entry) → is_above low high ≡ true → keys_rise_from (Some high) es ≡ true → keys_rise_from low es ≡ true
lowered None high [] above rise = refl
lowered None high (e ∷ es) above rise = second_so (is_lt (key_cmp high e.key)) _ rise
lowered (Some low) high es above rise = lower low high es (less_is (key_cmp low high) above) rise

remove_rises : (low : Option Key) (es : List Entry) (at : ℕ) → keys_rise_from low es ≡ true → keys_rise_from low (remove es at) ≡ true
remove_rises low [] zero rise = refl
remove_rises low [] (suc at) rise = refl
remove_rises low (e ∷ es) zero rise = lowered low e.key es (first_so (is_above low e.key) _ rise) (second_so (is_above low e.key) _ rise)
remove_rises low (e ∷ es) (suc at) rise =
    ap (λ b. b && keys_rise_from (Some e.key) (remove es at)) (first_so (is_above low e.key) _ rise)
    ∙ remove_rises (Some e.key) es at (second_so (is_above low e.key) _ rise)

-- what is left of rising keys rises
pub left_rises : (es : List Entry) (at : ℕ) → keys_rise es ≡ true → keys_rise (remove es at) ≡ true
left_rises es at rise = remove_rises None es at rise
