-- Aliases that are put into an object.
use Rattle.std.proofs.Common.{◌≡◌, ℕ, ◌+◌, ◌<◌, List, ◌∷◌, length, drop, get_or, add-one, drop-cons}
use Rattle.std.specs.Prelude.{fold}
use Rattle.verb_core.specs.declared.conf.Alias.{Alias}
use Rattle.verb_core.specs.declared.conf.House.{House}
use Rattle.console_replies.specs.Confs.{put_alias}
use Rattle.serde_json.specs.Data.{Members}

-- one more alias
pub aliases_more : (house : House) (all : List Alias) (i : ℕ) (a : Alias) (ms new due : Members) → i < length all → new ≡ put_alias house ms (get_or all i a)
    → fold (put_alias house) ms (drop i all) ≡ due → fold (put_alias house) new (drop (i + 1) all) ≡ due
aliases_more house all i a ms new due h e far =
    let cut : drop i all ≡ get_or all i a ∷ drop (i + 1) all = rw add-one (drop-cons all i a h) in
    let far2 = rw cut at far in
    rw e far2
