-- A step keeps a store in the ranges of records, but for the lengths of lists.
use Rattle.std.proofs.Common.{ℕ, ◌≤◌, not, List, [], ◌∷◌, Less, Equal, Greater, arith, bytes_eq}
use Rattle.std.specs.Cmp.Lexicographic.{slice_cmp}
use Rattle.std.specs.List.{AllByRecursion}
use Rattle.std.specs.Ordering.{nat_cmp}
use Rattle.std.specs.FinMap.Entries as rows
use Rattle.undo_base.specs.declared.limits.TheConstants.{LAST_MOMENT}
use Rattle.verb_core.specs.declared.conf.Alias.{Alias}
use Rattle.verb_core.specs.declared.conf.Conf.{Conf}
use Rattle.verb_core.specs.declared.conf.Filter.{Filter}
use Rattle.verb_core.specs.declared.conf.House.{House}
use Rattle.verb_core.specs.declared.item.Act.TheVariants.{SetAlias, DropAlias, SetFilter, DropFilter}
use Rattle.verb_core.specs.declared.item.Deed.{Deed}
use Rattle.verb_core.specs.declared.item.Deed.TheVariants.{Append, Act as Acts}
use Rattle.verb_core.specs.declared.item.Item.{Item}
use Rattle.verb_core.specs.Step.{conf_after, in_order, run, step, with_alias, with_filter}
use Rattle.verb_core.specs.Store.{MailStore, opening, users_of}
use Rattle.kept_laws.proofs.Fits.{AreRows, Fits, FitsAlias, FitsChange, FitsConf, FitsEntry, FitsFilter, FitsMoment, FitsStore}
use Rattle.kept_laws.proofs.Deeds.{deed_fits}
use Rattle.kept_laws.proofs.Rows.{first_fit, moment_of, step_rows}
use Rattle.kept_laws.proofs.Lists.{all_filtered, either}

-- ---- rows

-- the moment of the mail that an item puts is one
moment_fits : (at : ℕ) (d : Deed) → at ≤ LAST_MOMENT → FitsMoment d → moment_of at d ≤ LAST_MOMENT
moment_fits at (Append mailbox flags moment text) le is = is
moment_fits at _ le is = le

rows_fit : (s : MailStore) (i : Item) → AreRows s.boxes → Fits i → AreRows (step s i).0.boxes
rows_fit s i h fits =
    let deed = deed_fits i.deed fits.again.deed in
    step_rows FitsEntry (λ (at : ℕ). at ≤ LAST_MOMENT) (λ e uid flags is. is) (λ e number index le lt is. ((omega (arith, le), lt), is.1, is.2))
    (λ i index flags at number rev lt moment. ((omega (arith, number), lt), rev, moment)) s i h fits.number fits.rev (moment_fits i.at i.deed fits.again.at deed.moment) deed.few deed.names

-- ---- the configuration

with_alias_fits : (new : Alias) (as_ : List Alias) → FitsAlias new → AllByRecursion FitsAlias as_ → AllByRecursion FitsAlias (with_alias new as_)
with_alias_fits new [] own h = (own, tt)
with_alias_fits new (a ∷ rest) own h =
    elim (slice_cmp nat_cmp new.local a.local) as (λ o. AllByRecursion FitsAlias (rows.by_order o (new ∷ a ∷ rest) (new ∷ rest) (a ∷ with_alias new rest))) [
      | Less ↦ (own, h)
      | Equal ↦ (own, h.1)
      | Greater ↦ (h.0, with_alias_fits new rest own h.1)
    ]

with_filter_fits : (f : Filter) (gs : List Filter) → FitsFilter f → AllByRecursion FitsFilter gs → AllByRecursion FitsFilter (with_filter f gs)
with_filter_fits f [] own h = (own, tt)
with_filter_fits f (g ∷ gs) own h = either (λ (fs : List Filter). AllByRecursion FitsFilter fs) (bytes_eq f.id g.id) (f ∷ gs) (g ∷ with_filter f gs) (own, h.1) (h.0, with_filter_fits f gs own h.1)

conf_fits : (house : House) (d : Deed) (conf : Conf) → FitsChange d → FitsConf conf → FitsConf (conf_after house d conf)
conf_fits house (Acts (SetAlias local users)) conf change h =
    let new : Alias = record { local = local; users = in_order house users } in
    record { aliases = with_alias_fits new conf.aliases change h.aliases; filters = h.filters }
conf_fits house (Acts (DropAlias local)) conf change h = record { aliases = all_filtered FitsAlias (λ (a : Alias). not (bytes_eq local a.local)) conf.aliases h.aliases; filters = h.filters }
conf_fits house (Acts (SetFilter f)) conf change h = record { aliases = h.aliases; filters = with_filter_fits f conf.filters change h.filters }
conf_fits house (Acts (DropFilter id)) conf change h = record { aliases = h.aliases; filters = all_filtered FitsFilter (λ (f : Filter). not (bytes_eq id f.id)) conf.filters h.filters }
conf_fits house _ conf change h = h

-- ---- a store

pub step_fits : (s : MailStore) (i : Item) → FitsStore s → Fits i → FitsStore (step s i).0
step_fits s i h fits = record { rows = rows_fit s i h.rows fits; conf = conf_fits s.house i.deed s.conf (deed_fits i.deed fits.again.deed).change h.conf }

pub run_fits : (base : MailStore) (t : List Item) → FitsStore base → AllByRecursion Fits t → FitsStore (run base t)
run_fits base [] h all = h
run_fits base (i ∷ is) h all = run_fits (step base i).0 is (step_fits base i h all.0) all.1

pub opening_fits : (house : House) (conf : Conf) → FitsConf conf → FitsStore (opening house conf)
opening_fits house conf h = record { rows = first_fit FitsEntry (users_of house); conf = h }
