use Rattle.std.proofs.Common.{◌≡◌, ◌-◌, ◌++◌, length}
use Rattle.std.specs.List.{flat_map, range_with_len}
use Rattle.imap_view.specs.Named.{untold}
use Rattle.imap_session.specs.Searching.{bare_found, bare_kept, keys_of, numbers_of}
use Rattle.imap_session.proofs.search.matching_bare.Given as goal

-- what is told of those before this place, and of the rest, is told of all
abbrev pub invariant-loop-place : goal.invariant-loop-place
invariant-loop-place l = record {
  keys : l.found.keys ++ keys_of (flat_map (bare_kept untold l.searching l.entries l.view) (range_with_len l.place (length l.view - l.place))) ≡ keys_of (bare_found untold l.searching l.entries l.view);
  numbers : l.found.numbers ++ numbers_of l.searching.by_uid (flat_map (bare_kept untold l.searching l.entries l.view) (range_with_len l.place (length l.view - l.place))) ≡ numbers_of l.searching.by_uid (bare_found untold l.searching l.entries l.view);
}
