-- What stands between commas, by the first comma.
use Rattle.std.proofs.Common.{◌≡◌, ℕ, Bool, true, false, cond, ◌==◌, List, [], ◌∷◌, ◌++◌, Option, None, Some, option_map, option_and_then, refl, ap, sym, ◌∙◌}
use Rattle.std.proofs.lemmas.List.{append_assoc}
use Rattle.imap_stream.specs.declared.picks.SetRange.{SetRange}
use Rattle.imap_tokens.specs.Sets.{cut_at, onto_first, between_commas, range_in, ranges_in, set_in}

abbrev pub parts_by : List ℕ → Option (List ℕ × List ℕ) → List (List ℕ)
parts_by bytes None = bytes ∷ []
parts_by bytes (Some parts) = parts.0 ∷ between_commas parts.1

onto_parts : (b : ℕ) (bytes : List ℕ) (o : Option (List ℕ × List ℕ)) → onto_first b (parts_by bytes o) ≡ parts_by (b ∷ bytes) (option_map (λ parts. (b ∷ parts.0, parts.1)) o)
onto_parts b bytes None = refl
onto_parts b bytes (Some parts) = refl

by_comma : (t : Bool) (b : ℕ) (bytes : List ℕ) → between_commas bytes ≡ parts_by bytes (cut_at 44 bytes)
    → cond t ([] ∷ between_commas bytes) (onto_first b (between_commas bytes)) ≡ parts_by (b ∷ bytes) (cond t (Some ([], bytes)) (option_map (λ parts. (b ∷ parts.0, parts.1)) (cut_at 44 bytes)))
by_comma true b bytes e = refl
by_comma false b bytes e = ap (onto_first b) e ∙ onto_parts b bytes (cut_at 44 bytes)

pub between_is : (bytes : List ℕ) → between_commas bytes ≡ parts_by bytes (cut_at 44 bytes)
between_is [] = refl
between_is (b ∷ bytes) = by_comma (b == 44) b bytes (between_is bytes)

-- a set with a comma in it
pub set_cut : (bytes first rest : List ℕ) → cut_at 44 bytes ≡ Some (first, rest)
    → set_in bytes ≡ option_and_then (λ range. option_map (λ ranges. range ∷ ranges) (set_in rest)) (range_in first)
set_cut bytes first rest e = ap ranges_in (between_is bytes ∙ ap (parts_by bytes) e)

-- a set without one
pub set_whole : (bytes : List ℕ) → cut_at 44 bytes ≡ None → set_in bytes ≡ option_map (λ range. range ∷ []) (range_in bytes)
set_whole bytes e = ap ranges_in (between_is bytes ∙ ap (parts_by bytes) e) ∙ only (range_in bytes)
  where
    only : (o : Option SetRange) → option_and_then (λ range. option_map (λ ranges. range ∷ ranges) (Some [])) o ≡ option_map (λ range. range ∷ []) o
    only None = refl
    only (Some range) = refl

-- the set with a range more
abbrev pub added : List SetRange → Option SetRange → Option (List SetRange)
added set o = option_map (λ range. set ++ range ∷ []) o

-- the set with more ranges
abbrev pub joined : List SetRange → Option (List SetRange) → Option (List SetRange)
joined set o = option_map (λ more. set ++ more) o

join_more : (set : List SetRange) (range : SetRange) (o : Option (List SetRange)) → joined set (option_map (λ ranges. range ∷ ranges) o) ≡ joined (set ++ range ∷ []) o
join_more set range None = refl
join_more set range (Some ranges) = ap Some (sym (append_assoc set (range ∷ []) ranges))

by_range : (set : List SetRange) (r : Option SetRange) (o : Option (List SetRange))
    → joined set (option_and_then (λ range. option_map (λ ranges. range ∷ ranges) o) r) ≡ option_and_then (λ longer. joined longer o) (added set r)
by_range set None o = refl
by_range set (Some range) o = join_more set range o

-- a range that is read adds to the set, and the rest of the set follows
pub set_more : (set : List SetRange) (bytes first rest : List ℕ) → cut_at 44 bytes ≡ Some (first, rest)
    → joined set (set_in bytes) ≡ option_and_then (λ longer. joined longer (set_in rest)) (added set (range_in first))
set_more set bytes first rest e = ap (joined set) (set_cut bytes first rest e) ∙ by_range set (range_in first) (set_in rest)

last_range : (set : List SetRange) (r : Option SetRange) → joined set (option_map (λ range. range ∷ []) r) ≡ added set r
last_range set None = refl
last_range set (Some range) = refl

-- the last range
pub set_last : (set : List SetRange) (bytes : List ℕ) → cut_at 44 bytes ≡ None → joined set (set_in bytes) ≡ added set (range_in bytes)
set_last set bytes e = ap (joined set) (set_whole bytes e) ∙ last_range set (range_in bytes)

-- what a range of a set gives: the longer set, or none
abbrev pub Adds : List SetRange → List ℕ → Bool → List SetRange → Type 0
Adds set bytes good longer = added set (range_in bytes) ≡ cond good (Some longer) None

pub set_bad : (set longer : List SetRange) (bytes first rest : List ℕ) (good : Bool) (whole : Option (List SetRange))
    → Some (first, rest) ≡ cut_at 44 bytes → Adds set first good longer → good ≡ false → joined set (set_in bytes) ≡ whole → None ≡ whole
set_bad set longer bytes first rest good whole cut adds is e =
    sym (ap (option_and_then (λ longer. joined longer (set_in rest))) (adds ∙ ap (λ g. cond g (Some longer) None) is)) ∙ sym (set_more set bytes first rest (sym cut)) ∙ e

pub set_step : (set longer : List SetRange) (bytes first rest : List ℕ) (good : Bool) (whole : Option (List SetRange))
    → Some (first, rest) ≡ cut_at 44 bytes → Adds set first good longer → good ≡ true → joined set (set_in bytes) ≡ whole → joined longer (set_in rest) ≡ whole
set_step set longer bytes first rest good whole cut adds is e =
    sym (ap (option_and_then (λ longer. joined longer (set_in rest))) (adds ∙ ap (λ g. cond g (Some longer) None) is)) ∙ sym (set_more set bytes first rest (sym cut)) ∙ e

pub set_end : (set longer : List SetRange) (bytes : List ℕ) (good : Bool) (whole : Option (List SetRange))
    → None ≡ cut_at 44 bytes → Adds set bytes good longer → joined set (set_in bytes) ≡ whole → cond good (Some longer) None ≡ whole
set_end set longer bytes good whole cut adds e = sym adds ∙ sym (set_last set bytes (sym cut)) ∙ e
