-- How the code finds the places: by spans of them.
use Rattle.std.specs.Prelude.{◌≡◌, ℕ, Bool, ◌<◌, ◌≤◌, ◌&&◌, List, length, nat_le, nat_lt, slice_index}
use Rattle.std.specs.List.{list_any, All}
use Rattle.imap_stream.specs.declared.picks.SetRange.{SetRange}
use Rattle.imap_stream.specs.declared.picks.Span.{Span}
use Rattle.imap_stream.specs.Sets.{covers, covered}

-- a place is in a span
abbrev pub in_span : ℕ → Span → Bool
in_span p s = nat_le s.from p && nat_lt p s.to

-- a place is in one of the spans
abbrev pub in_any : List Span → ℕ → Bool
in_any spans p = list_any (in_span p) spans

-- the spans end within so many places
abbrev pub AreWithin : ℕ → List Span → Type 0
AreWithin n spans = All (λ (s : Span). s.to ≤ n) spans

-- so many UIDs are below a number, and the others are not
abbrev pub IsBelow : ℕ → List ℕ → ℕ → Type 0
IsBelow number uids n = ((k : ℕ) → k < n → slice_index uids k < number) × ((k : ℕ) → n ≤ k → k < length uids → number ≤ slice_index uids k)

-- the span has the places whose numbers lie between two
abbrev pub IsSpanOf : (ℕ → ℕ) → ℕ → ℕ → ℕ → Span → Type 0
IsSpanOf number count low high s = (p : ℕ) → p < count → in_span p s ≡ (nat_le low (number p) && nat_le (number p) high)

-- the span has the places, of so many, whose numbers a range covers, where * is the greatest
abbrev pub IsRangeSpan : (ℕ → ℕ) → ℕ → ℕ → SetRange → Span → Type 0
IsRangeSpan number greatest count range s = (p : ℕ) → p < count → in_span p s ≡ covers greatest range (number p)

-- the spans have the places, of so many, whose numbers a set covers
abbrev pub SpansSet : (ℕ → ℕ) → ℕ → ℕ → List SetRange → List Span → Type 0
SpansSet number greatest count set spans = (p : ℕ) → p < count → in_any spans p ≡ covered greatest set (number p)
