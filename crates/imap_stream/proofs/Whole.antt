-- A stream that comes in pieces.
use Rattle.std.proofs.Common.{◌≡◌, ℕ, ◌+◌, ◌<◌, length, take, get_or, List, [], ◌∷◌, ◌++◌, ap, sym, ◌∙◌}
use Rattle.std.proofs.lemmas.List.{append-nil, take_more, flat_map_more}
use Rattle.std.specs.List.{flat_map}
use Rattle.imap_stream.specs.Commands.{Heard, heard, heard_of, said_of, emptied, saying, before, nothing}
use Rattle.imap_stream.specs.declared.next.Next.{Next}
use Rattle.imap_stream.specs.declared.begun.Awaits.TheVariants.{Line}
use Rattle.imap_stream.proofs.Hearing.{heard-append, heard-saying}

whole_said : (h : Heard) → h ≡ saying h.said (emptied h)
whole_said h = ap (λ (said : List Next). record { said = said; begun = h.begun; awaits = h.awaits; rest = h.rest }) (sym (append-nil h.said))

-- what a longer stream gives is what its front gives, and then what the rest makes of what that leaves
pub heard_more : (stream piece : List ℕ) → heard_of (stream ++ piece) ≡ saying (said_of stream) (heard (emptied (heard_of stream)) piece)
heard_more stream piece =
    heard-append (before nothing Line) stream piece ∙ ap (λ h. heard h piece) (whole_said (heard_of stream)) ∙ heard-saying (said_of stream) (emptied (heard_of stream)) piece

-- one piece more
pub pieces_more : (pieces : List (List ℕ)) (i : ℕ) (piece : List ℕ) → i < length pieces → piece ≡ get_or pieces i piece
    → flat_map (λ p. p) (take (i + 1) pieces) ≡ flat_map (λ p. p) (take i pieces) ++ piece
pieces_more pieces i piece within is =
    ap (flat_map (λ (p : List ℕ). p)) (take_more pieces i piece within ∙ ap (λ p. take i pieces ++ p ∷ []) (sym is))
    ∙ sym (flat_map_more (λ (p : List ℕ). p) [] (take i pieces) piece)
