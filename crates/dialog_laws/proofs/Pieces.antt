-- Any number of events of a stream.
use Rattle.std.proofs.Common.{◌≡◌, ℕ, List, [], ◌∷◌, ◌++◌, length, flat_map, Option, None, Some, option_map, refl, sym, ap, ◌∙◌, subst}
use Rattle.std.specs.Prelude.{IfSome}
use Rattle.std.proofs.lemmas.List.{append-nil}
use Rattle.smtp_lines.specs.Line.{smtp_lines_of}
use Rattle.smtp_lines.specs.Lines.{rest_of}
use Rattle.smtp_session.specs.declared.dialog.Dialog.{Dialog}
use Rattle.imap_stream.specs.Commands as imap_stream
use Rattle.imap_stream.specs.Commands.{Heard as Stream, emptied}
use Rattle.imap_stream.specs.declared.next.Next.TheVariants.{NotYet}
use Rattle.imap_session.specs.declared.dialog.Dialog.{Dialog as ImapDialog}
use Rattle.pop_session.specs.declared.dialog.Dialog.{Dialog as PopDialog}
use Rattle.console_head.specs.Request.{Stage}
use Rattle.mail_loop.specs.Hindrance.{Hindrance}
use Rattle.mail_loop.specs.State.{Seat, Http, Imap, Pop, Smtp, State}
use Rattle.mail_loop.specs.Turns.{Heard, hears_seat, imap_turn, pop_turn, smtp_turn, turns}
use Rattle.dialog_laws.specs.Joined.{both_heard, hears_all, hears_then, joined}
use Rattle.dialog_laws.proofs.Stretches.{LinesGoOn, RestGoesOn, drop_none, events_join, pop_client_events_join, reader_events_join}

abbrev all_of : List (List ℕ) → List ℕ
all_of more = flat_map (λ (piece : List ℕ). piece) more

-- of seats of one kind, of which two events join, and which events leave of that kind, any number of events join
module _ (stage : Stage) (at conn : ℕ) (P : Seat → Type 0)
    (two : (s : State) (seat : Seat) → P seat → (first second : List ℕ) → hears_seat [] stage at s conn seat (first ++ second) ≡ joined (hears_seat [] stage at s conn seat first) (λ t left. hears_seat [] stage at t conn left second))
    (leaves : (s : State) (seat : Seat) → P seat → (first : List ℕ) → IfSome (hears_seat [] stage at s conn seat first).seat P) where
  on_seat : (h : Heard) (o : Option Seat) (next : List ℕ) (more : List (List ℕ)) → IfSome o P
      → ((t : State) (left : Seat) → P left → hears_all stage at t conn left next more ≡ hears_seat [] stage at t conn left (next ++ all_of more))
      → hears_then h o (λ t left. hears_all stage at t conn left next more) ≡ hears_then h o (λ t left. hears_seat [] stage at t conn left (next ++ all_of more))
  on_seat h None next more p same = refl
  on_seat h (Some left) next more p same = ap (both_heard h) (same h.state left p)

  all_join : (s : State) (seat : Seat) → P seat → (first : List ℕ) (more : List (List ℕ)) → hears_all stage at s conn seat first more ≡ hears_seat [] stage at s conn seat (first ++ all_of more)
  all_join s seat p first [] = ap (hears_seat [] stage at s conn seat) (sym (append-nil first))
  all_join s seat p first (next ∷ more) =
      on_seat (hears_seat [] stage at s conn seat first) (hears_seat [] stage at s conn seat first).seat next more (leaves s seat p first) (λ t left q. all_join t left q next more)
      ∙ sym (two s seat p first (next ++ all_of more))

-- ---- an SMTP client's, an IMAP client's, and a POP3 client's

abbrev IsClient : Seat → Type 0
IsClient (Smtp unserved d) = Unit {0}
IsClient (Imap stream d) = ⊥
IsClient (Http came) = ⊥
IsClient (Pop unserved d) = ⊥

-- a POP3 client's
abbrev IsFetcher : Seat → Type 0
IsFetcher (Smtp unserved d) = ⊥
IsFetcher (Imap stream d) = ⊥
IsFetcher (Http came) = ⊥
IsFetcher (Pop unserved d) = Unit {0}

-- what was said is taken
abbrev IsReader : Seat → Type 0
IsReader (Smtp unserved d) = ⊥
IsReader (Imap stream d) = stream ≡ emptied stream
IsReader (Http came) = ⊥
IsReader (Pop unserved d) = ⊥

client_left : (rest : List ℕ) (o : Option Dialog) → IfSome (option_map (Smtp rest) o) IsClient
client_left rest None = tt
client_left rest (Some d) = tt

fetcher_left : (rest : List ℕ) (o : Option PopDialog) → IfSome (option_map (Pop rest) o) IsFetcher
fetcher_left rest None = tt
fetcher_left rest (Some d) = tt

reader_left : (stream : Stream) (o : Option ImapDialog) → IfSome (option_map (Imap (emptied stream)) o) IsReader
reader_left stream None = tt
reader_left stream (Some d) = refl

client_leaves : (stage : Stage) (at conn : ℕ) (s : State) (seat : Seat) → IsClient seat → (first : List ℕ) → IfSome (hears_seat [] stage at s conn seat first).seat IsClient
client_leaves stage at conn s (Smtp unserved d) p first = client_left (rest_of (unserved ++ first)) (turns (smtp_turn at conn) [] s d (smtp_lines_of (unserved ++ first))).dialog
client_leaves stage at conn s (Imap stream d) p first = absurd p
client_leaves stage at conn s (Http came) p first = absurd p
client_leaves stage at conn s (Pop unserved d) p first = absurd p

fetcher_leaves : (stage : Stage) (at conn : ℕ) (s : State) (seat : Seat) → IsFetcher seat → (first : List ℕ) → IfSome (hears_seat [] stage at s conn seat first).seat IsFetcher
fetcher_leaves stage at conn s (Pop unserved d) p first = fetcher_left (rest_of (unserved ++ first)) (turns (pop_turn at conn) [] s d (smtp_lines_of (unserved ++ first))).dialog
fetcher_leaves stage at conn s (Smtp unserved d) p first = absurd p
fetcher_leaves stage at conn s (Imap stream d) p first = absurd p
fetcher_leaves stage at conn s (Http came) p first = absurd p

reader_leaves : (stage : Stage) (at conn : ℕ) (s : State) (seat : Seat) → IsReader seat → (first : List ℕ) → IfSome (hears_seat [] stage at s conn seat first).seat IsReader
reader_leaves stage at conn s (Imap stream d) p first =
    reader_left (imap_stream.heard stream first) (turns (imap_turn at conn) [] s d ((imap_stream.heard stream first).said ++ NotYet ∷ [])).dialog
reader_leaves stage at conn s (Smtp unserved d) p first = absurd p
reader_leaves stage at conn s (Http came) p first = absurd p
reader_leaves stage at conn s (Pop unserved d) p first = absurd p

client_two : LinesGoOn → RestGoesOn → (stage : Stage) (at conn : ℕ) (s : State) (seat : Seat) → IsClient seat → (first second : List ℕ)
    → hears_seat [] stage at s conn seat (first ++ second) ≡ joined (hears_seat [] stage at s conn seat first) (λ t left. hears_seat [] stage at t conn left second)
client_two lines rest stage at conn s (Smtp unserved d) p first second =
    events_join lines rest [] stage at conn s unserved d first second
    ∙ ap (λ (hs : List Hindrance). joined (hears_seat [] stage at s conn (Smtp unserved d) first) (λ t left. hears_seat hs stage at t conn left second)) (drop_none (length (smtp_lines_of (unserved ++ first))))
client_two lines rest stage at conn s (Imap stream d) p first second = absurd p
client_two lines rest stage at conn s (Http came) p first second = absurd p
client_two lines rest stage at conn s (Pop unserved d) p first second = absurd p

fetcher_two : LinesGoOn → RestGoesOn → (stage : Stage) (at conn : ℕ) (s : State) (seat : Seat) → IsFetcher seat → (first second : List ℕ)
    → hears_seat [] stage at s conn seat (first ++ second) ≡ joined (hears_seat [] stage at s conn seat first) (λ t left. hears_seat [] stage at t conn left second)
fetcher_two lines rest stage at conn s (Pop unserved d) p first second =
    pop_client_events_join lines rest [] stage at conn s unserved d first second
    ∙ ap (λ (hs : List Hindrance). joined (hears_seat [] stage at s conn (Pop unserved d) first) (λ t left. hears_seat hs stage at t conn left second)) (drop_none (length (smtp_lines_of (unserved ++ first))))
fetcher_two lines rest stage at conn s (Smtp unserved d) p first second = absurd p
fetcher_two lines rest stage at conn s (Imap stream d) p first second = absurd p
fetcher_two lines rest stage at conn s (Http came) p first second = absurd p

reader_two : (stage : Stage) (at conn : ℕ) (s : State) (seat : Seat) → IsReader seat → (first second : List ℕ)
    → hears_seat [] stage at s conn seat (first ++ second) ≡ joined (hears_seat [] stage at s conn seat first) (λ t left. hears_seat [] stage at t conn left second)
reader_two stage at conn s (Imap stream d) p first second =
    subst (λ (q : Stream). hears_seat [] stage at s conn (Imap q d) (first ++ second) ≡ joined (hears_seat [] stage at s conn (Imap q d) first) (λ t left. hears_seat [] stage at t conn left second)) (sym p)
    (reader_events_join stage at conn s stream d first second)
reader_two stage at conn s (Smtp unserved d) p first second = absurd p
reader_two stage at conn s (Http came) p first second = absurd p
reader_two stage at conn s (Pop unserved d) p first second = absurd p

pub client_pieces : LinesGoOn → RestGoesOn → (stage : Stage) (at conn : ℕ) (s : State) (unserved : List ℕ) (d : Dialog) (first : List ℕ) (more : List (List ℕ))
    → hears_all stage at s conn (Smtp unserved d) first more ≡ hears_seat [] stage at s conn (Smtp unserved d) (first ++ flat_map (λ piece. piece) more)
client_pieces lines rest stage at conn s unserved d first more = all_join stage at conn IsClient (client_two lines rest stage at conn) (client_leaves stage at conn) s (Smtp unserved d) tt first more

pub reader_pieces : (stage : Stage) (at conn : ℕ) (s : State) (stream : Stream) (d : ImapDialog) (first : List ℕ) (more : List (List ℕ))
    → hears_all stage at s conn (Imap (emptied stream) d) first more ≡ hears_seat [] stage at s conn (Imap (emptied stream) d) (first ++ flat_map (λ piece. piece) more)
reader_pieces stage at conn s stream d first more = all_join stage at conn IsReader (reader_two stage at conn) (reader_leaves stage at conn) s (Imap (emptied stream) d) refl first more

pub fetcher_pieces : LinesGoOn → RestGoesOn → (stage : Stage) (at conn : ℕ) (s : State) (unserved : List ℕ) (d : PopDialog) (first : List ℕ) (more : List (List ℕ))
    → hears_all stage at s conn (Pop unserved d) first more ≡ hears_seat [] stage at s conn (Pop unserved d) (first ++ flat_map (λ piece. piece) more)
fetcher_pieces lines rest stage at conn s unserved d first more = all_join stage at conn IsFetcher (fetcher_two lines rest stage at conn) (fetcher_leaves stage at conn) s (Pop unserved d) tt first more
