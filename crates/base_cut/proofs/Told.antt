-- What is read of texts.
use Rattle.std.proofs.Common.{◌≡◌, ℕ, List, [], ◌∷◌, ◌++◌, map, Option, Result, Ok, Err, unwrap_or, refl, sym, ◌∙◌, ap, subst}
use Rattle.std.proofs.lemmas.List.{map-append}
use Rattle.std.specs.Prelude.{IfErr}
use Rattle.std.specs.List.{AllZip}
use Rattle.verb_core.specs.declared.bodies.BodiesFault.{BodiesFault}
use Rattle.verb_core.specs.declared.bodies.BodiesFault.TheVariants as read
use Rattle.verb_core.specs.declared.item.Item.{Item}
use Rattle.verb_core.specs.declared.mailbox.Body.{Body}
use Rattle.verb_core.specs.Texts.{BodiesTold, Gives, Rose, StaysTold}
use Rattle.verb_bytes.specs.declared.journal.JournalRecord.TheVariants.{Text, Kept}
use Rattle.verb_bytes.specs.Spelling.{record_bytes}
use Rattle.base_cut.specs.declared.fault.CutFault.{CutFault}
use Rattle.base_cut.specs.declared.fault.CutFault.TheVariants.{Read, Sink, NoMemory}
use Rattle.base_cut.specs.declared.parts.CutParts.{CutParts}
use Rattle.base_cut.specs.Cutting.{AreCut, IsKeptOf, IsTextOf, IsUnread, IsUnwritten, ReadFails, ReadsFor, ReadsTo, ReadsWell, body_of, cut_payloads, fault_of_read, texts_of, whole}

-- ---- the texts that were given

same_texts : (old mid : BodiesTold) (body : Body) → StaysTold old mid → texts_of mid body ≡ texts_of old body
same_texts old mid body stays = ap (λ (texts : Body → Option (List ℕ)). unwrap_or (texts body) []) stays.texts

-- what was given later was given at first
pub text_before : (old mid : BodiesTold) (body : Body) (payload : List ℕ) → StaysTold old mid → IsTextOf mid body payload → IsTextOf old body payload
text_before old mid body payload stays (text, given, is) = (text, λ honest. given (stays.honest honest) ∙ same_texts old mid body stays, is)

pub kept_before : (old mid : BodiesTold) (i : Item) (payload : List ℕ) → StaysTold old mid → IsKeptOf mid i payload → IsKeptOf old i payload
kept_before old mid i payload stays (text, given, is) = (text, λ honest. given (stays.honest honest) ∙ same_texts old mid (body_of i) stays, is)

pub each_kept_before : (old mid : BodiesTold) (items : List Item) (payloads : List (List ℕ)) → StaysTold old mid → AllZip (IsKeptOf mid) items payloads → AllZip (IsKeptOf old) items payloads
each_kept_before old mid [] [] stays are = tt
each_kept_before old mid [] (p ∷ payloads) stays are = absurd are
each_kept_before old mid (i ∷ items) [] stays are = absurd are
each_kept_before old mid (i ∷ items) (p ∷ payloads) stays (is, are) = (kept_before old mid i p stays is, each_kept_before old mid items payloads stays are)

-- a text that could be given
pub some_text : (told : BodiesTold) (body : Body) → (payload : List ℕ) × IsTextOf told body payload
some_text told body = (record_bytes (Text body (texts_of told body)), (texts_of told body, (λ honest. refl), refl))

pub some_kept : (told : BodiesTold) (i : Item) → (payload : List ℕ) × IsKeptOf told i payload
some_kept told i = (record_bytes (Kept (whole (texts_of told (body_of i)) i)), (texts_of told (body_of i), (λ honest. refl), refl))

texts_exact : (told : BodiesTold) (bodies : List Body) (payloads : List (List ℕ)) → told.honest → AllZip (IsTextOf told) bodies payloads
    → payloads ≡ map record_bytes (map (λ (body : Body). Text body (texts_of told body)) bodies)
texts_exact told [] [] honest are = refl
texts_exact told [] (p ∷ payloads) honest are = absurd are
texts_exact told (body ∷ bodies) [] honest are = absurd are
texts_exact told (body ∷ bodies) (p ∷ payloads) honest ((text, given, is), are) =
    ap (λ (x : List ℕ). x ∷ payloads) (is ∙ ap (λ (t : List ℕ). record_bytes (Text body t)) (given honest))
    ∙ ap (λ (l : List (List ℕ)). record_bytes (Text body (texts_of told body)) ∷ l) (texts_exact told bodies payloads honest are)

kepts_exact : (told : BodiesTold) (items : List Item) (payloads : List (List ℕ)) → told.honest → AllZip (IsKeptOf told) items payloads
    → payloads ≡ map record_bytes (map (λ (i : Item). Kept (whole (texts_of told (body_of i)) i)) items)
kepts_exact told [] [] honest are = refl
kepts_exact told [] (p ∷ payloads) honest are = absurd are
kepts_exact told (i ∷ items) [] honest are = absurd are
kepts_exact told (i ∷ items) (p ∷ payloads) honest ((text, given, is), are) =
    ap (λ (x : List ℕ). x ∷ payloads) (is ∙ ap (λ (t : List ℕ). record_bytes (Kept (whole t i))) (given honest))
    ∙ ap (λ (l : List (List ℕ)). record_bytes (Kept (whole (texts_of told (body_of i)) i)) ∷ l) (kepts_exact told items payloads honest are)

-- the payloads of a cut are those of its texts, where what is read is what was stored
pub cut_exact : (told : BodiesTold) (parts : CutParts) (payloads : List (List ℕ)) → AreCut told parts payloads → told.honest → payloads ≡ cut_payloads parts (texts_of told)
cut_exact told parts payloads are honest =
    are.payloads_are
    ∙ ap (λ (l : List (List ℕ)). parts.head ∷ parts.base ∷ l)
    (ap (λ (l : List (List ℕ)). l ++ are.kepts) (texts_exact told parts.bodies are.texts honest are.texts_are)
    ∙ ap (λ (l : List (List ℕ)). map record_bytes (map (λ (body : Body). Text body (texts_of told body)) parts.bodies) ++ l) (kepts_exact told parts.kept are.kepts honest are.kepts_are)
    ∙ sym (map-append record_bytes (map (λ (body : Body). Text body (texts_of told body)) parts.bodies) (map (λ (i : Item). Kept (whole (texts_of told (body_of i)) i)) parts.kept)))

-- a text that was not read is no fault of writing
pub unread_is_unwritten : (fault : BodiesFault) → IsUnwritten (fault_of_read fault)
unread_is_unwritten read.Failed = tt
unread_is_unwritten read.NoMemory = tt

-- ---- what a call reads

pub stays_on : (a b c : BodiesTold) → StaysTold a b → StaysTold b c → StaysTold a c
stays_on a b c first second = record {
  holds = second.holds ∙ first.holds;
  texts = second.texts ∙ first.texts;
  honest = λ honest. second.honest (first.honest honest);
}

module _ {B : Type 0} (told : B → BodiesTold) (leads : B → B → Type 0) where
  -- nothing was read
  pub reads_none : (a : B) → leads a a → ReadsWell told leads a a
  reads_none a itself = record { stays = record { holds = refl; texts = refl; honest = λ honest. honest }; faults = refl; led = itself }

  -- a text was not read
  pub text_unread : (a b : B) (body : Body) (fault : BodiesFault) → leads a a → leads a b → Gives (told a) (told b) body (Err fault) → ReadsTo told leads (fault_of_read fault) a b
  text_unread a b body read.Failed itself led gives = record { before = a; well = reads_none a itself; body = body; fails = gives; led = led }
  text_unread a b body read.NoMemory itself led gives = record { stays = gives.0; faults = gives.1; led = led }

  -- texts were read well, and then it stopped by a fault of no read
  pub reads_unread : (a b : B) (fault : CutFault) → IsUnread fault → ReadsWell told leads a b → ReadsTo told leads fault a b
  reads_unread a b Read unread reads = absurd unread
  reads_unread a b Sink unread reads = reads
  reads_unread a b NoMemory unread reads = reads

  pub reads_written : {T : Type 0} (a b : B) (r : Result T CutFault) → IfErr r IsUnread → ReadsWell told leads a b → ReadsFor told leads a b r
  reads_written a b (Ok x) unread reads = reads
  reads_written a b (Err fault) unread reads = reads_unread a b fault unread reads

  pub stays_of : (a b : B) (fault : CutFault) → ReadsTo told leads fault a b → StaysTold (told a) (told b)
  stays_of a b Read reads = stays_on (told a) (told reads.before) (told b) reads.well.stays reads.fails.0
  stays_of a b Sink reads = reads.stays
  stays_of a b NoMemory reads = reads.stays

  -- at `Read` the count of failed reads rose
  pub rose : (a b : B) → ReadFails told leads a b → Rose (told a).faults (told b).faults
  rose a b reads = subst (λ (n : ℕ). Rose n (told b).faults) reads.well.faults reads.fails.1

  module _ (on : (a b c : B) → leads a b → leads b c → leads a c) where
    pub well_on : (a b c : B) → ReadsWell told leads a b → ReadsWell told leads b c → ReadsWell told leads a c
    well_on a b c first second = record {
      stays = stays_on (told a) (told b) (told c) first.stays second.stays;
      faults = second.faults ∙ first.faults;
      led = on a b c first.led second.led;
    }

    pub reads_to : (a b c : B) (fault : CutFault) → ReadsWell told leads a b → ReadsTo told leads fault b c → ReadsTo told leads fault a c
    reads_to a b c Read first second =
        record { before = second.before; well = well_on a b second.before first second.well; body = second.body; fails = second.fails; led = second.led }
    reads_to a b c Sink first second = well_on a b c first second
    reads_to a b c NoMemory first second = well_on a b c first second

    -- texts were read before, and no read failed
    pub reads_on : {T : Type 0} (a b c : B) (r : Result T CutFault) → ReadsWell told leads a b → ReadsFor told leads b c r → ReadsFor told leads a c r
    reads_on a b c (Ok x) first second = well_on a b c first second
    reads_on a b c (Err fault) first second = reads_to a b c fault first second

    pub leads_of : (a b : B) (fault : CutFault) → ReadsTo told leads fault a b → leads a b
    leads_of a b Read reads = on a reads.before b reads.well.led reads.led
    leads_of a b Sink reads = reads.led
    leads_of a b NoMemory reads = reads.led
