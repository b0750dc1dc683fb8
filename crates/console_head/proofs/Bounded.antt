-- Bytes that are not yet a request are bounded.
use Rattle.std.proofs.Common.{◌≡◌, ℕ, ◌<◌, ◌≤◌, Bool, true, false, List, length, take, drop, Option, Some, None, refl, sym, ◌∙◌, arith, inl, inr}
use Rattle.std.specs.Prelude.{nat_lt, if◌then◌else◌, Ok, Err, map}
use Rattle.std.proofs.lemmas.Bool.Decides.{nat_tests}
use Rattle.std.proofs.lemmas.List.{length-drop, length-take}
use Rattle.httparse.specs.Grammar.{RequestHead}
use Rattle.httparse.specs.Spans.{name_and_value}
use Rattle.console_head.specs.declared.lines.Head.{Head}
use Rattle.console_head.specs.Lines.{head_of}
use Rattle.console_head.specs.declared.request.HeadRefused.TheVariants.{Head as BadHead, Size}
use Rattle.console_head.specs.Lengths.{body_length}
use Rattle.console_head.specs.Request.{Says, SaysFields, Stage, with_length}
use Rattle.console_head.proofs.Once.{StaysAsRead, holds}

abbrev waiting : Stage
waiting = Ok None

body_waits : (h : RequestHead) (rest : List ℕ) (n : Option ℕ) → waiting ≡ with_length h rest n → length rest < 4194304
body_waits h rest None e = absurd (let wrong : waiting ≡ Err BadHead = e in cc)
body_waits h rest (Some n) e =
    elim (nat_lt 4194304 n) as (λ large. nat_lt 4194304 n ≡ large → length rest < 4194304) [
      | true ↦ λ large. absurd (let wrong : waiting ≡ Err Size = rw large at e in cc)
      | false ↦ λ large. elim (nat_lt (length rest) n) as (λ short. nat_lt (length rest) n ≡ short → length rest < 4194304) [
        | true ↦ λ short. grind (arith, nat_tests, large, short)
        | false ↦ λ short.
            absurd (let whole : waiting ≡ Ok (Some (record { method = h.method; target = h.target; body = take n rest })) = rw (large, short) at e in cc)
      ] refl
    ] refl

fields_wait : (many : Bool) (text rest : List ℕ) → SaysFields many text rest waiting → length rest < 4194304
fields_wait true text rest e = absurd (let wrong : waiting ≡ Err Size = e in cc)
fields_wait false text rest (inl x) = body_waits x.0 rest (body_length (map name_and_value x.0.fields)) x.2
fields_wait false text rest (inr x) = absurd (let wrong : waiting ≡ Err BadHead = x.1 in cc)

head_waits : (bytes : List ℕ) (s : Stage) → s ≡ (if nat_lt (length bytes) 16384 then Ok None else Err Size) → s ≡ waiting → length bytes < 16384
head_waits bytes s e none = elim (nat_lt (length bytes) 16384) as (λ t. nat_lt (length bytes) 16384 ≡ t → length bytes < 16384) [
  | true ↦ λ short. grind (arith, nat_tests, short)
  | false ↦ λ long. absurd (let wrong : waiting ≡ Err Size = sym none ∙ (rw long at e) in cc)
] refl

-- a head that is not whole
pub head_bounded : (bytes : List ℕ) → Says bytes (Ok None) → head_of (take 16384 bytes) ≡ None → length bytes < 16384
head_bounded bytes says none = head_waits bytes waiting (rw none at says) refl

-- a whole head, and what follows it
pub body_bounded : (bytes : List ℕ) (first : Head) → Says bytes (Ok None) → head_of (take 16384 bytes) ≡ Some first → (first.size ≤ 16384) × (length (drop first.size bytes) < 4194304)
body_bounded bytes first says whole = (by_holds (holds (take 16384 bytes)), fields_wait (nat_lt 64 first.fields) (take first.size bytes) (drop first.size bytes) (rw whole at says))
  where
    by_holds : StaysAsRead (take 16384 bytes) → first.size ≤ 16384
    by_holds (inl none) = absurd (let wrong : None ≡ Some first = sym none ∙ whole in cc)
    by_holds (inr head) =
        let same : Some first ≡ Some head.0 = sym whole ∙ head.1.value in
        let is : first ≡ head.0 = cc in
        let within = head.1.within in
        rw is (omega (arith, within, length-take 16384 bytes))

by_head : (bytes : List ℕ) → StaysAsRead (take 16384 bytes) → Says bytes (Ok None) → length bytes < 4210688
by_head bytes (inl none) says = let short = head_bounded bytes says none in omega arith
by_head bytes (inr head) says =
    let rest : length (drop head.0.size bytes) < 4194304 = fields_wait (nat_lt 64 head.0.fields) (take head.0.size bytes) (drop head.0.size bytes) (rw head.1.value at says) in
    let within = head.1.within in
    omega (arith, rest, length-drop head.0.size bytes, within, length-take 16384 bytes)

pub waiting_bounded : (bytes : List ℕ) → Says bytes (Ok None) → length bytes < 4210688
waiting_bounded bytes says = by_head bytes (holds (take 16384 bytes)) says
