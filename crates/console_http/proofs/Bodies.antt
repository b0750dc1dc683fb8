-- What is read of a body.
use Rattle.std.proofs.Common.{◌≡◌, inl, inr, ℕ, ◌≤◌, Bool, List, length, take, drop, true, false, Option, Some, None, sym, ap, subst, refl, arith, nat_lt, length-take}
use Rattle.std.specs.Prelude.{IsUtf8, IfSome, Ok, Err, map, option_map, if◌then◌else◌}
use Rattle.std.proofs.lemmas.Bool.{ltb-false}
use Rattle.std.specs.Str.{is_utf8}
use Rattle.std.proofs.lemmas.Str.{is_utf8-from_IsUtf8, IsUtf8-from_is_utf8}
use Rattle.serde_json.specs.Data.{Data}
use Rattle.serde_json.specs.Read.{read}
use Rattle.httparse.specs.Grammar.{RequestHead}
use Rattle.httparse.specs.Spans.{name_and_value}
use Rattle.console_head.specs.declared.lines.Head.{Head}
use Rattle.console_head.specs.declared.request.HeadRefused.TheVariants.{Size}
use Rattle.console_head.specs.declared.request.Request.{Request as Parts}
use Rattle.console_head.specs.Seen.{parts_seen}
use Rattle.console_head.specs.Lines.{head_of}
use Rattle.console_head.specs.Lengths.{body_length}
use Rattle.console_head.specs.Request.{Request, Stage, SaysBy, SaysFields, Says, with_length}
use Rattle.console_http.specs.Members.{value_of}

pub value_read : (body : List ℕ) (d : Data) → IsUtf8 body → read body ≡ Some d → Some d ≡ value_of body
value_read body d text e = rw (is_utf8-from_IsUtf8 body text) (sym e)

pub value_none : (body : List ℕ) → (IsUtf8 body → read body ≡ None) → None ≡ value_of body
value_none body h =
    elim (is_utf8 body) as (λ v. is_utf8 body ≡ v → None ≡ value_of body) [
      | true ↦ λ e. rw e (sym (h (IsUtf8-from_is_utf8 body e)))
      | false ↦ λ e. rw e refl
    ] refl

-- ---- a request's target is text, and its body has at most 4,194,304 octets

pub record IsFit (r : Request) : Type 0 where
  pub target : IsUtf8 r.target
  pub body : length r.body ≤ 4194304

body_cut : (h : RequestHead) (rest : List ℕ) (r : Request) (n : ℕ) (short : Bool) → n ≤ 4194304 → IsUtf8 h.target
    → ◌≡◌ {A = Stage} (Ok (Some r)) (if short then Ok None else Ok (Some (record { method = h.method; target = h.target; body = take n rest }))) → IsFit r
body_cut h rest r n true few text e = absurd (cc)
body_cut h rest r n false few text e =
    let cut : Request = record { method = h.method; target = h.target; body = take n rest } in
    let same : r ≡ cut = cc in
    record {
      target = subst (λ (q : Request). IsUtf8 q.target) (sym same) text;
      body = omega (arith, few, ap (λ (q : Request). length q.body) same, length-take n rest);
    }

body_at_most : (h : RequestHead) (rest : List ℕ) (r : Request) (n : ℕ) (many : Bool) → nat_lt 4194304 n ≡ many → IsUtf8 h.target
    → ◌≡◌ {A = Stage} (Ok (Some r)) (if many then Err Size else (if nat_lt (length rest) n then Ok None else Ok (Some (record { method = h.method; target = h.target; body = take n rest }))))
    → IsFit r
body_at_most h rest r n true s text e = absurd (cc)
body_at_most h rest r n false s text e = body_cut h rest r n (nat_lt (length rest) n) (ltb-false 4194304 n s) text e

by_length : (h : RequestHead) (rest : List ℕ) (r : Request) (o : Option ℕ) → IsUtf8 h.target → ◌≡◌ {A = Stage} (Ok (Some r)) (with_length h rest o) → IsFit r
by_length h rest r None text e = absurd (cc)
by_length h rest r (Some n) text e = body_at_most h rest r n (nat_lt 4194304 n) refl text e

by_fields : (many : Bool) (text rest : List ℕ) (r : Request) → SaysFields many text rest (Ok (Some r)) → IsFit r
by_fields true text rest r e = absurd (cc)
by_fields false text rest r (inl (h, whole, e)) = by_length h rest r (body_length (map name_and_value h.fields)) whole.0.target_text e
by_fields false text rest r (inr (none, e)) = absurd (cc)

no_head : (t : Bool) (r : Request) → ◌≡◌ {A = Stage} (Ok (Some r)) (if t then Ok None else Err Size) → ⊥
no_head true r e = cc
no_head false r e = cc

by_head : (bytes : List ℕ) (o : Option Head) (r : Request) → SaysBy bytes o (Ok (Some r)) → IsFit r
by_head bytes None r e = absurd (no_head (nat_lt (length bytes) 16384) r e)
by_head bytes (Some head) r says = by_fields (nat_lt 64 head.fields) (take head.size bytes) (drop head.size bytes) r says

pub request_fits : (bytes : List ℕ) (r : Request) → Says bytes (Ok (Some r)) → IsFit r
request_fits bytes r says = by_head bytes (head_of (take 16384 bytes)) r says

-- the target of a request that is there
pub target_is_text : (bytes : List ℕ) (o : Option Parts) → Says bytes (Ok (option_map parts_seen o)) → IfSome o (λ r. IsUtf8 r.target.now)
target_is_text bytes None says = tt
target_is_text bytes (Some r) says = (request_fits bytes (parts_seen r) says).target
