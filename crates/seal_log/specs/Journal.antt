-- What an image of gates and frames stands for.
use Rattle.std.specs.Prelude.{◌≡◌, ◌≢◌, ◌<◌, ◌≤◌, ◌^◌, ℕ, List, [], ◌∷◌, ◌++◌, length, take}
use Rattle.std.specs.List.{flat_map, AllByRecursion}
use Rattle.std.specs.Int.{w32, to_be_bytes}

-- the length in four bytes, and the payload
abbrev pub frame : List ℕ → List ℕ
frame payload = to_be_bytes w32 (length payload) ++ payload

-- an open gate and its frame, for each payload
abbrev pub sealed : List (List ℕ) → List ℕ
sealed payloads = flat_map (λ payload. 85 ∷ frame payload) payloads

-- a gate stands first, and it is not open
abbrev pub BeginsClosed : List ℕ → Type 0
BeginsClosed [] = ⊥
BeginsClosed (gate ∷ rest) = gate ≢ 85

-- a payload whose length has four bytes
abbrev pub IsPayload : List ℕ → Type 0
IsPayload payload = length payload < 2 ^ 32

-- the image has these payloads behind its open gates, up to the first gate that is not open
pub record StandsFor (image : List ℕ) (payloads : List (List ℕ)) : Type 0 where
  pub rest : List ℕ
  pub split : image ≡ sealed payloads ++ rest
  pub closed : BeginsClosed rest
  pub short : AllByRecursion IsPayload payloads

-- the image stands for the first payloads, and for some of those that are being sealed, in order
pub record StandsForFront (first sealing : List (List ℕ)) (image : List ℕ) : Type 0 where
  pub count : ℕ
  pub few : count ≤ length sealing
  pub stands : StandsFor image (first ++ take count sealing)

-- a place in a journal of these payloads: its gate stands behind those before it
pub record LiesAt (payloads : List (List ℕ)) (gate count : ℕ) (payload : List ℕ) : Type 0 where
  pub before : List (List ℕ)
  pub after : List (List ℕ)
  pub split : payloads ≡ before ++ payload ∷ after
  pub gate_is : gate ≡ length (sealed before)
  pub count_is : count ≡ length payload
