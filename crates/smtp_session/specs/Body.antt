-- Stored bodies: two trace lines and the text (RFC 5321, 4.4).
use Rattle.std.specs.Prelude.{ℕ, List, ◌++◌, codes}
use Rattle.civil_dates.specs.Dates.{mail_date}
use Rattle.smtp_session.specs.Bytes.{said}

-- the first trace line, with the reverse path
abbrev pub return_path : List ℕ → List ℕ
return_path path = codes "Return-Path: <" ++ path ++ said (codes ">")

-- the second trace line, with the client, the host and the moment
abbrev pub received : List ℕ → ℕ → List ℕ → List ℕ
received host at client = codes "Received: from " ++ client ++ codes " by " ++ host ++ codes "; " ++ said (mail_date at)

-- the trace lines and the text
abbrev pub body_of : List ℕ → ℕ → List ℕ → List ℕ → List ℕ → List ℕ
body_of host at client path text = return_path path ++ received host at client ++ text
