-- Whole answers of the console (RFC 9112, 4 and 6.2; RFC 9110, 15).
use Rattle.std.specs.Prelude.{ℕ, Bool, List, [], ◌∷◌, ◌++◌, ◌==◌, length, codes, if◌then◌else◌}
use Rattle.std.specs.Fmt.{decimal}
use Rattle.std.specs.List.{list_any}
use Rattle.undo_base.specs.LineEnd.{crlf}

-- the statuses that the console gives
abbrev pub is_status : ℕ → Bool
is_status status = list_any (λ s. s == status) (200 ∷ 400 ∷ 404 ∷ 413 ∷ 422 ∷ 500 ∷ 503 ∷ 507 ∷ [])

abbrev pub reason_of : ℕ → List ℕ
reason_of status =
    if status == 200 then codes "OK"
    else (if status == 400 then codes "Bad Request"
    else (if status == 404 then codes "Not Found"
    else (if status == 413 then codes "Content Too Large"
    else (if status == 422 then codes "Unprocessable Content"
    else (if status == 500 then codes "Internal Server Error"
    else (if status == 503 then codes "Service Unavailable"
    else (if status == 507 then codes "Insufficient Storage"
    else [])))))))

abbrev pub status_line : ℕ → List ℕ
status_line status = codes "HTTP/1.1 " ++ decimal status ++ codes " " ++ reason_of status ++ crlf

-- a header line (RFC 9112, 5)
unfoldable pub header_line : List ℕ → List ℕ → List ℕ
header_line name value = name ++ codes ": " ++ value ++ crlf

unfoldable pub type_line : List ℕ → List ℕ
type_line kind = header_line (codes "Content-Type") kind

unfoldable pub length_line : ℕ → List ℕ
length_line size = header_line (codes "Content-Length") (decimal size)

-- the last header line, and the empty line behind it
unfoldable pub close_lines : List ℕ
close_lines = codes "Connection: close" ++ crlf ++ crlf

abbrev pub head_lines : List ℕ → ℕ → List ℕ
head_lines kind size = type_line kind ++ length_line size ++ close_lines

-- an answer: its status, the kind of its body, and the body
abbrev pub reply_of : ℕ → List ℕ → List ℕ → List ℕ
reply_of status kind body = status_line status ++ head_lines kind (length body) ++ body
