-- Worked examples: the events of `grow`.
use Rattle.std.proofs.Common.{◌≡◌, [], ◌∷◌, length, map, codes, refl}
use Rattle.std.specs.Fmt.{digits}
use Rattle.undo_outside.specs.declared.event.What.TheVariants.{Bytes}
use Rattle.script_link.specs.Line.{event_of}
use Rattle.mail_proxy.specs.Generated.{generated, receiver_of, repair_request, round_of, up_to}

three_rounds : up_to 3 ≡ 1 ∷ 2 ∷ 3 ∷ []
three_rounds = refl

-- the mail goes to the three users in turn, and that of the third round to the first user
receivers : map receiver_of (up_to 4) ≡ codes "bob" ∷ codes "carl" ∷ codes "ann" ∷ codes "bob" ∷ []
receivers = refl

-- a round's events, as they come
twelfth_round :
    round_of 12
    ≡ event_of 1 1105092012 (Bytes (codes "MAIL FROM:<g@mail.test>\r\n"))
    ∷ event_of 1 1105092012 (Bytes (codes "RCPT TO:<ann@mail.test>\r\n"))
    ∷ event_of 1 1105092012 (Bytes (codes "DATA\r\n"))
    ∷ event_of 1 1105092012 (Bytes (codes "Subject: m 12\r\n"))
    ∷ event_of 1 1105092012 (Bytes (codes "\r\n"))
    ∷ event_of 1 1105092012 (Bytes (codes "round 12\r\n"))
    ∷ event_of 1 1105092012 (Bytes (codes ".\r\n"))
    ∷ []
unfolding digits
twelfth_round = refl

-- the body has the 35 octets that its head says
request : repair_request ≡ codes "POST /cycle HTTP/1.1\r\nHost: x\r\nContent-Length: 35\r\n\r\n{\"drop\":[4],\"key\":\"grow\",\"point\":0}"
request = refl

body_length : length (codes "{\"drop\":[4],\"key\":\"grow\",\"point\":0}") ≡ 35
body_length = refl

-- seven events a round, and eight around them
how_many : length (generated 6) ≡ 50
how_many = refl
