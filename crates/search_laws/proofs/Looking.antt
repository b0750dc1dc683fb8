-- What of a message is not looked at does not count.
use Rattle.std.proofs.Common.{◌≡◌, ℕ, true, false, not, ◌&&◌, ◌||◌, List, refl, ap, ◌∙◌}
use Rattle.search_verb.specs.Asked.{Asked, Every, Never, Answered, Deleted, Draft, Flagged, Seen, Places, Uids, Before, On, Since, Larger, Smaller, Field, Body, Text, Not, Or, And}
use Rattle.search_verb.specs.Meets.{Facts, greater, meets, needed}
use Rattle.search_verb.specs.declared.candidate.Look.{Look}
use Rattle.search_verb.specs.declared.candidate.Look.TheVariants as look
use Rattle.imap_session.specs.Searching.{is_of_texts, is_of_more}

first_of_texts : (a b : Look) → is_of_texts (greater a b) ≡ false → is_of_texts a ≡ false
first_of_texts look.Nothing b h = refl
first_of_texts look.Size b h = refl
first_of_texts look.Text b h = h

second_of_texts : (a b : Look) → is_of_texts (greater a b) ≡ false → is_of_texts b ≡ false
second_of_texts look.Nothing b h = h
second_of_texts look.Size look.Nothing h = refl
second_of_texts look.Size look.Size h = refl
second_of_texts look.Size look.Text h = h
second_of_texts look.Text look.Nothing h = refl
second_of_texts look.Text look.Size h = refl
second_of_texts look.Text look.Text h = h

first_of_more : (a b : Look) → is_of_more (greater a b) ≡ false → is_of_more a ≡ false
first_of_more look.Nothing b h = refl
first_of_more look.Size look.Nothing h = h
first_of_more look.Size look.Size h = h
first_of_more look.Size look.Text h = h
first_of_more look.Text b h = h

second_of_more : (a b : Look) → is_of_more (greater a b) ≡ false → is_of_more b ≡ false
second_of_more look.Nothing b h = h
second_of_more look.Size look.Nothing h = refl
second_of_more look.Size look.Size h = h
second_of_more look.Size look.Text h = h
second_of_more look.Text look.Nothing h = refl
second_of_more look.Text look.Size h = h
second_of_more look.Text look.Text h = h

-- a key that looks at no text means the same whatever the text is
pub text_aside : (asked : Asked) (what : Facts) (text : List ℕ) → is_of_texts (needed asked) ≡ false → meets asked (record what { text = text }) ≡ meets asked what
text_aside Every what text h = refl
text_aside Never what text h = refl
text_aside Answered what text h = refl
text_aside Deleted what text h = refl
text_aside Draft what text h = refl
text_aside Flagged what text h = refl
text_aside Seen what text h = refl
text_aside (Places ranges) what text h = refl
text_aside (Uids ranges) what text h = refl
text_aside (Before day) what text h = refl
text_aside (On day) what text h = refl
text_aside (Since day) what text h = refl
text_aside (Larger size) what text h = refl
text_aside (Smaller size) what text h = refl
text_aside (Field name string) what text h = absurd (let wrong : true ≡ false = h in cc)
text_aside (Body string) what text h = absurd (let wrong : true ≡ false = h in cc)
text_aside (Text string) what text h = absurd (let wrong : true ≡ false = h in cc)
text_aside (Not asked) what text h = ap not (text_aside asked what text h)
text_aside (Or first second) what text h =
    ap (λ a. a || meets second (record what { text = text })) (text_aside first what text (first_of_texts (needed first) (needed second) h))
    ∙ ap (λ b. meets first what || b) (text_aside second what text (second_of_texts (needed first) (needed second) h))
text_aside (And first second) what text h =
    ap (λ a. a && meets second (record what { text = text })) (text_aside first what text (first_of_texts (needed first) (needed second) h))
    ∙ ap (λ b. meets first what && b) (text_aside second what text (second_of_texts (needed first) (needed second) h))

-- a key that looks at nothing means the same whatever the size is
pub size_aside : (asked : Asked) (what : Facts) (size : ℕ) → is_of_more (needed asked) ≡ false → meets asked (record what { size = size }) ≡ meets asked what
size_aside Every what size h = refl
size_aside Never what size h = refl
size_aside Answered what size h = refl
size_aside Deleted what size h = refl
size_aside Draft what size h = refl
size_aside Flagged what size h = refl
size_aside Seen what size h = refl
size_aside (Places ranges) what size h = refl
size_aside (Uids ranges) what size h = refl
size_aside (Before day) what size h = refl
size_aside (On day) what size h = refl
size_aside (Since day) what size h = refl
size_aside (Larger n) what size h = absurd (let wrong : true ≡ false = h in cc)
size_aside (Smaller n) what size h = absurd (let wrong : true ≡ false = h in cc)
size_aside (Field name string) what size h = absurd (let wrong : true ≡ false = h in cc)
size_aside (Body string) what size h = absurd (let wrong : true ≡ false = h in cc)
size_aside (Text string) what size h = absurd (let wrong : true ≡ false = h in cc)
size_aside (Not asked) what size h = ap not (size_aside asked what size h)
size_aside (Or first second) what size h =
    ap (λ a. a || meets second (record what { size = size })) (size_aside first what size (first_of_more (needed first) (needed second) h))
    ∙ ap (λ b. meets first what || b) (size_aside second what size (second_of_more (needed first) (needed second) h))
size_aside (And first second) what size h =
    ap (λ a. a && meets second (record what { size = size })) (size_aside first what size (first_of_more (needed first) (needed second) h))
    ∙ ap (λ b. meets first what && b) (size_aside second what size (second_of_more (needed first) (needed second) h))
