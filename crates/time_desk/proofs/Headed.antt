-- Records that are read but for their texts.
use Rattle.std.proofs.Common.{◌≡◌, ℕ, ◌+◌, ◌-◌, ◌≤◌, Bool, true, false, List, [], ◌++◌, length, take, drop, Option, Some, None, refl, sym, ◌∙◌, ap, subst, arith, length-append}
use Rattle.std.specs.Prelude.{◌==◌, ◌&&◌, nat_lt, not, slice_range}
use Rattle.std.specs.Int.{w32, to_be_bytes}
use Rattle.std.proofs.lemmas.List.{append-nil, drop_all, drop-take, length-take, take-append-drop, take-take}
use Rattle.std.proofs.lemmas.List.Folds.{drop_split}
use Rattle.verb_core.specs.declared.conf.Filter.{Filter}
use Rattle.verb_core.specs.declared.conf.House.{House}
use Rattle.verb_core.specs.declared.item.Act.{Act}
use Rattle.verb_core.specs.declared.item.Act.TheVariants.{SetAlias, DropAlias, SetFilter, DropFilter, Remove, Give}
use Rattle.verb_core.specs.declared.item.Deed.{Deed}
use Rattle.verb_core.specs.declared.item.Deed.TheVariants.{Deliver, Append, Fetch, Store, Copy, List as Names, Status, Select, Expunge, Close, Create, Rename, Delete, Act as Acts, Notice}
use Rattle.verb_core.specs.declared.item.Item.{Item}
use Rattle.verb_core.specs.Deeds.{act_item, is_notice, with_text}
use Rattle.verb_core.specs.Items.{text_in}
use Rattle.verb_bytes.specs.declared.journal.JournalRecord.{JournalRecord}
use Rattle.verb_bytes.specs.Holes.{HasHole, SpellsAround, act_with, parted}
use Rattle.verb_bytes.specs.Places.{IsTextAt}
use Rattle.verb_bytes.specs.Spelling.{HasSpelling, Spells, record_bytes}
use Rattle.verb_core.specs.Names.{is_empty}
use Rattle.verb_core.specs.Store.{MailStore}
use Rattle.stored_items.specs.Stored.{looks_at_text, needs_text, whole}
use Rattle.store_kept.specs.Founding.{Based, can_be_kept}
use Rattle.store_kept.specs.Kept.{Kept}
use Rattle.desk_journal.specs.Founding.{Fore, kept_stands}
use Rattle.time_desk.specs.Fronts.{FailsFront}
use Rattle.desk_journal.specs.Records.{can_follow, is_formed}
use Rattle.time_desk.specs.Heads.{IsHead, has_notice, headed}
use Rattle.time_desk.specs.Standing.{Fails, FailsPayload, FailsReading}
use Rattle.time_desk.specs.declared.fault.StartFault.{StartFault}
use Rattle.time_desk.specs.declared.fault.StartFault.TheVariants.{NotFormatted, Damaged, Disk, NoMemory}
use Rattle.time_desk.specs.declared.heads.HeadOf.{HeadOf}

-- ---- the parts of a payload

-- what lies before the length of a text, that length, the text, and what lies behind it
pub in_parts : (payload front text back : List ℕ) (from count size : ℕ) → size ≡ length payload → from ≡ length front + 4 → from + count ≤ size
    → front ≡ take (length front) payload → slice_range payload (length front) from ≡ to_be_bytes w32 count → text ≡ slice_range payload from (from + count) → length text ≡ count
    → back ≡ slice_range payload (from + count) size → payload ≡ parted front text back
in_parts payload front text back from count size long from_is within begins number text_is text_long back_is =
    let four : List ℕ = to_be_bytes w32 (length text) in
    let number_is : slice_range payload (length front) from ≡ four = number ∙ ap (to_be_bytes w32) (sym text_long) in
    let none : drop size payload ≡ [] = drop_all size payload (omega (arith, long)) in
    let behind : drop (from + count) payload ≡ back =
    drop_split payload (from + count) size within ∙ ap (λ (l : List ℕ). l ++ drop size payload) (sym back_is) ∙ ap (λ (l : List ℕ). back ++ l) none ∙ append-nil back in
    let from_text : drop from payload ≡ text ++ back =
    drop_split payload from (from + count) (omega arith) ∙ ap (λ (l : List ℕ). l ++ drop (from + count) payload) (sym text_is) ∙ ap (λ (l : List ℕ). text ++ l) behind in
    let from_number : drop (length front) payload ≡ four ++ (text ++ back) =
    drop_split payload (length front) from (omega (arith, from_is)) ∙ ap (λ (l : List ℕ). l ++ drop from payload) number_is ∙ ap (λ (l : List ℕ). four ++ l) from_text in
    sym (take-append-drop (length front) payload) ∙ ap (λ (l : List ℕ). l ++ drop (length front) payload) (sym begins) ∙ ap (λ (l : List ℕ). front ++ l) from_number

pub length-parted : (front text back : List ℕ) → length (parted front text back) ≡ length front + 4 + length text + length back
length-parted front text back =
    let four : List ℕ = to_be_bytes w32 (length text) in
    let is_four : length four ≡ 4 = refl in
    omega (arith, length-append front (four ++ (text ++ back)), length-append four (text ++ back), length-append text back, is_four)

-- a range of the first bytes is one of all
pub slice_in_front : (xs : List ℕ) (n a b : ℕ) → a ≤ b → b ≤ n → slice_range (take n xs) a b ≡ slice_range xs a b
slice_in_front xs n a b le within =
    let parts : n ≡ a + (n - a) = omega (arith, le, within) in
    ap (λ (k : ℕ). take (b - a) (drop a (take k xs))) parts ∙ ap (λ (l : List ℕ). take (b - a) l) (drop-take a (n - a) xs) ∙ take-take (b - a) (n - a) (drop a xs) (omega (arith, le, within))

pub front_long : (first front : List ℕ) (from : ℕ) → 4 ≤ from → from ≤ length first → front ≡ take (from - 4) first → from ≡ length front + 4
front_long first front from least within is =
    let long : length front ≡ length (take (from - 4) first) = ap (λ (l : List ℕ). length l) is in
    omega (arith, least, within, long, length-take (from - 4) first)

-- the bytes before the length begin the payload, and the length stands behind them
pub front_begins : (payload first front : List ℕ) (from : ℕ) → 4 ≤ from → from ≤ length first → first ≡ take (length first) payload → front ≡ take (from - 4) first → front ≡ take (length front) payload
front_begins payload first front from least within begins is =
    let long = front_long first front from least within is in
    let short : from - 4 ≡ length front = omega (arith, long) in
    is ∙ ap (λ (l : List ℕ). take (from - 4) l) begins ∙ take-take (from - 4) (length first) payload (omega (arith, within)) ∙ ap (λ (n : ℕ). take n payload) short

pub number_behind : (payload first front number : List ℕ) (from : ℕ) → 4 ≤ from → from ≤ length first → first ≡ take (length first) payload → front ≡ take (from - 4) first
    → slice_range first (from - 4) from ≡ number → slice_range payload (length front) from ≡ number
number_behind payload first front number from least within begins is there =
    let long = front_long first front from least within is in
    let short : length front ≡ from - 4 = omega (arith, long) in
    ap (λ (n : ℕ). slice_range payload n from) short
    ∙ sym (slice_in_front payload (length first) (from - 4) from (omega arith) within)
    ∙ ap (λ (l : List ℕ). slice_range l (from - 4) from) (sym begins) ∙ there

-- ---- a head

pub a_head : (head : HeadOf) (front back : List ℕ) (count : ℕ) → HasSpelling head.what → HasHole head.what (length front) count → has_notice head.what ≡ false → SpellsAround front count back head.what
    → length head.text ≡ count → head.from ≡ length front + 4 → ((front text back : List ℕ) → IsTextAt (parted front text back) (length front + 4) text) → IsHead head
a_head head front back count bare hole plain around long from_is lies =
    let spelled = around head.text long in
    record {
      bare = bare;
      empty = hole.empty;
      plain = plain;
      spelled = spelled.0;
      lies = subst (λ (bytes : List ℕ). IsTextAt bytes head.from head.text) spelled.1
          (subst (λ (n : ℕ). IsTextAt (parted front head.text back) n head.text) (sym from_is) (lies front head.text back));
    }

pub head_long : (head : HeadOf) (front back : List ℕ) (count size : ℕ) → SpellsAround front count back head.what → length head.text ≡ count → size ≡ length front + 4 + count + length back
    → size ≡ length (record_bytes (headed head))
head_long head front back count size around long is =
    let same : length (parted front head.text back) ≡ length (record_bytes (headed head)) = ap (λ (l : List ℕ). length l) (around head.text long).1 in
    omega (arith, is, long, length-parted front head.text back, same)

-- ---- what a text does not change

-- whether those who act and are named in an item may be so
pub formed_alike : (house : House) (i : Item) (d : Deed) (text : List ℕ) → is_formed house (record i { deed = with_text text d }) ≡ is_formed house (record i { deed = d })
formed_alike house i (Deliver from to own) text = refl
formed_alike house i (Append mailbox flags moment own) text = refl
formed_alike house i (Fetch mailbox keys sets_seen shows_body) text = refl
formed_alike house i (Store mailbox keys how flags) text = refl
formed_alike house i (Copy mailbox keys target) text = refl
formed_alike house i (Names pattern) text = refl
formed_alike house i (Status mailbox) text = refl
formed_alike house i (Select mailbox) text = refl
formed_alike house i (Expunge mailbox keys) text = refl
formed_alike house i (Close mailbox keys) text = refl
formed_alike house i (Create mailbox) text = refl
formed_alike house i (Rename mailbox target) text = refl
formed_alike house i (Delete mailbox keys) text = refl
formed_alike house i (Acts (SetAlias local users)) text = refl
formed_alike house i (Acts (DropAlias local)) text = refl
formed_alike house i (Acts (SetFilter filter)) text = refl
formed_alike house i (Acts (DropFilter id)) text = refl
formed_alike house i (Acts (Remove u mailbox key)) text = refl
formed_alike house i (Acts (Give u mailbox own)) text = refl
formed_alike house i (Notice user own) text = refl

-- whether an item can follow, and whether one can be kept
pub follows_whole : (kept : Kept) (i : Item) (text : List ℕ) → can_follow kept (whole i text) ≡ can_follow kept i
follows_whole kept i text = ap (λ (b : Bool). (i.number == kept.next) && nat_lt kept.next 4194304 && b) (formed_alike kept.house i i.deed text)

pub stands_whole : (house : House) (b : Based) (i : Item) (text : List ℕ) → kept_stands house b (whole i text) ≡ kept_stands house b i
stands_whole house b i text = ap (λ (formed : Bool). formed && can_be_kept b i) (formed_alike house i i.deed text)

-- a deed whose text is empty has another in its place
pub own_text_is : (d : Deed) (text : List ℕ) → text_in d ≡ Some [] → text_in (with_text text d) ≡ Some text
own_text_is (Deliver from to own) text is = refl
own_text_is (Append mailbox flags moment own) text is = refl
own_text_is (Acts (Give u mailbox own)) text is = refl
own_text_is (Notice user own) text is = refl
own_text_is (Fetch mailbox keys sets_seen shows_body) text is = absurd (let wrong : ◌≡◌ {A = Option (List ℕ)} None (Some []) = is in cc)
own_text_is (Store mailbox keys how flags) text is = absurd (let wrong : ◌≡◌ {A = Option (List ℕ)} None (Some []) = is in cc)
own_text_is (Copy mailbox keys target) text is = absurd (let wrong : ◌≡◌ {A = Option (List ℕ)} None (Some []) = is in cc)
own_text_is (Names pattern) text is = absurd (let wrong : ◌≡◌ {A = Option (List ℕ)} None (Some []) = is in cc)
own_text_is (Status mailbox) text is = absurd (let wrong : ◌≡◌ {A = Option (List ℕ)} None (Some []) = is in cc)
own_text_is (Select mailbox) text is = absurd (let wrong : ◌≡◌ {A = Option (List ℕ)} None (Some []) = is in cc)
own_text_is (Expunge mailbox keys) text is = absurd (let wrong : ◌≡◌ {A = Option (List ℕ)} None (Some []) = is in cc)
own_text_is (Close mailbox keys) text is = absurd (let wrong : ◌≡◌ {A = Option (List ℕ)} None (Some []) = is in cc)
own_text_is (Create mailbox) text is = absurd (let wrong : ◌≡◌ {A = Option (List ℕ)} None (Some []) = is in cc)
own_text_is (Rename mailbox target) text is = absurd (let wrong : ◌≡◌ {A = Option (List ℕ)} None (Some []) = is in cc)
own_text_is (Delete mailbox keys) text is = absurd (let wrong : ◌≡◌ {A = Option (List ℕ)} None (Some []) = is in cc)
own_text_is (Acts (SetAlias local users)) text is = absurd (let wrong : ◌≡◌ {A = Option (List ℕ)} None (Some []) = is in cc)
own_text_is (Acts (DropAlias local)) text is = absurd (let wrong : ◌≡◌ {A = Option (List ℕ)} None (Some []) = is in cc)
own_text_is (Acts (SetFilter filter)) text is = absurd (let wrong : ◌≡◌ {A = Option (List ℕ)} None (Some []) = is in cc)
own_text_is (Acts (DropFilter id)) text is = absurd (let wrong : ◌≡◌ {A = Option (List ℕ)} None (Some []) = is in cc)
own_text_is (Acts (Remove u mailbox key)) text is = absurd (let wrong : ◌≡◌ {A = Option (List ℕ)} None (Some []) = is in cc)

-- the text of such an item lies where its own does
pub text_there : (i : Item) (bytes text : List ℕ) (from : ℕ) → text_in i.deed ≡ Some [] → IsTextAt bytes from text → (own : List ℕ) → text_in (whole i text).deed ≡ Some own → IsTextAt bytes from own
text_there i bytes text from empty lies own is =
    let both : ◌≡◌ {A = Option (List ℕ)} (Some text) (Some own) = sym (own_text_is i.deed text empty) ∙ is in
    let same : text ≡ own = cc in
    subst (λ (t : List ℕ). IsTextAt bytes from t) same lies

-- an operator's item with another text is that of the act with it
pub act_whole : (number at : ℕ) (act : Act) (text : List ℕ) → whole (act_item number at act) text ≡ act_item number at (act_with text act)
act_whole number at (SetAlias local users) text = refl
act_whole number at (DropAlias local) text = refl
act_whole number at (SetFilter filter) text = refl
act_whole number at (DropFilter id) text = refl
act_whole number at (Remove u mailbox key) text = refl
act_whole number at (Give u mailbox own) text = refl

-- an act is no notice
pub plain_act : (number at : ℕ) (act : Act) → is_notice (act_item number at act).deed ≡ false
unfolding is_notice
plain_act number at act = refl

-- nothing looks at a text where no filter is in force
none_left : (b : Bool) → (b && false) ≡ false
none_left true = refl
none_left false = refl

pub unlooked : (s : MailStore) (d : Deed) → s.conf.filters ≡ [] → looks_at_text s d ≡ false
unlooked s d none = ap (λ (fs : List Filter). needs_text d && not (is_empty fs)) none ∙ none_left (needs_text d)

-- ---- why it can't stand

-- a record that can't stand is the one that the payload spells
pub fails_headed : (due : JournalRecord → Option Kept) (what : JournalRecord) (payload : List ℕ) (gate : ℕ) (fault : StartFault) → ((other : JournalRecord) → Spells other payload → other ≡ what) → Fails (due what ≡ None) gate fault
    → FailsPayload due payload gate fault
fails_headed due what payload gate NotFormatted only fails = fails
fails_headed due what payload gate (Damaged place) only fails = (λ other spells. ap due (only other spells) ∙ fails.0, fails.1)
fails_headed due what payload gate Disk only fails = tt
fails_headed due what payload gate NoMemory only fails = tt

-- and a read that failed says nothing of the record
pub unread_payload : (due : JournalRecord → Option Kept) (payload : List ℕ) (gate : ℕ) (fault : StartFault) → FailsReading ⊥ gate fault → FailsPayload due payload gate fault
unread_payload due payload gate NotFormatted fails = fails
unread_payload due payload gate (Damaged place) fails = absurd fails.0
unread_payload due payload gate Disk fails = tt
unread_payload due payload gate NoMemory fails = tt

pub unread_front : (fore : Option Fore) (payload : List ℕ) (gate : ℕ) (fault : StartFault) → FailsReading ⊥ gate fault → FailsFront fore payload gate fault
unread_front fore payload gate NotFormatted fails = fails
unread_front fore payload gate (Damaged place) fails = absurd fails.0
unread_front fore payload gate Disk fails = tt
unread_front fore payload gate NoMemory fails = tt
