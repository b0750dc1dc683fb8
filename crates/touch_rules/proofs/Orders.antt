-- Items that commute may come in either order.
use Rattle.std.proofs.Common.{◌≡◌, true, false, not, ◌&&◌, List, refl, sym, ap, ap₂, ◌∙◌, true≢false}
use Rattle.std.specs.List.{list_all}
use Rattle.verb_core.specs.declared.conf.Conf.{Conf}
use Rattle.verb_core.specs.declared.conf.House.{House}
use Rattle.verb_core.specs.declared.item.Item.{Item}
use Rattle.verb_core.specs.declared.item.Deed.{Deed}
use Rattle.verb_core.specs.declared.item.Deed.TheVariants.{Create, Rename, Delete, Act as Acts}
use Rattle.verb_core.specs.declared.item.Act.TheVariants.{SetAlias, DropAlias, SetFilter, DropFilter}
use Rattle.verb_core.specs.declared.mailbox.BoxId.{BoxId}
use Rattle.verb_core.specs.Names.{is_empty}
use Rattle.verb_core.specs.Boxes.{names_of}
use Rattle.verb_core.specs.Store.{MailStore, IsValid}
use Rattle.verb_core.specs.Items.{IsWellFormed, actor}
use Rattle.verb_core.specs.Aims.{Sought}
use Rattle.verb_core.specs.Step.{Boxes, step_with, conf_after, shown}
use Rattle.verb_core.specs.Touched.{deed_touches, touches_box, touches_names, Apart}
use Rattle.verb_core.proofs.Frame.{other_stays, shown_elsewhere, apart_commute}
use Rattle.verb_core.proofs.Validity.{step_with-IsValid}
use Rattle.touch_rules.specs.declared.touched.Touch.{Touch}
use Rattle.touch_rules.specs.Table.{touches_of}
use Rattle.touch_rules.specs.Commuting.{commute}
use Rattle.touch_rules.specs.Swapping.{sets_conf, resolved, CanHave, Swap}
use Rattle.touch_rules.proofs.Fitting.{fits, turned_round, all_weaker, commute_flip}
use Rattle.touch_rules.proofs.Changes.{Change, after_changes, all_fit, changes_turn, names_kept}
use Rattle.touch_rules.proofs.Plain.{moves_boxes, row_of, changes, works, allowed, covered, changes_alike, shown_alike}
use Rattle.touch_rules.proofs.Elsewhere.{off_all, touched_off, other_names, no_mail_of, names_stay}

-- ---- the configuration

pub conf_same : (house : House) (d : Deed) (conf : Conf) → sets_conf d ≡ false → conf_after house d conf ≡ conf
conf_same house (Acts (SetAlias local users)) conf off = absurd (true≢false off)
conf_same house (Acts (DropAlias local)) conf off = absurd (true≢false off)
conf_same house (Acts (SetFilter f)) conf off = absurd (true≢false off)
conf_same house (Acts (DropFilter id)) conf off = absurd (true≢false off)
conf_same house _ conf off = refl

pub confs_turn : (house : House) (d e : Deed) (conf : Conf) → (sets_conf d && sets_conf e) ≡ false → conf_after house e (conf_after house d conf) ≡ conf_after house d (conf_after house e conf)
confs_turn house d e conf one = elim (sets_conf d) as (λ b. sets_conf d ≡ b → (b && sets_conf e) ≡ false → conf_after house e (conf_after house d conf) ≡ conf_after house d (conf_after house e conf)) [
  | true ↦ λ _ off. conf_same house e (conf_after house d conf) off ∙ ap (conf_after house d) (sym (conf_same house e conf off))
  | false ↦ λ off _. ap (conf_after house e) (conf_same house d conf off) ∙ sym (conf_same house d (conf_after house e conf) off)
] refl one

-- what holds of two items with these aims, but for the configuration
record Turned (to from : Sought) (s : MailStore) (i j : Item) : Type 0 where
  pub boxes : (step_with from (step_with to s i).0 j).0.boxes ≡ (step_with to (step_with from s j).0 i).0.boxes
  pub first : (step_with to (step_with from s j).0 i).1 ≡ (step_with to s i).1
  pub second : (step_with from (step_with to s i).0 j).1 ≡ (step_with from s j).1

turned_back : (to from : Sought) (s : MailStore) (i j : Item) → Turned from to s j i → Turned to from s i j
turned_back to from s i j t = record { boxes = sym t.boxes; first = t.second; second = t.first }

-- ---- items that move no mailbox

module _ (to from : Sought) (s : MailStore) (i j : Item) (still : moves_boxes i.deed ≡ false) (still' : moves_boxes j.deed ≡ false) (can : CanHave to i) (can' : CanHave from j)
    (fit : commute (row_of to i i.by i.deed) (row_of from j j.by j.deed) ≡ true) where
  abbrev cs : List Change
  cs = changes to i i.by i.deed s.boxes

  abbrev ds : List Change
  ds = changes from j j.by j.deed s.boxes

  fit_j : list_all (all_fit cs) (row_of from j j.by j.deed) ≡ true
  fit_j = sym (turned_round (λ (c : Change) (t : Touch). fits c.touch t) cs (row_of from j j.by j.deed)) ∙ covered (λ t. list_all (fits t) (row_of from j j.by j.deed)) to i i.by i.deed s.boxes fit

  fit_i : list_all (all_fit ds) (row_of to i i.by i.deed) ≡ true
  fit_i = sym (turned_round (λ (c : Change) (t : Touch). fits c.touch t) ds (row_of to i i.by i.deed))
      ∙ covered (λ t. list_all (fits t) (row_of to i i.by i.deed)) from j j.by j.deed s.boxes (commute_flip (row_of from j j.by j.deed) (row_of to i i.by i.deed) ∙ fit)

  fit_both : list_all (λ (c : Change). list_all (λ (d : Change). fits c.touch d.touch) ds) cs ≡ true
  fit_both = all_weaker (λ (c : Change). list_all (fits c.touch) (row_of from j j.by j.deed)) (λ (c : Change). list_all (λ (d : Change). fits c.touch d.touch) ds)
      (λ c h. covered (fits c.touch) from j j.by j.deed s.boxes h) cs (covered (λ t. list_all (fits t) (row_of from j j.by j.deed)) to i i.by i.deed s.boxes fit)

  after_i : (step_with to s i).0.boxes ≡ after_changes cs s.boxes
  after_i = works to i i.by i.deed s.boxes still can

  after_j : (step_with from s j).0.boxes ≡ after_changes ds s.boxes
  after_j = works from j j.by j.deed s.boxes still' can'

  then_j : (step_with from (step_with to s i).0 j).0.boxes ≡ after_changes ds (after_changes cs s.boxes)
  then_j =
      works from j j.by j.deed (step_with to s i).0.boxes still' can'
      ∙ ap (λ (rs : Boxes). after_changes (changes from j j.by j.deed rs) rs) after_i
      ∙ ap (λ (es : List Change). after_changes es (after_changes cs s.boxes)) (changes_alike cs (allowed to i i.by i.deed s.boxes) from j j.by j.deed s.boxes fit_j)

  then_i : (step_with to (step_with from s j).0 i).0.boxes ≡ after_changes cs (after_changes ds s.boxes)
  then_i =
      works to i i.by i.deed (step_with from s j).0.boxes still can
      ∙ ap (λ (rs : Boxes). after_changes (changes to i i.by i.deed rs) rs) after_j
      ∙ ap (λ (es : List Change). after_changes es (after_changes ds s.boxes)) (changes_alike ds (allowed from j j.by j.deed s.boxes) to i i.by i.deed s.boxes fit_i)

  plain_turned : Turned to from s i j
  plain_turned = record {
    boxes = then_j ∙ changes_turn cs ds (allowed to i i.by i.deed s.boxes) (allowed from j j.by j.deed s.boxes) fit_both s.boxes ∙ sym then_i;
    first = ap (shown (not (is_empty to.missed)) (actor i.by i.deed) i.deed) after_j ∙ shown_alike ds (allowed from j j.by j.deed s.boxes) to i i.by (not (is_empty to.missed)) i.deed s.boxes still fit_i;
    second = ap (shown (not (is_empty from.missed)) (actor j.by j.deed) j.deed) after_i ∙ shown_alike cs (allowed to i i.by i.deed s.boxes) from j j.by (not (is_empty from.missed)) j.deed s.boxes still' fit_j;
  }

-- ---- an item that moves a mailbox

module _ (to from : Sought) (s : MailStore) (i j : Item) (valid : IsValid s) (formed : IsWellFormed s.house i) (formed' : IsWellFormed s.house j) (moves : moves_boxes i.deed ≡ true) (can : CanHave to i) (can' : CanHave from j)
    (fit : commute (row_of from j j.by j.deed) (row_of to i i.by i.deed) ≡ true) where
  named_only : (q : BoxId) → touches_box to i q ≡ deed_touches (actor i.by i.deed) i.deed q
  named_only q = ap (λ (t : Sought). touches_box t i q) (can (no_mail_of i.deed moves))

  pub off_named : (q : BoxId) → touches_box from j q ≡ true → touches_box to i q ≡ false
  off_named q h = named_only q ∙ touched_off (deed_touches (actor i.by i.deed) i.deed) q from j j.by j.deed can' (off_all to i i.by i.deed (row_of from j j.by j.deed) moves fit) h

  apart : Apart (touches_box to i) (touches_box from j)
  apart q in_i in_j = true≢false (sym in_i ∙ off_named q in_j)

  off_i : (q : BoxId) → touches_box to i q ≡ true → touches_box from j q ≡ false
  off_i q in_i = elim (touches_box from j q) as (λ b. touches_box from j q ≡ b → b ≡ false) [ true ↦ λ in_j. absurd (apart q in_i in_j) | false ↦ λ off. refl ] refl

  pub names_for_j : touches_names j.deed ≡ true → names_of (actor j.by j.deed) (step_with to s i).0.boxes ≡ names_of (actor j.by j.deed) s.boxes
  names_for_j names = names_stay to s i (actor j.by j.deed) moves can (other_names to from i j moves fit names)

  names_for_i : names_of (actor i.by i.deed) (step_with from s j).0.boxes ≡ names_of (actor i.by i.deed) s.boxes
  names_for_i = elim (moves_boxes j.deed) as (λ b. moves_boxes j.deed ≡ b → names_of (actor i.by i.deed) (step_with from s j).0.boxes ≡ names_of (actor i.by i.deed) s.boxes) [
    | true ↦ λ moves'. names_stay from s j (actor i.by i.deed) moves' can' (other_names from to j i moves' (commute_flip (row_of to i i.by i.deed) (row_of from j j.by j.deed) ∙ fit) (touches_of_names i.deed moves))
    | false ↦ λ still. ap (names_of (actor i.by i.deed)) (works from j j.by j.deed s.boxes still can') ∙ names_kept (actor i.by i.deed) (changes from j j.by j.deed s.boxes) s.boxes
  ] refl
    where
      touches_of_names : (d : Deed) → moves_boxes d ≡ true → touches_names d ≡ true
      touches_of_names (Create mailbox) h = refl
      touches_of_names (Rename mailbox target) h = refl
      touches_of_names (Delete mailbox keys) h = refl
      touches_of_names _ h = absurd (true≢false (sym h))

  moved_turned : Turned to from s i j
  moved_turned = record {
    boxes = apart_commute to from s i j apart (λ _. sym names_for_i) (λ names. sym (names_for_j names))
        (step_with-IsValid from (step_with to s i).0 j (step_with-IsValid to s i valid formed) formed').rising
        (step_with-IsValid to (step_with from s j).0 i (step_with-IsValid from s j valid formed') formed).rising;
    first = sym (shown_elsewhere to s (step_with from s j).0 i (λ q in_i. sym (other_stays q from s j (off_i q in_i))) (λ _. sym names_for_i));
    second = sym (shown_elsewhere from s (step_with to s i).0 j (λ q in_j. sym (other_stays q to s i (off_named q in_j))) (λ names. sym (names_for_j names)));
  }

-- ---- any two items

turned_any : (to from : Sought) (s : MailStore) (i j : Item) → IsValid s → IsWellFormed s.house i → IsWellFormed s.house j → CanHave to i → CanHave from j
    → commute (row_of to i i.by i.deed) (row_of from j j.by j.deed) ≡ true → Turned to from s i j
turned_any to from s i j valid formed formed' can can' fit = elim (moves_boxes i.deed) as (λ b. moves_boxes i.deed ≡ b → Turned to from s i j) [
  | true ↦ λ moves. moved_turned to from s i j valid formed formed' moves can can' (commute_flip (row_of from j j.by j.deed) (row_of to i i.by i.deed) ∙ fit)
  | false ↦ λ still. elim (moves_boxes j.deed) as (λ b. moves_boxes j.deed ≡ b → Turned to from s i j) [
    | true ↦ λ moves. turned_back to from s i j (moved_turned from to s j i valid formed' formed moves can' can fit)
    | false ↦ λ still'. plain_turned to from s i j still still' can can' fit
  ] refl
] refl

pub swap_given : (to from : Sought) (s : MailStore) (i j : Item) → IsValid s → IsWellFormed s.house i → IsWellFormed s.house j → CanHave to i → CanHave from j
    → commute (touches_of (resolved to i)) (touches_of (resolved from j)) ≡ true → (sets_conf i.deed && sets_conf j.deed) ≡ false → Swap to from s i j
swap_given to from s i j valid formed formed' can can' fit one =
    let t : Turned to from s i j = turned_any to from s i j valid formed formed' can can' fit in record {
      store = ap₂ (λ (conf : Conf) (boxes : Boxes). record s { conf = conf; boxes = boxes }) (confs_turn s.house i.deed j.deed s.conf one) t.boxes;
      first = t.first;
      second = t.second;
    }
