-- The places that are kept are those of the usable snapshots, record by record.
use Rattle.std.proofs.Common.{◌≡◌, ◌⊎◌, inl, inr, ℕ, ◌≤◌, ◌==◌, Bool, true, false, cond, List, [], ◌∷◌, ◌++◌, length, Option, Some, None, option_and_then, option_map, refl, ap, sym, subst, ◌∙◌, arith, append_assoc, length-append}
use Rattle.verb_core.specs.declared.conf.Conf.{Conf}
use Rattle.verb_core.specs.declared.conf.House.{House}
use Rattle.verb_core.specs.declared.item.Item.{Item}
use Rattle.verb_core.specs.declared.mailbox.BoxId.{BoxId}
use Rattle.verb_core.specs.declared.mailbox.Mailbox.{Mailbox}
use Rattle.verb_core.specs.Deeds.{act_item}
use Rattle.verb_bytes.specs.declared.journal.JournalRecord.{JournalRecord}
use Rattle.verb_bytes.specs.declared.journal.JournalRecord.TheVariants.{Verb, Operator, Cycle, Snapshot, Upgrade, Withdraw}
use Rattle.withdraw.specs.declared.undone.UndoneBehind.{UndoneBehind}
use Rattle.store_kept.specs.Kept.{Kept, Marks, not_behind, passed, performed, placed, snapshotted, undone_as}
use Rattle.cycle_rules.specs.Cycles.{cycled_at}
use Rattle.cycle_rules.specs.Withdrawals.{withdrawn_at}
use Rattle.desk_journal.specs.Records.{front, is_true, opening_state, place_rewound_to, state}
use Rattle.desk_journal.proofs.Upgrading.{upgrade_is}
use Rattle.snapshot_laws.specs.Usable.{GoesNoLower, IsUsable}
use Rattle.snapshot_laws.proofs.Members.{In, Rises, placed_is, placed_itself, placed_others, rises_not_behind, rises_placed, stayed, stays}
use Rattle.snapshot_laws.proofs.Runs.{IsLasting, along}
use Rattle.snapshot_laws.proofs.Fronts.{no_snapshot_among, opens}
use Rattle.snapshot_laws.proofs.Splits.{IsBehind, IsThere, splits_end}
use Rattle.snapshot_laws.proofs.Steps.{cycled_is, cycled_within, kept_is, performed_is, withdrawn_is, withdrawn_within}

-- places rise, none is behind so many items, and they are those of the usable snapshots
pub record StandsAt (records : List JournalRecord) (places : List ℕ) (count : ℕ) : Type 0 where
  pub rises : Rises places
  pub within : (n : ℕ) → In n places → n ≤ count
  pub usable : (n : ℕ) → In n places → IsUsable records n
  pub there : (n : ℕ) → IsUsable records n → In n places

-- the point of a cycle that can be withdrawn is among so many items
abbrev PointWithin : ℕ → Option UndoneBehind → Type 0
PointWithin count None = Unit {0}
PointWithin count (Some last) = last.position ≤ count

point_within : (few many : ℕ) (o : Option UndoneBehind) → few ≤ many → PointWithin few o → PointWithin many o
point_within few many None le within = tt
point_within few many (Some last) le within = omega arith

-- that of the cycle which is to be withdrawn
last_within : (count of : ℕ) (o : Option UndoneBehind) (last : UndoneBehind) → PointWithin count o → option_and_then (undone_as of) o ≡ Some last → last.position ≤ count
last_within count of None last within e = absurd (cc e)
last_within count of (Some one) last within e = by (one.cycle == of) e
  where
    by : (b : Bool) → cond b (Some one) None ≡ Some last → last.position ≤ count
    by true e = let same : one ≡ last = cc e in subst (λ (u : UndoneBehind). u.position ≤ count) same within
    by false e = absurd (cc e)

record Stands (records : List JournalRecord) (kept : Kept) : Type 0 where
  marks : StandsAt records kept.marks.places (length kept.timeline)
  undone : PointWithin (length kept.timeline) kept.undone

module _ (done : List JournalRecord) (kept : Kept) (r : JournalRecord) (is : state done ≡ Some kept) where
  -- what the records leave is one
  same_state : (k : Kept) (before : List JournalRecord) → state before ≡ Some k → done ≡ before → kept ≡ k
  same_state k before e same = let both : Some kept ≡ Some k = sym is ∙ ap state same ∙ e in cc both

  -- the record, if it goes back, goes to this position or one behind it
  abbrev Allows : ℕ → Type 0
  Allows n = (place : ℕ) → place_rewound_to kept r ≡ Some place → n ≤ place

  lasts_more : (n count : ℕ) → GoesNoLower done count n → Allows n → GoesNoLower (done ++ r ∷ []) count n
  lasts_more n count lasts allows before after what k place split le s p = by (splits_end done r before what after split)
    where
      by : IsThere done r before what after ⊎ IsBehind done r before what after → n ≤ place
      by (inl last) = allows place (ap (place_rewound_to kept) last.one ∙ ap (λ (x : Kept). place_rewound_to x what) (same_state k before s last.front_is) ∙ p)
      by (inr behind) = lasts before behind.mid what k place behind.split le s p

  -- what was usable is so still
  extended : (n : ℕ) → IsUsable done n → Allows n → IsUsable (done ++ r ∷ []) n
  extended n u allows = record {
    before = u.before;
    conf = u.conf;
    rows = u.rows;
    after = u.after ++ r ∷ [];
    split = ap (λ (xs : List JournalRecord). xs ++ r ∷ []) u.split ∙ append_assoc u.before (Snapshot n u.conf u.rows ∷ u.after) (r ∷ []);
    kept = u.kept;
    state_is = u.state_is;
    true_is = u.true_is;
    lasts = lasts_more n (length u.before) u.lasts allows;
  }

  -- the record is a true snapshot of so many items
  record IsLast (n : ℕ) : Type 0 where
    conf : Conf
    rows : List (BoxId × Mailbox)
    record_is : r ≡ Snapshot n conf rows
    true_is : is_true kept (Snapshot n conf rows) ≡ true

  -- what is usable is the record, or was so before
  before_it : (n : ℕ) → IsUsable (done ++ r ∷ []) n → IsLast n ⊎ (IsUsable done n × Allows n)
  before_it n u = by (splits_end done r u.before (Snapshot n u.conf u.rows) u.after u.split)
    where
      by : IsThere done r u.before (Snapshot n u.conf u.rows) u.after ⊎ IsBehind done r u.before (Snapshot n u.conf u.rows) u.after → IsLast n ⊎ (IsUsable done n × Allows n)
      by (inl last) = inl (record {
        conf = u.conf;
        rows = u.rows;
        record_is = last.one;
        true_is = subst (λ (k : Kept). is_true k (Snapshot n u.conf u.rows) ≡ true) (sym (same_state u.kept u.before u.state_is last.front_is)) u.true_is;
      })
      by (inr behind) = inr (
        record {
          before = u.before;
          conf = u.conf;
          rows = u.rows;
          after = behind.mid;
          split = behind.split;
          kept = u.kept;
          state_is = u.state_is;
          true_is = u.true_is;
          lasts = λ before after what k place split le s p. u.lasts before (after ++ r ∷ []) what k place
              (ap (λ (xs : List JournalRecord). xs ++ r ∷ []) split ∙ append_assoc before (what ∷ after) (r ∷ [])) le s p;
        },
        (λ place p. u.lasts done [] r kept place refl (omega (arith, ap length behind.split, length-append u.before (Snapshot n u.conf u.rows ∷ behind.mid))) is p),
      )

  goes_nowhere : {X : Type 0} (place : ℕ) → ◌≡◌ {A = Option ℕ} None (Some place) → X
  goes_nowhere place wrong = absurd (cc wrong)

  module _ (stands : StandsAt done kept.marks.places (length kept.timeline)) where
    -- a record that goes nowhere back, and is no true snapshot
    plain : ((n : ℕ) → IsLast n → ⊥) → place_rewound_to kept r ≡ None → (count : ℕ) → length kept.timeline ≤ count → StandsAt (done ++ r ∷ []) kept.marks.places count
    plain no_last stays_there count more = record {
      rises = stands.rises;
      within = λ n there. let few : n ≤ length kept.timeline = stands.within n there in omega arith;
      usable = λ n there. extended n (stands.usable n there) (λ place p. goes_nowhere place (sym stays_there ∙ p));
      there = λ n u. by n (before_it n u);
    }
      where
        by : (n : ℕ) → IsLast n ⊎ (IsUsable done n × Allows n) → In n kept.marks.places
        by n (inl last) = absurd (no_last n last)
        by n (inr both) = stands.there n both.0

    -- a true snapshot
    taken : (items : ℕ) (conf : Conf) (rows : List (BoxId × Mailbox)) → r ≡ Snapshot items conf rows → items ≡ length kept.timeline → is_true kept (Snapshot items conf rows) ≡ true
        → StandsAt (done ++ r ∷ []) (placed (length kept.timeline) kept.marks.places) (length kept.timeline)
    taken items conf rows one many truth = record {
      rises = rises_placed (length kept.timeline) kept.marks.places stands.rises;
      within = λ n there. within n (placed_is (length kept.timeline) n kept.marks.places there);
      usable = λ n there. usable n (placed_is (length kept.timeline) n kept.marks.places there);
      there = λ n u. there n (before_it n u);
    }
      where
        within : (n : ℕ) → (length kept.timeline ≡ n) ⊎ In n kept.marks.places → n ≤ length kept.timeline
        within n (inl here) = omega arith
        within n (inr behind) = stands.within n behind

        -- none is behind it, and it goes nowhere back itself
        lasts : GoesNoLower (done ++ r ∷ []) (length done) items
        lasts before after what k place split le s p = by (splits_end done r before what after split)
          where
            by : IsThere done r before what after ⊎ IsBehind done r before what after → items ≤ place
            by (inl last) = goes_nowhere place (ap (place_rewound_to k) (sym one ∙ last.one) ∙ p)
            by (inr behind) = absurd (omega (arith, ap length behind.split, length-append before (what ∷ behind.mid)))

        own : IsUsable (done ++ r ∷ []) items
        own = record {
          before = done;
          conf = conf;
          rows = rows;
          after = [];
          split = ap (λ (x : JournalRecord). done ++ x ∷ []) one;
          kept = kept;
          state_is = is;
          true_is = truth;
          lasts = lasts;
        }

        usable : (n : ℕ) → (length kept.timeline ≡ n) ⊎ In n kept.marks.places → IsUsable (done ++ r ∷ []) n
        usable n (inl here) = subst (IsUsable (done ++ r ∷ [])) (many ∙ here) own
        usable n (inr behind) = extended n (stands.usable n behind) (λ place p. goes_nowhere place (ap (place_rewound_to kept) (sym one) ∙ p))

        there : (n : ℕ) → IsLast n ⊎ (IsUsable done n × Allows n) → In n (placed (length kept.timeline) kept.marks.places)
        there n (inl last) =
            let both : Snapshot items conf rows ≡ Snapshot n last.conf last.rows = sym one ∙ last.record_is in
            let same : items ≡ n = cc both in
            subst (λ (m : ℕ). In m (placed (length kept.timeline) kept.marks.places)) (sym many ∙ same) (placed_itself (length kept.timeline) kept.marks.places)
        there n (inr both) = placed_others (length kept.timeline) n kept.marks.places (stands.there n both.0)

    -- a record that goes back, and is no true snapshot
    rewound_at : (place count : ℕ) → ((n : ℕ) → IsLast n → ⊥) → place_rewound_to kept r ≡ Some place → place ≤ count → StandsAt (done ++ r ∷ []) (not_behind place kept.marks.places) count
    rewound_at place count no_last found le = record {
      rises = rises_not_behind place kept.marks.places stands.rises;
      within = λ n there. let low : n ≤ place = (stayed place n kept.marks.places there).1 in omega arith;
      usable = λ n there. extended n (stands.usable n (stayed place n kept.marks.places there).0) (allows n (stayed place n kept.marks.places there).1);
      there = λ n u. there n (before_it n u);
    }
      where
        allows : (n : ℕ) → n ≤ place → Allows n
        allows n low place' p =
            let places : Some place ≡ Some place' = sym found ∙ p in
            let equal : place ≡ place' = cc places in
            omega arith

        there : (n : ℕ) → IsLast n ⊎ (IsUsable done n × Allows n) → In n (not_behind place kept.marks.places)
        there n (inl last) = absurd (no_last n last)
        there n (inr both) = stays place n kept.marks.places (stands.there n both.0) (both.1 place found)

-- ---- each record

stands_item : (done : List JournalRecord) (kept next : Kept) (r : JournalRecord) (item : Item) → state done ≡ Some kept → Stands done kept → performed kept item ≡ next
    → ((n : ℕ) (conf : Conf) (rows : List (BoxId × Mailbox)) → r ≡ Snapshot n conf rows → ⊥) → place_rewound_to kept r ≡ None → Stands (done ++ r ∷ []) next
stands_item done kept next r item is stands same no_snapshot stays_there =
    let more : length kept.timeline ≤ length (kept.timeline ++ item ∷ []) = omega (arith, length-append kept.timeline (item ∷ [])) in
    subst (Stands (done ++ r ∷ [])) same (record {
      marks = plain done kept r is stands.marks (λ n last. no_snapshot n last.conf last.rows last.record_is) stays_there (length (kept.timeline ++ item ∷ [])) more;
      undone = point_within (length kept.timeline) (length (kept.timeline ++ item ∷ [])) kept.undone more stands.undone;
    })

stands_snapshot : (done : List JournalRecord) (kept : Kept) (items : ℕ) (conf : Conf) (rows : List (BoxId × Mailbox)) → state done ≡ Some kept → Stands done kept → items ≡ length kept.timeline
    → (b : Bool) → is_true kept (Snapshot items conf rows) ≡ b → Stands (done ++ Snapshot items conf rows ∷ []) (cond b (snapshotted kept) (record kept { marks = passed kept.marks }))
stands_snapshot done kept items conf rows is stands many true e = record { marks = taken done kept (Snapshot items conf rows) is stands.marks items conf rows refl many e; undone = stands.undone }
stands_snapshot done kept items conf rows is stands many false e = record {
  marks = plain done kept (Snapshot items conf rows) is stands.marks (λ n last. no_last n last.conf last.rows last.record_is last.true_is) refl (length kept.timeline) (omega arith);
  undone = stands.undone;
}
  where
    no_last : (n : ℕ) (conf' : Conf) (rows' : List (BoxId × Mailbox)) → Snapshot items conf rows ≡ Snapshot n conf' rows' → is_true kept (Snapshot n conf' rows') ≡ true → ⊥
    no_last n conf' rows' same truth = let wrong : true ≡ false = sym truth ∙ ap (is_true kept) (sym same) ∙ e in cc wrong

stands_more : IsLasting Stands
stands_more done kept (Verb item) next is stands e =
    stands_item done kept next (Verb item) item is stands (performed_is kept next (Verb item) item e) (λ n conf rows wrong. cc wrong) refl
stands_more done kept (Operator number at act) next is stands e =
    stands_item done kept next (Operator number at act) (act_item number at act) is stands (performed_is kept next (Operator number at act) (act_item number at act) e)
    (λ n conf rows wrong. cc wrong) refl
stands_more done kept (Cycle number at ask) next is stands e =
    let cycled = cycled_is kept next at ask number e in
    let within = cycled_within kept at ask cycled.place cycled.found in
    subst (Stands (done ++ Cycle number at ask ∷ [])) cycled.next_is (record {
      marks = rewound_at done kept (Cycle number at ask) is stands.marks cycled.place (length (cycled_at kept at ask cycled.place).timeline)
          (λ n last. let wrong : Cycle number at ask ≡ Snapshot n last.conf last.rows = last.record_is in cc wrong) cycled.found within;
      undone = within;
    })
stands_more done kept (Snapshot items conf rows) next is stands e =
    let found = kept_is kept next items conf rows e in
    subst (Stands (done ++ Snapshot items conf rows ∷ [])) found.next_is
    (stands_snapshot done kept items conf rows is stands found.items_are (is_true kept (Snapshot items conf rows)) refl)
stands_more done kept (Upgrade at) next is stands e =
    subst (Stands (done ++ Upgrade at ∷ [])) (upgrade_is kept next at e)
    (record {
      marks = plain done kept (Upgrade at) is stands.marks (λ n last. let wrong : Upgrade at ≡ Snapshot n last.conf last.rows = last.record_is in cc wrong) refl (length kept.timeline) (omega arith);
      undone = stands.undone;
    })
stands_more done kept (Withdraw number at key of) next is stands e =
    let taken_back = withdrawn_is kept next at key of number e in
    let within = withdrawn_within kept at taken_back.last (last_within (length kept.timeline) of kept.undone taken_back.last stands.undone taken_back.found) in
    subst (Stands (done ++ Withdraw number at key of ∷ [])) taken_back.next_is (record {
      marks = rewound_at done kept (Withdraw number at key of) is stands.marks taken_back.last.position (length (withdrawn_at kept at taken_back.last).timeline)
          (λ n last. let wrong : Withdraw number at key of ≡ Snapshot n last.conf last.rows = last.record_is in cc wrong)
          (ap (option_map (λ (last : UndoneBehind). last.position)) taken_back.found) within;
      undone = tt;
    })
stands_more done kept _ next is stands e = absurd (cc e)

-- none of the records that a journal opens with is a snapshot
stands_first : (records : List JournalRecord) (kept : Kept) → opening_state (front records) ≡ Some kept → Stands (front records) kept
stands_first records kept e =
    let is = opens records kept e in
    record {
      marks = subst (λ (m : Marks). StandsAt (front records) m.places (length kept.timeline)) (sym is.marks) empty;
      undone = subst (PointWithin (length kept.timeline)) (sym is.undone) tt;
    }
  where
    empty : StandsAt (front records) [] (length kept.timeline)
    empty = record {
      rises = tt;
      within = λ n wrong. absurd wrong;
      usable = λ n wrong. absurd wrong;
      there = λ n u. absurd (no_snapshot_among records u.before u.after n u.conf u.rows u.kept u.state_is u.split);
    }

pub stands : (records : List JournalRecord) (kept : Kept) → state records ≡ Some kept → StandsAt records kept.marks.places (length kept.timeline)
stands records kept is = (along Stands stands_first stands_more records kept is).marks
