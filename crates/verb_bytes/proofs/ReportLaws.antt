-- What cycles reported, and the stamps of mailboxes, are read from their fields, and only from these.
use Rattle.std.proofs.Common.{◌≡◌, ℕ, ◌-◌, [], refl, arith}
use Rattle.std.proofs.lemmas.List.{append-nil}
use Rattle.paradox.specs.declared.words.Reason.{Reason}
use Rattle.paradox.specs.declared.words.Reason.TheVariants as reason
use Rattle.paradox.specs.declared.words.Verb.{Verb}
use Rattle.paradox.specs.declared.words.Verb.TheVariants as verb
use Rattle.verb_bytes.specs.declared.kinds.TheConstants.{LAST_DEED, LAST_REASON}
use Rattle.verb_bytes.specs.Fields.{byte_field, any_list_fields, deed_kind}
use Rattle.verb_bytes.specs.Spelling.{broken_fields, keyed_report_fields, reason_field, report_fields, stamp_fields, verb_field}
use Rattle.verb_bytes.specs.Readers.{nth_case}
use Rattle.verb_bytes.specs.Reading.{any_list_at, broken_at, broken_of, keyed_of, keyed_report_at, reason_at, reason_cases, report_at, report_with, stamp_at, stamp_of, verb_at, verb_cases}
use Rattle.verb_bytes.proofs.Exact.{Again, Exact, EachCase, again_done, only_done, again2, only2, again3, only3, again5, only5, again7, only7}
use Rattle.verb_bytes.proofs.FieldLaws.{Chosen, again_alone, any_counted, choice_exact, name_exact, option_exact}
use Rattle.verb_bytes.proofs.PartLaws.{u32_exact, user_exact}

-- ---- verbs and reasons

verb_each : EachCase 1 verb_cases (Chosen 1 LAST_DEED verb_field)
verb_each = (
  only_done verb.Deliver _ (append-nil (deed_kind 1)),
  (
    only_done verb.Append _ (append-nil (deed_kind 2)),
    (
      only_done verb.Fetch _ (append-nil (deed_kind 3)),
      (
        only_done verb.Store _ (append-nil (deed_kind 4)),
        (
          only_done verb.Copy _ (append-nil (deed_kind 5)),
          (
            only_done verb.List _ (append-nil (deed_kind 6)),
            (
              only_done verb.Status _ (append-nil (deed_kind 7)),
              (
                only_done verb.Select _ (append-nil (deed_kind 8)),
                (
                  only_done verb.Expunge _ (append-nil (deed_kind 9)),
                  (
                    only_done verb.Close _ (append-nil (deed_kind 10)),
                    (
                      only_done verb.Create _ (append-nil (deed_kind 11)),
                      (
                        only_done verb.Rename _ (append-nil (deed_kind 12)),
                        (only_done verb.Delete _ (append-nil (deed_kind 13)), tt),
                      ),
                    ),
                  ),
                ),
              ),
            ),
          ),
        ),
      ),
    ),
  ),
)

verb_case : (n : ℕ) (x : Verb) → Again (nth_case (n - 1) verb_cases) x [] → Again verb_at x (deed_kind n)
verb_case n x h = again_alone 1 LAST_DEED (omega arith) verb_cases (Chosen 1 LAST_DEED verb_field) verb_each n x h

verb_again : (x : Verb) → Again verb_at x (verb_field x)
verb_again verb.Deliver = verb_case 1 verb.Deliver (again_done verb.Deliver)
verb_again verb.Append = verb_case 2 verb.Append (again_done verb.Append)
verb_again verb.Fetch = verb_case 3 verb.Fetch (again_done verb.Fetch)
verb_again verb.Store = verb_case 4 verb.Store (again_done verb.Store)
verb_again verb.Copy = verb_case 5 verb.Copy (again_done verb.Copy)
verb_again verb.List = verb_case 6 verb.List (again_done verb.List)
verb_again verb.Status = verb_case 7 verb.Status (again_done verb.Status)
verb_again verb.Select = verb_case 8 verb.Select (again_done verb.Select)
verb_again verb.Expunge = verb_case 9 verb.Expunge (again_done verb.Expunge)
verb_again verb.Close = verb_case 10 verb.Close (again_done verb.Close)
verb_again verb.Create = verb_case 11 verb.Create (again_done verb.Create)
verb_again verb.Rename = verb_case 12 verb.Rename (again_done verb.Rename)
verb_again verb.Delete = verb_case 13 verb.Delete (again_done verb.Delete)

verb_exact : Exact verb_at verb_field
verb_exact = choice_exact 1 LAST_DEED (omega arith) verb_cases refl verb_field verb_again verb_each

reason_each : EachCase 0 reason_cases (Chosen 0 LAST_REASON reason_field)
reason_each = (
  only_done reason.Missing _ (append-nil (byte_field 0 LAST_REASON 0)),
  (
    only_done reason.Changed _ (append-nil (byte_field 0 LAST_REASON 1)),
    (
      only_done reason.NoName _ (append-nil (byte_field 0 LAST_REASON 2)),
      (
        only_done reason.Fewer _ (append-nil (byte_field 0 LAST_REASON 3)),
        (
          only_done reason.Redirected _ (append-nil (byte_field 0 LAST_REASON 4)),
          (
            only_done reason.Left _ (append-nil (byte_field 0 LAST_REASON 5)),
            (
              only_done reason.Renamed _ (append-nil (byte_field 0 LAST_REASON 6)),
              (
                only_done reason.Moved _ (append-nil (byte_field 0 LAST_REASON 7)),
                (only_done reason.Withdrawn _ (append-nil (byte_field 0 LAST_REASON 8)), tt),
              ),
            ),
          ),
        ),
      ),
    ),
  ),
)

reason_case : (n : ℕ) (x : Reason) → Again (nth_case (n - 0) reason_cases) x [] → Again reason_at x (byte_field 0 LAST_REASON n)
reason_case n x h = again_alone 0 LAST_REASON (omega arith) reason_cases (Chosen 0 LAST_REASON reason_field) reason_each n x h

reason_again : (x : Reason) → Again reason_at x (reason_field x)
reason_again reason.Missing = reason_case 0 reason.Missing (again_done reason.Missing)
reason_again reason.Changed = reason_case 1 reason.Changed (again_done reason.Changed)
reason_again reason.NoName = reason_case 2 reason.NoName (again_done reason.NoName)
reason_again reason.Fewer = reason_case 3 reason.Fewer (again_done reason.Fewer)
reason_again reason.Redirected = reason_case 4 reason.Redirected (again_done reason.Redirected)
reason_again reason.Left = reason_case 5 reason.Left (again_done reason.Left)
reason_again reason.Renamed = reason_case 6 reason.Renamed (again_done reason.Renamed)
reason_again reason.Moved = reason_case 7 reason.Moved (again_done reason.Moved)
reason_again reason.Withdrawn = reason_case 8 reason.Withdrawn (again_done reason.Withdrawn)

reason_exact : Exact reason_at reason_field
reason_exact = choice_exact 0 LAST_REASON (omega arith) reason_cases refl reason_field reason_again reason_each

-- ---- reports and stamps

broken_exact : Exact broken_at broken_fields
broken_exact = record { again = λ q. again5 u32_exact user_exact verb_exact (option_exact name_exact) reason_exact broken_of q.number q.user q.verb q.mailbox q.reason; only = only5 u32_exact user_exact verb_exact (option_exact name_exact) reason_exact broken_of (λ q fs. fs ≡ broken_fields q) (λ a b c d x. refl) }

stamp_exact : Exact stamp_at stamp_fields
stamp_exact = record { again = λ q. again3 user_exact name_exact u32_exact stamp_of q.0.user q.0.name q.1; only = only3 user_exact name_exact u32_exact stamp_of (λ q fs. fs ≡ stamp_fields q) (λ a b c. refl) }

pub stamps_exact : Exact (any_list_at stamp_at) (any_list_fields stamp_fields)
stamps_exact = any_counted stamp_exact

report_exact : Exact report_at report_fields
report_exact = record {
  again = λ q. again7 u32_exact u32_exact u32_exact (any_counted broken_exact) (any_counted u32_exact) stamps_exact (any_counted u32_exact) report_with q.cycle q.point q.kept q.broken q.notices q.renewed q.unmatched;
  only = only7 u32_exact u32_exact u32_exact (any_counted broken_exact) (any_counted u32_exact) stamps_exact (any_counted u32_exact) report_with (λ q fs. fs ≡ report_fields q) (λ a b c d x y z. refl);
}

keyed_report_exact : Exact keyed_report_at keyed_report_fields
keyed_report_exact = record { again = λ q. again2 name_exact report_exact keyed_of q.0 q.1; only = only2 name_exact report_exact keyed_of (λ q fs. fs ≡ keyed_report_fields q) (λ a b. refl) }

pub reports_exact : Exact (any_list_at keyed_report_at) (any_list_fields keyed_report_fields)
reports_exact = any_counted keyed_report_exact
