-- Answers that were shown beside those that would be shown now, so that a wrong table does not check.
use Rattle.std.proofs.Common.{◌≡◌, refl, ℕ, true, false}
use Rattle.std.specs.Prelude.{[], ◌∷◌, Some, None, codes}
use Rattle.undo_base.specs.declared.keys.Key.{Key}
use Rattle.verb_core.specs.declared.item.Sight.{Sight}
use Rattle.verb_core.specs.declared.item.Shown.TheVariants as shows
use Rattle.verb_core.specs.declared.item.Way.TheVariants.{Plain, NoSource, Merged}
use Rattle.paradox.specs.declared.words.Reason.TheVariants.{Missing, Changed, NoName, Fewer, Redirected, Left, Renamed, Moved}
use Rattle.paradox.specs.Answers.{amiss}

abbrev key : ℕ → Key
key item = record { item = item; index = 0 }

abbrev sight : ℕ → ℕ → Sight
sight item rev = record { key = key item; rev = rev }

pub more_mail : amiss true (shows.Seen (sight 2 0 ∷ sight 3 9 ∷ [])) (shows.Seen (sight 4 0 ∷ sight 3 9 ∷ sight 2 0 ∷ [])) ≡ None
more_mail = refl

pub mail_is_gone : amiss true (shows.Seen (sight 2 0 ∷ sight 3 0 ∷ [])) (shows.Seen (sight 3 7 ∷ sight 4 0 ∷ [])) ≡ Some Missing
mail_is_gone = refl

pub text_is_new : amiss true (shows.Seen (sight 2 0 ∷ sight 3 7 ∷ [])) (shows.Seen (sight 2 0 ∷ sight 3 8 ∷ [])) ≡ Some Changed
text_is_new = refl

pub text_was_not_shown : amiss false (shows.Seen (sight 2 0 ∷ [])) (shows.Seen (sight 2 7 ∷ [])) ≡ None
text_was_not_shown = refl

pub marked_mail_is_gone : amiss false (shows.Done (key 2 ∷ key 3 ∷ [])) (shows.Done (key 3 ∷ key 4 ∷ [])) ≡ Some Missing
marked_mail_is_gone = refl

pub copied_mail_is_gone : amiss false (shows.Copied (key 2 ∷ []) false) (shows.Copied (key 3 ∷ []) true) ≡ Some Missing
copied_mail_is_gone = refl

pub copies_went_elsewhere : amiss false (shows.Copied (key 2 ∷ []) false) (shows.Copied (key 2 ∷ key 3 ∷ []) true) ≡ Some Redirected
copies_went_elsewhere = refl

pub copies_went_elsewhere_before : amiss false (shows.Copied (key 2 ∷ []) true) (shows.Copied (key 2 ∷ []) true) ≡ None
copies_went_elsewhere_before = refl

pub mail_went_elsewhere : amiss false (shows.Put false) (shows.Put true) ≡ Some Redirected
mail_went_elsewhere = refl

pub mail_came_back : amiss false (shows.Put true) (shows.Put false) ≡ None
mail_came_back = refl

pub more_is_left : amiss false (shows.Left (key 2 ∷ [])) (shows.Left (key 2 ∷ key 3 ∷ [])) ≡ Some Left
more_is_left = refl

pub less_is_left : amiss false (shows.Left (key 2 ∷ key 3 ∷ [])) (shows.Left (key 3 ∷ [])) ≡ None
less_is_left = refl

pub more_is_moved : amiss false (shows.Moved []) (shows.Moved (key 2 ∷ [])) ≡ Some Moved
more_is_moved = refl

pub less_is_moved : amiss false (shows.Moved (key 2 ∷ [])) (shows.Moved []) ≡ None
less_is_moved = refl

pub fewer : amiss false (shows.Count (Some 5)) (shows.Count (Some 4)) ≡ Some Fewer
fewer = refl

pub as_many : amiss false (shows.Count (Some 5)) (shows.Count (Some 5)) ≡ None
as_many = refl

pub no_mailbox_now : amiss false (shows.Count (Some 0)) (shows.Count None) ≡ Some Fewer
no_mailbox_now = refl

pub no_mailbox_before : amiss false (shows.Count None) (shows.Count (Some 3)) ≡ None
no_mailbox_before = refl

pub not_renamed : amiss false (shows.Way Plain) (shows.Way NoSource) ≡ Some Renamed
not_renamed = refl

pub merged_at_last : amiss false (shows.Way NoSource) (shows.Way Merged) ≡ Some Renamed
merged_at_last = refl

pub renamed_plainly_at_last : amiss false (shows.Way Merged) (shows.Way Plain) ≡ None
renamed_plainly_at_last = refl

pub merged_both_times : amiss false (shows.Way Merged) (shows.Way Merged) ≡ None
merged_both_times = refl

pub name_in_another_case : amiss false (shows.Names (codes "INBOX" ∷ codes "Work" ∷ [])) (shows.Names (codes "INBOX" ∷ codes "work" ∷ [])) ≡ Some NoName
name_in_another_case = refl

pub more_names : amiss false (shows.Names (codes "INBOX" ∷ [])) (shows.Names (codes "INBOX" ∷ codes "Keep" ∷ [])) ≡ None
more_names = refl

pub nothing_was_shown : amiss true shows.Nothing shows.Nothing ≡ None
nothing_was_shown = refl
