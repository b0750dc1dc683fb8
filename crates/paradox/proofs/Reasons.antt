-- The reasons that answers can be broken for.
use Rattle.std.proofs.Common.{◌≢◌, Bool, true, false, if◌then◌else◌, Option, Some}
use Rattle.verb_core.specs.declared.item.Shown.{Shown}
use Rattle.verb_core.specs.declared.item.Shown.TheVariants.{Seen, Names, Count, Done, Copied, Put, Left, Way as Went, Moved}
use Rattle.paradox.specs.declared.words.Reason.{Reason}
use Rattle.paradox.specs.declared.words.Reason.TheVariants as why
use Rattle.paradox.specs.Answers.{given, amiss}

-- a reason that is given is this one
given_alone : (cause : Bool) (reason : Reason) → reason ≢ why.Withdrawn → given cause reason ≢ Some why.Withdrawn
given_alone true reason other is = other (cc)
given_alone false reason other is = cc

either : (b : Bool) (x y : Option Reason) → x ≢ Some why.Withdrawn → y ≢ Some why.Withdrawn → (if b then x else y) ≢ Some why.Withdrawn
either true x y left right = left
either false x y left right = right

missing : Some why.Missing ≢ Some why.Withdrawn
missing is = cc

pub never_withdrawn : (looks : Bool) (shown now : Shown) → amiss looks shown now ≢ Some why.Withdrawn
never_withdrawn looks (Seen shown) (Seen now) = either _ _ _ (given_alone _ why.Changed (λ e. cc)) missing
never_withdrawn looks (Names shown) (Names now) = given_alone _ why.NoName (λ e. cc)
never_withdrawn looks (Count shown) (Count now) = given_alone _ why.Fewer (λ e. cc)
never_withdrawn looks (Done shown) (Done now) = given_alone _ why.Missing (λ e. cc)
never_withdrawn looks (Copied shown was) (Copied now is) = either _ _ _ (given_alone _ why.Redirected (λ e. cc)) missing
never_withdrawn looks (Put was) (Put is) = given_alone _ why.Redirected (λ e. cc)
never_withdrawn looks (Left shown) (Left now) = given_alone _ why.Left (λ e. cc)
never_withdrawn looks (Went shown) (Went now) = given_alone _ why.Renamed (λ e. cc)
never_withdrawn looks (Moved shown) (Moved now) = given_alone _ why.Moved (λ e. cc)
never_withdrawn looks shown now = λ is. cc
