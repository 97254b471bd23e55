-- `bits::sets::joined` meets its contract.
use mathlib.Core.Path.{sym}
use Rattle.bits.specs.Sets.{max_members}
use Rattle.bits.proofs.Membership.{joined_as, joined_beyond}
use Rattle.bits.proofs.sets.joined.Goals as goal

pub returns-then-member-ge-MAX_MEMBERS : goal.returns-then-member-ge-MAX_MEMBERS
unfolding max_members
returns-then-member-ge-MAX_MEMBERS c = let a = c.args in sym (joined_beyond a.set a.member c.if-member-ge-MAX_MEMBERS.true)

pub returns : goal.returns
unfolding max_members
returns c = let a = c.args in joined_as a.set a.member c.if-member-ge-MAX_MEMBERS.false
