-- `Members::next` meets its contract: the lowest is a number that a set may have, and the set that is left is a smaller word.
use Rattle.std.proofs.Common.{rules, arith, ◌^◌, ◌<◌}
use Rattle.bits.specs.Sets.{max_members}
use Rattle.bits.proofs.Membership.{low_below, later_less}
use Rattle.bits.proofs.sets.MembersIterator.next.Goals as goal

pub returns-clause-steps : goal.returns-clause-steps
unfolding max_members
returns-clause-steps c =
    let few : c.self.inside.left < 2 ^ 64 = omega arith in
    rw (← c.self.view_is)
    (record {
      some = c.if-self-eq0.false;
      least = c.lowest-member.ensures;
      below = low_below few c.if-self-eq0.false c.lowest-member.ensures;
      rest = c.later-self-inside.ensures;
    })

pub returns-clause-goes : goal.returns-clause-goes
returns-clause-goes c =
    let falls : c.later-self-inside.result < c.args.self.now = rw (← c.self.view_is) (later_less c.if-self-eq0.false c.later-self-inside.ensures) in
    search rules
