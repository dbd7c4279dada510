use Rattle.std.proofs.Common.{◌∙◌}
use Rattle.minimongo.proofs.Listing.{listed_put}
use Rattle.minimongo.proofs.index.listed.Goals as goal

pub loop-number-preserved : goal.loop-number-preserved
loop-number-preserved c = record {
  can_next = tt;
  is_finite = tt;
  left = λ k.
      listed_put c.args.index.now.entries c.loop-number.number-iterator c.next.new.self c.in-Some.number.now c.loop-number.all.items c.push_listed.new.all.items c.in-Some.ensures.steps c.in_ok-push_listed.ensures k
      ∙ c.loop-number.invariant.left k;
}
