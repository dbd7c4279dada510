use Rattle.lanes.proofs.Puts.{put_sorted}
use Rattle.lanes.proofs.lane.LaneLanes.put.Goals as goal

pub invariant_of-self : goal.invariant_of-self
invariant_of-self g c = put_sorted c.self.inside.values.entries c.put.new.values.entries c.args.name c.args.value c.put.result c.put.ensures.ok c.put.ensures.err c.self.invariant
