use Rattle.merge_box.proofs.Places.{HasGrown-itself}
use Rattle.merge_box.proofs.kept.KeptMap.slot_for.Goals as goal

pub returns-in-Some-clause-grown : goal.returns-in-Some-clause-grown
returns-in-Some-clause-grown c = HasGrown-itself c.args.self.now
