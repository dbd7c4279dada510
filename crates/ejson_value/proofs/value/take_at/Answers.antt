use Rattle.std.proofs.Common.{ap, ◌∙◌}
use Rattle.ejson_value.specs.View.{views}
use Rattle.ejson_value.specs.Entries.{views-remove}
use Rattle.ejson_value.proofs.value.take_at.Goals as goal

pub returns-clause-removed : goal.returns-clause-removed
returns-clause-removed c = ap views c.remove.ensures.items ∙ views-remove c.args.items.now.items c.args.place
