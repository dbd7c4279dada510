use Rattle.std.proofs.Common.{subst}
use Rattle.view_model.specs.Views.{IsView}
use Rattle.ejson_value.specs.Key.{key_cmp}
use Rattle.minimongo.proofs.States.{is_view}
use Rattle.minimongo.proofs.view.View.known.Goals as goal

pub returns : goal.returns
returns c = subst (IsView key_cmp) c.self.view_is (is_view c.self.inside.contents c.self.inside.originals c.known.ensures c.known-2.ensures)
