use Rattle.serde_json.specs.View.{view as json_view}
use Rattle.ejson_codec.proofs.Found.{found_from, only_from}
use Rattle.ejson_codec.proofs.reading.read.Goals as goal

pub returns-clause-found : goal.returns-clause-found
returns-clause-found c = found_from _ (json_view c.args.tree.now) c.whole_tree.ensures

pub returns-clause-only : goal.returns-clause-only
returns-clause-only c = only_from _ (json_view c.args.tree.now) c.whole_tree.ensures
