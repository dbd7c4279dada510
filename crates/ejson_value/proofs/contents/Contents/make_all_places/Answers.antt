use Rattle.ejson_value.proofs.PutAll.{undone}
use Rattle.ejson_value.proofs.contents.Contents.make_all_places.Goals as goal

pub returns-in-Err-clause-err : goal.returns-in-Err-clause-err
returns-in-Err-clause-err c =
    undone c.args.changes.now c.args.self.now c.make_places.new.self c.drop_places.new.self c.requires
    c.known.ensures.by_key c.known-in-Err.ensures.by_key c.in-Err.ensures.err c.drop_places.ensures
