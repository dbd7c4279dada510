use Rattle.std.proofs.Common.{◌≡◌, if◌then◌else◌, is_none, rules}
use Rattle.std.specs.BTreeMap.{insert_entry}
use Rattle.map_model.specs.Maps.{at}
use Rattle.ejson_value.specs.Key.{key_cmp}
use Rattle.ejson_value.proofs.PutAll.{AreRows-put_new, told_new, told_there}
use Rattle.ejson_value.proofs.contents.Contents.put_new.Goals.{in-Vacant, in-Occupied}
use Rattle.ejson_value.proofs.contents.Contents.put_new.Goals as goal

pub invariant_of-self-2 : goal.invariant_of-self-2
invariant_of-self-2 c =
    let old = c.self.inside.docs.entries in
    let put : c.match-branch-2.self-inside.docs.entries ≡ (if is_none (at key_cmp old c.args.key) then insert_entry key_cmp old c.args.key c.args.doc else old) = search rules in
    AreRows-put_new (is_none (at key_cmp old c.args.key)) old c.match-branch-2.self-inside.docs.entries c.args.key c.args.doc put c.self.invariant c.known.ensures

pub returns-clause-told : goal.returns-clause-told
returns-clause-told c = elim c.match-branch-2.branch [
  | in-Vacant w ↦ told_new _ _ w.result-is (search rules)
  | in-Occupied w ↦ told_there _ _ w.result-is (search rules)
]
