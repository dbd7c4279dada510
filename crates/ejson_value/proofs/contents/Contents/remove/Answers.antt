use Rattle.std.proofs.Common.{subst, sym}
use Rattle.std.specs.BTreeMap.{is_at}
use Rattle.ejson_value.specs.Key.{key_cmp}
use Rattle.ejson_value.specs.Rows.{AreDocuments, AreDocuments-remove}
use Rattle.ejson_value.proofs.contents.Contents.remove.Goals as goal

pub invariant_of-self : goal.invariant_of-self
invariant_of-self c = record {
  by_key = c.remove.ensures.ordered;
  documents = subst AreDocuments (sym c.remove.ensures.entries) (AreDocuments-remove (is_at (key_cmp c.args.key.now)) _ c.self.invariant.documents);
}
