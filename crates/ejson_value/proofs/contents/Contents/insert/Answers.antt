use Rattle.std.proofs.Common.{subst, sym}
use Rattle.ejson_value.specs.Rows.{AreDocuments, AreDocuments-put}
use Rattle.ejson_value.proofs.contents.Contents.insert.Goals as goal

pub invariant_of-self-2 : goal.invariant_of-self-2
invariant_of-self-2 c = record {
  by_key = c.in_ok-insert.ensures.ordered;
  documents = subst AreDocuments (sym c.in_ok-insert.ensures.entries) (AreDocuments-put _ _ _ c.self.invariant.documents c.known.ensures);
}
