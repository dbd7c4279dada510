use Rattle.std.proofs.Common.{sym, ◌∙◌, subst}
use Rattle.std.proofs.lemmas.Result.{IfOk-weaker}
use Rattle.serde_json.specs.Data.{Data}
use Rattle.ejson_value.specs.View.{view}
use Rattle.ejson_codec.specs.Reads.{Reads}
use Rattle.ejson_codec.specs.Trees.{IsTree, IsEscapedExactly}
use Rattle.ejson_codec.specs.TreeLaws.{IsTree-written, IsEscapedExactly-written}
use Rattle.ejson_codec.specs.WrittenLaws.{reads_written, only_written}
use Rattle.ejson_codec.proofs.writing.write.Goals as goal

pub returns-clause-reads : goal.returns-clause-reads
returns-clause-reads c =
    let v = view c.args.value.now in
    IfOk-weaker c.tree.result _ _ (λ x is. subst (λ (d : Data). Reads d v) (sym is) (reads_written v c.known.ensures)) c.tree.ensures

pub returns-clause-exact : goal.returns-clause-exact
returns-clause-exact c =
    let v = view c.args.value.now in
    IfOk-weaker c.tree.result _ _ (λ x is. subst (λ (d : Data). IsTree d × IsEscapedExactly d) (sym is) (IsTree-written v c.known.ensures, IsEscapedExactly-written v)) c.tree.ensures

pub returns-clause-only : goal.returns-clause-only
returns-clause-only c =
    let v = view c.args.value.now in
    IfOk-weaker c.tree.result _ _ (λ x is d tree exact reads. only_written d v reads tree.numbers exact ∙ sym is) c.tree.ensures
