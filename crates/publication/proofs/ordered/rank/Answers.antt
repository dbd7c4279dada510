use Rattle.std.proofs.Common.{rules, sym, ◌∙◌}
use Rattle.std.proofs.lemmas.Fn.{always_returns_same}
use Rattle.sort_window.proofs.Ordered.{count_to_place}
use Rattle.publication.specs.declared.ordered.Match.{Match}
use Rattle.publication.specs.Published.{stands_before}
use Rattle.publication.specs.Ordered.{document_in, goes_before}
use Rattle.publication.proofs.Choosing.{front_before, count_mapped}
use Rattle.publication.proofs.ordered.rank.Goals as goal

pub returns : goal.returns
returns c =
    let sort = c.args.cursor.now.sort in
    let id = c.args.id.now in
    let doc = c.args.doc.now in
    let ms = c.args.docs.now in
    let test = λ (m : Match). goes_before sort (document_in m) (id, doc) in
    let facts = c.partition_point.ensures in
    let split = facts.partitioned test (always_returns_same _ _ _ (λ a r f called. (search rules, search rules))) (front_before sort document_in id doc ms c.requires) in
    count_to_place test ms c.partition_point.result facts.bound split.0 split.1 ∙ sym (count_mapped (stands_before c.args.cursor.now id doc) document_in ms)
