use Rattle.std.proofs.Common.{ap, sym, ◌∙◌}
use Rattle.map_model.specs.Maps.{at}
use Rattle.merge_model.specs.Kept.{merged}
use Rattle.merge_model.specs.KeptLaws.{at-merged}
use Rattle.ejson_value.specs.Key.{name_order, key_cmp, key_order}
use Rattle.merge_box.proofs.Places.{merged_docs}
use Rattle.merge_box.proofs.boxes.MergeBox.merged.Goals as goal

pub returns : goal.returns
returns c =
    let kept = c.self.inside.kept.docs in
    c.in_ok-doc.ensures ∙ sym (at-merged key_order name_order kept c.args.key.now c.self.invariant.0.by_key)
    ∙ ap (λ m. at key_cmp m c.args.key.now) (sym (merged_docs kept c.self.invariant.0.by_key c.self.invariant.0.held))
    ∙ ap (λ b. at key_cmp (merged b.kept) c.args.key.now) c.self.view_is
