use Rattle.std.proofs.Common.{Some, ap, ◌∙◌, inr}
use Rattle.map_model.specs.Maps.{set}
use Rattle.value_model.specs.Order.{text_cmp}
use Rattle.sort_window.proofs.told.tell.Goals as goal

pub returns : goal.returns
returns c =
    let told = c.args.told.now.entries in
    inr (
      c.same_shown.ensures.apart c.if-same_shown.false,
      c.in_ok-insert.ensures.entries
          ∙ ap (λ id. set text_cmp told id (Some c.in_ok-doc.doc)) c.in_ok-copy.ensures
          ∙ ap (λ doc. set text_cmp told c.args.id.now (Some doc)) c.in_ok-doc.ensures,
    )
