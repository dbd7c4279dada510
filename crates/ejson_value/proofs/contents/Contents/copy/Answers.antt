use Rattle.std.proofs.Common.{◌∷◌, [], ◌++◌, refl, ap, sym, ◌∙◌}
use Rattle.std.proofs.lemmas.List.{append_assoc}
use Rattle.ejson_value.proofs.Walks.{one_more_row}
use Rattle.ejson_value.proofs.contents.Contents.copy.Goals as goal

pub loop-key-preserved : goal.loop-key-preserved
loop-key-preserved c =
    let key = c.in-Some.key.now in
    let doc = c.in-Some.doc.now in
    let copies = c.loop-key.copies in
    let all = c.loop-key.invariant.2 ∙ ap (λ rest. copies ++ rest) c.in-Some.ensures.steps in
    let put = c.in_ok-put_copy.ensures.ok ∙ one_more_row c.args.self.now copies key doc c.next.new.self key doc all c.iter-key-items.ensures.ordered refl refl in
    (tt, tt, all ∙ (sym (append_assoc copies ((key, doc) ∷ []) c.next.new.self) ∙ ap (λ rows. rows ++ c.next.new.self) (sym put)))
