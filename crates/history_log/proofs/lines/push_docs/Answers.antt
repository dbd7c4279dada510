use Rattle.std.proofs.Common.{◌∷◌, [], ◌++◌, ap, sym, ◌∙◌}
use Rattle.std.proofs.lemmas.List.{append_assoc}
use Rattle.history_model.specs.Lines.{doc_value}
use Rattle.history_log.proofs.Turns.{next_line}
use Rattle.history_log.proofs.lines.push_docs.Goals as goal

pub loop-key-preserved : goal.loop-key-preserved
loop-key-preserved c =
    let done = c.loop-key.invariant.2.0 in
    let key = c.in-Some.key.now in
    let doc = c.in-Some.doc.now in
    let rest = c.next.new.self in
    let all = c.loop-key.invariant.2.1 ∙ ap (λ more. done ++ more) c.in-Some.ensures.steps in (
      tt,
      tt,
      (
        done ++ (key, doc) ∷ [],
        all ∙ sym (append_assoc done ((key, doc) ∷ []) rest),
        next_line doc_value c.args.lines.now c.loop-key.lines _ done (key, doc) c.loop-key.invariant.2.2
            (c.in_ok-push.ensures.ok ∙ ap (λ line. c.loop-key.lines ++ line ∷ []) c.in_ok-doc_line.ensures),
      ),
    )
