use Rattle.std.specs.Prelude.{not}
use Rattle.std.proofs.Common.{◌≡◌, Bool, true, false, cond, ap, sym, ◌∙◌}
use Rattle.map_model.specs.Maps.{at}
use Rattle.ejson_value.specs.Key.{key_cmp}
use Rattle.stub_simulation.specs.Drafts.{is_changed}
use Rattle.stub_simulation.proofs.Overlay.{at_shown}
use Rattle.stub_simulation.proofs.draft.Draft.doc_at.Goals as goal

not_is : (b c : Bool) → not b ≡ c → b ≡ not c
not_is true c e = ap not e
not_is false c e = ap not e

pub returns-then-is_fresh : goal.returns-then-is_fresh
returns-then-is_fresh c =
    let draft = c.args.self.now in
    let view = c.args.view.now in
    let key = c.args.key.now in
    c.get.ensures
    ∙ sym (at_shown view draft.traces.changed draft.left key c.known.ensures.by_key c.requires
    ∙ ap (λ b. cond b (at key_cmp draft.left key) (at key_cmp view key)) (not_is (is_changed draft key) true (sym c.is_fresh.ensures ∙ c.if-is_fresh.true)))

pub returns-else-is_fresh : goal.returns-else-is_fresh
returns-else-is_fresh c =
    let draft = c.args.self.now in
    let view = c.args.view.now in
    let key = c.args.key.now in
    c.get-else-is_fresh.ensures
    ∙ sym (at_shown view draft.traces.changed draft.left key c.known.ensures.by_key c.requires
    ∙ ap (λ b. cond b (at key_cmp draft.left key) (at key_cmp view key)) (not_is (is_changed draft key) false (sym c.is_fresh.ensures ∙ c.if-is_fresh.false)))
