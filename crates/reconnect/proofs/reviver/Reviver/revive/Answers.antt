use Rattle.std.proofs.Common.{◌≡◌, ◌++◌, cond, ap, sym, ◌∙◌}
use Rattle.ejson_value.specs.Rows.{Rows}
use Rattle.reconnect_model.specs.Revival.{Revival}
use Rattle.reconnect_model.specs.Giving.{differences}
use Rattle.reconnect.proofs.Reviving.{revived_given}
use Rattle.reconnect.proofs.reviver.Reviver.revive.Goals as goal

pub returns : goal.returns
returns c =
    let inside = c.self.inside in
    let given : inside.given ≡ c.args.self.now.given =
    sym (ap (λ b. cond b inside.copy inside.given) (ap (λ (r : Revival). r.is_revived) c.self.view_is ∙ c.requires)) ∙ ap (λ (r : Revival). r.given) c.self.view_is in
    let copy : inside.copy ≡ c.args.self.now.copy = ap (λ (r : Revival). r.copy) c.self.view_is in
    revived_given c.args.self.now c.give_rest.new.self c.args.texts.now c.push_differences.new.texts c.give_rest.new.texts c.give_rest.result
    (c.in_ok-push_differences.ensures
    ∙ (ap (λ (rows : Rows). c.args.texts.now ++ differences rows inside.copy) given ∙ ap (λ (rows : Rows). c.args.texts.now ++ differences c.args.self.now.given rows) copy))
    c.give_rest.ensures
