use Rattle.std.proofs.Common.{◌≡◌, ◌++◌}
use Rattle.merge_box.specs.Inside.{step_of}
use Rattle.merge_box.specs.Words.{new_words, HasSaid}
use Rattle.merge_box.proofs.MakePlan.{on_ok}
use Rattle.merge_box.proofs.plan.say.Goals as goal

pub returns : goal.returns
returns c =
    let before = c.args.words.now.items in
    let now = c.push_message.new.words.items in
    let message = c.in_ok-message.message in
    on_ok c.push_message.result (now ≡ before ++ new_words message c.args.at) (HasSaid c.args.at c.args.key.now (step_of c.args.held.now c.args.change.now) before now)
    (λ push. record { message = message; says = c.in_ok-message.ensures; more = push }) c.push_message.ensures
