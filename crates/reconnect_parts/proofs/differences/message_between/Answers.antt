use Rattle.std.specs.Prelude.{IfOk, option_map}
use Rattle.std.specs.Option.{option_copied}
use Rattle.std.proofs.Common.{◌≡◌, List, ℕ, Option, subst}
use Rattle.map_model.specs.Differences.{Step}
use Rattle.value_model.specs.Val.{Val}
use Rattle.ejson_value.specs.Messages.{said}
use Rattle.reconnect_parts.proofs.Found.{told_between}
use Rattle.reconnect_parts.proofs.differences.message_between.Goals as goal

pub returns-in-Whole : goal.returns-in-Whole
returns-in-Whole c =
    subst (λ (w : Option (Step (List ℕ) Val)). IfOk c.told.result (λ message. option_map said message ≡ option_map (λ step. (c.args.key.now, step)) w))
    (told_between (option_copied c.args.before) (option_copied c.args.after) c.in_ok-before.field-0 c.in_ok-after.after c.in-Whole.before c.in-Whole.is c.in_ok-before.ensures c.in_ok-after.ensures) c.told.ensures
