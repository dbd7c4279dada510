use Rattle.std.proofs.Common.{rules}
use Rattle.std.specs.Prelude.{unwrap_or}
use Rattle.std.proofs.lemmas.Fn.{always_returns_same}
use Rattle.value_model.specs.Val.{null}
use Rattle.value_model.specs.Order.{compare}
use Rattle.ejson_value.specs.declared.value.Value.{Value}
use Rattle.ejson_value.specs.View.{view}
use Rattle.selector_match.specs.Reached.{reached_view}
use Rattle.selector_match.proofs.Rising.{found, absent}
use Rattle.selector_match.proofs.operands.place_of.Goals as goal

pub returns-in-Ok : goal.returns-in-Ok
returns-in-Ok c =
    let sought = unwrap_or (reached_view c.args.reached) null in
    let order = λ (v : Value). compare (view v) sought in
    (c.in-Ok.ensures.bound, found c.args.rising.now sought c.in-Ok.place c.in-Ok.ensures.bound (c.in-Ok.ensures.position order (always_returns_same _ _ _ (λ a r f called. search rules))))

pub returns-in-Err : goal.returns-in-Err
returns-in-Err c =
    let sought = unwrap_or (reached_view c.args.reached) null in
    let order = λ (v : Value). compare (view v) sought in
    absent c.args.rising.now sought c.in-Err.field-0 c.requires (c.in-Err.ensures.position order (always_returns_same _ _ _ (λ a r f called. search rules)))
