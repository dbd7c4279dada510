use Rattle.std.proofs.Common.{ap, sym, ◌∙◌}
use Rattle.merge_model.specs.Kept.{has}
use Rattle.merge_box.proofs.Places.{HasGrown-on}
use Rattle.merge_box.proofs.plan.plan_publish.Goals as goal

pub plan_at-requires-clause-listed : goal.plan_at-requires-clause-listed
plan_at-requires-clause-listed c = λ there. c.requires (ap (has c.args.sub) (sym (c.slot_for.ensures.grown.docs.docs c.args.publish.now.key).same.publishers) ∙ there)

pub returns-in_err-change-clause-grown : goal.returns-in_err-change-clause-grown
returns-in_err-change-clause-grown c = HasGrown-on c.args.kept.now c.slot_for.new.self c.plan_at.new.kept c.slot_for.ensures.grown c.plan_at.ensures.grown

pub returns-in_err-change-clause-others : goal.returns-in_err-change-clause-others
returns-in_err-change-clause-others c = λ k other. c.plan_at.ensures.others k other ∙ c.slot_for.ensures.others k other

pub returns-clause-grown : goal.returns-clause-grown
returns-clause-grown c = HasGrown-on c.args.kept.now c.slot_for.new.self c.plan_at.new.kept c.slot_for.ensures.grown c.plan_at.ensures.grown

pub returns-clause-others : goal.returns-clause-others
returns-clause-others c = λ k other. c.plan_at.ensures.others k other ∙ c.slot_for.ensures.others k other

pub returns-clause-named : goal.returns-clause-named
returns-clause-named c = c.plan_at.ensures.grown.names c.in_ok-slot.slot c.args.publish.now.key c.in_ok-slot.ensures.named

pub returns-clause-room : goal.returns-clause-room
returns-clause-room c = c.plan_at.ensures.grown.docs.keys c.args.publish.now.key c.in_ok-slot.ensures.room

pub returns-clause-planned : goal.returns-clause-planned
returns-clause-planned c = c.in_ok-change.ensures.planned
