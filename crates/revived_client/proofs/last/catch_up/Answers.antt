use Rattle.std.proofs.Common.{ap, sym, ◌∙◌, None, Some}
use Rattle.revived_client.specs.Last.{caught_up}
use Rattle.revived_client.proofs.Catching.{caught_up-none, caught_up-unsaid, caught_up-said}
use Rattle.revived_client.proofs.last.catch_up.Goals.{then-is_none, else-is_none}
use Rattle.revived_client.proofs.last.catch_up.Goals as goal

pub returns-in_default-clause-ok : goal.returns-in_default-clause-ok
returns-in_default-clause-ok c = (caught_up-none c.args.reviver.now c.args.last.now c.in_default.is, c.in_default.is)

pub returns-clause-ok : goal.returns-clause-ok
returns-clause-ok c =
    elim c.if-is_none.branch [
      | then-is_none w ↦ (
        w.reviver-is ∙ caught_up-said c.args.reviver.now c.queued.new.self w.said.new.self c.args.last.now c.in-Some.was.text c.in-Some.was.unsaid c.is_none.result c.in-Some.is
            c.is_none.ensures w.if-is_none.true c.in_ok-queued.ensures.ok w.said.ensures.says,
        c.take.ensures.after,
      )
      | else-is_none w ↦ (
        w.reviver-is ∙ caught_up-unsaid c.args.reviver.now c.queued.new.self c.args.last.now c.in-Some.was.text c.in-Some.was.unsaid c.is_none.result c.in-Some.is c.is_none.ensures
            w.if-is_none.false c.in_ok-queued.ensures.ok,
        c.take.ensures.after,
      )
    ]
