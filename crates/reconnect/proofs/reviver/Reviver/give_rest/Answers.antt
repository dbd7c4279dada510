use Rattle.std.proofs.Common.{◌∙◌}
use Rattle.reconnect.proofs.Reviving.{rest_given}
use Rattle.reconnect.proofs.reviver.Reviver.give_rest.Goals as goal

pub returns : goal.returns
returns c =
    rest_given c.args.self.now c.make_ready-held.new.self c.give_updates.new.self c.give_ends.new.self c.release.new.self c.args.updates.items c.args.ends.now c.args.before.now.keys c.as_slice.result.now c.args.texts.now
    c.give_updates.new.texts c.give_ends.new.texts c.release.new.texts c.release.result
    (c.as_slice.ensures.value ∙ c.make_ready-held.ensures.held) c.make_ready-held.ensures.ready c.requires.updates c.requires.ends c.requires.before c.in_ok-give_updates.ensures.settled c.in_ok-give_updates.ensures.texts
    c.in_ok-give_ends.ensures.settled c.in_ok-give_ends.ensures.texts c.release.ensures
