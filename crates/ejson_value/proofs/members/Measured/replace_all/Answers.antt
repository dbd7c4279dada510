use Rattle.std.proofs.Common.{◌∙◌}
use Rattle.ejson_value.proofs.Puts.{last_put, last_there, others_there}
use Rattle.ejson_value.proofs.members.Measured.replace_all.Goals as goal

pub replace-requires : goal.replace-requires
replace-requires c = last_there c.loop-member.self c.loop-member.members.items c.pop.new.self.items c.in-Some.member c.in-Some.ensures.items c.loop-member.invariant.1

pub loop-member-preserved : goal.loop-member-preserved
loop-member-preserved c =
    let all = c.loop-member.members.items in
    let ms = c.pop.new.self.items in (
      last_put c.loop-member.self all ms c.in-Some.member c.replace.new.self c.in-Some.ensures.items c.replace.ensures ∙ c.loop-member.invariant.0,
      others_there c.loop-member.self all ms c.in-Some.member c.replace.new.self c.in-Some.ensures.items c.replace.ensures c.loop-member.invariant.1,
    )
