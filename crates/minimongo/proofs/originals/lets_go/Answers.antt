use Rattle.std.proofs.Common.{ap, sym, is_some}
use Rattle.minimongo.proofs.Holding.{found_others, lets_here, lets_last}
use Rattle.minimongo.proofs.originals.lets_go.Goals as goal

pub returns-in-Some-clause-others : goal.returns-in-Some-clause-others
returns-in-Some-clause-others c =
    let found = c.in-Some.ensures.value in
    found_others c.args.saved.now.entries (c.get_mut.follows.lender c.let_go.new.self).entries c.args.key.now c.in-Some.original.now c.let_go.new.self found ((c.get_mut.follows.holds c.let_go.new.self).3 (ap is_some (sym found))).0

pub returns-in-Some-clause-here : goal.returns-in-Some-clause-here
returns-in-Some-clause-here c =
    let found = c.in-Some.ensures.value in
    lets_here c.args.saved.now.entries (c.get_mut.follows.lender c.let_go.new.self).entries c.args.key.now c.args.number c.in-Some.original.now c.let_go.new.self c.let_go.result found ((c.get_mut.follows.holds c.let_go.new.self).3 (ap is_some (sym found))).0 c.let_go.ensures.gone c.let_go.ensures.last

pub returns-in-Some-clause-gone : goal.returns-in-Some-clause-gone
returns-in-Some-clause-gone c =
    let found = c.in-Some.ensures.value in
    lets_last c.args.saved.now.entries (c.get_mut.follows.lender c.let_go.new.self).entries c.args.key.now c.args.number c.in-Some.original.now c.let_go.new.self c.let_go.result found ((c.get_mut.follows.holds c.let_go.new.self).3 (ap is_some (sym found))).0 c.let_go.ensures.gone c.let_go.ensures.last
