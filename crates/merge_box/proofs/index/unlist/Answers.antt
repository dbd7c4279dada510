use Rattle.std.proofs.Common.{false, cond, is_some, ap, ap₂, sym, ◌∙◌}
use Rattle.merge_box.specs.Index.{lists_of, is_listed}
use Rattle.merge_box.proofs.Listing.{unlisted_after, unlisted_none, found_listed, either_way}
use Rattle.merge_box.proofs.index.unlist.Goals as goal

pub returns-in-Some : goal.returns-in-Some
returns-in-Some c =
    let old = c.args.index.now.entries in
    let found = c.in-Some.ensures.value in
    unlisted_after old (c.get_mut.follows.lender c.remove-was.new.self).entries c.args.sub c.remove-was.new.self ((c.get_mut.follows.holds c.remove-was.new.self).3 (ap is_some (sym found))).0 c.args.key.now
    (λ k. c.remove-was.ensures.updates.0 k ∙ ap₂ (λ b was. cond b false was) (either_way c.args.key.now k) (sym (found_listed old c.args.sub c.in-Some.keys.now found k)))

pub returns-in_default : goal.returns-in_default
returns-in_default c = λ s k.
    ap (λ m. is_listed (lists_of m.entries) s k) c.get_mut.follows.holds-at-none
    ∙ unlisted_none c.args.index.now.entries c.args.sub c.args.key.now c.in_default.ensures.value s k
