use Rattle.std.proofs.Common.{is_some, ap, sym, ◌∙◌}
use Rattle.minimongo.specs.Index.{is_key_among, is_listed}
use Rattle.minimongo.proofs.Listing.{listed_here, listed_stays, found_listed, pushed_here, pushed_stays}
use Rattle.minimongo.proofs.Holding.{on_ok, either_result}
use Rattle.minimongo.proofs.index.list.Goals as goal

pub returns-in-Some-clause-listed : goal.returns-in-Some-clause-listed
returns-in-Some-clause-listed c =
    let old = c.args.index.now.entries in
    let new = (c.get_mut.follows.lender c.push.new.self).entries in
    on_ok c.push.result (λ made.
    ap (λ k. is_listed new c.args.number k) (sym c.in_ok-key.ensures)
    ∙ listed_here old new c.args.number c.push.new.self ((c.get_mut.follows.holds c.push.new.self).3 (ap is_some (sym c.in-Some.ensures.value))).0 c.in_ok-key.key
    (ap (λ ks. is_key_among ks c.in_ok-key.key) made ∙ pushed_here _ c.in_ok-key.key)) c.push.ensures.ok

pub returns-in-Some-clause-kept : goal.returns-in-Some-clause-kept
returns-in-Some-clause-kept c =
    let old = c.args.index.now.entries in
    let found = c.in-Some.ensures.value in
    listed_stays old (c.get_mut.follows.lender c.push.new.self).entries c.args.number c.push.new.self ((c.get_mut.follows.holds c.push.new.self).3 (ap is_some (sym found))).0
    (λ k was. let there = sym (found_listed old c.args.number c.in-Some.keys.now found k) ∙ was in
    either_result c.push.result c.push.ensures.ok c.push.ensures.err
    (λ made. ap (λ ks. is_key_among ks k) made ∙ pushed_stays _ c.in_ok-key.key k there)
    (λ same. ap (λ ks. is_key_among ks k) same ∙ there))
