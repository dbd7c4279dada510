use Rattle.std.proofs.Common.{true≢false, ap, sym, ◌∙◌}
use Rattle.minimongo.specs.Index.{is_key_among}
use Rattle.minimongo.proofs.Listing.{listed_here, listed_stays, nothing_listed, pushed_here}
use Rattle.minimongo.proofs.index.list_first.Goals as goal

pub returns-clause-listed : goal.returns-clause-listed
returns-clause-listed c =
    listed_here c.args.index.now.entries c.insert.new.self.entries c.args.number c.push.new.self c.in_ok-insert.ensures.updates.0 c.args.key
    (ap (λ ks. is_key_among ks c.args.key) c.in_ok-push.ensures.ok ∙ pushed_here _ c.args.key)

pub returns-clause-kept : goal.returns-clause-kept
returns-clause-kept c = listed_stays c.args.index.now.entries c.insert.new.self.entries c.args.number c.push.new.self c.in_ok-insert.ensures.updates.0
    (λ k was. absurd (true≢false (sym was ∙ nothing_listed c.args.index.now.entries c.args.number c.requires k)))
