use Rattle.std.proofs.Common.{false, refl, sym}
use Rattle.minimongo.specs.Index.{is_key_among}
use Rattle.minimongo.proofs.Listing.{nothing_listed, found_listed, others_listed}
use Rattle.minimongo.proofs.Holding.{all_forgotten}
use Rattle.minimongo.proofs.originals.forget_in.Goals as goal

pub returns-in-None-clause-gone : goal.returns-in-None-clause-gone
returns-in-None-clause-gone c =
    let old = c.args.saved.now.entries in
    all_forgotten old old c.args.index.now.entries c.args.number (λ k. false) c.requires.held c.requires.listed (λ k. nothing_listed c.args.index.now.entries c.args.number (sym c.in-None.ensures.value) k) (λ k. refl)

pub returns-in-Some-clause-gone : goal.returns-in-Some-clause-gone
returns-in-Some-clause-gone c =
    all_forgotten c.args.saved.now.entries c.let_all_go.new.saved.entries c.args.index.now.entries c.args.number (λ k. is_key_among c.in-Some.keys k) c.requires.held c.requires.listed
    (λ k. found_listed c.args.index.now.entries c.args.number c.in-Some.keys c.in-Some.ensures.value k) c.let_all_go.ensures

pub returns-in-Some-clause-others : goal.returns-in-Some-clause-others
returns-in-Some-clause-others c = others_listed c.args.index.now.entries c.remove.new.self.entries c.args.number c.remove.ensures.updates.0
