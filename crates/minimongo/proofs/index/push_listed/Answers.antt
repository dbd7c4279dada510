use Rattle.std.proofs.Common.{◌||◌, ap, sym, ◌∙◌}
use Rattle.minimongo.specs.Index.{is_key_among}
use Rattle.minimongo.proofs.Listing.{nothing_listed, found_listed}
use Rattle.minimongo.proofs.Holding.{on_ok}
use Rattle.minimongo.proofs.index.push_listed.Goals as goal

pub returns-in-None : goal.returns-in-None
returns-in-None c = λ k. sym (ap (λ b. b || is_key_among c.args.all.now.items k) (nothing_listed c.args.index.now.entries c.args.number (sym c.in-None.ensures.value) k))

pub returns-in-Some : goal.returns-in-Some
returns-in-Some c = on_ok c.push_keys.result (λ made k.
    made k
    ∙ ap (λ b. b || is_key_among c.args.all.now.items k) (ap (λ ks. is_key_among ks k) c.as_slice.ensures ∙ sym (found_listed c.args.index.now.entries c.args.number c.in-Some.keys.now c.in-Some.ensures.value k))) c.push_keys.ensures
