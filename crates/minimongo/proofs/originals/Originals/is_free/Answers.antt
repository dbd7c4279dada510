use Rattle.std.proofs.Common.{◌≡◌, ◌↔◌, IsTrue, false, refl, sym, subst}
use Rattle.ejson_value.specs.declared.key.Key.{Key}
use Rattle.minimongo.specs.Originals.{is_holder}
use Rattle.minimongo.proofs.Listing.{nothing_listed, found_listed}
use Rattle.minimongo.proofs.Holding.{free_unlisted, free_all}
use Rattle.minimongo.proofs.originals.Originals.is_free.Goals as goal

pub returns-in-None : goal.returns-in-None
returns-in-None c = (
  (λ e k. subst (λ os. is_holder os c.args.method k ≡ false) c.self.view_is
      (free_unlisted c.self.inside.saved.entries c.self.inside.index.entries c.args.method c.self.invariant k (nothing_listed c.self.inside.index.entries c.args.method (sym c.in-None.ensures.value) k))),
  (λ free. refl),
)

pub returns-in-Some : goal.returns-in-Some
returns-in-Some c =
    subst (λ os. IsTrue c.holds_none.result ↔ ((k : Key) → is_holder os c.args.method k ≡ false)) c.self.view_is
    (free_all c.self.inside.saved.entries c.self.inside.index.entries c.args.method c.holds_none.result c.in-Some.keys.now c.self.invariant
    (λ k. found_listed c.self.inside.index.entries c.args.method c.in-Some.keys.now c.in-Some.ensures.value k) c.holds_none.ensures)
