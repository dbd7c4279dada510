-- What a world promises, by what happens in what is kept of it.
use Rattle.ejson_value.specs.declared.memory.Mem.{Mem}
use Rattle.std.specs.Prelude.{◌≡◌, ℕ, List, [], Result, Ok, Err, OnOk, OnErr, IfOk}
use Rattle.std.proofs.Common.{ap, sym, subst, ◌∙◌}
use Rattle.world_core.specs.world_model.declared.events.Event.{Event}
use Rattle.world_core.specs.world_model.declared.events.Event.TheVariants as event
use Rattle.world_core.specs.world_model.World.{World}
use Rattle.world_core.specs.world_model.Settle.{round, settled}
use Rattle.world_core.specs.world_model.Events.{step}
use Rattle.world_core.specs.world_model.Lines.{lines_of}
use Rattle.world_core.specs.world_model.Headline.{AreAtRest}
use Rattle.world_laws.specs.headline_for_proofs.Rounds.{rounds_stay}
use Rattle.world_laws.specs.World.{AWorld, as_world, IsWorld}
use Rattle.world_laws.specs.Doing.{ActsLead, IsLeft as LeavesKept}
use Rattle.world_laws.specs.Promises.{settled_rests}
use Rattle.world_core.specs.Happening.{Happens}
use Rattle.world_core.specs.Promises.{IsLeft, IsSettled}
use Rattle.world_core.specs.Rounds.{Settles}

-- ---- where memory runs out

left_world : (e : Event) (x y : AWorld) → LeavesKept e x y → IsWorld y × IsLeft e (as_world x) (as_world y)
left_world event.Settle x y l = l
left_world (event.Client n) x y l = l
left_world (event.Sub n id publication params) x y l = l
left_world (event.Unsub n id) x y l = l
left_world (event.Call n method params) x y l = l
left_world (event.Raw n t) x y l = l
left_world (event.Drop n) x y l = l
left_world (event.Do n a) x y l = l
left_world (event.Step n k) x y l = l
left_world (event.Learn n k place) x y l = l
left_world (event.Load n id place) x y l = l
left_world (event.Advance n id count) x y l = l
left_world (event.Admin op) x y l = l
left_world (event.Show n) x y l = l
left_world (event.Journal n) x y l = l
left_world event.Store x y l = l
left_world event.History x y l = l

-- ---- settled worlds

settled_world : (x : AWorld) → IsWorld x → IsSettled (settled (as_world x))
settled_world x p = record {
  rests = settled_rests x p;
  stays = subst (λ (w : World). round (settled w) ≡ settled w) p.reachable.2 (rounds_stay x.app p.reachable.0 p.values p.reachable.1);
}

-- ---- an event

module _ (x : AWorld) (e : Event) (y : AWorld) where
  pub stays : (r : Result (List (List ℕ)) Mem) → Happens x e y r → IsWorld y
  stays (Ok lines) h = h.0.stays
  stays (Err m) h = (left_world e x y h).0

  pub steps : (r : Result (List (List ℕ)) Mem) → Happens x e y r → OnOk r (as_world y ≡ step (as_world x) e)
  steps (Ok lines) h = h.0.does
  steps (Err m) h = tt

  pub settles : (named : Event) → e ≡ named → IsWorld x → (r : Result (List (List ℕ)) Mem) → Happens x e y r → OnOk r (named ≡ event.Settle → IsSettled (as_world y))
  settles named same p (Ok lines) h = λ is. subst IsSettled (sym (h.0.does ∙ ap (step (as_world x)) (same ∙ is))) (settled_world x p)
  settles named same p (Err m) h = tt

  pub prints : (r : Result (List (List ℕ)) Mem) → Happens x e y r → IfOk r (λ lines. lines ≡ lines_of (as_world x) e)
  prints (Ok lines) h = h.1
  prints (Err m) h = tt

  pub leaves : (r : Result (List (List ℕ)) Mem) → Happens x e y r → OnErr r (IsLeft e (as_world x) (as_world y))
  leaves (Ok lines) h = tt
  leaves (Err m) h = (left_world e x y h).1

-- ---- a world that settles

module _ (x y : AWorld) where
  pub rests : (r : Result (Unit {0}) Mem) → Settles x y r → IsWorld y
  rests (Ok u) h = h.stays
  rests (Err m) h = h.stays

  pub settled_is : (r : Result (Unit {0}) Mem) → Settles x y r → OnOk r (as_world y ≡ settled (as_world x))
  settled_is (Ok u) h = h.does
  settled_is (Err m) h = tt

  pub at_rest : IsWorld x → (r : Result (Unit {0}) Mem) → Settles x y r → OnOk r (AreAtRest (as_world y))
  at_rest p (Ok u) h = subst (λ (w : World). AreAtRest w) (sym h.does) (settled_rests x p)
  at_rest p (Err m) h = tt

  pub round_stays : IsWorld x → (r : Result (Unit {0}) Mem) → Settles x y r → OnOk r (round (as_world y) ≡ as_world y)
  round_stays p (Ok u) h = (subst IsSettled (sym h.does) (settled_world x p)).stays
  round_stays p (Err m) h = tt

  pub leads : (r : Result (Unit {0}) Mem) → Settles x y r → OnErr r (ActsLead (as_world x) (as_world y))
  leads (Ok u) h = tt
  leads (Err m) h = h.leads

-- of an event
pub settle_happens : (x y : AWorld) (m : Mem) → Settles x y (Err m) → Happens x event.Settle y (Err m)
settle_happens x y m h = (h.stays, h.leads)

pub settled_happens : (x y : AWorld) (u : Unit {0}) → Settles x y (Ok u) → (lines : List (List ℕ)) → lines ≡ [] → Happens x event.Settle y (Ok lines)
settled_happens x y u h lines none = (h, none)
