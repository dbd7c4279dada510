-- Laws: In a world in which no act of a round is made, none that a client's phases list is.
use Rattle.std.specs.Prelude.{◌≡◌, ℕ, List, [], ◌∷◌, ◌++◌, map, Bool, true, false, not, ◌&&◌, ◌||◌, Option, Some, is_some, refl}
use Rattle.std.specs.List.{list_all, list_any}
use Rattle.std.specs.Map.{keys_of}
use Rattle.std.specs.Ordering.{eq_by_cmp}
use Rattle.std.proofs.Common.{ap, sym, subst, ◌∙◌}
use Rattle.map_model.specs.MapLaws.{is_some-at, key_is}
use Rattle.value_model.specs.Order.{text_cmp}
use Rattle.ejson_value.specs.Key.{name_order}
use Rattle.rounds_model.specs.Rounds as rounds
use Rattle.world_model.specs.declared.events.Act.{Act}
use Rattle.world_model.specs.Conn.{Conn}
use Rattle.world_model.specs.Acts.{can}
use Rattle.world_model.specs.World.{World, conn_of, can_by, can_in}
use Rattle.world_model.specs.Settle.{Phase, ups, recvs, handles, begins, steps, learns, loadings, advancings, sendings, takings, acts_of, acts_by}
use Rattle.world_model.specs.Settle.{phase, order, phases_of, is_stuck}
use Rattle.headline.specs.Stuck.{none_made}

both : (a b : Bool) → (a && b) ≡ true → (a ≡ true) × (b ≡ true)
both true b e = (refl, e)
both false b e = cc e

-- the acts of one client
of_client : (w : World) (name : List ℕ) (c : Conn) → conn_of w name ≡ Some c → (acts : List Act) →
    list_all (λ e. not (can_in w e)) (map (λ a. (name, a)) acts) ≡ true → none_made w c acts ≡ true
of_client w name c is [] e = refl
of_client w name c is (a ∷ acts) e =
    let parts = both (not (can_in w (name, a))) (list_all (λ e. not (can_in w e)) (map (λ a. (name, a)) acts)) e in
    let here : can w.app w.history c a ≡ can_in w (name, a) = sym (ap (λ (o : Option Conn). can_by w a o) is) in
    ap (λ b. not b && none_made w c acts) here ∙ (ap (λ b. b && none_made w c acts) parts.0 ∙ of_client w name c is acts parts.1)

-- one phase among those of a client
module _ (w : World) (name : List ℕ) (more : List (World → List (List ℕ × Act))) where
  abbrev none_of : (World → List (List ℕ × Act)) → Bool
  none_of q = rounds.none_of can_in (q w) w

  in_order : (ps : List Phase) → rounds.none_in can_in (map (phase name) ps ++ more) w ≡ true → list_all (λ p. none_of (phase name p)) ps ≡ true
  in_order [] e = refl
  in_order (p ∷ ps) e =
      let parts = both (none_of (phase name p)) (rounds.none_in can_in (map (phase name) ps ++ more) w) e in
      ap (λ b. b && list_all (λ p. none_of (phase name p)) ps) parts.0 ∙ in_order ps parts.1

  rest : (ps : List Phase) → rounds.none_in can_in (map (phase name) ps ++ more) w ≡ true → rounds.none_in can_in more w ≡ true
  rest [] e = e
  rest (p ∷ ps) e = rest ps (both (none_of (phase name p)) (rounds.none_in can_in (map (phase name) ps ++ more) w) e).1

-- the client is among those of the round
among : (w : World) (names : List (List ℕ)) (name : List ℕ) → list_any (eq_by_cmp text_cmp name) names ≡ true →
    rounds.none_in can_in (phases_of names) w ≡ true → list_all (λ p. rounds.none_of can_in (phase name p w) w) order ≡ true
among w [] name there e = cc there
among w (n ∷ names) name there e =
    elim (eq_by_cmp text_cmp name n) as
    (λ b. eq_by_cmp text_cmp name n ≡ b → (b || list_any (eq_by_cmp text_cmp name) names) ≡ true →
    list_all (λ p. rounds.none_of can_in (phase name p w) w) order ≡ true) [
      | true ↦ λ is h.
          let same : name ≡ n = key_is name_order name n is in
          subst (λ (x : List ℕ). list_all (λ p. rounds.none_of can_in (phase x p w) w) order ≡ true) (sym same) (in_order w n (phases_of names) order e)
      | false ↦ λ is h. among w names name h (rest w n (phases_of names) order e)
    ] refl there

-- one of the phases
module _ (f : Phase → Bool) (all : list_all f order ≡ true) where
  from_ups : (f ups ≡ true) × (list_all f (recvs ∷ handles ∷ begins ∷ steps ∷ learns ∷ loadings ∷ advancings ∷ sendings ∷ takings ∷ []) ≡ true)
  from_ups = both (f ups) (list_all f (recvs ∷ handles ∷ begins ∷ steps ∷ learns ∷ loadings ∷ advancings ∷ sendings ∷ takings ∷ [])) all

  from_recvs : (f recvs ≡ true) × (list_all f (handles ∷ begins ∷ steps ∷ learns ∷ loadings ∷ advancings ∷ sendings ∷ takings ∷ []) ≡ true)
  from_recvs = both (f recvs) (list_all f (handles ∷ begins ∷ steps ∷ learns ∷ loadings ∷ advancings ∷ sendings ∷ takings ∷ [])) from_ups.1

  from_handles : (f handles ≡ true) × (list_all f (begins ∷ steps ∷ learns ∷ loadings ∷ advancings ∷ sendings ∷ takings ∷ []) ≡ true)
  from_handles = both (f handles) (list_all f (begins ∷ steps ∷ learns ∷ loadings ∷ advancings ∷ sendings ∷ takings ∷ [])) from_recvs.1

  from_begins : (f begins ≡ true) × (list_all f (steps ∷ learns ∷ loadings ∷ advancings ∷ sendings ∷ takings ∷ []) ≡ true)
  from_begins = both (f begins) (list_all f (steps ∷ learns ∷ loadings ∷ advancings ∷ sendings ∷ takings ∷ [])) from_handles.1

  from_steps : (f steps ≡ true) × (list_all f (learns ∷ loadings ∷ advancings ∷ sendings ∷ takings ∷ []) ≡ true)
  from_steps = both (f steps) (list_all f (learns ∷ loadings ∷ advancings ∷ sendings ∷ takings ∷ [])) from_begins.1

  from_learns : (f learns ≡ true) × (list_all f (loadings ∷ advancings ∷ sendings ∷ takings ∷ []) ≡ true)
  from_learns = both (f learns) (list_all f (loadings ∷ advancings ∷ sendings ∷ takings ∷ [])) from_steps.1

  from_loadings : (f loadings ≡ true) × (list_all f (advancings ∷ sendings ∷ takings ∷ []) ≡ true)
  from_loadings = both (f loadings) (list_all f (advancings ∷ sendings ∷ takings ∷ [])) from_learns.1

  from_advancings : (f advancings ≡ true) × (list_all f (sendings ∷ takings ∷ []) ≡ true)
  from_advancings = both (f advancings) (list_all f (sendings ∷ takings ∷ [])) from_loadings.1

  from_sendings : (f sendings ≡ true) × (list_all f (takings ∷ []) ≡ true)
  from_sendings = both (f sendings) (list_all f (takings ∷ [])) from_advancings.1

  from_takings : (f takings ≡ true) × (list_all f ([]) ≡ true)
  from_takings = both (f takings) (list_all f ([])) from_sendings.1

  each_phase : (p : Phase) → f p ≡ true
  each_phase ups = from_ups.0
  each_phase recvs = from_recvs.0
  each_phase handles = from_handles.0
  each_phase begins = from_begins.0
  each_phase steps = from_steps.0
  each_phase learns = from_learns.0
  each_phase loadings = from_loadings.0
  each_phase advancings = from_advancings.0
  each_phase sendings = from_sendings.0
  each_phase takings = from_takings.0

-- none of the acts of a phase is made
pub none_of_phase : (w : World) (name : List ℕ) (c : Conn) → is_stuck w ≡ true → conn_of w name ≡ Some c → (p : Phase) →
    list_all (λ a. not (can w.app w.history c a)) (acts_of w.app w.history c p) ≡ true
none_of_phase w name c stuck is p =
    let there : list_any (eq_by_cmp text_cmp name) (keys_of w.conns) ≡ true = sym (is_some-at text_cmp w.conns name) ∙ ap is_some is in
    let none = each_phase (λ q. rounds.none_of can_in (phase name q w) w) (among w (keys_of w.conns) name there stuck) p in
    of_client w name c is (acts_of w.app w.history c p)
    (subst (λ (o : Option Conn). list_all (λ e. not (can_in w e)) (map (λ a. (name, a)) (acts_by w p o)) ≡ true) is none)
