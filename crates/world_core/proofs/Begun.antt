-- A client that begins.
use Rattle.std.specs.Prelude.{◌≡◌, ℕ, suc, ◌+◌, List, Bool, true, false, cond, not, ◌&&◌, nat_lt, length, Option, None, Some, is_some, is_none, Ok, refl}
use Rattle.std.specs.Ordering.{eq_by_cmp}
use Rattle.std.proofs.Common.{ap, sym, subst, ◌∙◌, arith}
use Rattle.std.proofs.lemmas.Bool.{and_parts}
use Rattle.map_model.specs.Maps.{at, IsSorted}
use Rattle.map_model.specs.MapLaws.{same_maps, at-put, at-remove, sorted-put, sorted-remove, key_is}
use Rattle.value_model.specs.Order.{text_cmp}
use Rattle.ejson_value.specs.Key.{name_order}
use Rattle.world_core.specs.world_model.declared.events.Event.TheVariants as event
use Rattle.world_core.specs.world_model.Conn.{client_limit}
use Rattle.world_core.specs.world_model.World.{can_open}
use Rattle.world_core.specs.world_model.Lines.{idle_unless, texts_of}
use Rattle.world_core.specs.connection_laws.Connection.{AConnection, new_connection}
use Rattle.world_laws.specs.World.{Names, AConnections, AWorld, as_world, connection_of, is_among, is_there, IsWorld}
use Rattle.world_laws.specs.Doing.{with_name, without_name, touched, IsOpened, after_open}
use Rattle.world_laws.specs.Making.{touch_stays}
use Rattle.world_laws.specs.Asking.{can_open_is, opened, not_opened}
use Rattle.world_core.specs.Happening.{IsSame, Happens, with_client, Begins}

-- ---- whether it may

pub may_open : (x : AWorld) → IsWorld x → (name : List ℕ) (there few : Bool) → there ≡ is_some (connection_of x name) → few ≡ nat_lt (length x.present) client_limit → (not there && few) ≡ can_open (as_world x) name
may_open x p name there few e f = ap (λ b. not b && few) e ∙ (ap (λ b. not (is_some (connection_of x name)) && b) f ∙ (ap (λ b. b && nat_lt (length x.present) client_limit) (by (connection_of x name)) ∙ sym (can_open_is x p name)))
  where
    by : (o : Option AConnection) → not (is_some o) ≡ is_none o
    by None = refl
    by (Some c) = refl

none_by : (o : Option AConnection) → is_none o ≡ true → o ≡ None
none_by None e = refl
none_by (Some c) e = cc e

pub nobody_there : (x : AWorld) → IsWorld x → (name : List ℕ) → can_open (as_world x) name ≡ true → connection_of x name ≡ None
nobody_there x p name may = none_by (connection_of x name) (and_parts (is_none (connection_of x name)) (nat_lt (length x.present) client_limit) (sym (can_open_is x p name) ∙ may)).0

-- ---- it is put there, or nothing is

no_name : (o : Option (Unit {0})) → is_some o ≡ false → o ≡ None
no_name None e = refl
no_name (Some u) e = cc e

-- a name that isn't among others may be put there and taken away again
pub put_away : (names : Names) (name : List ℕ) → IsSorted text_cmp names → is_among names name ≡ false → without_name (with_name names name) name ≡ names
put_away names name sorted none =
    same_maps name_order (without_name (with_name names name) name) names (sorted-remove name_order (with_name names name) name rising) sorted
    (λ q. at-remove name_order (with_name names name) name q rising ∙ (ap (cond (eq_by_cmp text_cmp q name) None) (at-put name_order names name tt q) ∙ by q (eq_by_cmp text_cmp q name) refl))
  where
    rising : IsSorted text_cmp (with_name names name)
    rising = sorted-put name_order names name tt sorted

    by : (q : List ℕ) (b : Bool) → eq_by_cmp text_cmp q name ≡ b → cond b None (cond b (Some tt) (at text_cmp names q)) ≡ at text_cmp names q
    by q true e = sym (ap (λ (k : List ℕ). at text_cmp names k) (key_is name_order q name e) ∙ no_name (at text_cmp names name) none)
    by q false e = refl

pub absent : (x : AWorld) → IsWorld x → (name : List ℕ) → connection_of x name ≡ None → is_among x.present name ≡ false
absent x p name none = p.present.1 name ∙ ap is_there none

-- a client isn't there yet, whose name is busy
pub put_back : (x : AWorld) → IsWorld x → (name : List ℕ) → (present busy : Names) → present ≡ x.present → busy ≡ with_name x.busy name → IsSame x (record x { present = present; busy = busy })
put_back x p name present busy same touches =
    let is : record x { present = present; busy = busy } ≡ touched x name = λ i. record x { present = same i; busy = touches i } in
    (subst IsWorld (sym is) (touch_stays x p name), ap as_world is)

pub taken_back : (x : AWorld) → IsWorld x → (name : List ℕ) → connection_of x name ≡ None → (conns : AConnections) (present busy : Names) → conns ≡ x.conns → present ≡ without_name (with_name x.present name) name → busy ≡ with_name x.busy name →
    IsSame x (record x { conns = conns; present = present; busy = busy })
taken_back x p name none conns present busy same back touches =
    let again : present ≡ x.present = back ∙ put_away x.present name p.present.0 (absent x p name none) in
    let is : record x { conns = conns; present = present; busy = busy } ≡ touched x name = λ i. record x { conns = same i; present = again i; busy = touches i } in
    (subst IsWorld (sym is) (touch_stays x p name), ap as_world is)

-- ---- what happens

pub open_happens : (x : AWorld) → IsWorld x → (name : List ℕ) (number : ℕ) (y : AWorld) (u : Unit {0}) → can_open (as_world x) name ≡ true → number ≡ x.opened + 1 → Begins x name number y (Ok u) → (lines : List (List ℕ)) →
    lines ≡ texts_of (idle_unless true) → Happens x (event.Client name) y (Ok lines)
open_happens x p name number y u may next begins lines prints =
    let count : number ≡ suc x.opened = omega (arith, next) in
    let is : y ≡ after_open x name = begins ∙ ap (λ n. with_client x name (new_connection x.app name n) n) count in
    let made : IsOpened x name y = subst (λ (v : AWorld). IsOpened x name v) (sym is) (opened x p name may) in
    (record { stays = made.stays; does = made.does }, prints ∙ sym (ap (λ b. texts_of (idle_unless b)) may))

pub no_open_happens : (x : AWorld) → IsWorld x → (name : List ℕ) → can_open (as_world x) name ≡ false → (lines : List (List ℕ)) → lines ≡ texts_of (idle_unless false) → Happens x (event.Client name) x (Ok lines)
no_open_happens x p name may lines prints = (record { stays = p; does = sym (not_opened x p name may) }, prints ∙ sym (ap (λ b. texts_of (idle_unless b)) may))
