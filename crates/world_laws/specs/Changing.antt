-- What is kept of a world stays right where one client changes and the history grows by entries of its session alone.
use Rattle.std.specs.Prelude.{◌≡◌, ◌⊎◌, ℕ, ◌+◌, ◌==◌, List, [], ◌∷◌, ◌++◌, length, Bool, true, false, cond, Option, Some, None, option_map, IfSome, refl}
use Rattle.std.specs.Ordering.{eq_by_cmp}
use Rattle.std.specs.BTreeMap.{insert_entry}
use Rattle.std.proofs.Common.{ap, sym, subst, ◌∙◌, arith, append-nil, inl, inr}
use Rattle.std.proofs.lemmas.List.{length-append}
use Rattle.std.proofs.lemmas.Bool.{ne_eqb}
use Rattle.map_model.specs.Maps.{at, IsSorted}
use Rattle.map_model.specs.MapLaws.{at-put, sorted-put, same_maps, key_is, eq_by_cmp-self}
use Rattle.value_model.specs.Order.{text_cmp}
use Rattle.ejson_value.specs.Key.{name_order}
use Rattle.app_model.specs.App.{App}
use Rattle.headline.specs.history_model.declared.entry.Entry.{Entry}
use Rattle.headline.specs.world_model.World.{conn_of}
use Rattle.headline.specs.world_model.Events.{Reachable}
use Rattle.headline.specs.world_invariant_laws.Lift.{IsNumbered}
use Rattle.connection_laws.specs.Connection.{AConnection, as_conn, IsConnection}
use Rattle.connection_laws.specs.StandingLaws.{longer_stays}
use Rattle.world_laws.specs.World.{Names, AConnections, AWorld, as_conns, as_world, connection_of, is_among, IsIdle, is_there, IsClient, IsWorld}
use Rattle.world_laws.specs.Names.{at_mapped, sorted_mapped}
use Rattle.world_laws.specs.Gone.{AreNotBy}
use Rattle.world_laws.specs.GoneLaws.{gone_stays}
use Rattle.world_laws.specs.ReachingLaws.{reached_stands}
use Rattle.world_laws.specs.Doing.{changed}

-- ---- as the definitions see it

pub conn_is : (x : AWorld) (name : List ℕ) → conn_of (as_world x) name ≡ option_map as_conn (connection_of x name)
conn_is x name = at_mapped as_conn x.conns name

pub conn_there : (x : AWorld) (name : List ℕ) (c : AConnection) → connection_of x name ≡ Some c → conn_of (as_world x) name ≡ Some (as_conn c)
conn_there x name c is = conn_is x name ∙ ap (option_map as_conn) is

pub put_seen : (conns : AConnections) (name : List ℕ) (c : AConnection) → IsSorted text_cmp conns →
    as_conns (insert_entry text_cmp conns name c) ≡ insert_entry text_cmp (as_conns conns) name (as_conn c)
put_seen conns name c sorted =
    same_maps name_order (as_conns (insert_entry text_cmp conns name c)) (insert_entry text_cmp (as_conns conns) name (as_conn c))
    (sorted_mapped as_conn (insert_entry text_cmp conns name c) (sorted-put name_order conns name c sorted))
    (sorted-put name_order (as_conns conns) name (as_conn c) (sorted_mapped as_conn conns sorted))
    (λ q.
    at_mapped as_conn (insert_entry text_cmp conns name c) q
    ∙ (ap (option_map as_conn) (at-put name_order conns name c q)
    ∙ (elim (eq_by_cmp text_cmp q name) as (λ b. option_map as_conn (cond b (Some c) (at text_cmp conns q))
    ≡ cond b (Some (as_conn c)) (option_map as_conn (at text_cmp conns q))) [ true ↦ refl | false ↦ refl ]
    ∙ (ap (cond (eq_by_cmp text_cmp q name) (Some (as_conn c))) (sym (at_mapped as_conn conns q))
    ∙ sym (at-put name_order (as_conns conns) name (as_conn c) q)))))

-- clients with different names have different numbers
pub numbers_differ : (x : AWorld) → IsWorld x → (q name : List ℕ) (c d : AConnection) → connection_of x q ≡ Some c → connection_of x name ≡ Some d →
    eq_by_cmp text_cmp q name ≡ false →
    (c.session.carried.number == d.session.carried.number) ≡ false
numbers_differ x p q name c d isc isd differ =
    ne_eqb c.session.carried.number d.session.carried.number
    (λ same.
    let numbered : IsNumbered (as_world x) = (reached_stands (as_world x) p.reachable).numbered in
    let one : q ≡ name = numbered.apart q name (as_conn c) (as_conn d) (conn_there x q c isc) (conn_there x name d isd) same in
    let self : eq_by_cmp text_cmp q name ≡ true = ap (eq_by_cmp text_cmp q) (sym one) ∙ eq_by_cmp-self name_order q in
    cc (sym self ∙ differ))

pub client_is : (x : AWorld) → IsWorld x → (q : List ℕ) (c : AConnection) → connection_of x q ≡ Some c → IsClient x q c
client_is x p q c is = subst (λ (o : Option AConnection). IfSome o (IsClient x q)) is (p.clients q)

nil_length : (more : List Entry) → length more ≡ 0 → more ≡ []
nil_length [] e = refl
nil_length (e ∷ more) is = absurd (omega (arith, is))

-- ---- the others

-- so it is of a client that didn't change, as long as others only grow busy
pub other_stays : (x y : AWorld) → IsWorld x → (more : List Entry) → y.app ≡ x.app → y.history ≡ x.history ++ more → y.settled ≡ x.settled →
    (q : List ℕ) (c : AConnection) → connection_of x q ≡ Some c →
    AreNotBy c.session.carried.number more → (is_among y.busy q ≡ false → is_among x.busy q ≡ false) → IsClient y q c
other_stays x y p more sa sh ss q c is apart busier =
    let k = client_is x p q c is in
    record {
      connection = subst (λ (app : App). IsConnection app q y.history c) (sym sa)
          (subst (λ (h : List Entry). IsConnection x.app q h c) (sym sh) (longer_stays x.app q x.history more c k.connection));
      rests = λ free why. subst (λ (app : App). IsIdle app y.history (as_conn c)) (sym sa)
          (subst (λ (h : List Entry). IsIdle x.app h (as_conn c)) (sym sh) (by k (busier free) why));
    }
  where
    by : IsClient x q c → is_among x.busy q ≡ false → (length y.history ≡ y.settled) ⊎ (c.is_dropped ≡ true) → IsIdle x.app (x.history ++ more) (as_conn c)
    by k free (inr gone) = gone_stays x.app x.history more (as_conn c) gone apart (k.rests free (inr gone))
    by k free (inl same) =
        let many : length x.history + length more ≡ x.settled = sym (length-append x.history more) ∙ (ap length (sym sh) ∙ (same ∙ ss)) in
        let within = p.settled in
        let none : more ≡ [] = nil_length more (omega (arith, many, within)) in
        let was : IsIdle x.app x.history (as_conn c) = k.rests free (inl (omega (arith, many, within))) in
        subst (λ (es : List Entry). IsIdle x.app (x.history ++ es) (as_conn c)) (sym none)
        (subst (λ (h : List Entry). IsIdle x.app h (as_conn c)) (sym (append-nil x.history)) was)

-- ---- one client changes

module _ (x : AWorld) (p : IsWorld x) (name : List ℕ) (new : AConnection) (more : List Entry) (opened : ℕ) (present busy : Names) where
  abbrev next : AWorld
  next = changed x name new more opened present busy

  pub change_stays : Reachable (as_world next) → IsClient next name new →
      ((q : List ℕ) (c : AConnection) → connection_of x q ≡ Some c → eq_by_cmp text_cmp q name ≡ false → AreNotBy c.session.carried.number more) →
      IsSorted text_cmp present × ((q : List ℕ) → is_among present q ≡ is_there (connection_of next q)) →
      IsSorted text_cmp busy → ((q : List ℕ) → is_among busy q ≡ false → is_among x.busy q ≡ false) → IsWorld next
  change_stays reach own apart there sorted busier = record {
    values = p.values;
    reachable = reach;
    order = sorted-put name_order x.conns name new p.order;
    clients = λ q. subst (λ (o : Option AConnection). IfSome o (IsClient next q)) (sym (at-put name_order x.conns name new q))
        (by q (eq_by_cmp text_cmp q name) refl);
    present = there;
    busy = sorted;
    settled = let within = p.settled in omega (arith, within, length-append x.history more);
  }
    where
      others : (q : List ℕ) (o : Option AConnection) → connection_of x q ≡ o → eq_by_cmp text_cmp q name ≡ false → IfSome o (IsClient next q)
      others q None is differ = tt
      others q (Some c) is differ = other_stays x next p more refl refl refl q c is (apart q c is differ) (busier q)

      by : (q : List ℕ) (b : Bool) → eq_by_cmp text_cmp q name ≡ b → IfSome (cond b (Some new) (at text_cmp x.conns q)) (IsClient next q)
      by q true e = subst (λ (n : List ℕ). IsClient next n new) (sym (key_is name_order q name e)) own
      by q false e = others q (at text_cmp x.conns q) refl e
