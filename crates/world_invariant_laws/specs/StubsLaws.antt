-- Laws: The stub of a method changes no document but those that it touches.
use Rattle.std.specs.Prelude.{◌≡◌, ℕ, List, [], ◌∷◌, Bool, true, false, cond, ◌||◌, Some, None, unwrap_or, refl}
use Rattle.std.specs.List.{list_any}
use Rattle.std.specs.Option.{option_or}
use Rattle.std.specs.BTreeSet.{insert_key}
use Rattle.std.specs.declared.cmp.Ordering.{Ordering}
use Rattle.std.specs.declared.cmp.Ordering.TheVariants.{Less, Equal, Greater}
use Rattle.std.specs.Ordering.{eq_by_cmp, match_ordering}
use Rattle.std.proofs.Common.{ap, ap₂, sym, ◌∙◌}
use Rattle.map_model.specs.Maps.{at, IsSorted}
use Rattle.map_model.specs.MapLaws.{key_is}
use Rattle.map_model.specs.Changes.{last_at}
use Rattle.map_model.specs.ChangeLaws.{at-changed}
use Rattle.value_model.specs.Val.{Val}
use Rattle.ejson_value.specs.declared.change.Change.{Change}
use Rattle.ejson_value.specs.declared.key.Key.{Key}
use Rattle.ejson_value.specs.Key.{key_cmp, key_order, key_exact}
use Rattle.ejson_value.specs.Rows.{Rows}
use Rattle.ejson_value.specs.Changes.{changes_of}
use Rattle.collection_store.specs.Answered.{AreTouched}
use Rattle.world_model.specs.program_model.Kept.{LeadsOn}
use Rattle.world_model.specs.program_model.Steps.{Stepped}
use Rattle.world_model.specs.program_model.StepLaws.{simulated_leads, sorted_led}
use Rattle.app_model.specs.App.{App, method}
use Rattle.client_model.specs.Client.{Client}
use Rattle.client_model.specs.Asking.{seed_of}
use Rattle.world_model.specs.program_model.Touched.{keys_put, each_once}
use Rattle.world_model.specs.Asks.{stub_run}
use Rattle.world_invariant_laws.specs.Stubs.{has}

or_right : (a b : Bool) → b ≡ true → (a || b) ≡ true
or_right true b e = refl
or_right false b e = e

or_left : (a b : Bool) → a ≡ true → (a || b) ≡ true
or_left true b e = refl
or_left false b e = cc e

-- a key that is put among others is there, and so are they
put_new : (q k : Key) (keys : List Key) → eq_by_cmp key_cmp q k ≡ true → has q (insert_key key_cmp keys k) ≡ true
put_new q k [] e = or_left (eq_by_cmp key_cmp q k) false e
put_new q k (x ∷ keys) e =
    let rest = put_new q k keys e in
    elim (key_cmp k x) as (λ (o : Ordering). key_cmp k x ≡ o → has q (match_ordering o (k ∷ x ∷ keys) (x ∷ keys) (x ∷ insert_key key_cmp keys k)) ≡ true) [
      | Less ↦ λ is. or_left (eq_by_cmp key_cmp q k) (has q (x ∷ keys)) e
      | Equal ↦ λ is. or_left (eq_by_cmp key_cmp q x) (has q keys) (ap (eq_by_cmp key_cmp q) (sym (key_exact k x is)) ∙ e)
      | Greater ↦ λ is. or_right (eq_by_cmp key_cmp q x) (has q (insert_key key_cmp keys k)) rest
    ] refl

put_old : (q k : Key) (keys : List Key) → has q keys ≡ true → has q (insert_key key_cmp keys k) ≡ true
put_old q k [] e = cc e
put_old q k (x ∷ keys) e =
    let rest = put_old q k keys in
    elim (key_cmp k x) as (λ (o : Ordering). has q (match_ordering o (k ∷ x ∷ keys) (x ∷ keys) (x ∷ insert_key key_cmp keys k)) ≡ true) [
      | Less ↦ or_right (eq_by_cmp key_cmp q k) (has q (x ∷ keys)) e
      | Equal ↦ e
      | Greater ↦ elim (eq_by_cmp key_cmp q x) as
          (λ b. (b || has q keys) ≡ true → (b || has q (insert_key key_cmp keys k)) ≡ true) [ true ↦ λ f. refl | false ↦ λ f. rest f ] e
    ]

all_old : (q : Key) (keys more : List Key) → has q keys ≡ true → has q (keys_put keys more) ≡ true
all_old q keys [] e = e
all_old q keys (k ∷ more) e = all_old q (insert_key key_cmp keys k) more (put_old q k keys e)

all_put : (q : Key) (keys more : List Key) → has q more ≡ true → has q (keys_put keys more) ≡ true
all_put q keys [] e = cc e
all_put q keys (k ∷ more) e =
    let rest = all_put q (insert_key key_cmp keys k) more in
    let new = put_new q k keys in
    elim (eq_by_cmp key_cmp q k) as (λ b. eq_by_cmp key_cmp q k ≡ b → (b || has q more) ≡ true → has q (keys_put (insert_key key_cmp keys k) more) ≡ true) [
      | true ↦ λ is f. all_old q (insert_key key_cmp keys k) more (new is)
      | false ↦ λ is f. rest f
    ] refl e

-- ---- changes

none_last : (q : Key) (keys : List Key) (cs : List Change) → has q keys ≡ false → AreTouched keys cs → last_at key_cmp q (changes_of cs) ≡ None
none_last q keys [] e t = refl
none_last q keys (c ∷ cs) e t =
    let rest = none_last q keys cs e t.1 in
    ap₂ option_or rest (elim (eq_by_cmp key_cmp q c.key) as (λ b. eq_by_cmp key_cmp q c.key ≡ b → cond b (Some c.after) None ≡ None) [
      | true ↦ λ is. let differ : true ≡ false = sym t.0 ∙ (ap (λ k. has k keys) (sym (key_is key_order q c.key is)) ∙ e) in absurd (cc differ)
      | false ↦ λ is. refl
    ] refl)

leads_alone : (view : Rows) (s : Stepped) (q : Key) → IsSorted key_cmp view → LeadsOn view s → has q s.touched ≡ false → at key_cmp s.rows q ≡ at key_cmp view q
leads_alone view s q sorted l e =
    ap (λ rows. at key_cmp rows q) (sym l.leads.ends)
    ∙ (at-changed key_order view (changes_of s.changes) q sorted ∙ ap (λ o. unwrap_or o (at key_cmp view q)) (none_last q s.touched s.changes e l.touched))

not_there : (q : Key) (keys : List Key) → has q (each_once keys) ≡ false → has q keys ≡ false
not_there q keys e = by (has q keys) refl
  where
    by : (b : Bool) → has q keys ≡ b → b ≡ false
    by false is = refl
    by true is = let differ : true ≡ false = sym (all_put q [] keys is) ∙ e in cc differ

module _ (app : App) (name : List ℕ) (params : List Val) (c : Client) (sorted : IsSorted key_cmp c.documents.view) where
  leads : LeadsOn c.documents.view (stub_run app name params c)
  leads = simulated_leads app.collections (method app name) params (seed_of c.session _) c.documents.view sorted

  pub stub_sorted : IsSorted key_cmp (stub_run app name params c).rows
  stub_sorted = sorted_led c.documents.view (stub_run app name params c) sorted leads

  pub stub_alone : (q : Key) → list_any (eq_by_cmp key_cmp q) (each_once (stub_run app name params c).touched) ≡ false →
      at key_cmp (stub_run app name params c).rows q ≡ at key_cmp c.documents.view q
  stub_alone q e = leads_alone c.documents.view (stub_run app name params c) q sorted leads (not_there q (stub_run app name params c).touched e)
