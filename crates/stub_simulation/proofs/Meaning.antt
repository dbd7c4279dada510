-- Changes at the keys that steps changed lead from the view to what the steps left.
use Rattle.std.specs.Prelude.{map, IfOk, Result, Ok, Err, All, Option, Some, None, is_some, unwrap_or, ◌||◌}
use Rattle.std.specs.Option.{option_or}
use Rattle.std.specs.List.{list_any, IsDistinct}
use Rattle.std.specs.List.Sorted.{IsStrictlySortedBy}
use Rattle.std.specs.Map.{keys_of}
use Rattle.std.specs.Ordering.{eq_by_cmp}
use Rattle.std.specs.BTreeMap.{insert_entry}
use Rattle.std.specs.BTreeSet.{insert_key}
use Rattle.std.proofs.Common.{◌≡◌, Bool, true, false, true≢false, cond, List, [], ◌∷◌, refl, sym, ap, ◌∙◌, subst}
use Rattle.std.proofs.lemmas.List.Elements.{All-nil, All-cons}
use Rattle.std.proofs.lemmas.Map.Keys.{IsDistinct-from_sorted}
use Rattle.map_model.specs.Maps.{at, IsSorted}
use Rattle.map_model.specs.MapLaws.{same_maps, is_some-at, at-put, key_is, eq_by_cmp-self}
use Rattle.map_model.specs.Changes.{changed, last_at}
use Rattle.map_model.specs.ChangeLaws.{at-changed, sorted-changed}
use Rattle.ejson_value.specs.declared.key.Key.{Key}
use Rattle.ejson_value.specs.declared.change.Change.{Change}
use Rattle.ejson_value.specs.Key.{key_cmp, key_order}
use Rattle.ejson_value.specs.Rows.{Rows}
use Rattle.ejson_value.specs.Changes.{changes_of}
use Rattle.ejson_value.specs.ChangeLaws.{AllFit, HaveDistinctKeys}
use Rattle.collection_store.specs.Answered.{AreTouched}
use Rattle.program_model.specs.Run.{Run}
use Rattle.program_model.specs.Steps.{Stepped, unchanged}
use Rattle.program_model.specs.Kept.{LeadsOn}
use Rattle.stub_simulation.specs.declared.simulation.Simulated.{Simulated}
use Rattle.program_model.specs.Touched.{keys_put, each_once}
use Rattle.stub_simulation.specs.Simulating.{changed_keys, change_at, IsSimulated}
use Rattle.stub_simulation.proofs.KeyRows.{bare, bare_keys, bare_put, sorted_put}

pub sorted_all : (keys ks : List Key) → IsStrictlySortedBy key_cmp keys → IsStrictlySortedBy key_cmp (keys_put keys ks)
sorted_all keys [] s = s
sorted_all keys (k ∷ ks) s = sorted_all (insert_key key_cmp keys k) ks (sorted_put keys k s)

is_some_cond : (b : Bool) (o : Option (Unit {0})) → is_some (cond b (Some tt) o) ≡ (b || is_some o)
is_some_cond true o = refl
is_some_cond false o = refl

pub among_put : (ks : List Key) (k q : Key) → list_any (eq_by_cmp key_cmp q) (insert_key key_cmp ks k) ≡ (eq_by_cmp key_cmp q k || list_any (eq_by_cmp key_cmp q) ks)
among_put ks k q =
    ap (list_any (eq_by_cmp key_cmp q)) (sym (ap keys_of (bare_put ks k) ∙ bare_keys (insert_key key_cmp ks k)))
    ∙ sym (is_some-at key_cmp (insert_entry key_cmp (bare ks) k tt) q)
    ∙ ap is_some (at-put key_order (bare ks) k tt q)
    ∙ is_some_cond (eq_by_cmp key_cmp q k) (at key_cmp (bare ks) q)
    ∙ ap (λ b. eq_by_cmp key_cmp q k || b) (is_some-at key_cmp (bare ks) q ∙ ap (list_any (eq_by_cmp key_cmp q)) (bare_keys ks))

or_swap : (a b c : Bool) → ((a || b) || c) ≡ (b || (a || c))
or_swap true true c = refl
or_swap true false c = refl
or_swap false true c = refl
or_swap false false c = refl

among_all : (keys ks : List Key) (q : Key) → list_any (eq_by_cmp key_cmp q) (keys_put keys ks) ≡ (list_any (eq_by_cmp key_cmp q) keys || list_any (eq_by_cmp key_cmp q) ks)
among_all keys [] q = or_none (list_any (eq_by_cmp key_cmp q) keys)
  where
    or_none : (b : Bool) → b ≡ (b || false)
    or_none true = refl
    or_none false = refl
among_all keys (k ∷ ks) q =
    among_all (insert_key key_cmp keys k) ks q
    ∙ ap (λ b. b || list_any (eq_by_cmp key_cmp q) ks) (among_put keys k q)
    ∙ or_swap (eq_by_cmp key_cmp q k) (list_any (eq_by_cmp key_cmp q) keys) (list_any (eq_by_cmp key_cmp q) ks)

pub among_once : (ks : List Key) (q : Key) → list_any (eq_by_cmp key_cmp q) (each_once ks) ≡ list_any (eq_by_cmp key_cmp q) ks
among_once ks q = among_all [] ks q

-- ---- what changes leave

untouched : (cs : List Change) (q : Key) → list_any (eq_by_cmp key_cmp q) (changed_keys cs) ≡ false → last_at key_cmp q (changes_of cs) ≡ None
untouched [] q e = refl
untouched (c ∷ cs) q e =
    let later = untouched cs q in
    elim (eq_by_cmp key_cmp q c.key) as (λ b. (b || list_any (eq_by_cmp key_cmp q) (changed_keys cs)) ≡ false → option_or (last_at key_cmp q (changes_of cs)) (cond b (Some c.after) None) ≡ None) [
      | true ↦ λ x. cc x
      | false ↦ λ x. ap (λ o. option_or o None) (later x)
    ] e

module _ (view left : Rows) where
  last_change : (ks : List Key) (q : Key) → last_at key_cmp q (changes_of (map (change_at view left) ks)) ≡ cond (list_any (eq_by_cmp key_cmp q) ks) (Some (at key_cmp left q)) None
  last_change [] q = refl
  last_change (k ∷ ks) q =
      let rest = last_change ks q in
      ap (λ o. option_or o (cond (eq_by_cmp key_cmp q k) (Some (at key_cmp left k)) None)) rest
      ∙ elim (eq_by_cmp key_cmp q k) as (λ b. eq_by_cmp key_cmp q k ≡ b → option_or (cond (list_any (eq_by_cmp key_cmp q) ks) (Some (at key_cmp left q)) None) (cond b (Some (at key_cmp left k)) None) ≡ cond (b || list_any (eq_by_cmp key_cmp q) ks) (Some (at key_cmp left q)) None) [
        | true ↦ λ e. here (list_any (eq_by_cmp key_cmp q) ks) (ap (λ x. Some (at key_cmp left x)) (sym (key_is key_order q k e)))
        | false ↦ λ e. there (list_any (eq_by_cmp key_cmp q) ks)
      ] refl
    where
      here : (b : Bool) → Some (at key_cmp left k) ≡ Some (at key_cmp left q) → option_or (cond b (Some (at key_cmp left q)) None) (Some (at key_cmp left k)) ≡ Some (at key_cmp left q)
      here true same = refl
      here false same = same

      there : (b : Bool) → option_or (cond b (Some (at key_cmp left q)) None) None ≡ cond b (Some (at key_cmp left q)) None
      there true = refl
      there false = refl

  all_fit : (ks : List Key) → AllFit view (map (change_at view left) ks)
  all_fit [] = All-nil (λ (c : Change). at key_cmp view c.key ≡ c.before)
  all_fit (k ∷ ks) = All-cons (λ (c : Change). at key_cmp view c.key ≡ c.before) (change_at view left k) (map (change_at view left) ks) refl (all_fit ks)

  keys_same : (ks : List Key) → map (λ (c : Change). c.key) (map (change_at view left) ks) ≡ ks
  keys_same [] = refl
  keys_same (k ∷ ks) = ap (λ r. k ∷ r) (keys_same ks)

  all_among : (ks touched : List Key) → ((q : Key) → list_any (eq_by_cmp key_cmp q) ks ≡ true → list_any (eq_by_cmp key_cmp q) touched ≡ true) → All (λ (c : Change). list_any (eq_by_cmp key_cmp c.key) touched ≡ true) (map (change_at view left) ks)
  all_among [] touched h = All-nil (λ (c : Change). list_any (eq_by_cmp key_cmp c.key) touched ≡ true)
  all_among (k ∷ ks) touched h =
      All-cons (λ (c : Change). list_any (eq_by_cmp key_cmp c.key) touched ≡ true) (change_at view left k) (map (change_at view left) ks)
      (h k (ap (λ b. b || list_any (eq_by_cmp key_cmp k) ks) (eq_by_cmp-self key_order k)))
      (all_among ks touched (λ q e. h q (later (eq_by_cmp key_cmp q k) e)))
    where
      later : (b : Bool) {c : Bool} → c ≡ true → (b || c) ≡ true
      later true e = refl
      later false e = e

-- the keys of changes are among those that were touched
changed_touched : (touched : List Key) (cs : List Change) → AreTouched touched cs → (q : Key) → list_any (eq_by_cmp key_cmp q) (changed_keys cs) ≡ true → list_any (eq_by_cmp key_cmp q) touched ≡ true
changed_touched touched [] t q e = cc e
changed_touched touched (c ∷ cs) t q e =
    let later = changed_touched touched cs t.1 q in
    elim (eq_by_cmp key_cmp q c.key) as (λ b. eq_by_cmp key_cmp q c.key ≡ b → (b || list_any (eq_by_cmp key_cmp q) (changed_keys cs)) ≡ true → list_any (eq_by_cmp key_cmp q) touched ≡ true) [
      | true ↦ λ same x. ap (λ k. list_any (eq_by_cmp key_cmp k) touched) (key_is key_order q c.key same) ∙ t.0
      | false ↦ λ same x. later x
    ] refl e

no_keys : IsStrictlySortedBy key_cmp []
unfolding IsStrictlySortedBy
no_keys = tt

none_twice : HaveDistinctKeys []
unfolding IsDistinct
none_twice = tt

-- what a simulation answers means what its steps did
pub is_simulated : (view : Rows) (stepped : Stepped) (s : Simulated) → IsSorted key_cmp view → LeadsOn view stepped
    → s.changes ≡ map (change_at view stepped.rows) (each_once (changed_keys stepped.changes)) → s.touched ≡ each_once stepped.touched → IsSimulated view stepped s
is_simulated view stepped s sorted on changes touched =
    let keys = each_once (changed_keys stepped.changes) in
    let made = map (change_at view stepped.rows) keys in
    let ends = on.leads.ends in
    let sorted_left = subst (IsSorted key_cmp) ends (sorted-changed key_order view (changes_of stepped.changes) sorted) in
    let leads : changed key_cmp view (changes_of made) ≡ stepped.rows =
    same_maps key_order (changed key_cmp view (changes_of made)) stepped.rows (sorted-changed key_order view (changes_of made) sorted) sorted_left (λ q.
    at-changed key_order view (changes_of made) q sorted
    ∙ ap (λ o. unwrap_or o (at key_cmp view q)) (last_change view stepped.rows keys q ∙ ap (λ b. cond b (Some (at key_cmp stepped.rows q)) None) (among_once (changed_keys stepped.changes) q))
    ∙ elim (list_any (eq_by_cmp key_cmp q) (changed_keys stepped.changes)) as (λ b. list_any (eq_by_cmp key_cmp q) (changed_keys stepped.changes) ≡ b → unwrap_or (cond b (Some (at key_cmp stepped.rows q)) None) (at key_cmp view q) ≡ at key_cmp stepped.rows q) [
      | true ↦ λ e. refl
      | false ↦ λ e. sym (sym (ap (λ rows. at key_cmp rows q) ends) ∙ at-changed key_order view (changes_of stepped.changes) q sorted ∙ ap (λ o. unwrap_or o (at key_cmp view q)) (untouched stepped.changes q e))
    ] refl) in
    record {
      leads = ap (λ cs. changed key_cmp view (changes_of cs)) changes ∙ leads;
      fit = subst (AllFit view) (sym changes) (all_fit view stepped.rows keys);
      apart = subst HaveDistinctKeys (sym changes) (apart_by keys (keys_same view stepped.rows keys) (sorted_all [] (changed_keys stepped.changes) no_keys));
      among =
          subst (λ cs. All (λ (c : Change). list_any (eq_by_cmp key_cmp c.key) s.touched ≡ true) cs) (sym changes)
          (all_among view stepped.rows keys s.touched (λ q e.
          ap (list_any (eq_by_cmp key_cmp q)) touched ∙ among_once stepped.touched q
          ∙ changed_touched stepped.touched stepped.changes on.touched q (sym (among_once (changed_keys stepped.changes) q) ∙ e)));
      touched = touched;
    }
  where
    apart_by : (keys : List Key) {found : List Key} → found ≡ keys → IsStrictlySortedBy key_cmp keys → IsDistinct (eq_by_cmp key_cmp) found
    apart_by keys same s = subst (IsDistinct (eq_by_cmp key_cmp)) (sym same) (IsDistinct-from_sorted key_cmp keys s)

pub if_ok_both : {X E : Type 0} {P Q R : X → Type 0} (r : Result X E) → ((x : X) → P x → Q x → R x) → IfOk r P → IfOk r Q → IfOk r R
if_ok_both (Ok x) f p q = f x p q
if_ok_both (Err e) f p q = tt

pub if_ok_weaker : {X E : Type 0} {P Q : X → Type 0} (r : Result X E) → ((x : X) → P x → Q x) → IfOk r P → IfOk r Q
if_ok_weaker (Ok x) f p = f x p
if_ok_weaker (Err e) f p = tt

-- nothing is simulated where there is no stub
pub no_simulation : (view : Rows) (run : Run) (s : Simulated) → s.changes ≡ [] → s.touched ≡ [] → IsSimulated view (unchanged view run) s
no_simulation view run s changes touched = record {
  leads = ap (λ cs. changed key_cmp view (changes_of cs)) changes;
  fit = subst (AllFit view) (sym changes) (All-nil (λ (c : Change). at key_cmp view c.key ≡ c.before));
  apart = subst HaveDistinctKeys (sym changes) none_twice;
  among = subst (λ cs. All (λ (c : Change). list_any (eq_by_cmp key_cmp c.key) s.touched ≡ true) cs) (sym changes) (All-nil (λ (c : Change). list_any (eq_by_cmp key_cmp c.key) s.touched ≡ true));
  touched = touched;
}

-- other documents than the touched ones stay
pub untouched_stays : (view : Rows) (stepped : Stepped) → IsSorted key_cmp view → LeadsOn view stepped → (q : Key) → list_any (eq_by_cmp key_cmp q) (each_once stepped.touched) ≡ false → at key_cmp stepped.rows q ≡ at key_cmp view q
untouched_stays view stepped sorted on q none =
    sym (ap (λ rows. at key_cmp rows q) on.leads.ends) ∙ at-changed key_order view (changes_of stepped.changes) q sorted
    ∙ ap (λ o. unwrap_or o (at key_cmp view q)) (untouched stepped.changes q (not_changed (list_any (eq_by_cmp key_cmp q) (changed_keys stepped.changes)) refl))
  where
    not_changed : (b : Bool) → list_any (eq_by_cmp key_cmp q) (changed_keys stepped.changes) ≡ b → list_any (eq_by_cmp key_cmp q) (changed_keys stepped.changes) ≡ false
    not_changed true e = absurd (true≢false (sym (changed_touched stepped.touched stepped.changes on.touched q e) ∙ sym (among_once stepped.touched q) ∙ none))
    not_changed false e = e
