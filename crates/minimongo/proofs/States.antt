-- What a call makes of what contracts see of a view.
use Rattle.std.proofs.Common.{◌≡◌, ◌≢◌, ℕ, Bool, true, false, cond, not, ◌||◌, List, [], ◌∷◌, map, All, Option, Some, None, Result, Err, is_some, IfSome, IsTrue, ◌↔◌, unwrap_or, refl, sym, ap, ap₂, ◌∙◌, subst, true≢false}
use Rattle.std.specs.Prelude.{option_and_then}
use Rattle.std.specs.Option.{option_or}
use Rattle.std.specs.List.{list_any, IsDistinct}
use Rattle.std.specs.List.Sorted.{IsStrictlySortedBy}
use Rattle.std.specs.Map.{keys_of}
use Rattle.std.specs.Ordering.{eq_by_cmp}
use Rattle.std.proofs.lemmas.List.Elements.{All-nil, All-cons, All-head, All-tail}
use Rattle.std.proofs.lemmas.Map.Keys.{sorted_tail, IsDistinct-from_sorted}
use Rattle.map_model.specs.Maps.{at, set, IsSorted}
use Rattle.map_model.specs.MapLaws.{same_maps, key_is, eq_by_cmp-self, at-set, sorted-set, at-tail, at-filter_map_entries, sorted-filter_map_entries}
use Rattle.map_model.specs.Changes.{changed, last_at}
use Rattle.map_model.specs.ChangeLaws.{at-changed, sorted-changed}
use Rattle.map_model.specs.Differences.{Step, taken}
use Rattle.value_model.specs.Val.{Val, Entries}
use Rattle.value_model.specs.Order.{text_cmp}
use Rattle.view_model.specs.Pending.{is_among, with_number, without_numbers, unless_none, are_all_among, holders, held_by, let_go}
use Rattle.view_model.specs.PendingLaws.{none_left, at-held_by, sorted-held_by, at-let_go, sorted-let_go}
use Rattle.view_model.specs.Views.{refusal, shown, told, simulated, released, IsView}
use Rattle.view_model.specs.ViewLaws.{at-released, sorted-shown}
use Rattle.ejson_value.specs.declared.key.Key.{Key}
use Rattle.ejson_value.specs.declared.change.Change.{Change}
use Rattle.ejson_value.specs.Key.{key_cmp, key_order}
use Rattle.ejson_value.specs.Rows.{Rows, AreRows}
use Rattle.ejson_value.specs.Changes.{changes_of}
use Rattle.ejson_value.specs.ChangeLaws.{HaveDistinctKeys}
use Rattle.minimongo.specs.declared.save.Save.{Save}
use Rattle.minimongo.specs.declared.serve_fault.Served.{Served}
use Rattle.minimongo.specs.declared.serve_fault.Served.TheVariants as from
use Rattle.minimongo.specs.Originals.{Original, Originals, holders_in, is_holder, saves_of, joined, saved_by, left_by, held_still, due_at, due, served, AreOriginals, IsSaved, IsForgotten, IsServed, ServedFrom}
use Rattle.minimongo.specs.OriginalLaws.{joined_holders, left_saved, left_absent}
use Rattle.minimongo.specs.declared.serve_fault.ServeFault.{ServeFault}
use Rattle.minimongo.specs.declared.serve_fault.ServeFault.TheVariants as serve
use Rattle.minimongo.specs.Taking.{saved_refusal, IsFittingIf}
use Rattle.minimongo.specs.declared.fault.ViewFault.{ViewFault}
use Rattle.minimongo.specs.Faults.{view_fault, IsFitting}
use Rattle.minimongo.specs.Restored.{saves_at, restored}
use Rattle.minimongo.specs.State.{Documents, server_of, pending_of, documents_of}

-- ---- at one key

-- what the server has there: the original where one is saved, and else what is shown
abbrev server_at : Option Original → Option Entries → Option Entries
server_at None shown = shown
server_at (Some original) shown = original.doc

abbrev held_at : Option Original → Option (List ℕ)
held_at None = None
held_at (Some original) = Some original.holders

sorted-server_of : (os : Originals) (rows : Rows) → IsSorted key_cmp rows → IsSorted key_cmp (server_of os rows)
sorted-server_of [] rows s = s
sorted-server_of (e ∷ os) rows s = sorted-set key_order (server_of os rows) e.0 e.1.doc (sorted-server_of os rows s)

pub at-server_of : (os : Originals) (rows : Rows) (q : Key) → IsSorted key_cmp rows → at key_cmp (server_of os rows) q ≡ server_at (at key_cmp os q) (at key_cmp rows q)
at-server_of [] rows q s = refl
at-server_of (e ∷ os) rows q s =
    let rest = at-server_of os rows q s in
    at-set key_order (server_of os rows) e.0 e.1.doc q (sorted-server_of os rows s)
    ∙ elim (eq_by_cmp key_cmp q e.0) as (λ b. cond b e.1.doc (at key_cmp (server_of os rows) q) ≡ server_at (cond b (Some e.1) (at key_cmp os q)) (at key_cmp rows q)) [ true ↦ refl | false ↦ rest ]

pub at-pending_of : (os : Originals) (q : Key) → at key_cmp (pending_of os) q ≡ held_at (at key_cmp os q)
at-pending_of [] q = refl
at-pending_of (e ∷ os) q =
    let rest = at-pending_of os q in
    elim (eq_by_cmp key_cmp q e.0) as (λ b. cond b (Some e.1.holders) (at key_cmp (pending_of os) q) ≡ held_at (cond b (Some e.1) (at key_cmp os q))) [ true ↦ refl | false ↦ rest ]

keys_of-pending : (os : Originals) → keys_of (pending_of os) ≡ keys_of os
keys_of-pending [] = refl
keys_of-pending (e ∷ os) = ap (λ ks. e.0 ∷ ks) (keys_of-pending os)

sorted-pending_of : (os : Originals) → IsSorted key_cmp os → IsSorted key_cmp (pending_of os)
sorted-pending_of os s = subst (IsStrictlySortedBy key_cmp) (sym (keys_of-pending os)) s

-- ---- a view is one

pub is_view : (rows : Rows) (os : Originals) → AreRows rows → AreOriginals os → IsView key_cmp (documents_of rows os)
is_view rows os r o = record {
  server = sorted-server_of os rows r.by_key;
  view = r.by_key;
  pending = sorted-pending_of os o.by_key;
  holders = λ k e. some (at key_cmp os k) (o.held k) (sym (at-pending_of os k) ∙ e);
  agrees = λ k free. sym (at-server_of os rows k r.by_key ∙ none (at key_cmp os k) (at key_cmp rows k) (ap is_some (sym (at-pending_of os k)) ∙ free));
}
  where
    some : (x : Option Original) → IfSome x (λ (o : Original). o.holders ≢ []) → held_at x ≢ Some []
    some None h e = cc e
    some (Some o) h e = h (ap (λ w. unwrap_or w []) e)

    none : (x : Option Original) (d : Option Entries) → is_some (held_at x) ≡ false → server_at x d ≡ d
    none None d e = refl
    none (Some o) d e = cc e

-- two views with equal parts
same_view : (v w : Documents) → v.server ≡ w.server → v.view ≡ w.view → v.pending ≡ w.pending → v ≡ w
same_view v w e f g = λ i. record { server = e i; view = f i; pending = g i }

same_pending : (a b : Originals) → ((k : Key) → held_at (at key_cmp a k) ≡ held_at (at key_cmp b k)) → IsSorted key_cmp a → IsSorted key_cmp b → pending_of a ≡ pending_of b
same_pending a b same s t = same_maps key_order (pending_of a) (pending_of b) (sorted-pending_of a s) (sorted-pending_of b t) (λ q. at-pending_of a q ∙ same q ∙ sym (at-pending_of b q))

-- ---- messages

module _ (key : Key) (step : Step (List ℕ) Val) (rows : Rows) (os : Originals) (r : AreRows rows) (o : AreOriginals os) where
  -- a saved copy takes the message
  pub saved_told : (os' : Originals) → IsSorted key_cmp os' → IsServed (key, step) os os' → ServedFrom (at key_cmp os key) from.Saved →
      documents_of rows os' ≡ told key_cmp key (taken text_cmp (at key_cmp (server_of os rows) key) step) (documents_of rows os)
  saved_told os' sorted serves whose =
      let d = taken text_cmp (at key_cmp (server_of os rows) key) step in
      same_view (documents_of rows os') (told key_cmp key d (documents_of rows os))
      (same_maps key_order (server_of os' rows) (set key_cmp (server_of os rows) key d) (sorted-server_of os' rows r.by_key) (sorted-set key_order (server_of os rows) key d (sorted-server_of os rows r.by_key)) (λ q.
      at-server_of os' rows q r.by_key
      ∙ ap (λ x. server_at x (at key_cmp rows q)) (serves q)
      ∙ elim (eq_by_cmp key_cmp q key) as (λ b. eq_by_cmp key_cmp q key ≡ b → server_at (cond b (served step (at key_cmp os q)) (at key_cmp os q)) (at key_cmp rows q) ≡ cond b d (at key_cmp (server_of os rows) q)) [
        | true ↦ λ t. ap (λ k. server_at (served step (at key_cmp os k)) (at key_cmp rows k)) (key_is key_order q key t) ∙ takes (at key_cmp os key) whose
            ∙ ap (λ x. taken text_cmp x step) (sym (at-server_of os rows key r.by_key))
        | false ↦ λ t. sym (at-server_of os rows q r.by_key)
      ] refl
      ∙ sym (at-set key_order (server_of os rows) key d q (sorted-server_of os rows r.by_key))))
      (ap (λ b. cond b rows (set key_cmp rows key (at key_cmp (set key_cmp (server_of os rows) key d) key))) (sym (ap is_some (at-pending_of os key) ∙ is_there (at key_cmp os key) whose)))
      (same_pending os' os (λ k. ap held_at (serves k) ∙ elim (eq_by_cmp key_cmp k key) as (λ b. held_at (cond b (served step (at key_cmp os k)) (at key_cmp os k)) ≡ held_at (at key_cmp os k)) [ true ↦ holds (at key_cmp os k) | false ↦ refl ]) sorted o.by_key)
    where
      takes : (x : Option Original) → ServedFrom x from.Saved → server_at (served step x) (at key_cmp rows key) ≡ taken text_cmp (server_at x (at key_cmp rows key)) step
      takes None e = cc e
      takes (Some original) e = refl

      is_there : (x : Option Original) → ServedFrom x from.Saved → is_some (held_at x) ≡ true
      is_there None e = cc e
      is_there (Some original) e = refl

      holds : (x : Option Original) → held_at (served step x) ≡ held_at x
      holds None = refl
      holds (Some original) = refl

  not_saved : ServedFrom (at key_cmp os key) from.NotSaved → at key_cmp os key ≡ None
  not_saved whose = by (at key_cmp os key) whose
    where
      by : (x : Option Original) → ServedFrom x from.NotSaved → x ≡ None
      by None e = refl
      by (Some original) e = cc e

  -- without a saved copy the server's is what is shown
  pub own_copy : ServedFrom (at key_cmp os key) from.NotSaved → at key_cmp (server_of os rows) key ≡ at key_cmp rows key
  own_copy whose = at-server_of os rows key r.by_key ∙ ap (λ x. server_at x (at key_cmp rows key)) (not_saved whose)

  pub none_served : (os' : Originals) → IsSorted key_cmp os' → IsServed (key, step) os os' → ServedFrom (at key_cmp os key) from.NotSaved → os' ≡ os
  none_served os' sorted serves whose = same_maps key_order os' os sorted o.by_key (λ q. serves q ∙ elim (eq_by_cmp key_cmp q key) as (λ b. eq_by_cmp key_cmp q key ≡ b → cond b (served step (at key_cmp os q)) (at key_cmp os q) ≡ at key_cmp os q) [
    | true ↦ λ t. let none = ap (at key_cmp os) (key_is key_order q key t) ∙ not_saved whose in ap (served step) none ∙ sym none
    | false ↦ λ t. refl
  ] refl)

  -- the view's own document takes the message
  pub shown_told : (os' : Originals) (rows' : Rows) → IsSorted key_cmp os' → IsServed (key, step) os os' → ServedFrom (at key_cmp os key) from.NotSaved → rows' ≡ set key_cmp rows key (taken text_cmp (at key_cmp rows key) step) →
      documents_of rows' os' ≡ told key_cmp key (taken text_cmp (at key_cmp (server_of os rows) key) step) (documents_of rows os)
  shown_told os' rows' sorted serves whose made =
      let d = taken text_cmp (at key_cmp (server_of os rows) key) step in
      let e = taken text_cmp (at key_cmp rows key) step in
      let same : e ≡ d = ap (λ x. taken text_cmp x step) (sym (own_copy whose)) in
      let there : rows' ≡ set key_cmp rows key d = made ∙ ap (set key_cmp rows key) same in
      let sorted_new = sorted-set key_order rows key d r.by_key in
      let server = set key_cmp (server_of os rows) key d in
      ap₂ documents_of there (none_served os' sorted serves whose)
      ∙ same_view (documents_of (set key_cmp rows key d) os) (told key_cmp key d (documents_of rows os))
      (same_maps key_order (server_of os (set key_cmp rows key d)) server (sorted-server_of os (set key_cmp rows key d) sorted_new) (sorted-set key_order (server_of os rows) key d (sorted-server_of os rows r.by_key)) (λ q.
      at-server_of os (set key_cmp rows key d) q sorted_new
      ∙ ap (server_at (at key_cmp os q)) (at-set key_order rows key d q r.by_key)
      ∙ elim (eq_by_cmp key_cmp q key) as (λ b. eq_by_cmp key_cmp q key ≡ b → server_at (at key_cmp os q) (cond b d (at key_cmp rows q)) ≡ cond b d (at key_cmp (server_of os rows) q)) [
        | true ↦ λ t. ap (λ x. server_at x d) (ap (at key_cmp os) (key_is key_order q key t) ∙ not_saved whose)
        | false ↦ λ t. sym (at-server_of os rows q r.by_key)
      ] refl
      ∙ sym (at-set key_order (server_of os rows) key d q (sorted-server_of os rows r.by_key))))
      (ap (set key_cmp rows key) (sym (at-set key_order (server_of os rows) key d key (sorted-server_of os rows r.by_key) ∙ ap (λ b. cond b d (at key_cmp (server_of os rows) key)) (eq_by_cmp-self key_order key)))
      ∙ ap (λ b. cond b rows (set key_cmp rows key (at key_cmp server key))) (sym (ap is_some (at-pending_of os key ∙ ap held_at (not_saved whose)))))
      refl

  -- what a saved copy takes fits the server's
  pub saved_fits : ServedFrom (at key_cmp os key) from.Saved → saved_refusal (at key_cmp os key) step ≡ None → refusal (at key_cmp (server_of os rows) key) step ≡ None
  saved_fits whose e = ap (λ x. refusal x step) (at-server_of os rows key r.by_key) ∙ by (at key_cmp os key) whose e
    where
      by : (x : Option Original) → ServedFrom x from.Saved → saved_refusal x step ≡ None → refusal (server_at x (at key_cmp rows key)) step ≡ None
      by None t e = cc t
      by (Some original) t e = e

  -- and what it refuses doesn't
  pub fault_fits : {X : Type 0} (fault : ServeFault) (answer : Result X ViewFault) → answer ≡ Err (view_fault fault) → IsFittingIf {X = Served} (at key_cmp os key) step (Err fault) → IsFitting (at key_cmp (server_of os rows) key) step answer
  fault_fits (serve.Wrong n) answer is e = subst (IsFitting (at key_cmp (server_of os rows) key) step) (sym is) (ap (λ x. refusal x step) (at-server_of os rows key r.by_key) ∙ by (at key_cmp os key) e)
    where
      by : (x : Option Original) → saved_refusal x step ≡ Some n → refusal (server_at x (at key_cmp rows key)) step ≡ Some n
      by None e = cc e
      by (Some original) e = e
  fault_fits serve.Memory answer is e = subst (IsFitting (at key_cmp (server_of os rows) key) step) (sym is) tt

-- ---- simulations

at-saves_at : (rows : Rows) (keys : List Key) (q : Key) → at key_cmp (saves_at rows keys) q ≡ cond (list_any (eq_by_cmp key_cmp q) keys) (Some (at key_cmp rows q)) None
at-saves_at rows [] q = refl
at-saves_at rows (k ∷ keys) q =
    let rest = at-saves_at rows keys q in
    elim (eq_by_cmp key_cmp q k) as (λ b. eq_by_cmp key_cmp q k ≡ b → cond b (Some (at key_cmp rows k)) (at key_cmp (saves_at rows keys) q) ≡ cond (b || list_any (eq_by_cmp key_cmp q) keys) (Some (at key_cmp rows q)) None) [
      | true ↦ λ t. ap (λ x. Some (at key_cmp rows x)) (sym (key_is key_order q k t))
      | false ↦ λ t. rest
    ] refl

-- what isn't touched isn't changed
untouched : (keys : List Key) (cs : List Change) (q : Key) → All (λ (c : Change). list_any (eq_by_cmp key_cmp c.key) keys ≡ true) cs → list_any (eq_by_cmp key_cmp q) keys ≡ false → last_at key_cmp q (changes_of cs) ≡ None
untouched keys [] q among free = refl
untouched keys (c ∷ cs) q among free =
    let P = λ (c : Change). list_any (eq_by_cmp key_cmp c.key) keys ≡ true in
    ap (λ w. option_or w (cond (eq_by_cmp key_cmp q c.key) (Some c.after) None)) (untouched keys cs q (All-tail P c cs among) free)
    ∙ elim (eq_by_cmp key_cmp q c.key) as (λ b. eq_by_cmp key_cmp q c.key ≡ b → cond b (Some c.after) None ≡ None) [
      | true ↦ λ t. absurd (true≢false (sym (All-head P c cs among) ∙ ap (λ k. list_any (eq_by_cmp key_cmp k) keys) (sym (key_is key_order q c.key t)) ∙ free))
      | false ↦ λ t. refl
    ] refl

holders_of : (os : Originals) (q : Key) → holders key_cmp (pending_of os) q ≡ holders_in (at key_cmp os q)
holders_of os q = ap (λ w. unwrap_or w []) (at-pending_of os q) ∙ by (at key_cmp os q)
  where
    by : (x : Option Original) → unwrap_or (held_at x) [] ≡ holders_in x
    by None = refl
    by (Some original) = refl

-- who holds nothing in what contracts see holds nothing
pub is_free : (os : Originals) (n : ℕ) → ((k : Key) → is_among (holders key_cmp (pending_of os) k) n ≡ false) → (k : Key) → is_holder os n k ≡ false
is_free os n free k = ap (λ hs. is_among hs n) (sym (holders_of os k)) ∙ free k

pub same_free : (os : Originals) (n : ℕ) (b : Bool) → IsTrue b ↔ ((k : Key) → is_holder os n k ≡ false) → IsTrue b ↔ ((k : Key) → is_among (holders key_cmp (pending_of os) k) n ≡ false)
same_free os n b e = ((λ t k. ap (λ hs. is_among hs n) (holders_of os k) ∙ e.0 t k), (λ free. e.1 (is_free os n free)))

module _ (n : ℕ) (rows : Rows) (os os' : Originals) (keys : List Key) (saves : List Save) (r : AreRows rows) (o : AreOriginals os) (sorted : IsSorted key_cmp os') (are : saves_of saves ≡ saves_at rows keys) (is : IsSaved n (saves_of saves) os os') where
  now : (q : Key) → at key_cmp os' q ≡ saved_by n (cond (list_any (eq_by_cmp key_cmp q) keys) (Some (at key_cmp rows q)) None) (at key_cmp os q)
  now q = is q ∙ ap (λ w. saved_by n w (at key_cmp os q)) (ap (λ s. at key_cmp s q) are ∙ at-saves_at rows keys q)

  pub is_simulated : (cs : List Change) → All (λ (c : Change). list_any (eq_by_cmp key_cmp c.key) keys ≡ true) cs → (rows' : Rows) → rows' ≡ changed key_cmp rows (changes_of cs) →
      documents_of rows' os' ≡ simulated key_cmp n (changed key_cmp rows (changes_of cs)) keys (documents_of rows os)
  is_simulated cs among rows' made =
      let sorted_new : IsSorted key_cmp rows' = subst (IsSorted key_cmp) (sym made) (sorted-changed key_order rows (changes_of cs) r.by_key) in
      same_view (documents_of rows' os') (simulated key_cmp n (changed key_cmp rows (changes_of cs)) keys (documents_of rows os))
      (same_maps key_order (server_of os' rows') (server_of os rows) (sorted-server_of os' rows' sorted_new) (sorted-server_of os rows r.by_key) (λ q.
      at-server_of os' rows' q sorted_new
      ∙ ap (λ x. server_at x (at key_cmp rows' q)) (now q)
      ∙ elim (list_any (eq_by_cmp key_cmp q) keys) as (λ b. list_any (eq_by_cmp key_cmp q) keys ≡ b → server_at (saved_by n (cond b (Some (at key_cmp rows q)) None) (at key_cmp os q)) (at key_cmp rows' q) ≡ server_at (at key_cmp os q) (at key_cmp rows q)) [
        | true ↦ λ t. saved (at key_cmp os q) (at key_cmp rows q) (at key_cmp rows' q)
        | false ↦ λ t. ap (server_at (at key_cmp os q)) (ap (λ m. at key_cmp m q) made ∙ at-changed key_order rows (changes_of cs) q r.by_key ∙ ap (λ w. unwrap_or w (at key_cmp rows q)) (untouched keys cs q among t))
      ] refl
      ∙ sym (at-server_of os rows q r.by_key)))
      made
      (same_maps key_order (pending_of os') (held_by key_cmp n keys (pending_of os)) (sorted-pending_of os' sorted) (sorted-held_by key_order n keys (pending_of os) (sorted-pending_of os o.by_key)) (λ q.
      at-pending_of os' q
      ∙ ap held_at (now q)
      ∙ elim (list_any (eq_by_cmp key_cmp q) keys) as (λ b. held_at (saved_by n (cond b (Some (at key_cmp rows q)) None) (at key_cmp os q)) ≡ cond b (Some (with_number (holders key_cmp (pending_of os) q) n)) (at key_cmp (pending_of os) q)) [
        | true ↦ ap Some (joined_holders n (at key_cmp rows q) (at key_cmp os q) ∙ ap (λ hs. with_number hs n) (sym (holders_of os q)))
        | false ↦ sym (at-pending_of os q)
      ]
      ∙ sym (at-held_by key_order n keys (pending_of os) q)))
    where
      saved : (x : Option Original) (d e : Option Entries) → server_at (Some (joined n d x)) e ≡ server_at x d
      saved None d e = refl
      saved (Some original) d e = refl

-- what was saved for a simulation that held nothing, and is forgotten, leaves nothing
pub is_undone : (n : ℕ) (saves : List (Key × Option Entries)) (os os' os'' : Originals) → AreOriginals os → IsSorted key_cmp os'' → IsSaved n saves os os' → IsForgotten (n ∷ []) os' os'' →
    ((k : Key) → is_among (holders key_cmp (pending_of os) k) n ≡ false) → os'' ≡ os
is_undone n saves os os' os'' o sorted is gone free = same_maps key_order os'' os sorted o.by_key (λ q.
    gone q ∙ ap (left_by (n ∷ [])) (is q) ∙ left_saved n (at key_cmp saves q) (at key_cmp os q) ∙ left_absent n (at key_cmp os q) (o.held q) (is_free os n free q))

-- ---- releases

-- of saves by rising key the last one at a key is the one there
last_restored : (rows : Rows) (saves : List Save) (q : Key) → IsSorted key_cmp (saves_of saves) → last_at key_cmp q (changes_of (map (restored rows) saves)) ≡ at key_cmp (saves_of saves) q
last_restored rows [] q s = refl
last_restored rows (save ∷ saves) q s =
    ap (λ w. option_or w (cond (eq_by_cmp key_cmp q save.key) (Some save.doc) None)) (last_restored rows saves q (sorted_tail key_cmp save.key (keys_of (saves_of saves)) s))
    ∙ elim (eq_by_cmp key_cmp q save.key) as (λ b. eq_by_cmp key_cmp q save.key ≡ b → option_or (at key_cmp (saves_of saves) q) (cond b (Some save.doc) None) ≡ cond b (Some save.doc) (at key_cmp (saves_of saves) q)) [
      | true ↦ λ t. ap (λ w. option_or w (Some save.doc)) (at-tail key_order (save.key, save.doc) (saves_of saves) q s t)
      | false ↦ λ t. only (at key_cmp (saves_of saves) q)
    ] refl
  where
    only : (w : Option (Option Entries)) → option_or w None ≡ w
    only None = refl
    only (Some d) = refl

-- the changes that restore fit
pub restores_fit : (rows : Rows) (saves : List Save) → All (λ (c : Change). at key_cmp rows c.key ≡ c.before) (map (restored rows) saves)
restores_fit rows [] = All-nil (λ (c : Change). at key_cmp rows c.key ≡ c.before)
restores_fit rows (save ∷ saves) = All-cons (λ (c : Change). at key_cmp rows c.key ≡ c.before) (restored rows save) (map (restored rows) saves) refl (restores_fit rows saves)

-- and are of different documents
pub restores_apart : (ns : List ℕ) (rows : Rows) (os : Originals) (saves : List Save) → AreOriginals os → saves_of saves ≡ due ns os → HaveDistinctKeys (map (restored rows) saves)
restores_apart ns rows os saves o are =
    subst (IsDistinct (eq_by_cmp key_cmp)) (sym (restored_keys rows saves))
    (IsDistinct-from_sorted key_cmp (keys_of (saves_of saves)) (subst (IsSorted key_cmp) (sym are) (sorted-filter_map_entries key_cmp (λ k original. due_at (is_among ns) (Some original)) os o.by_key)))
  where
    restored_keys : (rows : Rows) (saves : List Save) → map (λ (c : Change). c.key) (map (restored rows) saves) ≡ keys_of (saves_of saves)
    restored_keys rows [] = refl
    restored_keys rows (save ∷ saves) = ap (λ ks. save.key ∷ ks) (restored_keys rows saves)

module _ (ns : List ℕ) (rows rows' : Rows) (os os' : Originals) (saves : List Save) (r : AreRows rows) (o : AreOriginals os) (sorted : IsSorted key_cmp os') (are : saves_of saves ≡ due ns os) (made : rows' ≡ changed key_cmp rows (changes_of (map (restored rows) saves))) (gone : IsForgotten ns os os') where
  sorted_due : IsSorted key_cmp (saves_of saves)
  sorted_due = subst (IsSorted key_cmp) (sym are) (sorted-filter_map_entries key_cmp (λ k original. due_at (is_among ns) (Some original)) os o.by_key)

  sorted_new : IsSorted key_cmp rows'
  sorted_new = subst (IsSorted key_cmp) (sym made) (sorted-changed key_order rows (changes_of (map (restored rows) saves)) r.by_key)

  shown_then : (q : Key) → at key_cmp rows' q ≡ unwrap_or (option_and_then (λ original. due_at (is_among ns) (Some original)) (at key_cmp os q)) (at key_cmp rows q)
  shown_then q =
      ap (λ m. at key_cmp m q) made ∙ at-changed key_order rows (changes_of (map (restored rows) saves)) q r.by_key
      ∙ ap (λ w. unwrap_or w (at key_cmp rows q)) (last_restored rows saves q sorted_due ∙ ap (λ m. at key_cmp m q) are ∙ at-filter_map_entries key_order (λ k original. due_at (is_among ns) (Some original)) os q o.by_key)

  pub is_released : documents_of rows' os' ≡ released key_cmp ns (documents_of rows os)
  is_released =
      let before = is_view rows os r o in
      let pending = let_go ns (pending_of os) in
      same_view (documents_of rows' os') (released key_cmp ns (documents_of rows os))
      (same_maps key_order (server_of os' rows') (server_of os rows) (sorted-server_of os' rows' sorted_new) (sorted-server_of os rows r.by_key) (λ q.
      at-server_of os' rows' q sorted_new ∙ ap₂ server_at (gone q) (shown_then q) ∙ same_server (at key_cmp os q) (at key_cmp rows q) ∙ sym (at-server_of os rows q r.by_key)))
      (same_maps key_order rows' (shown key_cmp (server_of os rows) pending rows (keys_of (pending_of os))) sorted_new (sorted-shown key_order (server_of os rows) pending rows (keys_of (pending_of os)) r.by_key) (λ q.
      shown_then q
      ∙ restored_then (at key_cmp os q) (at key_cmp rows q)
      ∙ ap₂ (λ w d. cond (is_some w) (at key_cmp rows q) d) (sym (at-let_go key_order ns (pending_of os) q before.pending ∙ ap (option_and_then (λ hs. unless_none (without_numbers ns hs))) (at-pending_of os q))) (sym (at-server_of os rows q r.by_key))
      ∙ sym (at-released key_order ns (documents_of rows os) q before)))
      (same_maps key_order (pending_of os') pending (sorted-pending_of os' sorted) (sorted-let_go key_order ns (pending_of os) before.pending) (λ q.
      at-pending_of os' q ∙ ap held_at (gone q) ∙ holders_left (at key_cmp os q)
      ∙ sym (at-let_go key_order ns (pending_of os) q before.pending ∙ ap (option_and_then (λ hs. unless_none (without_numbers ns hs))) (at-pending_of os q))))
    where
      by_all : (original : Original) (d : Option Entries) (w : Option (List ℕ)) → is_some w ≡ not (are_all_among ns original.holders) → (b : Bool) → are_all_among ns original.holders ≡ b →
          server_at (held_still original w) (unwrap_or (cond b (Some original.doc) None) d) ≡ original.doc
      by_all original d None e true t = refl
      by_all original d None e false t = cc (e ∙ ap not t)
      by_all original d (Some hs) e b t = refl

      same_server : (x : Option Original) (d : Option Entries) → server_at (left_by ns x) (unwrap_or (option_and_then (λ original. due_at (is_among ns) (Some original)) x) d) ≡ server_at x d
      same_server None d = refl
      same_server (Some original) d = by_all original d (unless_none (without_numbers ns original.holders)) (none_left ns original.holders) (are_all_among ns original.holders) refl

      restored_then : (x : Option Original) (d : Option Entries) → unwrap_or (option_and_then (λ original. due_at (is_among ns) (Some original)) x) d ≡ cond (is_some (option_and_then (λ hs. unless_none (without_numbers ns hs)) (held_at x))) d (server_at x d)
      restored_then None d = refl
      restored_then (Some original) d = sym (ap (λ b. cond b d original.doc) (none_left ns original.holders) ∙ elim (are_all_among ns original.holders) as (λ b. cond (not b) d original.doc ≡ unwrap_or (cond b (Some original.doc) None) d) [ true ↦ refl | false ↦ refl ])

      holders_left : (x : Option Original) → held_at (left_by ns x) ≡ option_and_then (λ hs. unless_none (without_numbers ns hs)) (held_at x)
      holders_left None = refl
      holders_left (Some original) = by (unless_none (without_numbers ns original.holders))
        where
          by : (w : Option (List ℕ)) → held_at (held_still original w) ≡ w
          by None = refl
          by (Some hs) = refl
