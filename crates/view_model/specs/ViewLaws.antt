-- The view is the server's copy at each key that no open simulation holds.
use Rattle.std.specs.Prelude.{◌≡◌, ◌≢◌, ◌⊎◌, ℕ, Bool, true, false, cond, not, ◌&&◌, ◌||◌, List, [], ◌∷◌, Option, Some, None, is_some, option_and_then}
use Rattle.std.specs.Prelude.{unwrap_or, refl}
use Rattle.std.specs.List.{list_any}
use Rattle.std.specs.declared.cmp.Ordering.{Ordering}
use Rattle.std.specs.declared.cmp.Ordering.TheVariants.{Less, Equal, Greater}
use Rattle.std.specs.Ordering.{nat_cmp, eq_by_cmp, match_ordering}
use Rattle.std.specs.Map.{keys_of}
use Rattle.std.proofs.Common.{sym, ap, ◌∙◌, subst, inl, inr, ⊎_elim, true≢false}
use Rattle.std.proofs.lemmas.Bool.{cases_Bool}
use Rattle.map_model.specs.Maps.{at, set, IsSorted, IsKeyOrder}
use Rattle.map_model.specs.MapLaws.{same_maps, sorted-nil, at-set, sorted-set, key_is, is_some-at}
use Rattle.view_model.specs.Pending.{Pending, with_number, without_numbers, unless_none, holders, is_held, held_by, let_go}
use Rattle.view_model.specs.PendingLaws.{sorted-held_by, at-held_by, sorted-let_go, at-let_go, still_held}
use Rattle.view_model.specs.Views.{View, no_documents, shown_at, shown, told, simulated, released, IsView}

with_number-some : (hs : List ℕ) (n : ℕ) → with_number hs n ≢ []
with_number-some [] n e = cc e
with_number-some (h ∷ hs) n e = elim (nat_cmp n h) as
    (λ o. match_ordering o (n ∷ h ∷ hs) (h ∷ hs) (h ∷ with_number hs n) ≡ [] → ⊥) [ Less ↦ λ e. cc e | Equal ↦ λ e. cc e | Greater ↦ λ e. cc e ] e

unless_none-some : (hs : List ℕ) → unless_none hs ≢ Some []
unless_none-some [] e = cc e
unless_none-some (h ∷ hs) e = cc e

pub no_documents-view : {K D : Type 0} (R : K → K → Ordering) → IsView R (no_documents {K = K} {D = D})
no_documents-view R = record { server = sorted-nil R; view = sorted-nil R; pending = sorted-nil R; holders = λ k e. cc e; agrees = λ k free. refl }

module _ {K D : Type 0} {R : K → K → Ordering} (o : IsKeyOrder R) where
  -- ---- what is shown

  sorted-shown_at : (server : List (K × D)) (pending : Pending K) (v : List (K × D)) (k : K) → IsSorted R v → IsSorted R (shown_at R server pending v k)
  sorted-shown_at server pending v k s = elim (is_held R pending k) as
      (λ b. IsSorted R (cond b v (set R v k (at R server k)))) [ true ↦ s | false ↦ sorted-set o v k (at R server k) s ]

  pub sorted-shown : (server : List (K × D)) (pending : Pending K) (v : List (K × D)) (ks : List K) → IsSorted R v → IsSorted R (shown R server pending v ks)
  sorted-shown server pending v [] s = s
  sorted-shown server pending v (k ∷ ks) s = sorted-shown server pending (shown_at R server pending v k) ks (sorted-shown_at server pending v k s)

  pub at-shown_at : (server : List (K × D)) (pending : Pending K) (v : List (K × D)) (k q : K) → IsSorted R v →
      at R (shown_at R server pending v k) q ≡ cond (eq_by_cmp R q k && not (is_held R pending q)) (at R server q) (at R v q)
  at-shown_at server pending v k q s =
      elim (is_held R pending k) as
      (λ b. is_held R pending k ≡ b →
      at R (cond b v (set R v k (at R server k))) q ≡ cond (eq_by_cmp R q k && not (is_held R pending q)) (at R server q) (at R v q)) [
        | true ↦ λ h. elim (eq_by_cmp R q k) as (λ b. eq_by_cmp R q k ≡ b → at R v q ≡ cond (b && not (is_held R pending q)) (at R server q) (at R v q)) [
          | true ↦ λ t. ap (λ b. cond (not b) (at R server q) (at R v q)) (sym (ap (is_held R pending) (key_is o q k t) ∙ h))
          | false ↦ λ t. refl
        ] refl
        | false ↦ λ h. at-set o v k (at R server k) q s
            ∙ elim (eq_by_cmp R q k) as
            (λ b. eq_by_cmp R q k ≡ b → cond b (at R server k) (at R v q) ≡ cond (b && not (is_held R pending q)) (at R server q) (at R v q)) [
              | true ↦ λ t. ap (at R server) (sym (key_is o q k t))
                  ∙ ap (λ b. cond (not b) (at R server q) (at R v q)) (sym (ap (is_held R pending) (key_is o q k t) ∙ h))
              | false ↦ λ t. refl
            ] refl
      ] refl

  either : (b c : Bool) (x y : Option D) → cond (c && not b) x (cond (not b) x y) ≡ cond (not b) x y
  either true true x y = refl
  either true false x y = refl
  either false true x y = refl
  either false false x y = refl

  pub at-shown : (server : List (K × D)) (pending : Pending K) (v : List (K × D)) (ks : List K) (q : K) → IsSorted R v →
      at R (shown R server pending v ks) q ≡ cond (list_any (eq_by_cmp R q) ks && not (is_held R pending q)) (at R server q) (at R v q)
  at-shown server pending v [] q s = refl
  at-shown server pending v (k ∷ ks) q s =
      at-shown server pending (shown_at R server pending v k) ks q (sorted-shown_at server pending v k s)
      ∙ ap (cond (list_any (eq_by_cmp R q) ks && not (is_held R pending q)) (at R server q)) (at-shown_at server pending v k q s)
      ∙ elim (eq_by_cmp R q k) as
      (λ b. cond (list_any (eq_by_cmp R q) ks && not (is_held R pending q)) (at R server q) (cond (b && not (is_held R pending q)) (at R server q) (at R v q))
      ≡ cond ((b || list_any (eq_by_cmp R q) ks) && not (is_held R pending q)) (at R server q) (at R v q)) [
        | true ↦ either (is_held R pending q) (list_any (eq_by_cmp R q) ks) (at R server q) (at R v q)
        | false ↦ refl
      ]

  -- ---- each event

  pub told_view : (k : K) (d : Option D) (s : View K D) → IsView R s → IsView R (told R k d s)
  told_view k d s w =
      let server = set R s.server k d in
      record {
        server = sorted-set o s.server k d w.server;
        view = sorted-shown_at server s.pending s.view k w.view;
        pending = w.pending;
        holders = w.holders;
        agrees = λ q free.
            at-shown_at server s.pending s.view k q w.view
            ∙ ap (λ b. cond (eq_by_cmp R q k && not b) (at R server q) (at R s.view q)) free
            ∙ elim (eq_by_cmp R q k) as (λ b. eq_by_cmp R q k ≡ b → cond (b && true) (at R server q) (at R s.view q) ≡ at R server q) [
              | true ↦ λ t. refl
              | false ↦ λ t. w.agrees q free ∙ sym (at-set o s.server k d q w.server ∙ ap (λ b. cond b d (at R s.server q)) t)
            ] refl;
      }

  -- a simulation changes what it holds alone
  pub simulated_view : (n : ℕ) (view : List (K × D)) (keys : List K) (s : View K D) → IsSorted R view →
      ((q : K) → list_any (eq_by_cmp R q) keys ≡ false → at R view q ≡ at R s.view q) → IsView R s → IsView R (simulated R n view keys s)
  simulated_view n view keys s sorted alone w = record {
    server = w.server;
    view = sorted;
    pending = sorted-held_by o n keys s.pending w.pending;
    holders = λ q none. elim (list_any (eq_by_cmp R q) keys) as (λ b. cond b (Some (with_number (holders R s.pending q) n)) (at R s.pending q) ≡ Some [] → ⊥) [
      | true ↦ λ e. with_number-some (holders R s.pending q) n (ap (λ w. unwrap_or w []) e)
      | false ↦ λ e. w.holders q e
    ] (sym (at-held_by o n keys s.pending q) ∙ none);
    agrees = λ q free. elim (list_any (eq_by_cmp R q) keys) as
        (λ b. list_any (eq_by_cmp R q) keys ≡ b → is_some (cond b (Some (with_number (holders R s.pending q) n)) (at R s.pending q)) ≡ false →
        at R view q ≡ at R s.server q) [
          | true ↦ λ t e. cc e
          | false ↦ λ t e. alone q t ∙ w.agrees q e
        ] refl (ap is_some (sym (at-held_by o n keys s.pending q)) ∙ free);
  }

  -- afterwards the view has the server's document at each key that is free
  pub at-released : (ns : List ℕ) (s : View K D) (q : K) → IsView R s →
      at R (released R ns s).view q ≡ cond (is_held R (let_go ns s.pending) q) (at R s.view q) (at R s.server q)
  at-released ns s q w =
      at-shown s.server (let_go ns s.pending) s.view (keys_of s.pending) q w.view
      ∙ ap (λ b. cond (b && not (is_held R (let_go ns s.pending) q)) (at R s.server q) (at R s.view q)) (sym (is_some-at R s.pending q))
      ∙ elim (is_held R (let_go ns s.pending) q) as
      (λ b. cond (is_held R s.pending q && not b) (at R s.server q) (at R s.view q) ≡ cond b (at R s.view q) (at R s.server q)) [
        | true ↦ elim (is_held R s.pending q) as (λ c. cond (c && false) (at R s.server q) (at R s.view q) ≡ at R s.view q) [ true ↦ refl | false ↦ refl ]
        | false ↦ elim (is_held R s.pending q) as
            (λ c. is_held R s.pending q ≡ c → cond (c && true) (at R s.server q) (at R s.view q) ≡ at R s.server q)
            [ true ↦ λ t. refl | false ↦ λ t. w.agrees q t ] refl
      ]

  pub released_view : (ns : List ℕ) (s : View K D) → IsView R s → IsView R (released R ns s)
  released_view ns s w = record {
    server = w.server;
    view = sorted-shown s.server (let_go ns s.pending) s.view (keys_of s.pending) w.view;
    pending = sorted-let_go o ns s.pending w.pending;
    holders = λ q none. some_left (at R s.pending q) (sym (at-let_go o ns s.pending q w.pending) ∙ none);
    agrees = λ q free. at-released ns s q w ∙ ap (λ b. cond b (at R s.view q) (at R s.server q)) free;
  }
    where
      some_left : (x : Option (List ℕ)) → option_and_then (λ hs. unless_none (without_numbers ns hs)) x ≢ Some []
      some_left None e = cc e
      some_left (Some hs) e = unless_none-some (without_numbers ns hs) e

  -- ---- at rest

  -- with no open simulation the view is the server's copy
  pub view_is_server : (s : View K D) → IsView R s → s.pending ≡ [] → s.view ≡ s.server
  view_is_server s w none = same_maps o s.view s.server w.view w.server (λ q. w.agrees q (ap (λ p. is_held R p q) none))
