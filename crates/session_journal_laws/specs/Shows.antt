-- The calls of a journal show what its subscriptions publish at their places, and the merge is that of what they show.
use Rattle.std.specs.Prelude.{◌≡◌, ℕ, ◌==◌, List, [], ◌∷◌, map, true, false, cond, ◌||◌, Option, Some, None, refl, is_some, IsSome}
use Rattle.std.proofs.Common.{ap, sym, subst, ◌∙◌}
use Rattle.std.specs.List.{list_any}
use Rattle.std.specs.declared.cmp.Ordering.{Ordering}
use Rattle.std.specs.Ordering.{eq_by_cmp}
use Rattle.std.specs.Map.{keys_of}
use Rattle.std.specs.Option.{option_or}
use Rattle.std.proofs.lemmas.Bool.{eqb-true}
use Rattle.map_model.specs.Maps.{at, set, union, IsSorted, IsKeyOrder}
use Rattle.map_model.specs.MapLaws.{sorted-nil, at-set, sorted-set, at-union, is_some-at, key_is, same_maps}
use Rattle.merge_model.specs.Publishing.{renewed, shown, shown_since}
use Rattle.merge_model.specs.Merge.{field, IsMerge}
use Rattle.merge_model.specs.BoxLaws.{merge_of_is}
use Rattle.value_model.specs.Order.{text_cmp}
use Rattle.ejson_value.specs.declared.key.Key.{Key}
use Rattle.ejson_value.specs.Key.{key_cmp, key_order, name_order}
use Rattle.ejson_value.specs.Rows.{Rows}
use Rattle.publication.specs.Cursors.{ACursors}
use Rattle.session_model.specs.Items.{Item}
use Rattle.session_model.specs.Subscriptions.{Live}
use Rattle.session_model.specs.State.{State, started, after, state_from, state_of}
use Rattle.session_model.specs.Moments.{Moment, rows_at}
use Rattle.session_journal_laws.specs.PublicationLaws.{sorted_queried}
use Rattle.session_journal_laws.specs.Live.{others_stay_at}
use Rattle.session_model.specs.Shown.{shown_at, shown_in, subject, news, Calls, call_of, calls_from, calls_of, merge_of, merged}

-- ---- an item leaves what other subscriptions show

pub others_stay : (C : List Moment) (st : State) (i : Item) (r : ℕ) → (r == subject i) ≡ false → shown_in C (after st i).subs r ≡ shown_in C st.subs r
others_stay C st i r e = others_stay_at (λ (l : Live). shown_at C l.cursors l.cursor) [] st i r (λ s message cursors. refl) e

-- ---- the news of what is shown

module _ {K D : Type 0} {R : K → K → Ordering} (o : IsKeyOrder R) where
  sorted_renewed : (a : List (K × D)) (ns : List (K × Option D)) → IsSorted R a → IsSorted R (renewed R a ns)
  sorted_renewed a [] p = p
  sorted_renewed a (n ∷ ns) p = sorted_renewed (set R a n.0 n.1) ns (sorted-set o a n.0 n.1 p)

  renewed_at : (b a : List (K × D)) (ks : List K) (q : K) → IsSorted R a →
      at R (renewed R a (map (λ k. (k, at R b k)) ks)) q ≡ cond (list_any (eq_by_cmp R q) ks) (at R b q) (at R a q)
  renewed_at b a [] q p = refl
  renewed_at b a (k ∷ ks) q p =
      let a2 = set R a k (at R b k) in
      let rest = renewed_at b a2 ks q (sorted-set o a k (at R b k) p) in
      let here = at-set o a k (at R b k) q p in
      elim (eq_by_cmp R q k) as
      (λ c. eq_by_cmp R q k ≡ c → at R (renewed R a2 (map (λ x. (x, at R b x)) ks)) q ≡ cond (c || list_any (eq_by_cmp R q) ks) (at R b q) (at R a q)) [
        | true ↦ λ is.
            let same : at R a2 q ≡ at R b q = here ∙ (ap (λ c. cond c (at R b k) (at R a q)) is ∙ ap (at R b) (sym (key_is o q k is))) in
            rest ∙ (ap (λ x. cond (list_any (eq_by_cmp R q) ks) (at R b q) x) same
            ∙ elim (list_any (eq_by_cmp R q) ks) as (λ c. cond c (at R b q) (at R b q) ≡ at R b q) [ true ↦ refl | false ↦ refl ])
        | false ↦ λ is. rest ∙ ap (λ x. cond (list_any (eq_by_cmp R q) ks) (at R b q) x) (here ∙ ap (λ c. cond c (at R b k) (at R a q)) is)
      ] refl

  none_there : (x y : Option D) → is_some (option_or x y) ≡ false → (x ≡ None) × (y ≡ None)
  none_there None None e = (refl, refl)
  none_there None (Some d) e = cc e
  none_there (Some d) y e = cc e

  -- with the news of b the documents of a are those of b
  pub renewed_news : (a b : List (K × D)) → IsSorted R a → IsSorted R b → renewed R a (news R a b) ≡ b
  renewed_news a b p q = same_maps o (renewed R a (news R a b)) b (sorted_renewed a (news R a b) p) q (λ k.
      renewed_at b a (keys_of (union R a b)) k p
      ∙ elim (list_any (eq_by_cmp R k) (keys_of (union R a b))) as
      (λ c. list_any (eq_by_cmp R k) (keys_of (union R a b)) ≡ c → cond c (at R b k) (at R a k) ≡ at R b k) [
        | true ↦ λ is. refl
        | false ↦ λ is. let none = none_there (at R a k) (at R b k) (ap is_some (sym (at-union o a b k)) ∙ (is_some-at R (union R a b) k ∙ is)) in
            none.0 ∙ sym none.1
      ] refl)

-- ---- what the calls show

-- the documents of each moment are in order
abbrev pub AreInOrder : List Moment → Type 0
AreInOrder C = (place : ℕ) → IsSorted key_cmp (rows_at C place)

module _ (C : List Moment) (order : AreInOrder C) where
  sorted_at : (cursors : ACursors) (cursor : Option ℕ) → IsSorted key_cmp (shown_at C cursors cursor)
  sorted_at cursors None = sorted-nil key_cmp
  sorted_at cursors (Some place) = sorted_queried cursors (rows_at C place) (order place)

  pub sorted_shown : (ls : List Live) (s : ℕ) → IsSorted key_cmp (shown_in C ls s)
  sorted_shown [] s = sorted-nil key_cmp
  sorted_shown (l ∷ ls) s =
      let here = sorted_at l.cursors l.cursor in
      let rest = sorted_shown ls s in
      elim (s == l.sub) as (λ b. IsSorted key_cmp (cond b (shown_at C l.cursors l.cursor) (shown_in C ls s))) [ true ↦ here | false ↦ rest ]

  abbrev pub Shows : Calls → State → Type 0
  Shows past st = (r : ℕ) → shown key_cmp past r ≡ shown_in C st.subs r

  pub one_more : (past : Calls) (st : State) (i : Item) → Shows past st → Shows (call_of C st i ∷ past) (after st i)
  one_more past st i h r =
      let s = subject i in
      let a = shown_in C st.subs s in
      let b = shown_in C (after st i).subs s in
      elim (r == s) as
      (λ c. r == s ≡ c → cond c (renewed key_cmp (shown key_cmp past r) (news key_cmp a b)) (shown key_cmp past r) ≡ shown_in C (after st i).subs r) [
        | true ↦ λ is.
            let same : r ≡ s = eqb-true r s is in
            ap (λ m. renewed key_cmp m (news key_cmp a b)) (h r ∙ ap (shown_in C st.subs) same)
            ∙ (renewed_news key_order a b (sorted_shown st.subs s) (sorted_shown (after st i).subs s) ∙ sym (ap (shown_in C (after st i).subs) same))
        | false ↦ λ is. h r ∙ sym (others_stay C st i r is)
      ] refl

  -- what the calls of a journal show is what its subscriptions publish at their places
  pub calls_show_from : (past : Calls) (st : State) (items : List Item) → Shows past st → Shows (calls_from C past st items) (state_from st items)
  calls_show_from past st [] h = h
  calls_show_from past st (i ∷ items) h = calls_show_from (call_of C st i ∷ past) (after st i) items (one_more past st i h)

  pub calls_show : (items : List Item) (s : ℕ) → shown key_cmp (calls_of C items) s ≡ shown_in C (state_of items).subs s
  calls_show items s = calls_show_from [] started items (λ r. refl) s

-- ---- the merge

module _ (shows other : ℕ → Rows) (since : ℕ → Key → List ℕ → ℕ) (m : Rows) (same : (s : ℕ) → shows s ≡ other s) where
  -- the merge of what is shown alike is one
  pub merge_same : IsMerge key_cmp text_cmp shows since m → IsMerge key_cmp text_cmp other since m
  merge_same i = record {
    by_key = i.by_key;
    by_name = i.by_name;
    keys = λ k. (
      λ h. let w = (i.keys k).0 h in (w.0, subst (λ x. IsSome (at key_cmp x k)) (same w.0) w.1),
      λ w. (i.keys k).1 (w.0, subst (λ x. IsSome (at key_cmp x k)) (sym (same w.0)) w.1),
    );
    fields = λ k f v. (
      λ h. let w = (i.fields k f v).0 h in record {
        sub = w.sub;
        has = ap (λ x. field key_cmp text_cmp x k f) (sym (same w.sub)) ∙ w.has;
        longest = λ s apart there. w.longest s apart (subst (λ x. IsSome (field key_cmp text_cmp x k f)) (sym (same s)) there);
      },
      λ w. (i.fields k f v).1 (record {
        sub = w.sub;
        has = ap (λ x. field key_cmp text_cmp x k f) (same w.sub) ∙ w.has;
        longest = λ s apart there. w.longest s apart (subst (λ x. IsSome (field key_cmp text_cmp x k f)) (same s) there);
      }),
    );
  }

pub merge_is : (past : Calls) → IsMerge key_cmp text_cmp (shown key_cmp past) (shown_since key_cmp text_cmp past) (merge_of past)
merge_is past = merge_of_is key_order name_order past

-- the merge after a journal is that of what its live subscriptions show, each field with the value of the one that has published it longest
pub journal_merge : (C : List Moment) → AreInOrder C → (items : List Item) →
    IsMerge key_cmp text_cmp (shown_in C (state_of items).subs) (shown_since key_cmp text_cmp (calls_of C items)) (merged C items)
journal_merge C order items = merge_same (shown key_cmp (calls_of C items)) (shown_in C (state_of items).subs)
    (shown_since key_cmp text_cmp (calls_of C items)) (merged C items) (calls_show C order items) (merge_is (calls_of C items))
