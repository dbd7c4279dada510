-- Sums over rows and over changes of them.
use Rattle.std.specs.Prelude.{sum_by, nat_lt, ◌||◌}
use Rattle.std.specs.List.{AllByRecursion, IsDistinct}
use Rattle.std.specs.Map.{keys_of, remove_entry}
use Rattle.std.specs.BTreeMap.{is_at, insert_entry}
use Rattle.std.specs.declared.cmp.Ordering.TheVariants.{Less, Equal, Greater}
use Rattle.std.specs.Ordering.{is_eq, eq_by_cmp, match_ordering}
use Rattle.std.proofs.Common.{◌≡◌, ℕ, ◌+◌, ◌≤◌, true, false, cond, List, [], ◌∷◌, map, length, Option, Some, None, refl, ap, sym, subst, ◌∙◌, arith}
use Rattle.std.proofs.lemmas.Bool.{le-ltb}
use Rattle.std.proofs.lemmas.List.Sums.{sum_by-cons}
use Rattle.std.proofs.lemmas.List.Elements.{All-nil, All-cons, All-head, All-tail}
use Rattle.std.proofs.lemmas.Map.Keys.{sorted_head, sorted_tail}
use Rattle.map_model.specs.Maps.{at, set, IsSorted}
use Rattle.map_model.specs.MapLaws.{sorted-set}
use Rattle.map_model.specs.Changes.{Fit}
use Rattle.value_model.specs.Val.{Entries}
use Rattle.ejson_value.specs.declared.key.Key.{Key}
use Rattle.ejson_value.specs.declared.change.Change.{Change}
use Rattle.ejson_value.specs.Key.{key_cmp, key_total, key_order}
use Rattle.ejson_value.specs.Rows.{Rows}
use Rattle.ejson_value.specs.Changes.{changes_of}
use Rattle.ejson_value.specs.ChangeLaws.{AllFit, HaveDistinctKeys, Fit-from_all}
use Rattle.collection_store.specs.Limits.{bytes_of, size_if, old_bytes, new_bytes, max_documents, max_bytes, is_full}
use Rattle.collection_store.specs.Applied.{after}
use Rattle.collection_store.specs.Answered.{AreFor}

-- no row behind the key is at it
none_behind : (key : Key) (rows : Rows) → AllByRecursion (λ k. key_cmp key k ≡ Less) (keys_of rows) → at key_cmp rows key ≡ None
none_behind key [] h = refl
none_behind key (row ∷ rows) h = ap (λ o. cond (is_eq o) (Some row.1) (at key_cmp rows key)) h.0 ∙ none_behind key rows h.1

behind_all : (key first : Key) (ks : List Key) → key_cmp key first ≡ Less → AllByRecursion (λ k. key_cmp first k ≡ Less) ks → AllByRecursion (λ k. key_cmp key k ≡ Less) ks
behind_all key first [] e h = tt
behind_all key first (k ∷ ks) e h = (key_total.trans key first k e h.0, behind_all key first ks e h.1)

-- a weight of documents, of none where there is none
module _ (weight : Option Entries → ℕ) (nothing : weight None ≡ 0) where
  removed_sum : (rows : Rows) (key : Key) →
      sum_by (λ (row : Key × Entries). weight (Some row.1)) (remove_entry (is_at (key_cmp key)) rows) + weight (at key_cmp rows key) ≡ sum_by (λ (row : Key × Entries). weight (Some row.1)) rows
  removed_sum [] key = omega (arith, nothing)
  removed_sum (row ∷ rows) key =
      let f = λ (row : Key × Entries). weight (Some row.1) in
      let rest = removed_sum rows key in
      let left = remove_entry (is_at (key_cmp key)) rows in
      elim (is_at (key_cmp key) row.0)
      as (λ b. sum_by f (cond b rows (row ∷ left)) + weight (cond b (Some row.1) (at key_cmp rows key)) ≡ sum_by f (row ∷ rows)) [
        | true ↦ omega (arith, sum_by-cons f row rows)
        | false ↦ omega (arith, sum_by-cons f row rows, sum_by-cons f row left, rest)
      ]

  put_sum : (rows : Rows) (key : Key) (doc : Entries) → IsSorted key_cmp rows →
      sum_by (λ (row : Key × Entries). weight (Some row.1)) (insert_entry key_cmp rows key doc) + weight (at key_cmp rows key) ≡ sum_by (λ (row : Key × Entries). weight (Some row.1)) rows + weight (Some doc)
  put_sum [] key doc s = omega (arith, nothing, sum_by-cons (λ (row : Key × Entries). weight (Some row.1)) (key, doc) [])
  put_sum (row ∷ rows) key doc s =
      let f = λ (row : Key × Entries). weight (Some row.1) in
      let rest = put_sum rows key doc (sorted_tail key_cmp row.0 (keys_of rows) s) in
      let put = insert_entry key_cmp rows key doc in
      elim (key_cmp key row.0)
      as (λ o. key_cmp key row.0 ≡ o → sum_by f (match_ordering o ((key, doc) ∷ row ∷ rows) ((row.0, doc) ∷ rows) (row ∷ put)) + weight (cond (is_eq o) (Some row.1) (at key_cmp rows key)) ≡ sum_by f (row ∷ rows) + weight (Some doc)) [
        | Less ↦ λ e.
            let none : weight (at key_cmp rows key) ≡ 0 = ap weight (none_behind key rows (behind_all key row.0 (keys_of rows) e (sorted_head key_cmp row.0 (keys_of rows) s))) ∙ nothing in
            omega (arith, none, sum_by-cons f (key, doc) (row ∷ rows))
        | Equal ↦ λ e. omega (arith, sum_by-cons f row rows, sum_by-cons f (row.0, doc) rows)
        | Greater ↦ λ e. omega (arith, sum_by-cons f row rows, sum_by-cons f row put, rest)
      ] refl

  set_sum : (rows : Rows) (key : Key) (w : Option Entries) → IsSorted key_cmp rows →
      sum_by (λ (row : Key × Entries). weight (Some row.1)) (set key_cmp rows key w) + weight (at key_cmp rows key) ≡ sum_by (λ (row : Key × Entries). weight (Some row.1)) rows + weight w
  set_sum rows key None s = omega (arith, nothing, removed_sum rows key)
  set_sum rows key (Some doc) s = put_sum rows key doc s

  -- what changes add and take away
  pub changed_sum : (rows : Rows) (cs : List Change) → IsSorted key_cmp rows → Fit key_cmp rows (changes_of cs) →
      sum_by (λ (row : Key × Entries). weight (Some row.1)) (after rows cs) + sum_by (λ (c : Change). weight c.before) cs ≡ sum_by (λ (row : Key × Entries). weight (Some row.1)) rows + sum_by (λ (c : Change). weight c.after) cs
  changed_sum rows [] s fit = refl
  changed_sum rows (c ∷ cs) s fit =
      let now = set key_cmp rows c.key c.after in
      omega (
        arith,
        changed_sum now cs (sorted-set key_order rows c.key c.after s) fit.1,
        set_sum rows c.key c.after s,
        ap weight fit.0,
        sum_by-cons (λ (c : Change). weight c.before) c cs,
        sum_by-cons (λ (c : Change). weight c.after) c cs,
      )

pub bytes-after : (rows : Rows) (cs : List Change) → IsSorted key_cmp rows → AreFor rows cs → bytes_of (after rows cs) + old_bytes cs ≡ bytes_of rows + new_bytes cs
bytes-after rows cs s for = changed_sum size_if refl rows cs s (Fit-from_all rows cs s for.apart for.fit)

-- the changes, each of which takes its document out
emptied : Change → Change
emptied c = record { key = c.key; before = c.before; after = None }

same_keys : (cs : List Change) → map (λ (c : Change). c.key) (map emptied cs) ≡ map (λ (c : Change). c.key) cs
unfolding emptied
same_keys [] = refl
same_keys (c ∷ cs) = ap (λ ks. c.key ∷ ks) (same_keys cs)

still_fit : (rows : Rows) (cs : List Change) → AllFit rows cs → AllFit rows (map emptied cs)
unfolding emptied
still_fit rows [] fit = All-nil (λ (c : Change). at key_cmp rows c.key ≡ c.before)
still_fit rows (c ∷ cs) fit =
    let P = λ (c : Change). at key_cmp rows c.key ≡ c.before in
    All-cons P (emptied c) (map emptied cs) (All-head P c cs fit) (still_fit rows cs (All-tail P c cs fit))

same_old : (cs : List Change) → old_bytes (map emptied cs) ≡ old_bytes cs
unfolding emptied
same_old [] = refl
same_old (c ∷ cs) = omega (arith, same_old cs, sum_by-cons (λ (c : Change). size_if c.before) c cs, sum_by-cons (λ (c : Change). size_if c.before) (emptied c) (map emptied cs))

no_new : (cs : List Change) → new_bytes (map emptied cs) ≡ 0
unfolding emptied
no_new [] = refl
no_new (c ∷ cs) = omega (arith, no_new cs, sum_by-cons (λ (c : Change). size_if c.after) (emptied c) (map emptied cs))

-- the documents that changes replace are among all
pub old_bytes-le : (rows : Rows) (cs : List Change) → IsSorted key_cmp rows → AreFor rows cs → old_bytes cs ≤ bytes_of rows
old_bytes-le rows cs s for =
    let gone = map emptied cs in
    let apart : HaveDistinctKeys gone = subst (λ ks. IsDistinct (eq_by_cmp key_cmp) ks) (sym (same_keys cs)) for.apart in
    omega (arith, bytes-after rows gone s (record { fit = still_fit rows cs for.fit; apart = apart }), same_old cs, no_new cs)

-- one for each document
abbrev pub one_if : Option Entries → ℕ
one_if None = 0
one_if (Some doc) = 1

pub length-sum : (rows : Rows) → length rows ≡ sum_by (λ (row : Key × Entries). one_if (Some row.1)) rows
length-sum [] = refl
length-sum (row ∷ rows) = omega (arith, length-sum rows, sum_by-cons (λ (row : Key × Entries). one_if (Some row.1)) row rows)

pub length-after : (rows : Rows) (cs : List Change) → IsSorted key_cmp rows → AreFor rows cs → length (after rows cs) + sum_by (λ (c : Change). one_if c.before) cs ≡ length rows + sum_by (λ (c : Change). one_if c.after) cs
length-after rows cs s for =
    omega (arith, length-sum rows, length-sum (after rows cs), changed_sum one_if refl rows cs s (Fit-from_all rows cs s for.apart for.fit))

-- the new documents are among all
pub new_bytes-le : (rows : Rows) (cs : List Change) → IsSorted key_cmp rows → AreFor rows cs → new_bytes cs ≤ bytes_of (after rows cs)
new_bytes-le rows cs s for = omega (arith, bytes-after rows cs s for, old_bytes-le rows cs s for)

pub not_full : (rows : Rows) (cs : List Change) (room : ℕ) → length rows ≤ max_documents → bytes_of rows ≤ max_bytes → new_bytes cs ≤ room → is_full rows cs room ≡ false
not_full rows cs room few small fits =
    ap (λ b. b || nat_lt max_bytes (bytes_of rows) || nat_lt room (new_bytes cs)) (le-ltb max_documents (length rows) few)
    ∙ (ap (λ b. b || nat_lt room (new_bytes cs)) (le-ltb max_bytes (bytes_of rows) small) ∙ le-ltb room (new_bytes cs) fits)
