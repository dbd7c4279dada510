-- What news of a window's rows say of contents, and of the window with it.
use Rattle.std.proofs.Common.{◌≡◌, ℕ, Bool, true, false, cond, List, [], ◌∷◌, map, option_map, Option, None, Some, refl, ap, sym, subst, ◌∙◌}
use Rattle.std.specs.Prelude.{option_and_then, unwrap_or, if◌then◌else◌}
use Rattle.std.specs.Option.{option_or}
use Rattle.std.specs.Ordering.{is_eq, eq_by_cmp}
use Rattle.std.specs.BTreeMap.{insert_entry}
use Rattle.std.specs.Map.{keys_of}
use Rattle.std.proofs.lemmas.Map.Keys.{sorted_head, sorted_tail}
use Rattle.std.proofs.lemmas.Slice.Eq.{bytes_eq-Decides}
use Rattle.map_model.specs.Maps.{at, set, IsSorted}
use Rattle.map_model.specs.MapLaws.{at-set, at-put, at-tail, sorted-set, sorted-put, sorted-nil, same_maps, key_is}
use Rattle.map_model.specs.Changes as model
use Rattle.map_model.specs.ChangeLaws.{sorted-changed}
use Rattle.value_model.specs.Val.{Entries}
use Rattle.value_model.specs.Size.{is_name}
use Rattle.value_model.specs.Order.{text_cmp}
use Rattle.ejson_value.specs.declared.key.Key.{Key}
use Rattle.ejson_value.specs.declared.change.Change.{Change}
use Rattle.ejson_value.specs.Key.{key_cmp, key_of, key_order, name_order}
use Rattle.ejson_value.specs.Rows.{Rows, rows_of}
use Rattle.ejson_value.specs.Changes.{changes_of}
use Rattle.selector_match.specs.Holds.{holds}
use Rattle.sort_window.specs.declared.rows.Row.{Row}
use Rattle.sort_window.specs.Shown.{RowMap, NewsMap}
use Rattle.publication.specs.declared.cursor.Cursor.{Cursor}
use Rattle.live_observer.specs.Observing.{row_of, window_rows, is_own}
use Rattle.live_observer.specs.Noting.{row_at, news_with, all_news, put_row, put_rows, rows_with}
use Rattle.live_observer.proofs.Matching.{own_name, same_collection, IsOf, of_collection, at_own, own_sorted, window_sorted, at_window}

-- a change in the collection changes the document with its id alone
pub own_at : (c : List ℕ) (rows : Rows) (key : Key) (w : Option Entries) (id : List ℕ) → IsSorted key_cmp rows → is_name c key.collection ≡ true → at key_cmp (set key_cmp rows key w) (key_of c id) ≡ cond (eq_by_cmp text_cmp id key.id) w (at key_cmp rows (key_of c id))
own_at c rows key w id s own =
    let of : key.collection ≡ c = sym ((bytes_eq-Decides c key.collection).0 own) in
    let same : eq_by_cmp key_cmp (key_of c id) key ≡ eq_by_cmp text_cmp id key.id = ap is_eq (same_collection c (key_of c id) key refl of) in
    at-set key_order rows key w (key_of c id) s ∙ ap (λ b. cond b w (at key_cmp rows (key_of c id))) same

-- a key of another collection is another one
pub other_key : (c : List ℕ) (key q : Key) → q.collection ≡ c → is_name c key.collection ≡ false → eq_by_cmp key_cmp q key ≡ false
other_key c key q of other =
    elim (eq_by_cmp key_cmp q key) as (λ b. eq_by_cmp key_cmp q key ≡ b → b ≡ false) [
      | true ↦ λ e.
          let is : key.collection ≡ c = ap (λ (k : Key). k.collection) (sym (key_is key_order q key e)) ∙ of in
          let own : is_name c key.collection ≡ true = ap (is_name c) is ∙ own_name c in
          cc
      | false ↦ λ e. refl
    ] refl

pub other_at : (c : List ℕ) (rows : Rows) (key : Key) (w : Option Entries) (id : List ℕ) → IsSorted key_cmp rows → is_name c key.collection ≡ false → at key_cmp (set key_cmp rows key w) (key_of c id) ≡ at key_cmp rows (key_of c id)
other_at c rows key w id s other =
    at-set key_order rows key w (key_of c id) s ∙ ap (λ b. cond b w (at key_cmp rows (key_of c id))) (other_key c key (key_of c id) refl other)

module _ (cursor : Cursor) where
  abbrev row_in : Rows → List ℕ → Option Row
  row_in rows id = row_at cursor id (at key_cmp rows (key_of cursor.collection id))

  -- with the news, the rows of the first contents that match are those of the others
  abbrev pub AreNews : Rows → Rows → NewsMap → Type 0
  AreNews rows rows' news = (id : List ℕ) → unwrap_or (at text_cmp news id) (row_in rows id) ≡ row_in rows' id

  own_news : (rows now : Rows) (news : NewsMap) (change : Change) → IsSorted key_cmp now → is_own cursor change ≡ true → AreNews rows now news →
      AreNews rows (set key_cmp now change.key change.after) (set text_cmp news change.key.id (Some (row_at cursor change.key.id change.after)))
  own_news rows now news change s own are id =
      let c = cursor.collection in
      let k = change.key.id in
      let new = row_at cursor k change.after in
      ap (λ w. unwrap_or w (row_in rows id)) (at-put name_order news k new id)
      ∙ elim (eq_by_cmp text_cmp id k)
      as (λ b. eq_by_cmp text_cmp id k ≡ b → unwrap_or (cond b (Some new) (at text_cmp news id)) (row_in rows id) ≡ row_at cursor id (cond b change.after (at key_cmp now (key_of c id)))) [
        | true ↦ λ e. sym (ap (λ i. row_at cursor i change.after) (key_is name_order id k e))
        | false ↦ λ e. are id
      ] refl
      ∙ sym (ap (row_at cursor id) (own_at c now change.key change.after id s own))

  one_news : (rows now : Rows) (news : NewsMap) (change : Change) → IsSorted key_cmp now → AreNews rows now news → AreNews rows (set key_cmp now change.key change.after) (news_with cursor news change)
  one_news rows now news change s are =
      elim (is_own cursor change)
      as (λ b. is_own cursor change ≡ b → AreNews rows (set key_cmp now change.key change.after) (if b then set text_cmp news change.key.id (Some (row_at cursor change.key.id change.after)) else news)) [
        | true ↦ λ own. own_news rows now news change s own are
        | false ↦ λ other id. are id ∙ sym (ap (row_at cursor id) (other_at cursor.collection now change.key change.after id s other))
      ] refl

  pub all_are_news : (rows now : Rows) (news : NewsMap) (changes : List Change) → IsSorted key_cmp now → AreNews rows now news → AreNews rows (model.changed key_cmp now (changes_of changes)) (all_news cursor news changes)
  all_are_news rows now news [] s are = are
  all_are_news rows now news (change ∷ changes) s are =
      all_are_news rows (set key_cmp now change.key change.after) (news_with cursor news change) changes (sorted-set key_order now change.key change.after s) (one_news rows now news change s are)

  news_sorted : (news : NewsMap) (change : Change) → IsSorted text_cmp news → IsSorted text_cmp (news_with cursor news change)
  news_sorted news change s =
      elim (is_own cursor change) as (λ b. IsSorted text_cmp (if b then set text_cmp news change.key.id (Some (row_at cursor change.key.id change.after)) else news)) [
        | true ↦ sorted-put name_order news change.key.id (row_at cursor change.key.id change.after) s
        | false ↦ s
      ]

  pub all_news_sorted : (news : NewsMap) (changes : List Change) → IsSorted text_cmp news → IsSorted text_cmp (all_news cursor news changes)
  all_news_sorted news [] s = s
  all_news_sorted news (change ∷ changes) s = all_news_sorted (news_with cursor news change) changes (news_sorted news change s)

  -- news of the documents that match
  abbrev told_row : Option Row → Option (Option Row)
  told_row row = option_map (λ (r : Row). Some r) row

  put_sorted : (news : NewsMap) (id : List ℕ) (doc : Entries) → IsSorted text_cmp news → IsSorted text_cmp (put_row cursor news id doc)
  put_sorted news id doc s =
      elim (holds cursor.selector id doc) as (λ b. IsSorted text_cmp (if b then set text_cmp news id (Some (Some (row_of cursor doc))) else news)) [
        | true ↦ sorted-put name_order news id (Some (row_of cursor doc)) s
        | false ↦ s
      ]

  pub put_all_sorted : (news : NewsMap) (rows : Rows) → IsSorted text_cmp news → IsSorted text_cmp (put_rows cursor news rows)
  put_all_sorted news [] s = s
  put_all_sorted news (row ∷ rows) s = put_all_sorted (put_row cursor news row.0.id row.1) rows (put_sorted news row.0.id row.1 s)

  at_put_row : (news : NewsMap) (k : List ℕ) (doc : Entries) (id : List ℕ) → at text_cmp (put_row cursor news k doc) id ≡ cond (eq_by_cmp text_cmp id k) (option_or (told_row (row_at cursor k (Some doc))) (at text_cmp news id)) (at text_cmp news id)
  at_put_row news k doc id =
      let before = at text_cmp news id in
      elim (holds cursor.selector k doc)
      as (λ b. at text_cmp (if b then set text_cmp news k (Some (Some (row_of cursor doc))) else news) id ≡ cond (eq_by_cmp text_cmp id k) (option_or (told_row (if b then Some (row_of cursor doc) else None)) before) before) [
        | true ↦ at-put name_order news k (Some (row_of cursor doc)) id
        | false ↦
            elim (eq_by_cmp text_cmp id k) as (λ b. before ≡ cond b before before) [
              | true ↦ refl
              | false ↦ refl
            ]
      ]

  at_put_rows : (news : NewsMap) (rows : Rows) (id : List ℕ) → IsOf cursor.collection rows → IsSorted key_cmp rows → at text_cmp (put_rows cursor news rows) id ≡ option_or (told_row (row_in rows id)) (at text_cmp news id)
  at_put_rows news [] id of s = refl
  at_put_rows news (row ∷ rows) id of s =
      let c = cursor.collection in
      let k = row.0.id in
      let before = at text_cmp news id in
      let more = sorted_tail key_cmp _ _ s in
      let rest = at_put_rows (put_row cursor news k row.1) rows id of.1 more in
      let same : eq_by_cmp key_cmp (key_of c id) row.0 ≡ eq_by_cmp text_cmp id k = ap is_eq (same_collection c (key_of c id) row.0 refl of.0) in
      rest ∙ ap (option_or (told_row (row_in rows id))) (at_put_row news k row.1 id)
      ∙ elim (eq_by_cmp text_cmp id k)
      as (λ b. eq_by_cmp text_cmp id k ≡ b → option_or (told_row (row_in rows id)) (cond b (option_or (told_row (row_at cursor k (Some row.1))) before) before) ≡ option_or (told_row (row_at cursor id (cond b (Some row.1) (at key_cmp rows (key_of c id))))) before) [
        | true ↦ λ e.
            let none = at-tail key_order row rows (key_of c id) s (same ∙ e) in
            ap (λ o. option_or (told_row (row_at cursor id o)) (option_or (told_row (row_at cursor k (Some row.1))) before)) none
            ∙ sym (ap (λ i. option_or (told_row (row_at cursor i (Some row.1))) before) (key_is name_order id k e))
        | false ↦ λ e. refl
      ] refl
      ∙ sym (ap (λ b. option_or (told_row (row_at cursor id (cond b (Some row.1) (at key_cmp rows (key_of c id))))) before) same)

  unwrap_told : (row : Option Row) → unwrap_or (option_or (told_row row) None) None ≡ row
  unwrap_told None = refl
  unwrap_told (Some r) = refl

  -- from no contents
  pub all_from_none : (rows : Rows) → IsSorted key_cmp rows → AreNews [] rows (put_rows cursor [] (rows_of cursor.collection rows))
  all_from_none rows s id =
      let c = cursor.collection in
      ap (λ w. unwrap_or w None) (at_put_rows [] (rows_of c rows) id (of_collection c rows) (own_sorted c rows s))
      ∙ unwrap_told (row_in (rows_of c rows) id)
      ∙ ap (row_at cursor id) (at_own c rows id s)

  -- rows with news have at an id what the news say, or what they had
  pub at_rows_with : (rows : RowMap) (news : NewsMap) (id : List ℕ) → IsSorted text_cmp rows → IsSorted text_cmp news → at text_cmp (rows_with rows news) id ≡ unwrap_or (at text_cmp news id) (at text_cmp rows id)
  at_rows_with rows [] id s t = refl
  at_rows_with rows (one ∷ news) id s t =
      let rest = at_rows_with (set text_cmp rows one.0 one.1) news id (sorted-set name_order rows one.0 one.1 s) (sorted_tail text_cmp _ _ t) in
      rest ∙ ap (unwrap_or (at text_cmp news id)) (at-set name_order rows one.0 one.1 id s)
      ∙ elim (eq_by_cmp text_cmp id one.0)
      as (λ b. eq_by_cmp text_cmp id one.0 ≡ b → unwrap_or (at text_cmp news id) (cond b one.1 (at text_cmp rows id)) ≡ unwrap_or (cond b (Some one.1) (at text_cmp news id)) (at text_cmp rows id)) [
        | true ↦ λ e. ap (λ w. unwrap_or w one.1) (at-tail name_order one news id t e)
        | false ↦ λ e. refl
      ] refl

  rows_with_sorted : (rows : RowMap) (news : NewsMap) → IsSorted text_cmp rows → IsSorted text_cmp (rows_with rows news)
  rows_with_sorted rows [] s = s
  rows_with_sorted rows (one ∷ news) s = rows_with_sorted (set text_cmp rows one.0 one.1) news (sorted-set name_order rows one.0 one.1 s)

  -- a window with the news has the documents that match then
  pub window_follows : (rows rows' : Rows) (news : NewsMap) → IsSorted key_cmp rows → IsSorted key_cmp rows' → IsSorted text_cmp news → AreNews rows rows' news → rows_with (window_rows cursor rows) news ≡ window_rows cursor rows'
  window_follows rows rows' news s s' t are =
      same_maps name_order (rows_with (window_rows cursor rows) news) (window_rows cursor rows') (rows_with_sorted (window_rows cursor rows) news (window_sorted cursor rows s)) (window_sorted cursor rows' s')
      (λ id. at_rows_with (window_rows cursor rows) news id (window_sorted cursor rows s) t ∙ ap (unwrap_or (at text_cmp news id)) (at_window cursor rows s id) ∙ are id ∙ sym (at_window cursor rows' s' id))

-- what the changes of a plan say is what the news say
pub rows_said : (rows : RowMap) (changes : List (model.Change (List ℕ) Row)) → model.changed text_cmp rows changes ≡ rows_with rows (map {B = List ℕ × Option Row} (λ (c : model.Change (List ℕ) Row). (c.key, c.after)) changes)
rows_said rows [] = refl
rows_said rows (c ∷ changes) = rows_said (set text_cmp rows c.key c.after) changes
