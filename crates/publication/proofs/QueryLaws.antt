-- Contents into which every published document was put have at each key what is published there.
use Rattle.std.specs.Prelude.{if◌then◌else◌, map, option_and_then}
use Rattle.std.specs.Option.{option_or}
use Rattle.std.specs.Cmp.{tied_itself}
use Rattle.std.specs.List.{AllByRecursion}
use Rattle.std.specs.Map.{keys_of}
use Rattle.std.specs.declared.cmp.Ordering.{Ordering}
use Rattle.std.specs.declared.cmp.Ordering.TheVariants.{Less, Equal, Greater}
use Rattle.std.specs.Ordering.{eq_by_cmp, is_eq}
use Rattle.std.proofs.Common.{◌≡◌, ℕ, Bool, true, false, cond, Option, None, Some, List, [], ◌∷◌, ◌++◌, refl, ap, sym, subst, ◌∙◌}
use Rattle.std.proofs.lemmas.List.{append_assoc, append-nil}
use Rattle.std.proofs.lemmas.Slice.Eq.{bytes_eq-Decides}
use Rattle.std.proofs.lemmas.Map.Keys.{sorted_head, sorted_tail}
use Rattle.map_model.specs.Maps.{at, IsSorted}
use Rattle.map_model.specs.MapLaws.{at-set, sorted-set, sorted-nil}
use Rattle.value_model.specs.Val.{Entries}
use Rattle.value_model.specs.Size.{is_name}
use Rattle.ejson_value.specs.declared.key.Key.{Key}
use Rattle.ejson_value.specs.declared.change.Publish.{Publish}
use Rattle.ejson_value.specs.Key.{key_cmp, key_total, key_exact, key_order, key_of}
use Rattle.ejson_value.specs.Rows.{Rows, rows_of}
use Rattle.publication.specs.declared.cursor.Cursor.{Cursor}
use Rattle.publication.specs.Cursors.{ACursors}
use Rattle.publication.specs.Published.{published_of, published_by, published, publish_of, IsQuery}
use Rattle.publication.specs.Putting.{Publishing, row_published, put_document, put_row, put_rows, put_own, published_at, put_all, listed_behind}

tie : (o : Ordering) → is_eq o ≡ true → o ≡ Equal
tie Less e = cc
tie Equal e = refl
tie Greater e = cc

same : (a b : Key) → eq_by_cmp key_cmp a b ≡ true → a ≡ b
same a b e = key_exact a b (tie (key_cmp a b) e)

less_apart : (o : Ordering) → o ≡ Less → is_eq o ≡ false
less_apart o e = ap is_eq e

itself : (a : Key) → eq_by_cmp key_cmp a a ≡ true
itself a = ap is_eq (tied_itself key_total a)

named : (a b : List ℕ) → is_name a b ≡ true → a ≡ b
named a b e = (bytes_eq-Decides a b).0 e

own_name : (a : List ℕ) → is_name a a ≡ true
own_name a = (bytes_eq-Decides a a).1 refl

-- no row behind the first has its key
none_behind : (key : Key) (rows : Rows) → AllByRecursion (λ k. key_cmp key k ≡ Less) (keys_of rows) → at key_cmp rows key ≡ None
none_behind key [] h = refl
none_behind key (row ∷ rows) h = ap (λ b. cond b (Some row.1) (at key_cmp rows key)) (less_apart (key_cmp key row.0) h.0) ∙ none_behind key rows h.1

sorted-put_document : (found : Rows) (key : Key) (o : Option Entries) → IsSorted key_cmp found → IsSorted key_cmp (put_document found key o)
sorted-put_document found key None s = s
sorted-put_document found key (Some doc) s = sorted-set key_order found key (Some doc) s

at-put_document : (found : Rows) (q : Key) (o : Option Entries) (key : Key) → IsSorted key_cmp found → at key_cmp (put_document found q o) key ≡ option_or (if eq_by_cmp key_cmp key q then o else None) (at key_cmp found key)
at-put_document found q None key s = elim (eq_by_cmp key_cmp key q) as (λ b. at key_cmp found key ≡ option_or (if b then None else None) (at key_cmp found key)) [ true ↦ refl | false ↦ refl ]
at-put_document found q (Some doc) key s =
    at-set key_order found q (Some doc) key s
    ∙ elim (eq_by_cmp key_cmp key q) as (λ b. cond b (Some doc) (at key_cmp found key) ≡ option_or (if b then Some doc else None) (at key_cmp found key)) [ true ↦ refl | false ↦ refl ]

both_ways : (a b : Bool) → (a ≡ true → b ≡ true) → (b ≡ true → a ≡ true) → a ≡ b
both_ways true true f g = refl
both_ways true false f g = sym (f refl)
both_ways false true f g = g refl
both_ways false false f g = refl

-- a key with the document's own id is the key under which the cursor publishes it where its collection is the cursor's name
names_decide : (cursor : Cursor) (key : Key) → eq_by_cmp key_cmp key (key_of cursor.name key.id) ≡ is_name cursor.name key.collection
names_decide cursor key =
    both_ways (eq_by_cmp key_cmp key (key_of cursor.name key.id)) (is_name cursor.name key.collection)
    (λ e. ap (λ (k : Key). is_name cursor.name k.collection) (same key (key_of cursor.name key.id) e) ∙ own_name cursor.name)
    (λ e. let is : cursor.name ≡ key.collection = named cursor.name key.collection e in ap (λ n. eq_by_cmp key_cmp key (key_of n key.id)) is ∙ itself key)

neither : (a b : Bool) (w : Option Entries) → (a ≡ true → b ≡ true → ⊥) → (if a then (if b then w else None) else None) ≡ None
neither true true w h = absurd (h refl refl)
neither true false w h = refl
neither false b w h = refl

first_none : (n : Bool) (f : Entries → Option Entries) (w rest : Option Entries) → w ≡ None → option_or (if n then option_and_then f w else None) rest ≡ rest
first_none true f w rest e = ap (λ o. option_or (option_and_then f o) rest) e
first_none false f w rest e = refl

by_case : (here n : Bool) (f : Entries → Option Entries) (doc : Entries) (behind put before : Option Entries) →
    (here ≡ true → behind ≡ None) → (here ≡ true → put ≡ (if n then f doc else None)) → (here ≡ false → put ≡ None) →
    option_or (if n then option_and_then f behind else None) (option_or put before) ≡ option_or (if n then option_and_then f (cond here (Some doc) behind) else None) before
by_case true n f doc behind put before none is no_other =
    first_none n f behind (option_or put before) (none refl) ∙ ap (λ o. option_or o before) (is refl)
by_case false n f doc behind put before none is no_other =
    ap (λ o. option_or (if n then option_and_then f behind else None) (option_or o before)) (no_other refl)

module _ (shown : Publishing) (cursor : Cursor) where
  -- what is published of the rows at a key
  abbrev shown_by : Rows → Key → Option Entries
  shown_by rows key = if is_name cursor.name key.collection then option_and_then (shown key.id) (at key_cmp rows (key_of cursor.collection key.id)) else None

  -- what is put where the row is the document that the key stands for
  put_here : (key : Key) (doc : Entries) (at_key : Key) → eq_by_cmp key_cmp (key_of cursor.collection key.id) at_key ≡ true →
      (if eq_by_cmp key_cmp key (key_of cursor.name at_key.id) then row_published shown cursor at_key doc else None) ≡ (if is_name cursor.name key.collection then shown key.id doc else None)
  put_here key doc at_key e =
      let is = same (key_of cursor.collection key.id) at_key e in
      subst (λ (k : Key). (if eq_by_cmp key_cmp key (key_of cursor.name k.id) then row_published shown cursor k doc else None) ≡ (if is_name cursor.name key.collection then shown key.id doc else None)) is
      (ap (λ b. if eq_by_cmp key_cmp key (key_of cursor.name key.id) then (if b then shown key.id doc else None) else None) (own_name cursor.collection)
      ∙ ap (λ b. if b then shown key.id doc else None) (names_decide cursor key))

  -- and nothing is put at the key where it isn't
  nothing_else : (key : Key) (doc : Entries) (row : Key) → eq_by_cmp key_cmp (key_of cursor.collection key.id) row ≡ false →
      (if eq_by_cmp key_cmp key (key_of cursor.name row.id) then row_published shown cursor row doc else None) ≡ None
  nothing_else key doc row apart =
      let here = eq_by_cmp key_cmp key (key_of cursor.name row.id) in
      let of = is_name row.collection cursor.collection in
      let never : here ≡ true → of ≡ true → ⊥ = λ e f.
      let ids : key.id ≡ row.id = ap (λ (k : Key). k.id) (same key (key_of cursor.name row.id) e) in
      let collections : row.collection ≡ cursor.collection = named row.collection cursor.collection f in
      let is : eq_by_cmp key_cmp (key_of cursor.collection key.id) row ≡ true = ap (λ i. eq_by_cmp key_cmp (key_of cursor.collection i) row) ids ∙ (ap (λ n. eq_by_cmp key_cmp (key_of n row.id) row) (sym collections) ∙ itself row) in
      cc in
      neither here of (shown row.id doc) never

  -- one more row put
  next_row : (found : Rows) (row : Key × Entries) (rows : Rows) (key : Key) → IsSorted key_cmp found → IsSorted key_cmp (row ∷ rows) →
      option_or (shown_by rows key) (at key_cmp (put_row shown found cursor row.0 row.1) key) ≡ option_or (shown_by (row ∷ rows) key) (at key_cmp found key)
  next_row found row rows key s t =
      let wanted = key_of cursor.collection key.id in
      let n = is_name cursor.name key.collection in
      let here = eq_by_cmp key_cmp wanted row.0 in
      let put = if eq_by_cmp key_cmp key (key_of cursor.name row.0.id) then row_published shown cursor row.0 row.1 else None in
      let before = at key_cmp found key in
      ap (λ o. option_or (shown_by rows key) o) (at-put_document found (key_of cursor.name row.0.id) (row_published shown cursor row.0 row.1) key s)
      ∙ by_case here n (shown key.id) row.1 (at key_cmp rows wanted) put before
      (λ e. ap (λ k. at key_cmp rows k) (same wanted row.0 e) ∙ none_behind row.0 rows (sorted_head key_cmp row.0 (keys_of rows) t))
      (λ e. put_here key row.1 row.0 e)
      (λ e. nothing_else key row.1 row.0 e)

  sorted-put_row : (found : Rows) (row : Key × Entries) → IsSorted key_cmp found → IsSorted key_cmp (put_row shown found cursor row.0 row.1)
  sorted-put_row found row s = sorted-put_document found (key_of cursor.name row.0.id) (row_published shown cursor row.0 row.1) s

  at-put_rows : (found rows : Rows) (key : Key) → IsSorted key_cmp found → IsSorted key_cmp rows → at key_cmp (put_rows shown found cursor rows) key ≡ option_or (shown_by rows key) (at key_cmp found key)
  at-put_rows found [] key s t = sym (first_none (is_name cursor.name key.collection) (shown key.id) None (at key_cmp found key) refl)
  at-put_rows found (row ∷ rows) key s t =
      at-put_rows (put_row shown found cursor row.0 row.1) rows key (sorted-put_row found row s) (sorted_tail key_cmp row.0 (keys_of rows) t)
      ∙ next_row found row rows key s t

  sorted-put_rows : (found rows : Rows) → IsSorted key_cmp found → IsSorted key_cmp (put_rows shown found cursor rows)
  sorted-put_rows found [] s = s
  sorted-put_rows found (row ∷ rows) s = sorted-put_rows (put_row shown found cursor row.0 row.1) rows (sorted-put_row found row s)

  -- the rows of the cursor's collection put what all rows put
  pub own_rows : (found rows : Rows) → put_own shown found cursor (rows_of cursor.collection rows) ≡ put_rows shown found cursor rows
  own_rows found [] = refl
  own_rows found (row ∷ rows) =
      let key = key_of cursor.name row.0.id in
      let rest = rows_of cursor.collection rows in
      let here = shown row.0.id row.1 in
      let with_it = own_rows (put_document found key here) rows in
      let without = own_rows found rows in
      elim (is_name row.0.collection cursor.collection) as (λ b. put_own shown found cursor (cond b (row ∷ rest) rest) ≡ put_rows shown (put_document found key (if b then here else None)) cursor rows) [ true ↦ with_it | false ↦ without ]

  -- where documents of one id alone are published
  module _ (id : List ℕ) (only : (i : List ℕ) (doc : Entries) → (i ≡ id → ⊥) → shown i doc ≡ None) where
    -- nothing is put of a row with another key
    nothing_shown : (row : Key) (doc : Entries) → eq_by_cmp key_cmp (key_of cursor.collection id) row ≡ false → row_published shown cursor row doc ≡ None
    nothing_shown row doc apart =
        elim (is_name row.collection cursor.collection) as (λ b. is_name row.collection cursor.collection ≡ b → (if b then shown row.id doc else None) ≡ None) [
          | true ↦ λ e.
              only row.id doc (λ is_id.
              let ids : id ≡ row.id = sym is_id in
              let collections : cursor.collection ≡ row.collection = sym (named row.collection cursor.collection e) in
              let is : eq_by_cmp key_cmp (key_of cursor.collection id) row ≡ true = ap (λ i. eq_by_cmp key_cmp (key_of cursor.collection i) row) ids ∙ (ap (λ n. eq_by_cmp key_cmp (key_of n row.id) row) collections ∙ itself row) in
              cc)
          | false ↦ λ e. refl
        ] refl

    -- the row with this id puts what all rows put
    pub named_rows : (found rows : Rows) → IsSorted key_cmp rows → put_rows shown found cursor rows ≡ put_document found (key_of cursor.name id) (published_at shown cursor rows id)
    named_rows found [] s = refl
    named_rows found (row ∷ rows) s =
        let wanted = key_of cursor.collection id in
        let key = key_of cursor.name id in
        let behind = at key_cmp rows wanted in
        let more = sorted_tail key_cmp row.0 (keys_of rows) s in
        elim (eq_by_cmp key_cmp wanted row.0)
        as (λ b. eq_by_cmp key_cmp wanted row.0 ≡ b → put_rows shown (put_row shown found cursor row.0 row.1) cursor rows ≡ put_document found key (option_and_then (shown id) (cond b (Some row.1) behind))) [
          | true ↦ λ e.
              let is : wanted ≡ row.0 = same wanted row.0 e in
              let found' = put_document found key (shown id row.1) in
              let put : put_row shown found cursor row.0 row.1 ≡ found' = ap (λ (k : Key). put_row shown found cursor k row.1) (sym is) ∙ ap (λ b. put_document found key (if b then shown id row.1 else None)) (own_name cursor.collection) in
              let none : behind ≡ None = ap (λ k. at key_cmp rows k) is ∙ none_behind row.0 rows (sorted_head key_cmp row.0 (keys_of rows) s) in
              ap (λ f. put_rows shown f cursor rows) put ∙ (named_rows found' rows more ∙ ap (λ o. put_document found' key (option_and_then (shown id) o)) none)
          | false ↦ λ e.
              let put : put_row shown found cursor row.0 row.1 ≡ found = ap (λ o. put_document found (key_of cursor.name row.0.id) o) (nothing_shown row.0 row.1 e) in
              ap (λ f. put_rows shown f cursor rows) put ∙ named_rows found rows more
        ] refl

or_assoc : (a b c : Option Entries) → option_or a (option_or b c) ≡ option_or (option_or a b) c
or_assoc None b c = refl
or_assoc (Some d) b c = refl

or_none : (a : Option Entries) → option_or a None ≡ a
or_none None = refl
or_none (Some d) = refl

at-put_all : (cursors : ACursors) (found rows : Rows) (key : Key) → IsSorted key_cmp found → IsSorted key_cmp rows → at key_cmp (put_all found cursors rows) key ≡ option_or (published cursors rows key) (at key_cmp found key)
at-put_all [] found rows key s t = refl
at-put_all (cursor ∷ cursors) found rows key s t =
    at-put_all cursors (put_rows (published_of cursor rows) found cursor rows) rows key (sorted-put_rows (published_of cursor rows) cursor found rows s) t
    ∙ (ap (λ o. option_or (published cursors rows key) o) (at-put_rows (published_of cursor rows) cursor found rows key s t)
    ∙ or_assoc (published cursors rows key) (published_by cursor rows key) (at key_cmp found key))

sorted-put_all : (cursors : ACursors) (found rows : Rows) → IsSorted key_cmp found → IsSorted key_cmp (put_all found cursors rows)
sorted-put_all [] found rows s = s
sorted-put_all (cursor ∷ cursors) found rows s = sorted-put_all cursors (put_rows (published_of cursor rows) found cursor rows) rows (sorted-put_rows (published_of cursor rows) cursor found rows s)

listed : (so_far : List Publish) (rows : Rows) → listed_behind so_far rows ≡ so_far ++ map publish_of rows
listed so_far [] = sym (append-nil so_far)
listed so_far (row ∷ rows) = listed (so_far ++ publish_of row ∷ []) rows ∙ append_assoc so_far (publish_of row ∷ []) (map publish_of rows)

pub IsQuery-put_all : (cursors : ACursors) (rows : Rows) (answer : List Publish) → IsSorted key_cmp rows → answer ≡ listed_behind [] (put_all [] cursors rows) → IsQuery cursors rows answer
IsQuery-put_all cursors rows answer t is = record {
  documents = put_all [] cursors rows;
  listed = is ∙ listed [] (put_all [] cursors rows);
  by_key = sorted-put_all cursors [] rows (sorted-nil key_cmp);
  each = λ key. at-put_all cursors [] rows key (sorted-nil key_cmp) t ∙ or_none (published cursors rows key);
}
