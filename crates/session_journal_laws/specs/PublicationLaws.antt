-- Laws of what cursors publish: it is the one answer of the whole query, and contents again.
use Rattle.std.specs.Prelude.{◌≡◌, ◌↔◌, List, [], ◌∷◌, ◌++◌, map, Bool, true, false, Option, Some, None, IfSome, unwrap_or, option_and_then}
use Rattle.std.specs.Prelude.{if◌then◌else◌, refl}
use Rattle.std.proofs.Common.{ap, sym, subst, ◌∙◌}
use Rattle.std.proofs.lemmas.List.{append_assoc, append-nil}
use Rattle.std.specs.Option.{option_or}
use Rattle.map_model.specs.Maps.{at, IsSorted}
use Rattle.map_model.specs.MapLaws.{same_maps}
use Rattle.value_model.specs.Val.{Entries, entries_of, fields_of}
use Rattle.value_model.specs.Size.{is_name}
use Rattle.ejson_value.specs.declared.key.Key.{Key}
use Rattle.ejson_value.specs.declared.change.Publish.{Publish}
use Rattle.ejson_value.specs.Key.{key_cmp, key_order, key_of}
use Rattle.ejson_value.specs.Rows.{Rows}
use Rattle.publication.specs.declared.cursor.Cursor.{Cursor}
use Rattle.publication.specs.Cursors.{ACursors}
use Rattle.publication.specs.Projected.{projected}
use Rattle.publication.specs.Published.{is_shown, published_of, published_by, published, publish_of, IsQuery}
use Rattle.publication.specs.Putting.{listed_behind}
use Rattle.publication.proofs.QueryLaws.{IsQuery-put_all}
use Rattle.session_model.specs.Kept.{IsStored, AreStored}
use Rattle.session_model.specs.Publication.{queried}
use Rattle.session_journal_laws.specs.ProjectedLaws.{projected_keepable}

listed : (so_far : List Publish) (rows : Rows) → listed_behind so_far rows ≡ so_far ++ map publish_of rows
listed so_far [] = sym (append-nil so_far)
listed so_far (row ∷ rows) = listed (so_far ++ publish_of row ∷ []) rows ∙ append_assoc so_far (publish_of row ∷ []) (map publish_of rows)

abbrev row_of : Publish → Key × Entries
row_of p = (p.key, unwrap_or p.new [])

row_back : (rows : Rows) → map row_of (map publish_of rows) ≡ rows
row_back [] = refl
row_back (row ∷ rows) = ap (λ rest. row ∷ rest) (row_back rows)

same_rows : (a b : Rows) → map publish_of a ≡ map publish_of b → a ≡ b
same_rows a b e = sym (row_back a) ∙ (ap (map row_of) e ∙ row_back b)

pub queried_answers : (cursors : ACursors) (rows : Rows) → IsSorted key_cmp rows → IsQuery cursors rows (map publish_of (queried cursors rows))
queried_answers cursors rows s = IsQuery-put_all cursors rows (map publish_of (queried cursors rows)) s (sym (listed [] (queried cursors rows)))

its_documents : (cursors : ACursors) (rows : Rows) (s : IsSorted key_cmp rows) → queried cursors rows ≡ (queried_answers cursors rows s).documents
its_documents cursors rows s = same_rows (queried cursors rows) _ (queried_answers cursors rows s).listed

pub sorted_queried : (cursors : ACursors) (rows : Rows) → IsSorted key_cmp rows → IsSorted key_cmp (queried cursors rows)
sorted_queried cursors rows s = subst (IsSorted key_cmp) (sym (its_documents cursors rows s)) (queried_answers cursors rows s).by_key

pub at_queried : (cursors : ACursors) (rows : Rows) (key : Key) → IsSorted key_cmp rows → at key_cmp (queried cursors rows) key ≡ published cursors rows key
at_queried cursors rows key s = ap (λ d. at key_cmp d key) (its_documents cursors rows s) ∙ (queried_answers cursors rows s).each key

pub only_queried : (cursors : ACursors) (rows : Rows) (answer : List Publish) → IsSorted key_cmp rows → IsQuery cursors rows answer →
    answer ≡ map publish_of (queried cursors rows)
only_queried cursors rows answer s q =
    q.listed ∙ ap (map publish_of)
    (same_maps key_order q.documents (queried cursors rows) q.by_key (sorted_queried cursors rows s) (λ key. q.each key ∙ sym (at_queried cursors rows key s)))

-- The whole query answers what is published, and nothing else is its answer.
pub query_is : (cursors : ACursors) (rows : Rows) (answer : List Publish) → IsSorted key_cmp rows →
    IsQuery cursors rows answer ↔ (answer ≡ map publish_of (queried cursors rows))
query_is cursors rows answer s = (only_queried cursors rows answer s, λ e. subst (IsQuery cursors rows) (sym e) (queried_answers cursors rows s))

-- ---- what is published is stored

either_stored : (key : Key) (a b : Option Entries) → IfSome a (IsStored key) → IfSome b (IsStored key) → IfSome (option_or a b) (IsStored key)
either_stored key None b p q = q
either_stored key (Some d) b p q = p

stored_of : (cursor : Cursor) (rows : Rows) (key : Key) (doc : Entries) → IsStored (key_of cursor.collection key.id) doc →
    IfSome (published_of cursor rows key.id doc) (IsStored key)
stored_of cursor rows key doc h = by (is_shown cursor rows key.id doc)
  where
    by : (b : Bool) → IfSome (if b then Some (entries_of (projected cursor.fields (fields_of doc))) else None) (IsStored key)
    by true = let k = projected_keepable cursor.fields doc (h.1, h.2) in (h.0, k.0, k.1)
    by false = tt

stored_at : (cursor : Cursor) (rows : Rows) (key : Key) (o : Option Entries) → IfSome o (IsStored (key_of cursor.collection key.id)) →
    IfSome (option_and_then (published_of cursor rows key.id) o) (IsStored key)
stored_at cursor rows key None h = tt
stored_at cursor rows key (Some doc) h = stored_of cursor rows key doc h

stored_by : (cursor : Cursor) (rows : Rows) (key : Key) → ((k : Key) → IfSome (at key_cmp rows k) (IsStored k)) →
    IfSome (published_by cursor rows key) (IsStored key)
stored_by cursor rows key all = by (is_name cursor.name key.collection)
  where
    by : (b : Bool) →
        IfSome (if b then option_and_then (published_of cursor rows key.id) (at key_cmp rows (key_of cursor.collection key.id)) else None) (IsStored key)
    by true = stored_at cursor rows key (at key_cmp rows (key_of cursor.collection key.id)) (all (key_of cursor.collection key.id))
    by false = tt

stored_published : (cursors : ACursors) (rows : Rows) (key : Key) → ((k : Key) → IfSome (at key_cmp rows k) (IsStored k)) →
    IfSome (published cursors rows key) (IsStored key)
stored_published [] rows key all = tt
stored_published (cursor ∷ cursors) rows key all = either_stored key (published cursors rows key) (published_by cursor rows key)
    (stored_published cursors rows key all) (stored_by cursor rows key all)

pub stored_queried : (cursors : ACursors) (rows : Rows) → IsSorted key_cmp rows → AreStored rows → AreStored (queried cursors rows)
stored_queried cursors rows s all key = subst (λ o. IfSome o (IsStored key)) (sym (at_queried cursors rows key s)) (stored_published cursors rows key all)
