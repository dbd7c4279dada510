-- Where no change is of a document in a cursor's collection, the cursors publish what they did.
use Rattle.std.proofs.Common.{◌≡◌, ℕ, Bool, true, false, cond, List, [], ◌∷◌, map, Option, None, Some, refl, ap, sym, subst, ◌∙◌}
use Rattle.std.specs.Prelude.{◌||◌, IfSome, count_by, filter, option_and_then, ◌&&◌, if◌then◌else◌}
use Rattle.std.specs.Option.{option_or}
use Rattle.std.specs.List.{AllByRecursion, list_any}
use Rattle.std.specs.Ordering.{eq_by_cmp}
use Rattle.std.proofs.lemmas.Option.{none-some}
use Rattle.std.proofs.lemmas.Map.Entries.{option_filter}
use Rattle.std.proofs.lemmas.Slice.Eq.{bytes_eq-Decides}
use Rattle.map_model.specs.Maps.{at, set, IsSorted}
use Rattle.map_model.specs.MapLaws.{at-set, at-filter, sorted-set, sorted-filter, sorted-nil, same_maps}
use Rattle.map_model.specs.Changes as model
use Rattle.value_model.specs.Val.{Entries, fields_of, entries_of}
use Rattle.value_model.specs.Size.{is_name}
use Rattle.ejson_value.specs.declared.key.Key.{Key}
use Rattle.ejson_value.specs.declared.change.Change.{Change}
use Rattle.ejson_value.specs.Key.{key_cmp, key_of, key_order}
use Rattle.ejson_value.specs.Rows.{Rows, rows_of}
use Rattle.ejson_value.specs.Changes.{changes_of}
use Rattle.selector_match.specs.Holds.{holds}
use Rattle.sort_window.specs.Windows.{WindowState}
use Rattle.publication.specs.declared.cursor.Cursor.{Cursor}
use Rattle.publication.specs.Projected.{projected}
use Rattle.publication.specs.Published.{Documents, document_of, matching, rank, is_within, published, published_by}
use Rattle.live_observer.specs.declared.watched.Watched.{Watched}
use Rattle.live_observer.specs.Observing.{AnObserver, cursors_of, IsAt, StandsAt, row_of, window_rows, Follows, IsStep, carried, is_own, touches}
use Rattle.live_observer.specs.Noting.{seen}
use Rattle.live_observer.proofs.Matching.{at_own}
use Rattle.live_observer.proofs.News.{other_key}

neither : (a b : Bool) → (a || b) ≡ false → (a ≡ false) × (b ≡ false)
neither true b e = cc
neither false b e = (refl, e)

filtered_none : (o : Option Entries) (b : Bool) → b ≡ false → option_filter (λ (_ : Entries). b) o ≡ None
filtered_none None b e = refl
filtered_none (Some d) b e = ap (λ b. cond b (Some d) None) e

-- a change of another collection
rows_kept : (c : List ℕ) (rows : Rows) (key : Key) (w : Option Entries) → IsSorted key_cmp rows → is_name c key.collection ≡ false → rows_of c (set key_cmp rows key w) ≡ rows_of c rows
rows_kept c rows key w s other =
    let own = λ (row : Key × Entries). is_name row.0.collection c in
    let next = set key_cmp rows key w in
    let t = sorted-set key_order rows key w s in
    same_maps key_order (rows_of c next) (rows_of c rows) (sorted-filter key_order own next t) (sorted-filter key_order own rows s)
    (λ (q : Key). at-filter key_order own next q t
    ∙ elim (is_name q.collection c)
    as (λ b. is_name q.collection c ≡ b → option_filter (λ (_ : Entries). is_name q.collection c) (at key_cmp next q) ≡ option_filter (λ (_ : Entries). is_name q.collection c) (at key_cmp rows q)) [
      | true ↦ λ e.
          let of : q.collection ≡ c = (bytes_eq-Decides q.collection c).0 e in
          ap (option_filter (λ (_ : Entries). is_name q.collection c)) (at-set key_order rows key w q s ∙ ap (λ b. cond b w (at key_cmp rows q)) (other_key c key q of other))
      | false ↦ λ e. filtered_none (at key_cmp next q) (is_name q.collection c) e ∙ sym (filtered_none (at key_cmp rows q) (is_name q.collection c) e)
    ] refl
    ∙ sym (at-filter key_order own rows q s))

-- none of the changes is of a document in the cursor's collection
abbrev pub IsElsewhere : Cursor → List Change → Type 0
IsElsewhere cursor changes = AllByRecursion (λ (change : Change). is_own cursor change ≡ false) changes

all_kept : (cursor : Cursor) (rows : Rows) (changes : List Change) → IsSorted key_cmp rows → IsElsewhere cursor changes → rows_of cursor.collection (model.changed key_cmp rows (changes_of changes)) ≡ rows_of cursor.collection rows
all_kept cursor rows [] s other = refl
all_kept cursor rows (change ∷ changes) s other =
    all_kept cursor (set key_cmp rows change.key change.after) changes (sorted-set key_order rows change.key change.after s) other.1
    ∙ rows_kept cursor.collection rows change.key change.after s other.0

changed_sorted : (rows : Rows) (changes : List Change) → IsSorted key_cmp rows → IsSorted key_cmp (model.changed key_cmp rows (changes_of changes))
changed_sorted rows [] s = s
changed_sorted rows (change ∷ changes) s = changed_sorted (set key_cmp rows change.key change.after) changes (sorted-set key_order rows change.key change.after s)

-- what a cursor publishes, by the rows of its collection
abbrev seen_in : Cursor → Rows → List ℕ → Option Entries → Option Entries
seen_in cursor own id o = option_and_then (λ doc. if holds cursor.selector id doc && is_within cursor.limit (rank cursor (filter (λ (d : List ℕ × Entries). holds cursor.selector d.0 d.1) (map document_of own)) id doc) then Some (entries_of (projected cursor.fields (fields_of doc))) else None) o

seen_same : (cursor : Cursor) (rows rows' : Rows) (id : List ℕ) → IsSorted key_cmp rows → IsSorted key_cmp rows' → rows_of cursor.collection rows' ≡ rows_of cursor.collection rows → seen cursor rows id ≡ seen cursor rows' id
seen_same cursor rows rows' id s t same =
    let c = cursor.collection in
    let k = key_of c id in
    let there : at key_cmp rows k ≡ at key_cmp rows' k = sym (at_own c rows id s) ∙ ap (λ m. at key_cmp m k) (sym same) ∙ at_own c rows' id t in
    let first : seen_in cursor (rows_of c rows) id (at key_cmp rows k) ≡ seen_in cursor (rows_of c rows) id (at key_cmp rows' k) = ap (seen_in cursor (rows_of c rows) id) there in
    first ∙ ap (λ own. seen_in cursor own id (at key_cmp rows' k)) (sym same)

window_same : (cursor : Cursor) (rows rows' : Rows) → rows_of cursor.collection rows' ≡ rows_of cursor.collection rows → window_rows cursor rows ≡ window_rows cursor rows'
window_same cursor rows rows' same = ap (λ own. map (λ (d : List ℕ × Entries). (d.0, row_of cursor d.1)) (filter (λ (d : List ℕ × Entries). holds cursor.selector d.0 d.1) (map document_of own))) (sym same)

stands_if : (w : Watched) (rows rows' : Rows) → window_rows w.cursor rows ≡ window_rows w.cursor rows' → (o : Option WindowState) → IfSome o (λ window. window.rows ≡ window_rows w.cursor rows) → IfSome o (λ window. window.rows ≡ window_rows w.cursor rows')
stands_if w rows rows' same None is = tt
stands_if w rows rows' same (Some window) is = is ∙ same

module _ (changes : List Change) (rows rows' : Rows) (s : IsSorted key_cmp rows) (ends : model.changed key_cmp rows (changes_of changes) ≡ rows') where
  sorted' : IsSorted key_cmp rows'
  sorted' = subst (λ m. IsSorted key_cmp m) ends (changed_sorted rows changes s)

  kept_in : (cursor : Cursor) → IsElsewhere cursor changes → rows_of cursor.collection rows' ≡ rows_of cursor.collection rows
  kept_in cursor other = ap (rows_of cursor.collection) (sym ends) ∙ all_kept cursor rows changes s other

  abbrev pub AllElsewhere : AnObserver → Type 0
  AllElsewhere watched = AllByRecursion (λ (w : Watched). IsElsewhere w.cursor changes) watched

  pub published_same : (watched : AnObserver) (key : Key) → AllElsewhere watched → published (cursors_of watched) rows key ≡ published (cursors_of watched) rows' key
  published_same [] key other = refl
  published_same (w ∷ watched) key other =
      ap (λ o. option_or o (published_by w.cursor rows key)) (published_same watched key other.1)
      ∙ ap (λ o. option_or (published (cursors_of watched) rows' key) (if is_name w.cursor.name key.collection then o else None)) (seen_same w.cursor rows rows' key.id s sorted' (kept_in w.cursor other.0))

  pub stand_same : (watched : AnObserver) → AllElsewhere watched → StandsAt watched rows → StandsAt watched rows'
  stand_same [] other stand = tt
  stand_same (w ∷ watched) other stand = (stands_if w rows rows' (window_same w.cursor rows rows' (kept_in w.cursor other.0)) w.window stand.0, stand_same watched other.1 stand.1)

-- no cursor is touched
one_elsewhere : (watched : AnObserver) (change : Change) → list_any (λ (w : Watched). is_own w.cursor change) watched ≡ false → AllByRecursion (λ (w : Watched). is_own w.cursor change ≡ false) watched
one_elsewhere [] change none = tt
one_elsewhere (w ∷ watched) change none =
    let both = neither (is_own w.cursor change) (list_any (λ (w : Watched). is_own w.cursor change) watched) none in
    (both.0, one_elsewhere watched change both.1)

nowhere : (watched : AnObserver) → AllByRecursion (λ (w : Watched). IsElsewhere w.cursor []) watched
nowhere [] = tt
nowhere (w ∷ watched) = (tt, nowhere watched)

and_elsewhere : (watched : AnObserver) (change : Change) (changes : List Change) → AllByRecursion (λ (w : Watched). is_own w.cursor change ≡ false) watched → AllByRecursion (λ (w : Watched). IsElsewhere w.cursor changes) watched → AllByRecursion (λ (w : Watched). IsElsewhere w.cursor (change ∷ changes)) watched
and_elsewhere [] change changes a b = tt
and_elsewhere (w ∷ watched) change changes a b = ((a.0, b.0), and_elsewhere watched change changes a.1 b.1)

all_elsewhere : (watched : AnObserver) (changes : List Change) → touches watched changes ≡ false → AllByRecursion (λ (w : Watched). IsElsewhere w.cursor changes) watched
all_elsewhere watched [] none = nowhere watched
all_elsewhere watched (change ∷ changes) none =
    let both = neither (list_any (λ (w : Watched). is_own w.cursor change) watched) (touches watched changes) none in
    and_elsewhere watched change changes (one_elsewhere watched change both.0) (all_elsewhere watched changes both.1)

carried_nothing : (watched : AnObserver) → watched ≡ carried watched []
carried_nothing [] = refl
carried_nothing (w ∷ watched) = refl

-- the empty answer is the difference
pub no_step : (watched : AnObserver) (changes : List Change) (rows rows' : Rows) → touches watched changes ≡ false → Follows watched changes rows rows' → IsStep watched rows rows' [] []
no_step watched changes rows rows' none f =
    let other = all_elsewhere watched changes none in
    record {
      differs = record {
        by_key = sorted-nil key_cmp;
        quiet = λ key e. published_same changes rows rows' f.by_key f.leads.ends watched key other;
        news = λ key doc e. absurd (none-some doc e);
      };
      lands = subst (λ (w : AnObserver). StandsAt w rows') (carried_nothing watched) (stand_same changes rows rows' f.by_key f.leads.ends watched other f.stands);
    }
