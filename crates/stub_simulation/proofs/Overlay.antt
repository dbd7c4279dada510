-- A view with what is left at changed keys.
use Rattle.std.specs.Prelude.{filter, Option, Some, None, not, ◌&&◌, ◌||◌}
use Rattle.std.specs.List.{list_any}
use Rattle.std.specs.Option.{option_or}
use Rattle.std.specs.Map.{keys_of}
use Rattle.std.specs.Ordering.{eq_by_cmp}
use Rattle.std.specs.BTreeMap.{insert_entry}
use Rattle.std.specs.BTreeSet.{insert_key}
use Rattle.std.proofs.Common.{◌≡◌, ℕ, Bool, true, false, cond, List, [], ◌∷◌, refl, sym, ap, ap₂, ◌∙◌}
use Rattle.std.proofs.lemmas.Map.Entries.{option_filter}
use Rattle.std.proofs.lemmas.Map.Keys.{sorted_tail}
use Rattle.map_model.specs.Maps.{at, set, IsSorted}
use Rattle.map_model.specs.MapLaws.{same_maps, at-union, sorted-union, at-filter, sorted-filter, at-set, sorted-set, at-put, sorted-put, at-tail, sorted-nil}
use Rattle.map_model.specs.Changes.{changed}
use Rattle.value_model.specs.Val.{Entries}
use Rattle.value_model.specs.Size.{is_name}
use Rattle.ejson_value.specs.declared.key.Key.{Key}
use Rattle.ejson_value.specs.declared.change.Change.{Change}
use Rattle.ejson_value.specs.Key.{key_cmp, key_order}
use Rattle.ejson_value.specs.Rows.{Rows, rows_of}
use Rattle.ejson_value.specs.Changes.{changes_of}
use Rattle.selector_match.specs.Query.{Query}
use Rattle.selector_match.specs.Holds.{holds}
use Rattle.collection_store.specs.Applied.{matching}
use Rattle.program_model.specs.Touched.{keys_put}
use Rattle.stub_simulation.specs.Simulating.{changed_keys}
use Rattle.stub_simulation.specs.Drafts.{shown, all_put}
use Rattle.stub_simulation.proofs.Meaning.{among_put}

abbrev Row : Type 0
Row = Key × Entries

abbrev among : List Key → Key → Bool
among keys k = list_any (eq_by_cmp key_cmp k) keys

-- nothing is left elsewhere
abbrev pub Within : List Key → Rows → Type 0
Within keys left = (k : Key) → among keys k ≡ false → at key_cmp left k ≡ None

filter_none : {X : Type 0} (o : Option X) → option_filter (λ x. false) o ≡ None
filter_none None = refl
filter_none (Some x) = refl

filter_all : {X : Type 0} (o : Option X) → option_filter (λ x. true) o ≡ o
filter_all None = refl
filter_all (Some x) = refl

or_none : {X : Type 0} (o : Option X) → option_or o None ≡ o
or_none None = refl
or_none (Some x) = refl

-- ---- what is shown

pub sorted_shown : (view : Rows) (keys : List Key) (left : Rows) → IsSorted key_cmp view → IsSorted key_cmp (shown view keys left)
sorted_shown view keys left s = sorted-union key_order left (filter (λ (row : Row). not (among keys row.0)) view) (sorted-filter key_order (λ (row : Row). not (among keys row.0)) view s)

at_either : (view : Rows) (keys : List Key) (left : Rows) (q : Key) → IsSorted key_cmp view → at key_cmp (shown view keys left) q ≡ option_or (at key_cmp left q) (option_filter (λ v. not (among keys q)) (at key_cmp view q))
at_either view keys left q s =
    at-union key_order left (filter (λ (row : Row). not (among keys row.0)) view) q
    ∙ ap (option_or (at key_cmp left q)) (at-filter key_order (λ (row : Row). not (among keys row.0)) view q s)

-- what is left at a changed key, and elsewhere what the view has
pub at_shown : (view : Rows) (keys : List Key) (left : Rows) (q : Key) → IsSorted key_cmp view → Within keys left → at key_cmp (shown view keys left) q ≡ cond (among keys q) (at key_cmp left q) (at key_cmp view q)
at_shown view keys left q s w =
    at_either view keys left q s
    ∙ elim (among keys q) as (λ b. among keys q ≡ b → option_or (at key_cmp left q) (option_filter (λ v. not b) (at key_cmp view q)) ≡ cond b (at key_cmp left q) (at key_cmp view q)) [
      | true ↦ λ e. ap (option_or (at key_cmp left q)) (filter_none (at key_cmp view q)) ∙ or_none (at key_cmp left q)
      | false ↦ λ e. ap (λ o. option_or o (option_filter (λ v. true) (at key_cmp view q))) (w q e) ∙ filter_all (at key_cmp view q)
    ] refl

-- nothing changed yet
pub none_shown : (view : Rows) → shown view [] [] ≡ view
none_shown [] = refl
none_shown (row ∷ view) = ap (λ rows. row ∷ rows) (none_shown view)

-- ---- one change more

put_shown : (view : Rows) (keys : List Key) (left : Rows) (k : Key) (w : Option Entries) → IsSorted key_cmp view → IsSorted key_cmp left
    → shown view (insert_key key_cmp keys k) (set key_cmp left k w) ≡ set key_cmp (shown view keys left) k w
put_shown view keys left k w s t =
    let before = shown view keys left in
    let after = shown view (insert_key key_cmp keys k) (set key_cmp left k w) in
    same_maps key_order after (set key_cmp before k w) (sorted_shown view (insert_key key_cmp keys k) (set key_cmp left k w) s) (sorted-set key_order before k w (sorted_shown view keys left s)) (λ q.
    at_either view (insert_key key_cmp keys k) (set key_cmp left k w) q s
    ∙ ap₂ (λ o b. option_or o (option_filter (λ v. not b) (at key_cmp view q))) (at-set key_order left k w q t) (among_put keys k q)
    ∙ elim (eq_by_cmp key_cmp q k) as (λ b. option_or (cond b w (at key_cmp left q)) (option_filter (λ v. not (b || among keys q)) (at key_cmp view q)) ≡ cond b w (at key_cmp before q)) [
      | true ↦ ap (option_or w) (filter_none (at key_cmp view q)) ∙ or_none w
      | false ↦ sym (at_either view keys left q s)
    ]
    ∙ sym (at-set key_order before k w q (sorted_shown view keys left s)))

put_within : (keys : List Key) (left : Rows) (k : Key) (w : Option Entries) → IsSorted key_cmp left → Within keys left → Within (insert_key key_cmp keys k) (set key_cmp left k w)
put_within keys left k w t h = λ q none.
    at-set key_order left k w q t
    ∙ elim (eq_by_cmp key_cmp q k) as (λ b. (b || among keys q) ≡ false → cond b w (at key_cmp left q) ≡ None) [
      | true ↦ λ e. cc e
      | false ↦ λ e. h q e
    ] (sym (among_put keys k q) ∙ none)

-- ---- several

pub changed_shown : (view : Rows) (keys : List Key) (left : Rows) (cs : List Change) → IsSorted key_cmp view → IsSorted key_cmp left
    → shown view (keys_put keys (changed_keys cs)) (changed key_cmp left (changes_of cs)) ≡ changed key_cmp (shown view keys left) (changes_of cs)
changed_shown view keys left [] s t = refl
changed_shown view keys left (c ∷ cs) s t =
    changed_shown view (insert_key key_cmp keys c.key) (set key_cmp left c.key c.after) cs s (sorted-set key_order left c.key c.after t)
    ∙ ap (λ rows. changed key_cmp rows (changes_of cs)) (put_shown view keys left c.key c.after s t)

pub changed_within : (keys : List Key) (left : Rows) (cs : List Change) → IsSorted key_cmp left → Within keys left → Within (keys_put keys (changed_keys cs)) (changed key_cmp left (changes_of cs))
changed_within keys left [] t h = h
changed_within keys left (c ∷ cs) t h = changed_within (insert_key key_cmp keys c.key) (set key_cmp left c.key c.after) cs (sorted-set key_order left c.key c.after t) (put_within keys left c.key c.after t h)

-- ---- what a selector holds of

sorted_all_put : (rows more : Rows) → IsSorted key_cmp rows → IsSorted key_cmp (all_put rows more)
sorted_all_put rows [] s = s
sorted_all_put rows (row ∷ more) s = sorted_all_put (insert_entry key_cmp rows row.0 row.1) more (sorted-put key_order rows row.0 row.1 s)

at_all_put : (rows more : Rows) (q : Key) → IsSorted key_cmp more → at key_cmp (all_put rows more) q ≡ option_or (at key_cmp more q) (at key_cmp rows q)
at_all_put rows [] q s = refl
at_all_put rows (row ∷ more) q s =
    at_all_put (insert_entry key_cmp rows row.0 row.1) more q (sorted_tail key_cmp row.0 (keys_of more) s)
    ∙ ap (option_or (at key_cmp more q)) (at-put key_order rows row.0 row.1 q)
    ∙ elim (eq_by_cmp key_cmp q row.0) as (λ b. eq_by_cmp key_cmp q row.0 ≡ b → option_or (at key_cmp more q) (cond b (Some row.1) (at key_cmp rows q)) ≡ option_or (cond b (Some row.1) (at key_cmp more q)) (at key_cmp rows q)) [
      | true ↦ λ e. ap (λ o. option_or o (Some row.1)) (at-tail key_order row more q s e)
      | false ↦ λ e. refl
    ] refl

abbrev both_tests : (Row → Bool) → (Row → Bool) → Key → Option Entries → Option Entries
both_tests p r q o = option_filter (λ v. r (q, v)) (option_filter (λ v. p (q, v)) o)

at_both : (p r : Row → Bool) (rows : Rows) (q : Key) → IsSorted key_cmp rows → at key_cmp (filter r (filter p rows)) q ≡ both_tests p r q (at key_cmp rows q)
at_both p r rows q s = at-filter key_order r (filter p rows) q (sorted-filter key_order p rows s) ∙ ap (option_filter (λ v. r (q, v))) (at-filter key_order p rows q s)

joined : (p r : Entries → Bool) (b : Bool) (l v : Option Entries) → (b ≡ false → l ≡ None)
    → option_or (option_filter r (option_filter p l)) (option_filter (λ x. not b && r x) (option_filter p v)) ≡ option_filter r (option_filter p (cond b l v))
joined p r true l v h = ap (option_or (option_filter r (option_filter p l))) (filter_none (option_filter p v)) ∙ or_none (option_filter r (option_filter p l))
joined p r false l v h = ap (λ o. option_or (option_filter r (option_filter p o)) (option_filter (λ x. not false && r x) (option_filter p v))) (h refl)

-- the documents that match are those of the view that are as they were, and those that are left
pub found_shown : (view : Rows) (keys : List Key) (left : Rows) (collection : List ℕ) (selector : Query) → IsSorted key_cmp view → IsSorted key_cmp left → Within keys left
    → all_put (all_put [] (filter (λ (row : Row). not (among keys row.0) && holds selector row.0.id row.1) (rows_of collection view))) (matching collection selector left) ≡ matching collection selector (shown view keys left)
found_shown view keys left collection selector s t h =
    let p = λ (row : Row). is_name row.0.collection collection in
    let r = λ (row : Row). holds selector row.0.id row.1 in
    let f = λ (row : Row). not (among keys row.0) && holds selector row.0.id row.1 in
    let rows = shown view keys left in
    let fresh = filter f (filter p view) in
    let of_view = sorted-filter key_order f (filter p view) (sorted-filter key_order p view s) in
    let of_left = sorted-filter key_order r (filter p left) (sorted-filter key_order p left t) in
    same_maps key_order (all_put (all_put [] fresh) (filter r (filter p left))) (filter r (filter p rows))
    (sorted_all_put (all_put [] fresh) (filter r (filter p left)) (sorted_all_put [] fresh (sorted-nil key_cmp)))
    (sorted-filter key_order r (filter p rows) (sorted-filter key_order p rows (sorted_shown view keys left s))) (λ q.
    at_all_put (all_put [] fresh) (filter r (filter p left)) q of_left
    ∙ ap₂ option_or (at_both p r left q t) (at_all_put [] fresh q of_view ∙ or_none (at key_cmp fresh q) ∙ at_both p f view q s)
    ∙ joined (λ v. p (q, v)) (λ v. r (q, v)) (among keys q) (at key_cmp left q) (at key_cmp view q) (h q)
    ∙ ap (both_tests p r q) (sym (at_shown view keys left q s h))
    ∙ sym (at_both p r rows q (sorted_shown view keys left s)))
