-- Walks in order over the fields that are kept of a document: what is made of the fields so far, with the next one.
use Rattle.std.proofs.Common.{◌≡◌, List, [], ◌∷◌, ◌++◌, Option, Some, None, sym, ap, ap₂, subst, ◌∙◌, append_assoc, append-nil}
use Rattle.std.specs.declared.cmp.Ordering.{Ordering}
use Rattle.std.specs.BTreeMap.{insert_entry}
use Rattle.std.specs.Map.{keys_of}
use Rattle.std.proofs.lemmas.List.{map-append}
use Rattle.map_model.specs.Maps.{IsSorted, IsKeyOrder, keyed, filter_map_entries}
use Rattle.map_model.specs.OrderLaws.{put_next, pass_next, filter_map_entries-append}
use Rattle.kept_document.specs.Held.{put_some}

module _ {K X Y : Type 0} {R : K → K → Ordering} (o : IsKeyOrder R) (f : K → X → Option Y) (all done : List (K × X)) (k : K) (x : X) (rest : List (K × X)) (made : List (K × Y)) (whole : all ≡ done ++ (k, x) ∷ rest) (so_far : made ≡ filter_map_entries f done) where
  -- one more is put
  pub walk_put : (v : Y) → IsSorted R all → f k x ≡ Some v → insert_entry R made k v ≡ filter_map_entries f (done ++ (k, x) ∷ [])
  walk_put v s is = ap (λ m. insert_entry R m k v) so_far ∙ put_next o.total f done (k, x) rest v (subst (IsSorted R) whole s) is

  -- one is passed over
  pub walk_pass : f k x ≡ None → made ≡ filter_map_entries f (done ++ (k, x) ∷ [])
  walk_pass is = so_far ∙ pass_next f done (k, x) is

-- a walk goes on
pub walk_on : {A : Type 0} (all done : List A) (x : A) (left rest : List A) → all ≡ done ++ left → left ≡ x ∷ rest → all ≡ (done ++ x ∷ []) ++ rest
walk_on all done x left rest whole step = whole ∙ ap (λ l. done ++ l) step ∙ sym (append_assoc done (x ∷ []) rest)

-- the next one is put if there is a value
pub walk_put_some : {K X Y : Type 0} {R : K → K → Ordering} (o : IsKeyOrder R) (f : K → X → Option Y) (all done : List (K × X)) (k : K) (x : X) (rest : List (K × X)) (made : List (K × Y)) (w : Option Y)
    → all ≡ done ++ (k, x) ∷ rest → made ≡ filter_map_entries f done → IsSorted R all → f k x ≡ w → put_some R made k w ≡ filter_map_entries f (done ++ (k, x) ∷ [])
walk_put_some o f all done k x rest made None whole so_far s is = walk_pass o f all done k x rest made whole so_far is
walk_put_some o f all done k x rest made (Some v) whole so_far s is = walk_put o f all done k x rest made whole so_far v s is

-- the keys of what is made, with the next one
pub walk_keys : {K X Y : Type 0} (f : K → X → Option Y) (done : List (K × X)) (k : K) (x : X) (made : List K) (w : Option Y)
    → made ≡ keys_of (filter_map_entries f done) → f k x ≡ w → made ++ keys_of (keyed k w []) ≡ keys_of (filter_map_entries f (done ++ (k, x) ∷ []))
walk_keys f done k x made w so_far is =
    ap₂ (λ a b. a ++ keys_of (keyed k b [])) so_far (sym is)
    ∙ sym (map-append (λ e. e.0) (filter_map_entries f done) (keyed k (f k x) []))
    ∙ ap keys_of (sym (filter_map_entries-append f done (k, x)))

-- a walk that has ended has passed all
pub walk_end : {A : Type 0} (all done left : List A) → all ≡ done ++ left → left ≡ [] → done ≡ all
walk_end all done left whole ended = sym (whole ∙ ap (λ l. done ++ l) ended ∙ append-nil done)
