-- Maps that are made in order.
use Rattle.std.proofs.Common.{◌≡◌, List, ℕ, ◌∷◌, ◌++◌, [], ap, subst, ◌∙◌}
use Rattle.std.proofs.lemmas.List.{map-append}
use Rattle.std.proofs.lemmas.Cmp.{nat_list_cmp_total}
use Rattle.std.specs.BTreeMap.{insert_entry}
use Rattle.std.specs.Map.{keys_of}
use Rattle.std.specs.List.Sorted.{IsStrictlySortedBy}
use Rattle.map_model.specs.Maps.{IsSorted}
use Rattle.map_model.specs.OrderLaws.{put_last, IsAbove-from_sorted}
use Rattle.value_model.specs.Order.{text_cmp}

-- the next entry of a map by names goes last
pub put_behind_all : {X : Type 0} (all es : List (List ℕ × X)) (name : List ℕ) (x : X) (more : List (List ℕ × X)) → all ≡ es ++ (name, x) ∷ more → IsSorted text_cmp all → insert_entry text_cmp es name x ≡ es ++ (name, x) ∷ []
put_behind_all all es name x more is sorted =
    put_last text_cmp es name x (IsAbove-from_sorted nat_list_cmp_total (keys_of es) name (keys_of more) (subst (IsStrictlySortedBy text_cmp) (ap keys_of is ∙ map-append (λ e. e.0) es ((name, x) ∷ more)) sorted))
