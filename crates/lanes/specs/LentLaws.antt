-- Values that are lent to be written.
use Rattle.std.specs.Prelude.{◌≡◌, ℕ, List, [], ◌∷◌, Bool, true, false, cond, Option, None, Some, IsSome, is_some, refl}
use Rattle.std.specs.Map.{lookup, set_value}
use Rattle.std.specs.BTreeMap.{is_at, insert_entry}
use Rattle.std.specs.Ordering.{eq_by_cmp}
use Rattle.std.proofs.Common.{ap, sym, subst, ◌∙◌}
use Rattle.std.proofs.lemmas.Cmp.{nat_list_cmp_total, eq_by_cmp_equiv}
use Rattle.map_model.specs.Maps.{at, IsSorted}
use Rattle.map_model.specs.MapLaws.{same_maps, sorted-put, at-put}
use Rattle.value_model.specs.Order.{text_cmp}
use Rattle.ejson_value.specs.Key.{name_order}
use Rattle.lanes.specs.Lanes.{Named, VisitBy, IsVisit, IsWritten}
use Rattle.lanes.specs.UnionsLaws.{visited_some, visited_none}

module _ {X : Type 0} where
  none_set : (test : List ℕ → Bool) (es : Named X) (w : X) → lookup test es ≡ None → set_value test es w ≡ es
  none_set test [] w e = refl
  none_set test (e ∷ es) w none = by (test e.0) none (λ is. none_set test es w is)
    where
      by : (b : Bool) → cond b (Some e.1) (lookup test es) ≡ None → (lookup test es ≡ None → set_value test es w ≡ es) →
          cond b ((e.0, w) ∷ es) (e ∷ set_value test es w) ≡ e ∷ es
      by true is rest = cc is
      by false is rest = ap (λ (ys : Named X). e ∷ ys) (rest is)

  -- as a map's `get_mut` says it
  pub lent : (old new : Named X) (name : List ℕ) (w : X) → IsSorted text_cmp old → IsSorted text_cmp new → new ≡ set_value (is_at (text_cmp name)) old w →
      (IsSome (at text_cmp old name) → (q : List ℕ) → at text_cmp new q ≡ cond (eq_by_cmp text_cmp name q) (Some w) (at text_cmp old q)) →
      IsWritten old name w new
  lent old new name w sorted rising set is = by (at text_cmp old name) refl
    where
      by : (o : Option X) → at text_cmp old name ≡ o → IsWritten old name w new
      by None none = visited_none (λ x y r. y ≡ w) tt old new name tt none (set ∙ none_set (is_at (text_cmp name)) old w none) refl
      by (Some x) found =
          visited_some (λ x y r. y ≡ w) tt old new name x w tt found
          (same_maps name_order new (insert_entry text_cmp old name w) rising (sorted-put name_order old name w sorted)
          (λ q. is (ap is_some found) q
          ∙ (ap (λ c. cond c (Some w) (at text_cmp old q)) ((eq_by_cmp_equiv nat_list_cmp_total).symm name q) ∙ sym (at-put name_order old name w q))))
          refl

  pub written_sorted : (a b : Named X) (name : List ℕ) (w : X) → IsWritten a name w b → IsSorted text_cmp a → IsSorted text_cmp b
  written_sorted a b name w v sorted = by (at text_cmp a name) v
    where
      by : (o : Option X) → VisitBy {R = Unit {0}} o (λ x y r. y ≡ w) tt a b name tt → IsSorted text_cmp b
      by None v = subst (λ (y : Named X). IsSorted text_cmp y) (sym v.0) sorted
      by (Some x) v = subst (λ (y : Named X). IsSorted text_cmp y) (sym v.1) (sorted-put name_order a name v.0 sorted)

  -- the value that was lent is visited
  pub written_visit : {R : Type 0} (P : X → X → R → Type 0) (none : R) (a b : Named X) (name : List ℕ) (old w : X) (r : R) →
      Some old ≡ at text_cmp a name → IsWritten a name w b → P old w r → IsVisit P none a b name r
  written_visit P none a b name old w r found v p =
      let is : VisitBy {R = Unit {0}} (Some old) (λ x y u. y ≡ w) tt a b name tt =
      subst (λ (o : Option X). VisitBy {R = Unit {0}} o (λ x y u. y ≡ w) tt a b name tt) (sym found) v in
      visited_some P none a b name old w r (sym found) (subst (λ (y : X). b ≡ insert_entry text_cmp a name y) is.2 is.1) p
