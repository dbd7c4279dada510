-- Two lanes as one map.
use Rattle.std.specs.Prelude.{◌≡◌, ◌⊎◌, ℕ, List, Bool, true, false, cond, Option, None, Some, Result, Ok, Err, is_some, OnOk, OnErr, refl}
use Rattle.std.specs.Option.{option_or}
use Rattle.std.specs.BTreeMap.{insert_entry}
use Rattle.std.specs.Ordering.{eq_by_cmp}
use Rattle.std.proofs.Common.{ap, sym, subst, ◌∙◌, inl, inr}
use Rattle.map_model.specs.Maps.{at, union, IsSorted}
use Rattle.map_model.specs.MapLaws.{same_maps, sorted-put, at-put, at-union, sorted-union, key_is}
use Rattle.value_model.specs.Order.{text_cmp}
use Rattle.ejson_value.specs.Key.{name_order}
use Rattle.lanes.specs.Lanes.{Named, AreApart, AreLanes, VisitBy, IsVisit}

module _ {X : Type 0} where
  pub put_left : (a b : Named X) (name : List ℕ) (x : X) → IsSorted text_cmp b →
      union text_cmp (insert_entry text_cmp a name x) b ≡ insert_entry text_cmp (union text_cmp a b) name x
  put_left a b name x t =
      same_maps name_order (union text_cmp (insert_entry text_cmp a name x) b) (insert_entry text_cmp (union text_cmp a b) name x)
      (sorted-union name_order (insert_entry text_cmp a name x) b t) (sorted-put name_order (union text_cmp a b) name x (sorted-union name_order a b t)) (λ q.
      at-union name_order (insert_entry text_cmp a name x) b q
      ∙ (ap (λ o. option_or o (at text_cmp b q)) (at-put name_order a name x q)
      ∙ (by (eq_by_cmp text_cmp q name) (at text_cmp a q) (at text_cmp b q)
      ∙ (ap (cond (eq_by_cmp text_cmp q name) (Some x)) (sym (at-union name_order a b q)) ∙ sym (at-put name_order (union text_cmp a b) name x q)))))
    where
      by : (e : Bool) (o p : Option X) → option_or (cond e (Some x) o) p ≡ cond e (Some x) (option_or o p)
      by true o p = refl
      by false o p = refl

  pub put_right : (a b : Named X) (name : List ℕ) (x : X) → at text_cmp a name ≡ None → IsSorted text_cmp b →
      union text_cmp a (insert_entry text_cmp b name x) ≡ insert_entry text_cmp (union text_cmp a b) name x
  put_right a b name x none t =
      let put = sorted-put name_order b name x t in
      same_maps name_order (union text_cmp a (insert_entry text_cmp b name x)) (insert_entry text_cmp (union text_cmp a b) name x)
      (sorted-union name_order a (insert_entry text_cmp b name x) put) (sorted-put name_order (union text_cmp a b) name x (sorted-union name_order a b t)) (λ q.
      at-union name_order a (insert_entry text_cmp b name x) q
      ∙ (ap (option_or (at text_cmp a q)) (at-put name_order b name x q)
      ∙ (by q (eq_by_cmp text_cmp q name) refl
      ∙ (ap (cond (eq_by_cmp text_cmp q name) (Some x)) (sym (at-union name_order a b q)) ∙ sym (at-put name_order (union text_cmp a b) name x q)))))
    where
      by : (q : List ℕ) (e : Bool) → eq_by_cmp text_cmp q name ≡ e →
          option_or (at text_cmp a q) (cond e (Some x) (at text_cmp b q)) ≡ cond e (Some x) (option_or (at text_cmp a q) (at text_cmp b q))
      by q true is = ap (λ o. option_or o (Some x)) (ap (at text_cmp a) (key_is name_order q name is) ∙ none)
      by q false is = refl

  -- nobody comes into a lane by being put where it is
  pub apart_left : (a b : Named X) (name : List ℕ) (x : X) → at text_cmp b name ≡ None → AreApart a b → AreApart (insert_entry text_cmp a name x) b
  apart_left a b name x none apart q = by (eq_by_cmp text_cmp q name) refl
    where
      by : (e : Bool) → eq_by_cmp text_cmp q name ≡ e → (at text_cmp (insert_entry text_cmp a name x) q ≡ None) ⊎ (at text_cmp b q ≡ None)
      by true is = inr (ap (at text_cmp b) (key_is name_order q name is) ∙ none)
      by false is = elim (apart q) [
        | inl e ↦ inl (at-put name_order a name x q ∙ (ap (λ b. cond b (Some x) (at text_cmp a q)) is ∙ e))
        | inr e ↦ inr e
      ]

  pub apart_right : (a b : Named X) (name : List ℕ) (x : X) → at text_cmp a name ≡ None → AreApart a b → AreApart a (insert_entry text_cmp b name x)
  apart_right a b name x none apart q = by (eq_by_cmp text_cmp q name) refl
    where
      by : (e : Bool) → eq_by_cmp text_cmp q name ≡ e → (at text_cmp a q ≡ None) ⊎ (at text_cmp (insert_entry text_cmp b name x) q ≡ None)
      by true is = inl (ap (at text_cmp a) (key_is name_order q name is) ∙ none)
      by false is = elim (apart q) [
        | inl e ↦ inl e
        | inr e ↦ inr (at-put name_order b name x q ∙ (ap (λ b'. cond b' (Some x) (at text_cmp b q)) is ∙ e))
      ]

  -- ---- who is where

  pub some_left : (a b : Named X) (name : List ℕ) (x : X) → at text_cmp a name ≡ Some x → at text_cmp (union text_cmp a b) name ≡ Some x
  some_left a b name x is = at-union name_order a b name ∙ ap (λ o. option_or o (at text_cmp b name)) is

  pub of_right : (a b : Named X) (name : List ℕ) → at text_cmp a name ≡ None → at text_cmp (union text_cmp a b) name ≡ at text_cmp b name
  of_right a b name is = at-union name_order a b name ∙ ap (λ o. option_or o (at text_cmp b name)) is

  -- who is in one lane isn't in the other
  pub not_right : (a b : Named X) (name : List ℕ) (x : X) → at text_cmp a name ≡ Some x → AreApart a b → at text_cmp b name ≡ None
  not_right a b name x is apart = elim (apart name) [ inl e ↦ cc (sym e ∙ is) | inr e ↦ e ]

  pub not_left : (a b : Named X) (name : List ℕ) (x : X) → at text_cmp b name ≡ Some x → AreApart a b → at text_cmp a name ≡ None
  not_left a b name x is apart = elim (apart name) [ inl e ↦ e | inr e ↦ cc (sym e ∙ is) ]

  none_of : (o : Option X) → is_some o ≡ false → o ≡ None
  none_of None e = refl
  none_of (Some x) e = cc e

  pub both_sorted : (a b : Named X) → IsSorted text_cmp b → IsSorted text_cmp (union text_cmp a b)
  both_sorted a b t = sorted-union name_order a b t

  pub is_in_left : (a b : Named X) (name : List ℕ) → is_some (at text_cmp a name) ≡ true → is_some (at text_cmp (union text_cmp a b) name) ≡ true
  is_in_left a b name is = ap is_some (at-union name_order a b name) ∙ by (at text_cmp a name) is
    where
      by : (o : Option X) → is_some o ≡ true → is_some (option_or o (at text_cmp b name)) ≡ true
      by None e = cc e
      by (Some x) e = refl

  pub is_in_right : (a b : Named X) (name : List ℕ) → is_some (at text_cmp a name) ≡ false → at text_cmp (union text_cmp a b) name ≡ at text_cmp b name
  is_in_right a b name free = of_right a b name (none_of (at text_cmp a name) free)

  -- ---- one that begins

  pub free_in_both : (a b : Named X) (name : List ℕ) → at text_cmp (union text_cmp a b) name ≡ None → (at text_cmp a name ≡ None) × (at text_cmp b name ≡ None)
  free_in_both a b name e = by (at text_cmp a name) refl
    where
      by : (o : Option X) → at text_cmp a name ≡ o → (at text_cmp a name ≡ None) × (at text_cmp b name ≡ None)
      by None is = (is, sym (of_right a b name is) ∙ e)
      by (Some x) is = cc (sym e ∙ some_left a b name x is)

  -- what a put into one lane is of both
  pub record IsPut {E : Type 0} (name : List ℕ) (x : X) (a b a' b' : Named X) (r : Result (Unit {0}) E) : Type 0 where
    pub put : OnOk r (union text_cmp a' b' ≡ insert_entry text_cmp (union text_cmp a b) name x)
    pub none : OnErr r (union text_cmp a' b' ≡ union text_cmp a b)
    pub lanes : AreLanes a' b'

  pub put_in_left : {E : Type 0} (name : List ℕ) (x : X) (a a' b : Named X) (r : Result (Unit {0}) E) → at text_cmp (union text_cmp a b) name ≡ None →
      OnOk r (a' ≡ insert_entry text_cmp a name x) → OnErr r (a' ≡ a) →
      AreLanes a b → IsPut name x a b a' b r
  put_in_left name x a a' b (Ok u) free put none l = record {
    put = ap (λ y. union text_cmp y b) put ∙ put_left a b name x l.other;
    none = tt;
    lanes = subst (λ (y : Named X). AreLanes y b) (sym put)
        (record { one = sorted-put name_order a name x l.one; other = l.other; apart = apart_left a b name x (free_in_both a b name free).1 l.apart });
  }
  put_in_left name x a a' b (Err e) free put none l = record {
    put = tt;
    none = ap (λ y. union text_cmp y b) none;
    lanes = subst (λ (y : Named X). AreLanes y b) (sym none) l;
  }

  pub put_in_right : {E : Type 0} (name : List ℕ) (x : X) (a b b' : Named X) (r : Result (Unit {0}) E) → at text_cmp (union text_cmp a b) name ≡ None →
      OnOk r (b' ≡ insert_entry text_cmp b name x) → OnErr r (b' ≡ b) →
      AreLanes a b → IsPut name x a b a b' r
  put_in_right name x a b b' (Ok u) free put none l =
      let left = (free_in_both a b name free).0 in record {
        put = ap (union text_cmp a) put ∙ put_right a b name x left l.other;
        none = tt;
        lanes = subst (λ (y : Named X). AreLanes a y) (sym put)
            (record { one = l.one; other = sorted-put name_order b name x l.other; apart = apart_right a b name x left l.apart });
      }
  put_in_right name x a b b' (Err e) free put none l = record {
    put = tt;
    none = ap (union text_cmp a) none;
    lanes = subst (λ (y : Named X). AreLanes a y) (sym none) l;
  }

module _ {X R : Type 0} (P : X → X → R → Type 0) (none : R) where
  pub visited_some : (a b : Named X) (name : List ℕ) (old new : X) (r : R) → at text_cmp a name ≡ Some old → b ≡ insert_entry text_cmp a name new →
      P old new r → IsVisit P none a b name r
  visited_some a b name old new r found is p = subst (λ (o : Option X). VisitBy o P none a b name r) (sym found) (new, is, p)

  pub visited_none : (a b : Named X) (name : List ℕ) (r : R) → at text_cmp a name ≡ None → b ≡ a → r ≡ none → IsVisit P none a b name r
  visited_none a b name r found is e = subst (λ (o : Option X). VisitBy o P none a b name r) (sym found) (is, e)

  -- what a visit in one lane is of both
  pub record IsVisitOf (a b a' b' : Named X) (name : List ℕ) (r : R) : Type 0 where
    pub visit : IsVisit P none (union text_cmp a b) (union text_cmp a' b') name r
    pub lanes : AreLanes a' b'

  pub visit_left : (a a' b : Named X) (name : List ℕ) (r : R) → is_some (at text_cmp a name) ≡ true → IsVisit P none a a' name r → AreLanes a b →
      IsVisitOf a b a' b name r
  visit_left a a' b name r there v l = by (at text_cmp a name) refl there v
    where
      by : (o : Option X) → at text_cmp a name ≡ o → is_some o ≡ true → VisitBy o P none a a' name r → IsVisitOf a b a' b name r
      by None is e v = cc e
      by (Some old) is e v = record {
        visit = visited_some (union text_cmp a b) (union text_cmp a' b) name old v.0 r (some_left a b name old is)
            (ap (λ y. union text_cmp y b) v.1 ∙ put_left a b name v.0 l.other) v.2;
        lanes = subst (λ (y : Named X). AreLanes y b) (sym v.1)
            (record {
              one = sorted-put name_order a name v.0 l.one;
              other = l.other;
              apart = apart_left a b name v.0 (not_right a b name old is l.apart) l.apart;
            });
      }

  pub visit_right : (a b b' : Named X) (name : List ℕ) (r : R) → is_some (at text_cmp a name) ≡ false → IsVisit P none b b' name r → AreLanes a b →
      IsVisitOf a b a b' name r
  visit_right a b b' name r free v l = by (at text_cmp b name) refl v
    where
      left : at text_cmp a name ≡ None
      left = none_of (at text_cmp a name) free

      by : (o : Option X) → at text_cmp b name ≡ o → VisitBy o P none b b' name r → IsVisitOf a b a b' name r
      by None is v = record {
        visit = visited_none (union text_cmp a b) (union text_cmp a b') name r (of_right a b name left ∙ is) (ap (union text_cmp a) v.0) v.1;
        lanes = subst (λ (y : Named X). AreLanes a y) (sym v.0) l;
      }
      by (Some old) is v = record {
        visit = visited_some (union text_cmp a b) (union text_cmp a b') name old v.0 r (of_right a b name left ∙ is)
            (ap (union text_cmp a) v.1 ∙ put_right a b name v.0 left l.other) v.2;
        lanes = subst (λ (y : Named X). AreLanes a y) (sym v.1)
            (record { one = l.one; other = sorted-put name_order b name v.0 l.other; apart = apart_right a b name v.0 left l.apart });
      }
