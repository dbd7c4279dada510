-- A value that is put among others.
use Rattle.ejson_value.specs.declared.memory.Mem.{Mem}
use Rattle.std.specs.Prelude.{◌≡◌, ℕ, List, Result, Ok, Err, OnOk, OnErr, true, Option, None, Some, is_some, refl}
use Rattle.std.specs.BTreeMap.{insert_entry}
use Rattle.std.proofs.Common.{sym, subst, ◌∙◌}
use Rattle.map_model.specs.Maps.{at, union, IsSorted}
use Rattle.map_model.specs.MapLaws.{sorted-put}
use Rattle.value_model.specs.Order.{text_cmp}
use Rattle.ejson_value.specs.Key.{name_order}
use Rattle.lanes.specs.Lanes.{Named}
use Rattle.lanes.specs.UnionsLaws.{some_left}

-- the names rise after it
pub put_sorted : {X : Type 0} (old new : Named X) (name : List ℕ) (x : X) (r : Result (Unit {0}) Mem) → OnOk r (new ≡ insert_entry text_cmp old name x) → OnErr r (new ≡ old) → IsSorted text_cmp old → IsSorted text_cmp new
put_sorted {X} old new name x (Ok u) ok err sorted = subst (λ (m : Named X). IsSorted text_cmp m) (sym ok) (sorted-put name_order old name x sorted)
put_sorted {X} old new name x (Err m) ok err sorted = subst (λ (m : Named X). IsSorted text_cmp m) (sym err) sorted

-- who is in the first lane is the same there and among all
pub same_left : {X : Type 0} (a b : Named X) (name : List ℕ) → is_some (at text_cmp a name) ≡ true → at text_cmp a name ≡ at text_cmp (union text_cmp a b) name
same_left {X} a b name there = by (at text_cmp a name) refl there
  where
    by : (o : Option X) → at text_cmp a name ≡ o → is_some o ≡ true → at text_cmp a name ≡ at text_cmp (union text_cmp a b) name
    by None is e = cc e
    by (Some x) is e = is ∙ sym (some_left a b name x is)
