-- Drafts with one more change.
use Rattle.std.proofs.Common.{◌≡◌, ℕ, ◌+◌, subst, Bool, true, false, List, [], ◌∷◌, ◌++◌, map, option_map, Option, None, Some, refl, ap, sym, ◌∙◌, arith}
use Rattle.std.specs.Prelude.{count_by, ◌||◌, IfSome}
use Rattle.std.specs.List.{list_any, AllByRecursion, IsDistinct}
use Rattle.std.specs.declared.cmp.Ordering.TheVariants.{Less, Equal}
use Rattle.std.specs.Ordering.{is_eq}
use Rattle.std.specs.Map.{keys_of}
use Rattle.std.proofs.lemmas.Cmp.{tied_itself, nat_list_cmp_total}
use Rattle.std.proofs.lemmas.Map.Keys.{sorted_head, sorted_tail}
use Rattle.map_model.specs.Maps.{IsSorted}
use Rattle.std.proofs.lemmas.Slice.Eq.{bytes_eq-Decides}
use Rattle.std.proofs.lemmas.Map.Lookups.{exact_bytes}
use Rattle.map_model.specs.MapLaws.{sorted-nil}
use Rattle.map_model.specs.Changes.{Change}
use Rattle.value_model.specs.TruthLaws.{equal_of}
use Rattle.value_model.specs.Size.{is_name}
use Rattle.value_model.specs.Order.{text_cmp}
use Rattle.ejson_value.specs.Key.{name_order}
use Rattle.sort_window.specs.declared.rows.Row.{Row}
use Rattle.sort_window.specs.Shown.{RowMap, NewsMap}
use Rattle.sort_window.specs.Inside.{row_cmp, has_id, AreSameRows}
use Rattle.ejson_value.specs.declared.sort.SortKey.{SortKey}
use Rattle.sort_window.specs.Drafts.{befores, afters, HasMoreIf, AreDrafted}
use Rattle.sort_window.specs.Windows.{change_to}
use Rattle.sort_window.proofs.Ordered.{count-cons}
use Rattle.sort_window.proofs.Counting.{one, passing}
use Rattle.sort_window.proofs.Crossing.{count_keyed}

pub neither : (a b : Bool) → (a || b) ≡ false → (a ≡ false) × (b ≡ false)
neither true b e = cc
neither false b e = (refl, e)

-- different names are no tie
pub apart : (a b : List ℕ) → is_name a b ≡ false → is_eq (text_cmp b a) ≡ false
apart a b e =
    elim (is_eq (text_cmp b a)) as (λ t. is_eq (text_cmp b a) ≡ t → t ≡ false) [
      | true ↦ λ t.
          let same : a ≡ b = sym (exact_bytes b a (equal_of _ t)) in
          let own : is_name a b ≡ true = (bytes_eq-Decides a b).1 same in
          cc
      | false ↦ λ t. refl
    ] refl

pub none_passes : (id key : List ℕ) (w : Option Row) → is_name id key ≡ false → passing name_order (has_id id) key w ≡ 0
none_passes id key None e = refl
none_passes id key (Some row) e = ap one (apart id key e)

-- no row of another id's change has the id
pub new_before : (id : List ℕ) (changes : List (Change (List ℕ) Row)) → list_any (λ (other : Change (List ℕ) Row). is_name id other.key) changes ≡ false → count_by (has_id id) (befores changes) ≡ 0
new_before id [] new = refl
new_before id (c ∷ changes) new =
    let both = neither (is_name id c.key) (list_any (λ (other : Change (List ℕ) Row). is_name id other.key) changes) new in
    let here = none_passes id c.key c.before both.0 in
    let rest = new_before id changes both.1 in
    omega (arith, here, rest, count_keyed (has_id id) c.key c.before (befores changes))

pub new_after : (id : List ℕ) (changes : List (Change (List ℕ) Row)) → list_any (λ (other : Change (List ℕ) Row). is_name id other.key) changes ≡ false → count_by (has_id id) (afters changes) ≡ 0
new_after id [] new = refl
new_after id (c ∷ changes) new =
    let both = neither (is_name id c.key) (list_any (λ (other : Change (List ℕ) Row). is_name id other.key) changes) new in
    let here = none_passes id c.key c.after both.0 in
    let rest = new_after id changes both.1 in
    omega (arith, here, rest, count_keyed (has_id id) c.key c.after (afters changes))

befores_add : (test : List ℕ × Row → Bool) (changes : List (Change (List ℕ) Row)) (c : Change (List ℕ) Row) → count_by test (befores (changes ++ c ∷ [])) ≡ count_by test (befores changes) + passing name_order test c.key c.before
befores_add test [] c = omega (arith, count_keyed test c.key c.before [])
befores_add test (x ∷ changes) c = omega (arith, befores_add test changes c, count_keyed test x.key x.before (befores (changes ++ c ∷ [])), count_keyed test x.key x.before (befores changes))

afters_add : (test : List ℕ × Row → Bool) (changes : List (Change (List ℕ) Row)) (c : Change (List ℕ) Row) → count_by test (afters (changes ++ c ∷ [])) ≡ count_by test (afters changes) + passing name_order test c.key c.after
afters_add test [] c = omega (arith, count_keyed test c.key c.after [])
afters_add test (x ∷ changes) c = omega (arith, afters_add test changes c, count_keyed test x.key x.after (afters (changes ++ c ∷ [])), count_keyed test x.key x.after (afters changes))

more_if : (test : List ℕ × Row → Bool) (a b : RowMap) (key : List ℕ) (w : Option Row) → HasMoreIf a (option_map (λ row. (key, row)) w) b → count_by test b ≡ count_by test a + passing name_order test key w
more_if test a b key None more = omega (arith, more test)
more_if test a b key (Some row) more = omega (arith, more test, count-cons test (key, row) a)

pub going_same : (changes : List (Change (List ℕ) Row)) (c : Change (List ℕ) Row) (a b : RowMap) → AreSameRows a (befores changes) → HasMoreIf a (option_map (λ row. (c.key, row)) c.before) b → AreSameRows b (befores (changes ++ c ∷ []))
going_same changes c a b same more test = omega (arith, same test, more_if test a b c.key c.before more, befores_add test changes c)

pub coming_same : (changes : List (Change (List ℕ) Row)) (c : Change (List ℕ) Row) (a b : RowMap) → AreSameRows a (afters changes) → HasMoreIf a (option_map (λ row. (c.key, row)) c.after) b → AreSameRows b (afters (changes ++ c ∷ []))
coming_same changes c a b same more test = omega (arith, same test, more_if test a b c.key c.after more, afters_add test changes c)

pub if_new : (rows : RowMap) (key : List ℕ) (w : Option Row) → count_by (has_id key) rows ≡ 0 → IfSome {T = List ℕ × Row} (option_map (λ (row : Row). (key, row)) w) (λ row. count_by (has_id row.0) rows ≡ 0)
if_new rows key None new = tt
if_new rows key (Some row) new = new

-- a draft of nothing
pub drafted_nothing : (sort : List SortKey) (changes : List (Change (List ℕ) Row)) (going coming : RowMap) → changes ≡ [] → going ≡ [] → coming ≡ [] → AreDrafted sort changes going coming
drafted_nothing sort changes going coming a b c =
    let none : AreDrafted sort [] [] [] = record { going_order = sorted-nil (row_cmp sort); coming_order = sorted-nil (row_cmp sort); going_same = λ test. refl; coming_same = λ test. refl } in
    subst (λ (cs : List (Change (List ℕ) Row)). AreDrafted sort cs going coming) (sym a) (subst (λ (rows : RowMap). AreDrafted sort [] rows coming) (sym b) (subst (λ (rows : RowMap). AreDrafted sort [] [] rows) (sym c) none))

pub other_way : (a b : List ℕ) → is_name a b ≡ false → is_name b a ≡ false
other_way a b e =
    elim (is_name b a) as (λ t. is_name b a ≡ t → t ≡ false) [
      | true ↦ λ t.
          let same : b ≡ a = (bytes_eq-Decides b a).0 t in
          let own : is_name a b ≡ true = (bytes_eq-Decides a b).1 (sym same) in
          cc
      | false ↦ λ t. refl
    ] refl

both_no : (a b : Bool) → a ≡ false → b ≡ false → (a || b) ≡ false
both_no true b e f = cc
both_no false b e f = f

-- the news of an id is among the news that changes were made of
among : (rows : RowMap) (P : List ℕ → Type 0) (all rest : NewsMap) (changes : List (Change (List ℕ) Row)) (id : List ℕ) (row : Option Row) →
    changes ++ change_to rows (id, row) ∷ map (λ (one : List ℕ × Option Row). change_to rows one) rest ≡ map (λ (one : List ℕ × Option Row). change_to rows one) all →
    AllByRecursion P (keys_of all) → P id
among rows P [] rest [] id row e ps = cc
among rows P [] rest (c ∷ changes) id row e ps = cc
among rows P (x ∷ all) rest [] id row e ps =
    let one : change_to rows (id, row) ≡ change_to rows x = cc in
    subst P (sym (ap (λ (c : Change (List ℕ) Row). c.key) one)) ps.0
among rows P (x ∷ all) rest (c ∷ changes) id row e ps =
    let tail : changes ++ change_to rows (id, row) ∷ map (λ (one : List ℕ × Option Row). change_to rows one) rest ≡ map (λ (one : List ℕ × Option Row). change_to rows one) all = cc in
    among rows P all rest changes id row tail ps.1

-- a lower id is another one
less_apart : (a b : List ℕ) → text_cmp a b ≡ Less → is_name a b ≡ false
less_apart a b less =
    elim (is_name a b) as (λ t. is_name a b ≡ t → t ≡ false) [
      | true ↦ λ t.
          let same : a ≡ b = (bytes_eq-Decides a b).0 t in
          let tie : text_cmp a b ≡ Equal = ap (text_cmp a) (sym same) ∙ tied_itself nat_list_cmp_total a in
          cc
      | false ↦ λ t. refl
    ] refl

-- the id that comes next is none of those before it
pub new_id : (rows : RowMap) (all rest : NewsMap) (changes : List (Change (List ℕ) Row)) (id : List ℕ) (row : Option Row) → IsSorted text_cmp all →
    changes ++ change_to rows (id, row) ∷ map (λ (one : List ℕ × Option Row). change_to rows one) rest ≡ map (λ (one : List ℕ × Option Row). change_to rows one) all →
    list_any (λ (other : Change (List ℕ) Row). is_name id other.key) changes ≡ false
new_id rows all rest [] id row s e = refl
new_id rows [] rest (c ∷ changes) id row s e = cc
new_id rows (x ∷ all) rest (c ∷ changes) id row s e =
    let one : c ≡ change_to rows x = cc in
    let tail : changes ++ change_to rows (id, row) ∷ map (λ (one : List ℕ × Option Row). change_to rows one) rest ≡ map (λ (one : List ℕ × Option Row). change_to rows one) all = cc in
    let less = among rows (λ q. text_cmp x.0 q ≡ Less) all rest changes id row tail (sorted_head text_cmp _ _ s) in
    let first = ap (is_name id) (ap (λ (c : Change (List ℕ) Row). c.key) one) ∙ other_way x.0 id (less_apart x.0 id less) in
    both_no (is_name id c.key) (list_any (λ (other : Change (List ℕ) Row). is_name id other.key) changes) first (new_id rows all rest changes id row (sorted_tail text_cmp _ _ s) tail)

all_apart : (id : List ℕ) (news : NewsMap) → AllByRecursion (λ q. text_cmp id q ≡ Less) (keys_of news) → AllByRecursion (λ y. is_name id y ≡ false) (map (λ (one : List ℕ × Option Row). one.0) news)
all_apart id [] all = tt
all_apart id (x ∷ news) all = (less_apart id x.0 all.0, all_apart id news all.1)

-- the ids of news are distinct
pub distinct_ids : (news : NewsMap) → IsSorted text_cmp news → IsDistinct is_name (map (λ (one : List ℕ × Option Row). one.0) news)
unfolding IsDistinct
distinct_ids [] s = tt
distinct_ids (x ∷ news) s = (all_apart x.0 news (sorted_head text_cmp _ _ s), distinct_ids news (sorted_tail text_cmp _ _ s))
