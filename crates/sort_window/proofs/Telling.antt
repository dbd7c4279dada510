-- Telling of one id keeps what was told right.
use Rattle.std.proofs.Common.{◌≡◌, ℕ, zero, suc, ◌+◌, ◌<◌, length, get_or, take, option_map, arith, true, false, cond, List, [], ◌∷◌, Option, None, Some, refl, ap, sym, subst, ◌∙◌, inl, inr}
use Rattle.std.specs.Prelude.{count_by, option_and_then, if◌then◌else◌, nat_lt}
use Rattle.std.specs.List.{AllByRecursion}
use Rattle.std.specs.Ordering.{eq_by_cmp}
use Rattle.std.proofs.lemmas.Option.{none-some, same_Some}
use Rattle.std.proofs.lemmas.Slice.Eq.{bytes_eq-Decides}
use Rattle.map_model.specs.Maps.{at, set, IsSorted}
use Rattle.map_model.specs.MapLaws.{at-put, at-set, sorted-set, key_is, eq_by_cmp-self}
use Rattle.map_model.specs.Changes.{Change, changed}
use Rattle.value_model.specs.Val.{Entries}
use Rattle.value_model.specs.Size.{is_name}
use Rattle.value_model.specs.Order.{text_cmp}
use Rattle.ejson_value.specs.Key.{name_order}
use Rattle.ejson_value.specs.declared.sort.SortKey.{SortKey}
use Rattle.sort_window.specs.declared.rows.Row.{Row}
use Rattle.sort_window.specs.Shown.{RowMap, rows_before, shown_at}
use Rattle.sort_window.specs.Inside.{has_id, is_row}
use Rattle.sort_window.specs.Drafts.{befores, Stand, End, AreRowsOf}
use Rattle.sort_window.specs.Telling.{ToldMap, seen, IsOneTold, IsRight, IsQuiet, IsToldMore, AreTold, RowsAreTold}
use Rattle.sort_window.proofs.Counting.{one, passing}
use Rattle.sort_window.proofs.Placed.{row_itself}
use Rattle.sort_window.proofs.Crossing.{count_keyed}
use Rattle.sort_window.proofs.Drafting.{none_passes}

module _ (before after : List ℕ → Option Entries) (old new : ToldMap) (id : List ℕ) where
  at_new : (q : List ℕ) → new ≡ set text_cmp old id (Some (after id)) → at text_cmp new q ≡ cond (eq_by_cmp text_cmp q id) (Some (after id)) (at text_cmp old q)
  at_new q is = ap (λ m. at text_cmp m q) is ∙ at-put name_order old id (after id) q

  right_set : (before id ≡ after id → ⊥) → new ≡ set text_cmp old id (Some (after id)) → IsRight before after old → IsRight before after new
  right_set apart is right q doc here =
      elim (eq_by_cmp text_cmp q id) as (λ b. eq_by_cmp text_cmp q id ≡ b → cond b (Some (after id)) (at text_cmp old q) ≡ Some doc → (doc ≡ after q) × (before q ≡ after q → ⊥)) [
        | true ↦ λ e f.
            let same : q ≡ id = key_is name_order q id e in
            subst (λ k. (doc ≡ after k) × (before k ≡ after k → ⊥)) (sym same) (sym (same_Some (after id) doc f), apart)
        | false ↦ λ e f. right q doc f
      ] refl (sym (at_new q is) ∙ here)

  quiet_set : (q : List ℕ) → new ≡ set text_cmp old id (Some (after id)) → IsQuiet before after old q → IsQuiet before after new q
  quiet_set q is quiet none =
      elim (eq_by_cmp text_cmp q id) as (λ b. cond b (Some (after id)) (at text_cmp old q) ≡ None → before q ≡ after q) [
        | true ↦ λ f. absurd (none-some (after id) (sym f))
        | false ↦ λ f. quiet f
      ] (sym (at_new q is) ∙ none)

  -- what was right and quiet stays so
  pub told_more : IsOneTold old id (before id) (after id) new → IsToldMore before after old new
  told_more (inl same) = record { right = subst (λ m. IsRight before after old → IsRight before after m) (sym same.1) (λ right. right); quiet = λ q. subst (λ m. IsQuiet before after old q → IsQuiet before after m q) (sym same.1) (λ quiet. quiet) }
  told_more (inr other) = record { right = right_set other.0 other.1; quiet = λ q. quiet_set q other.1 }

  -- and the id is told of
  pub told_here : IsOneTold old id (before id) (after id) new → IsQuiet before after new id
  told_here (inl same) none = same.0
  told_here (inr other) none = absurd (none-some (after id) (sym none ∙ at_new id other.1 ∙ ap (λ b. cond b (Some (after id)) (at text_cmp old id)) (eq_by_cmp-self name_order id)))

module _ (before after : List ℕ → Option Entries) (old new : ToldMap) (more : IsToldMore before after old new) where
  -- changes and rows that were told of are so still
  pub changes_still : (changes : List (Change (List ℕ) Row)) → AreTold before after old changes → AreTold before after new changes
  changes_still [] all = tt
  changes_still (c ∷ changes) all = (more.quiet c.key all.0, changes_still changes all.1)

  pub rows_still : (rows : RowMap) → RowsAreTold before after old rows → RowsAreTold before after new rows
  rows_still [] all = tt
  rows_still (row ∷ rows) all = (more.quiet row.0 all.0, rows_still rows all.1)

-- one more of a list
all_more : {X : Type 0} (P : X → Type 0) (xs : List X) (i : ℕ) (x : X) → i < length xs → x ≡ get_or xs i x → AllByRecursion P (take i xs) → P x → AllByRecursion P (take (suc i) xs)
all_more P [] i x within is all here = absurd (omega (arith, within))
all_more P (y ∷ xs) zero x within is all here = (subst P is here, tt)
all_more P (y ∷ xs) (suc i) x within is all here = let w : i < length xs = omega (arith, within) in (all.0, all_more P xs i x w is all.1 here)

pub all_next : {X : Type 0} (P : X → Type 0) (xs : List X) (i : ℕ) (x : X) → i < length xs → x ≡ get_or xs i x → AllByRecursion P (take i xs) → P x → AllByRecursion P (take (i + 1) xs)
all_next P xs i x within is all here =
    let next : suc i ≡ i + 1 = omega arith in
    subst (λ (n : ℕ). AllByRecursion P (take n xs)) next (all_more P xs i x within is all here)

pub all_of : {X : Type 0} (P : X → Type 0) (xs : List X) → AllByRecursion P (take (length xs) xs) → AllByRecursion P xs
all_of P [] all = tt
all_of P (x ∷ xs) all = (all.0, all_of P xs all.1)

-- an id with a row that goes is one of those told of
pub gone_told : (before after : List ℕ → Option Entries) (told : ToldMap) (id : List ℕ) (changes : List (Change (List ℕ) Row)) → AreTold before after told changes → 0 < count_by (has_id id) (befores changes) → IsQuiet before after told id
gone_told before after told id [] all some = absurd (omega (arith, some))
gone_told before after told id (c ∷ changes) all some =
    let cons = count_keyed (has_id id) c.key c.before (befores changes) in
    elim (is_name id c.key) as (λ b. is_name id c.key ≡ b → IsQuiet before after told id) [
      | true ↦ λ e. subst (λ k. IsQuiet before after told k) (sym ((bytes_eq-Decides id c.key).0 e)) all.0
      | false ↦ λ e. gone_told before after told id changes all.1 (let here = none_passes id c.key c.before e in omega (arith, some, here, cons))
    ] refl

-- what readers see at an id, by the row that stands there
pub shown_is : (sort : List SortKey) (limit : ℕ) (rows : RowMap) (id : List ℕ) (w : Option Row) → at text_cmp rows id ≡ w → shown_at sort limit rows id ≡ seen sort limit rows (option_map (λ row. (id, row)) w)
shown_is sort limit rows id None e = ap (option_and_then (λ (row : Row). if nat_lt (rows_before sort rows id row.whole) limit then Some row.projected else None)) e
shown_is sort limit rows id (Some row) e = ap (option_and_then (λ (row : Row). if nat_lt (rows_before sort rows id row.whole) limit then Some row.projected else None)) e

-- told of, by what readers see there
pub told_with : (old new : ToldMap) (id key : List ℕ) (b before a after : Option Entries) → id ≡ key → b ≡ before → a ≡ after → IsOneTold old id b a new → IsOneTold old key before after new
told_with old new id key b before a after i x y told =
    subst (λ z. IsOneTold old key before z new) y (subst (λ z. IsOneTold old key z a new) x (subst (λ z. IsOneTold old z b a new) i told))

pub more_more : (before after : List ℕ → Option Entries) (a b c : ToldMap) → IsToldMore before after a b → IsToldMore before after b c → IsToldMore before after a c
more_more before after a b c x y = record { right = λ right. y.right (x.right right); quiet = λ id quiet. y.quiet id (x.quiet id quiet) }

pub stand_at : (rows : RowMap) (changes : List (Change (List ℕ) Row)) (i : ℕ) (c : Change (List ℕ) Row) → Stand rows changes → i < length changes → c ≡ get_or changes i c → at text_cmp rows c.key ≡ c.before
stand_at rows [] i c stand within is = absurd (omega (arith, within))
stand_at rows (x ∷ changes) zero c stand within is = subst (λ (c : Change (List ℕ) Row). at text_cmp rows c.key ≡ c.before) (sym is) stand.0
stand_at rows (x ∷ changes) (suc i) c stand within is = let w : i < length changes = omega (arith, within) in stand_at rows changes i c stand.1 w is

pub end_at : (rows : RowMap) (changes : List (Change (List ℕ) Row)) (i : ℕ) (c : Change (List ℕ) Row) → End rows changes → i < length changes → c ≡ get_or changes i c → at text_cmp rows c.key ≡ c.after
end_at rows [] i c end within is = absurd (omega (arith, within))
end_at rows (x ∷ changes) zero c end within is = subst (λ (c : Change (List ℕ) Row). at text_cmp rows c.key ≡ c.after) (sym is) end.0
end_at rows (x ∷ changes) (suc i) c end within is = let w : i < length changes = omega (arith, within) in end_at rows changes i c end.1 w is

pub row_at : (rows some : RowMap) (i : ℕ) (row : List ℕ × Row) → AreRowsOf rows some → i < length some → row ≡ get_or some i row → at text_cmp rows row.0 ≡ Some row.1
row_at rows [] i row are within is = absurd (omega (arith, within))
row_at rows (x ∷ some) zero row are within is = subst (λ (row : List ℕ × Row). at text_cmp rows row.0 ≡ Some row.1) (sym is) are.0
row_at rows (x ∷ some) (suc i) row are within is = let w : i < length some = omega (arith, within) in row_at rows some i row are.1 w is

-- a row that isn't among those that go stays
pub stays : (old rows : RowMap) (changes : List (Change (List ℕ) Row)) (id : List ℕ) (row : Row) → IsSorted text_cmp rows → Stand old changes → at text_cmp old id ≡ Some row → at text_cmp rows id ≡ Some row → count_by (is_row (id, row)) (befores changes) ≡ 0 → at text_cmp (changed text_cmp rows changes) id ≡ Some row
stays old rows [] id row s stand there here none = here
stays old rows (c ∷ changes) id row s stand there here none =
    let cons = count_keyed (is_row (id, row)) c.key c.before (befores changes) in
    let rest : count_by (is_row (id, row)) (befores changes) ≡ 0 = omega (arith, none, cons) in
    let apart : eq_by_cmp text_cmp id c.key ≡ false =
    elim (eq_by_cmp text_cmp id c.key) as (λ b. eq_by_cmp text_cmp id c.key ≡ b → b ≡ false) [
      | true ↦ λ e.
          let same : id ≡ c.key = key_is name_order id c.key e in
          let goes : c.before ≡ Some row = sym stand.0 ∙ ap (at text_cmp old) (sym same) ∙ there in
          let counted : passing name_order (is_row (id, row)) c.key c.before ≡ 1 =
          ap (passing name_order (is_row (id, row)) c.key) goes ∙ ap (λ k. passing name_order (is_row (id, row)) k (Some row)) (sym same) ∙ ap one (row_itself (id, row)) in
          absurd (omega (arith, none, cons, counted))
      | false ↦ λ e. refl
    ] refl in
    let next = at-set name_order rows c.key c.after id s ∙ ap (λ b. cond b c.after (at text_cmp rows id)) apart ∙ here in
    stays old (set text_cmp rows c.key c.after) changes id row (sorted-set name_order rows c.key c.after s) stand.1 there next rest
