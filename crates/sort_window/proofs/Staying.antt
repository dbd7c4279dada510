-- What changes of distinct ids leave, and what readers see of rows that stay.
use Rattle.std.proofs.Common.{◌≡◌, ℕ, zero, suc, ◌+◌, ◌<◌, ◌≤◌, Bool, true, false, cond, List, [], ◌∷◌, length, get_or, take, drop, map, Option, None, Some, refl, ap, sym, subst, ◌∙◌, arith, inl, inr}
use Rattle.std.specs.Prelude.{count_by, ◌⊎◌, ◌||◌, nat_lt, if◌then◌else◌, Result, Ok, Err, IfOk}
use Rattle.std.specs.List.{AllByRecursion, IsDistinct, list_any}
use Rattle.std.specs.Ordering.{eq_by_cmp}
use Rattle.std.proofs.lemmas.Option.{none-some}
use Rattle.std.proofs.lemmas.Bool.Decides.{nat_tests}
use Rattle.std.proofs.lemmas.Slice.Eq.{bytes_eq-Decides}
use Rattle.map_model.specs.Maps.{at, set, IsSorted}
use Rattle.map_model.specs.MapLaws.{at-set, at-tail, sorted-set, eq_by_cmp-self}
use Rattle.map_model.specs.Changes.{Change, changed, Fit}
use Rattle.std.proofs.lemmas.Map.Keys.{sorted_tail}
use Rattle.value_model.specs.Val.{Entries}
use Rattle.value_model.specs.Size.{is_name}
use Rattle.value_model.specs.Order.{text_cmp}
use Rattle.ejson_value.specs.Key.{name_order}
use Rattle.ejson_value.specs.declared.sort.SortKey.{SortKey}
use Rattle.sort_window.specs.declared.rows.Row.{Row}
use Rattle.sort_window.specs.Shown.{RowMap, NewsMap, shown_at}
use Rattle.sort_window.specs.Inside.{stands_before, is_row, AreInOrder, AreSameRows}
use Rattle.sort_window.specs.Drafts.{befores, afters, Stand, End, AreRowsOf, AreDrafted}
use Rattle.sort_window.specs.Telling.{IsDraftOf, ToldMap, IsRight, IsQuiet, AreTold, RowsAreTold}
use Rattle.sort_window.specs.Windows.{WindowState, change_to}
use Rattle.sort_window.proofs.Ordered.{count-cons, count_yes, count_no}
use Rattle.sort_window.proofs.Counting.{one, passing}
use Rattle.sort_window.proofs.Placed.{row_is, row_itself, row_place}
use Rattle.sort_window.proofs.Inside.{is_there}
use Rattle.sort_window.proofs.Crossing.{count_keyed, count_changed, far_from_limit}
use Rattle.sort_window.proofs.Drafting.{apart, other_way, neither, distinct_ids}
use Rattle.sort_window.proofs.Telling.{shown_is}

abbrev pub all_changes : RowMap → NewsMap → List (Change (List ℕ) Row)
all_changes rows news = map (λ (one : List ℕ × Option Row). change_to rows one) news

abbrev ids_of : NewsMap → List (List ℕ)
ids_of news = map (λ (one : List ℕ × Option Row). one.0) news

no_tie : (a b : List ℕ) → is_name a b ≡ false → eq_by_cmp text_cmp a b ≡ false
no_tie a b e = apart b a (other_way a b e)

-- what stands at an id that no change has
pub unnamed : (rows : RowMap) (changes : List (Change (List ℕ) Row)) (id : List ℕ) → IsSorted text_cmp rows → list_any (λ (c : Change (List ℕ) Row). is_name id c.key) changes ≡ false → at text_cmp (changed text_cmp rows changes) id ≡ at text_cmp rows id
unnamed rows [] id s none = refl
unnamed rows (c ∷ changes) id s none =
    let both = neither (is_name id c.key) (list_any (λ (c : Change (List ℕ) Row). is_name id c.key) changes) none in
    unnamed (set text_cmp rows c.key c.after) changes id (sorted-set name_order rows c.key c.after s) both.1
    ∙ at-set name_order rows c.key c.after id s
    ∙ ap (λ b. cond b c.after (at text_cmp rows id)) (no_tie id c.key both.0)

pub kept : (m rows : RowMap) (news : NewsMap) (id : List ℕ) → IsSorted text_cmp m → AllByRecursion (λ y. is_name id y ≡ false) (ids_of news) → at text_cmp (changed text_cmp m (all_changes rows news)) id ≡ at text_cmp m id
kept m rows [] id s others = refl
kept m rows (x ∷ news) id s others =
    kept (set text_cmp m x.0 x.1) rows news id (sorted-set name_order m x.0 x.1 s) others.1
    ∙ at-set name_order m x.0 x.1 id s
    ∙ ap (λ b. cond b x.1 (at text_cmp m id)) (no_tie id x.0 others.0)

pub stand_all : (rows : RowMap) (news : NewsMap) → Stand rows (all_changes rows news)
stand_all rows [] = tt
stand_all rows (x ∷ news) = (refl, stand_all rows news)

pub same_all : (rows : RowMap) (news : NewsMap) → AllByRecursion (λ id. at text_cmp rows id ≡ at text_cmp rows id) (ids_of news)
same_all rows [] = tt
same_all rows (x ∷ news) = (refl, same_all rows news)

still : (rows m : RowMap) (x : List ℕ × Option Row) (news : NewsMap) → IsSorted text_cmp m → AllByRecursion (λ y. is_name x.0 y ≡ false) (ids_of news) → AllByRecursion (λ id. at text_cmp m id ≡ at text_cmp rows id) (ids_of news) → AllByRecursion (λ id. at text_cmp (set text_cmp m x.0 x.1) id ≡ at text_cmp rows id) (ids_of news)
still rows m x [] s others same = tt
still rows m x (y ∷ news) s others same =
    (at-set name_order m x.0 x.1 y.0 s ∙ ap (λ b. cond b x.1 (at text_cmp m y.0)) (no_tie y.0 x.0 (other_way x.0 y.0 others.0)) ∙ same.0, still rows m x news s others.1 same.1)

pub fits : (rows m : RowMap) (news : NewsMap) → IsSorted text_cmp m → IsDistinct is_name (ids_of news) → AllByRecursion (λ id. at text_cmp m id ≡ at text_cmp rows id) (ids_of news) → Fit text_cmp m (all_changes rows news)
unfolding IsDistinct
fits rows m [] s d same = tt
fits rows m (x ∷ news) s d same = (same.0, fits rows (set text_cmp m x.0 x.1) news (sorted-set name_order m x.0 x.1 s) d.1 (still rows m x news s d.0 same.1))

pub ends : (rows m : RowMap) (news : NewsMap) → IsSorted text_cmp m → IsDistinct is_name (ids_of news) → End (changed text_cmp m (all_changes rows news)) (all_changes rows news)
unfolding IsDistinct
ends rows m [] s d = tt
ends rows m (x ∷ news) s d =
    let next = set text_cmp m x.0 x.1 in
    let t = sorted-set name_order m x.0 x.1 s in (
      kept next rows news x.0 t d.0 ∙ at-set name_order m x.0 x.1 x.0 s ∙ ap (λ b. cond b x.1 (at text_cmp m x.0)) (eq_by_cmp-self name_order x.0),
      ends rows next news t d.1,
    )

pub says_of : (rows : RowMap) (news : NewsMap) → map {B = List ℕ × Option Row} (λ (c : Change (List ℕ) Row). (c.key, c.after)) (all_changes rows news) ≡ news
says_of rows [] = refl
says_of rows (x ∷ news) = ap (λ rest. x ∷ rest) (says_of rows news)

-- the changes of news are a draft
pub draft_of : (window : WindowState) (news : NewsMap) (changes : List (Change (List ℕ) Row)) (going coming : RowMap) → IsSorted text_cmp window.rows → IsSorted text_cmp news → changes ≡ all_changes window.rows news →
    AreDrafted window.sort changes going coming → IsDraftOf window changes going coming
draft_of window news changes going coming s t are drafted =
    let rows = window.rows in
    let d = distinct_ids news t in
    record {
      fit = subst (λ (cs : List (Change (List ℕ) Row)). Fit text_cmp rows cs) (sym are) (fits rows rows news s d (same_all rows news));
      drafted = drafted;
      stand = subst (λ (cs : List (Change (List ℕ) Row)). Stand rows cs) (sym are) (stand_all rows news);
      end = subst (λ (cs : List (Change (List ℕ) Row)). End (changed text_cmp rows cs) cs) (sym are) (ends rows rows news s d);
    }

-- a row of the list stands at its id
in_map : (rows : RowMap) (row : List ℕ × Row) → IsSorted text_cmp rows → 0 < count_by (is_row row) rows → at text_cmp rows row.0 ≡ Some row.1
in_map [] row s some = absurd (omega (arith, some))
in_map (e ∷ rows) row s some =
    let rest = at text_cmp rows row.0 in
    elim (is_row row e) as (λ b. is_row row e ≡ b → cond (eq_by_cmp text_cmp row.0 e.0) (Some e.1) rest ≡ Some row.1) [
      | true ↦ λ t.
          let same : e ≡ row = row_is row e t in
          ap (λ (z : List ℕ × Row). cond (eq_by_cmp text_cmp row.0 z.0) (Some z.1) rest) same ∙ ap (λ b. cond b (Some row.1) rest) (eq_by_cmp-self name_order row.0)
      | false ↦ λ t.
          let more = count_no (is_row row) e rows t in
          let there = in_map rows row (sorted_tail text_cmp _ _ s) (omega (arith, some, more)) in
          elim (eq_by_cmp text_cmp row.0 e.0) as (λ b. eq_by_cmp text_cmp row.0 e.0 ≡ b → cond b (Some e.1) rest ≡ Some row.1) [
            | true ↦ λ u. absurd (none-some row.1 (sym (at-tail name_order e rows row.0 s u) ∙ there))
            | false ↦ λ u. there
          ] refl
    ] refl

are_rows : (rows some : RowMap) → IsSorted text_cmp rows → ((row : List ℕ × Row) → 0 < count_by (is_row row) some → 0 < count_by (is_row row) rows) → AreRowsOf rows some
are_rows rows [] s f = tt
are_rows rows (row ∷ some) s f =
    let here : 0 < count_by (is_row row) (row ∷ some) = let more = count_yes (is_row row) row some (row_itself row) in omega (arith, more) in
    (in_map rows row s (f row here), are_rows rows some s (λ other h. f other (let cons = count-cons (is_row other) row some in omega (arith, h, cons))))

pub same_are : (rows in_order : RowMap) → IsSorted text_cmp rows → AreSameRows in_order rows → AreRowsOf rows in_order
same_are rows in_order s same = are_rows rows in_order s (λ row h. subst (λ (n : ℕ). 0 < n) (same (is_row row)) h)

pub rows_drop : (rows some : RowMap) (n : ℕ) → AreRowsOf rows some → AreRowsOf rows (drop n some)
rows_drop rows some zero are = are
rows_drop rows [] (suc n) are = tt
rows_drop rows (row ∷ some) (suc n) are = rows_drop rows some n are.1

pub rows_take : (rows some : RowMap) (n : ℕ) → AreRowsOf rows some → AreRowsOf rows (take n some)
rows_take rows some zero are = tt
rows_take rows [] (suc n) are = tt
rows_take rows (row ∷ some) (suc n) are = (are.0, rows_take rows some n are.1)

-- a row told of, by its place
told_at : (P : List ℕ × Row → Type 0) (rows : RowMap) (n : ℕ) (i : ℕ) (d : List ℕ × Row) → AllByRecursion P (take n rows) → i < n → i < length rows → P (get_or rows i d)
told_at P [] n i d all within here = absurd (omega (arith, here))
told_at P (row ∷ rows) zero i d all within here = absurd (omega (arith, within))
told_at P (row ∷ rows) (suc n) zero d all within here = all.0
told_at P (row ∷ rows) (suc n) (suc i) d all within here = let a : i < n = omega (arith, within) in let b : i < length rows = omega (arith, here) in told_at P rows n i d all.1 a b

pub told_between : (P : List ℕ × Row → Type 0) (rows : RowMap) (n start i : ℕ) (d : List ℕ × Row) → AllByRecursion P (take n (drop start rows)) → start ≤ i → i < start + n → i < length rows → P (get_or rows i d)
told_between P rows n zero i d all low high here = let h : i < n = omega (arith, high) in told_at P rows n i d all h here
told_between P [] n (suc start) i d all low high here = absurd (omega (arith, here))
told_between P (row ∷ rows) n (suc start) zero d all low high here = absurd (omega (arith, low))
told_between P (row ∷ rows) n (suc start) (suc i) d all low high here =
    let a : start ≤ i = omega (arith, low) in
    let b : i < start + n = omega (arith, high) in
    let c : i < length rows = omega (arith, here) in
    told_between P rows n start i d all a b c

passing_one : (test : List ℕ × Row → Bool) (key : List ℕ) (w : Option Row) → passing name_order test key w ≤ 1
passing_one test key None = omega arith
passing_one test key (Some row) =
    elim (test (key, row)) as (λ b. one b ≤ 1) [
      | true ↦ omega arith
      | false ↦ omega arith
    ]

befores_few : (test : List ℕ × Row → Bool) (changes : List (Change (List ℕ) Row)) → count_by test (befores changes) ≤ length changes
befores_few test [] = omega arith
befores_few test (c ∷ changes) =
    let rest = befores_few test changes in
    let cons = count_keyed test c.key c.before (befores changes) in
    let here = passing_one test c.key c.before in
    omega (arith, rest, cons, here)

afters_few : (test : List ℕ × Row → Bool) (changes : List (Change (List ℕ) Row)) → count_by test (afters changes) ≤ length changes
afters_few test [] = omega arith
afters_few test (c ∷ changes) =
    let rest = afters_few test changes in
    let cons = count_keyed test c.key c.after (afters changes) in
    let here = passing_one test c.key c.after in
    omega (arith, rest, cons, here)

pub lt_or : (a b : ℕ) → (a < b) ⊎ (b ≤ a)
lt_or a b =
    elim (nat_lt a b) as (λ t. nat_lt a b ≡ t → (a < b) ⊎ (b ≤ a)) [
      | true ↦ λ e. inl (grind (arith, nat_tests, e))
      | false ↦ λ e. inr (grind (arith, nat_tests, e))
    ] refl

module _ (sort : List SortKey) (limit : ℕ) (rows : RowMap) (changes : List (Change (List ℕ) Row)) (s : IsSorted text_cmp rows) (fit : Fit text_cmp rows changes) where
  -- a row that stands far from the limit
  far : (id : List ℕ) (row : Row) → at text_cmp rows id ≡ Some row → at text_cmp (changed text_cmp rows changes) id ≡ Some row → let n = count_by (stands_before sort id row.whole) rows in ((n + length changes < limit) ⊎ (limit + length changes ≤ n)) → shown_at sort limit rows id ≡ shown_at sort limit (changed text_cmp rows changes) id
  far id row there stays away =
      let test = stands_before sort id row.whole in
      let next = changed text_cmp rows changes in
      let all = count_changed test rows changes s fit in
      let same = far_from_limit (count_by test rows) (count_by test next) (count_by test (befores changes)) (count_by test (afters changes)) (length changes) limit all (befores_few test changes) (afters_few test changes) away in
      shown_is sort limit rows id (Some row) there ∙ ap (λ b. if b then Some row.projected else None) same ∙ sym (shown_is sort limit next id (Some row) stays)

  pub quiet_anywhere : (in_order : RowMap) (start n : ℕ) (told : ToldMap) → AreInOrder sort in_order → AreSameRows in_order rows → ((i : ℕ) → i < length in_order → i < start → i + length changes < limit) → ((i : ℕ) → i < length in_order → start + n ≤ i → limit + length changes ≤ i) →
      RowsAreTold (λ id. shown_at sort limit rows id) (λ id. shown_at sort limit (changed text_cmp rows changes) id) told (take n (drop start in_order)) →
      (id : List ℕ) (row : Row) → at text_cmp rows id ≡ Some row → at text_cmp (changed text_cmp rows changes) id ≡ Some row → IsQuiet (λ id. shown_at sort limit rows id) (λ id. shown_at sort limit (changed text_cmp rows changes) id) told id
  quiet_anywhere in_order start n told order same low high all id row there stays =
      let test = stands_before sort id row.whole in
      let i = count_by test in_order in
      let counted = subst (λ (n : ℕ). 0 < n) (sym (same (is_row (id, row)))) (is_there rows id s row there) in
      let here = row_place sort in_order (id, row) order counted in
      let quiet : IsQuiet (λ id. shown_at sort limit rows id) (λ id. shown_at sort limit (changed text_cmp rows changes) id) told id → IsQuiet (λ id. shown_at sort limit rows id) (λ id. shown_at sort limit (changed text_cmp rows changes) id) told id = λ q. q in
      elim (lt_or i start) [
        | inl below ↦ λ none. far id row there stays (inl (let h = low i here.0 below in let e = same test in omega (arith, h, e)))
        | inr from ↦
            elim (lt_or i (start + n)) [
              | inl within ↦ subst (λ (r : List ℕ × Row). IsQuiet (λ id. shown_at sort limit rows id) (λ id. shown_at sort limit (changed text_cmp rows changes) id) told r.0) (here.1 (id, row)) (told_between (λ (r : List ℕ × Row). IsQuiet (λ id. shown_at sort limit rows id) (λ id. shown_at sort limit (changed text_cmp rows changes) id) told r.0) in_order n start i (id, row) all from within here.0)
              | inr behind ↦ λ none. far id row there stays (inr (let h = high i here.0 behind in let e = same test in omega (arith, h, e)))
            ]
      ]

-- an id that some change has was told of
pub told_named : (before after : List ℕ → Option Entries) (told : ToldMap) (changes : List (Change (List ℕ) Row)) (id : List ℕ) → AreTold before after told changes → list_any (λ (c : Change (List ℕ) Row). is_name id c.key) changes ≡ true → IsQuiet before after told id
told_named before after told [] id all some = cc
told_named before after told (c ∷ changes) id all some =
    elim (is_name id c.key) as (λ b. is_name id c.key ≡ b → (b || list_any (λ (c : Change (List ℕ) Row). is_name id c.key) changes) ≡ true → IsQuiet before after told id) [
      | true ↦ λ e f. subst (λ k. IsQuiet before after told k) (sym ((bytes_eq-Decides id c.key).0 e)) all.0
      | false ↦ λ e f. told_named before after told changes id all.1 f
    ] refl some

pub right_nothing : (before after : List ℕ → Option Entries) → IsRight before after []
right_nothing before after id doc e = absurd (none-some doc e)

pub then_if2 : {T E : Type 0} {P Q S : T → Type 0} (r : Result T E) → ((t : T) → P t → Q t → S t) → IfOk r P → IfOk r Q → IfOk r S
then_if2 (Ok t) f p q = f t p q
then_if2 (Err e) f p q = tt
