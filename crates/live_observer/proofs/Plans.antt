-- Plans carried out from their ends, and windows that come to where the contents are.
use Rattle.std.proofs.Common.{◌≡◌, ℕ, zero, suc, ◌+◌, ◌*◌, ◌<◌, ◌≤◌, Bool, List, [], ◌∷◌, ◌++◌, length, get_or, take, map, option_map, Option, None, Some, refl, ap, sym, subst, ◌∙◌, arith}
use Rattle.std.specs.Prelude.{IfSome, slice_set}
use Rattle.std.specs.List.{AllByRecursion}
use Rattle.std.proofs.lemmas.Option.{none-some, same_Some}
use Rattle.map_model.specs.Maps.{at, IsSorted}
use Rattle.map_model.specs.MapLaws.{sorted-nil}
use Rattle.map_model.specs.Changes as model
use Rattle.map_model.specs.ChangeLaws.{sorted-changed}
use Rattle.value_model.specs.Val.{Entries}
use Rattle.value_model.specs.Order.{text_cmp}
use Rattle.ejson_value.specs.declared.change.Change.{Change}
use Rattle.ejson_value.specs.declared.sort.SortKey.{SortKey}
use Rattle.ejson_value.specs.Key.{key_cmp, key_order}
use Rattle.ejson_value.specs.Rows.{Rows, rows_of}
use Rattle.ejson_value.specs.Changes.{changes_of}
use Rattle.sort_window.specs.Shown.{RowMap, shown_at, IsTold}
use Rattle.sort_window.specs.Windows.{WindowState, MovesState, rows_after, AreMovesOf, IsPlan}
use Rattle.publication.specs.declared.cursor.Cursor.{Cursor}
use Rattle.publication.specs.Cursors.{ACursors, HaveDistinctNames}
use Rattle.live_observer.specs.declared.watched.Watched.{Watched}
use Rattle.live_observer.specs.Observing.{AnObserver, APlan, cursors_of, IsAt, StandsAt, window_rows, moved, carried_one, carried, IsMoveOf, IsPlanOf, Kind, kind, kind_by, IsWatching, IsWhole, HaveNoLimit}
use Rattle.live_observer.specs.Noting.{seen, all_noted, all_told, all_news, put_rows, rows_with}
use Rattle.live_observer.specs.Answering.{ToldOf, Leading, IsToldBy, AreToldBy, carried_at, IsMoveAt}
use Rattle.live_observer.proofs.Matching.{window_sorted, shown_window}
use Rattle.live_observer.proofs.News.{AreNews, all_are_news, all_news_sorted, put_all_sorted, all_from_none, window_follows, rows_said}
use Rattle.live_observer.proofs.Nets.{AreNets, all_are_nets, nets_told}

changes_sorted : (rows : Rows) (changes : List Change) → IsSorted key_cmp rows → IsSorted key_cmp (model.changed key_cmp rows (changes_of changes))
changes_sorted rows changes s = sorted-changed key_order rows (changes_of changes) s

pub carried_nothing : (watched : AnObserver) → carried watched [] ≡ watched
carried_nothing [] = refl
carried_nothing (w ∷ watched) = refl

-- a plan's last moves carried out first
pub carried_last : (watched : AnObserver) (plan : APlan) (last : Option MovesState) → carried watched (plan ++ last ∷ []) ≡ carried (carried_at watched (length plan) last) plan
carried_last [] plan last = refl
carried_last (w ∷ watched) [] last = ap (λ rest. carried_one w last ∷ rest) (carried_nothing watched)
carried_last (w ∷ watched) (moves ∷ plan) last = ap (λ rest. carried_one w moves ∷ rest) (carried_last watched plan last)

none_of_none : (plan : APlan) (last : Option MovesState) → IsPlanOf [] (plan ++ last ∷ []) → ⊥
none_of_none [] last are = are
none_of_none (moves ∷ plan) last are = are

pub last_fits : (watched : AnObserver) (plan : APlan) (last : Option MovesState) → IsPlanOf watched (plan ++ last ∷ []) → IsMoveAt watched (length plan) last
last_fits [] plan last are = none_of_none plan last are
last_fits (w ∷ watched) [] last are = are.0
last_fits (w ∷ watched) (moves ∷ plan) last are = last_fits watched plan last are.1

-- moves at a place
pub move_at : (watched : AnObserver) (place : ℕ) (w : Watched) (moves : Option MovesState) → w ≡ get_or watched place w → IsMoveAt watched place moves → IsMoveOf w moves
move_at [] place w moves is fits = absurd fits
move_at (x ∷ watched) zero w moves is fits = subst (λ (x : Watched). IsMoveOf x moves) (sym is) fits
move_at (x ∷ watched) (suc place) w moves is fits = move_at watched place w moves is fits

pub carried_set : (watched : AnObserver) (place : ℕ) (w : Watched) (moves : Option MovesState) → w ≡ get_or watched place w → slice_set watched place (carried_one w moves) ≡ carried_at watched place moves
carried_set [] place w moves is = refl
carried_set (x ∷ watched) zero w moves is = ap (λ (x : Watched). carried_one x moves ∷ watched) is
carried_set (x ∷ watched) (suc place) w moves is = ap (λ rest. x ∷ rest) (carried_set watched place w moves is)

pub carried_out : (watched : AnObserver) (place : ℕ) (moves : Option MovesState) → (place < length watched → ⊥) → watched ≡ carried_at watched place moves
carried_out [] place moves out = refl
carried_out (x ∷ watched) zero moves out = absurd (out (omega arith))
carried_out (x ∷ watched) (suc place) moves out = ap (λ rest. x ∷ rest) (carried_out watched place moves (λ h. out (omega (arith, h))))

pub empty_is : {X : Type 0} (xs : List X) → length xs ≡ 0 → xs ≡ []
empty_is [] e = refl
empty_is (x ∷ xs) e = absurd (omega (arith, e))

pub all_and : {X : Type 0} (P : X → Type 0) (xs : List X) (x : X) → AllByRecursion P xs → P x → AllByRecursion P (xs ++ x ∷ [])
all_and P [] x all here = (here, tt)
all_and P (y ∷ xs) x all here = (all.0, all_and P xs x all.1 here)

pub others_fit : (watched : AnObserver) (plan : APlan) (last : Option MovesState) → IsPlanOf watched (plan ++ last ∷ []) → IsPlanOf (carried_at watched (length plan) last) plan
others_fit watched [] last are = tt
others_fit [] (moves ∷ plan) last are = absurd are
others_fit (w ∷ watched) (moves ∷ plan) last are = (are.0, others_fit watched plan last are.1)

one_cursor : (w : Watched) (moves : Option MovesState) → (carried_one w moves).cursor ≡ w.cursor
one_cursor w None = refl
one_cursor w (Some moves) = refl

pub same_cursors : (watched : AnObserver) (plan : APlan) → cursors_of (carried watched plan) ≡ cursors_of watched
same_cursors [] plan = refl
same_cursors (w ∷ watched) [] = refl
same_cursors (w ∷ watched) (moves ∷ plan) = ap (λ c. c ∷ cursors_of (carried watched plan)) (one_cursor w moves) ∙ ap (λ cs. w.cursor ∷ cs) (same_cursors watched plan)

-- what a window is of stays
kind_moved : (o : Option WindowState) (moves : MovesState) → option_map kind (option_map (moved moves) o) ≡ option_map kind o
kind_moved None moves = refl
kind_moved (Some window) moves = refl

still_watching : (w : Watched) (moves : Option MovesState) → IsWatching w → IsWatching (carried_one w moves)
still_watching w None is = is
still_watching w (Some moves) is = kind_moved w.window moves ∙ is

pub all_watching : (watched : AnObserver) (plan : APlan) → AllByRecursion IsWatching watched → AllByRecursion IsWatching (carried watched plan)
all_watching [] plan all = tt
all_watching (w ∷ watched) [] all = all
all_watching (w ∷ watched) (moves ∷ plan) all = (still_watching w moves all.0, all_watching watched plan all.1)

pub whole_carried : (watched : AnObserver) (plan : APlan) → IsWhole watched → IsWhole (carried watched plan)
whole_carried watched plan whole = record { names = subst (λ (cs : ACursors). HaveDistinctNames cs) (sym (same_cursors watched plan)) whole.names; windows = all_watching watched plan whole.windows }

-- a window with other rows
abbrev pub with_rows : WindowState → RowMap → WindowState
with_rows window rows = record window { rows = rows }

-- one told for each of the first cursors, and one more
pub more_told : (watched : AnObserver) (changes : List Change) (all : List ToldOf) (i : ℕ) (w : Watched) (one : ToldOf) → i < length watched → w ≡ get_or watched i w → AreToldBy (take i watched) changes all → IsToldBy w changes one → AreToldBy (take (suc i) watched) changes (all ++ one ∷ [])
more_told [] changes all i w one within is told here = absurd (omega (arith, within))
more_told (x ∷ watched) changes [] zero w one within is told here = (subst (λ (x : Watched). IsToldBy x changes one) is here, tt)
more_told (x ∷ watched) changes (y ∷ all) zero w one within is told here = absurd told
more_told (x ∷ watched) changes [] (suc i) w one within is told here = absurd told
more_told (x ∷ watched) changes (y ∷ all) (suc i) w one within is told here = let below : i < length watched = omega (arith, within) in (told.0, more_told watched changes all i w one below is told.1 here)

pub next_told : (watched : AnObserver) (changes : List Change) (all : List ToldOf) (i : ℕ) (w : Watched) (one : ToldOf) → i < length watched → w ≡ get_or watched i w → AreToldBy (take i watched) changes all → IsToldBy w changes one → AreToldBy (take (i + 1) watched) changes (all ++ one ∷ [])
next_told watched changes all i w one within is told here =
    let next : suc i ≡ i + 1 = omega arith in
    subst (λ (n : ℕ). AreToldBy (take n watched) changes (all ++ one ∷ [])) next (more_told watched changes all i w one within is told here)

-- one more cursor's steps
pub more_steps : (first before after i each : ℕ) → before ≤ first + i * each → after ≤ before + each → after ≤ first + (i + 1) * each
more_steps first before after i each a b = grind (arith, a, b)

pub all_told_of : (watched : AnObserver) (changes : List Change) (all : List ToldOf) → AreToldBy (take (length watched) watched) changes all → AreToldBy watched changes all
all_told_of [] changes all told = told
all_told_of (w ∷ watched) changes [] told = absurd told
all_told_of (w ∷ watched) changes (one ∷ all) told = (told.0, all_told_of watched changes all told.1)

-- a cursor without a limit
no_window : (o : Option WindowState) (l : Option ℕ) (sort : List SortKey) → option_map kind o ≡ option_map (kind_by sort) l → o ≡ None → l ≡ None
no_window o None sort e none = refl
no_window o (Some l) sort e none = cc

pub unlimited : (w : Watched) → IsWatching w → w.window ≡ None → w.cursor.limit ≡ None
unlimited w is none = no_window w.window w.cursor.limit w.cursor.sort is none

no_limit : (w : Watched) (o : Option WindowState) (l : Option ℕ) → option_map kind o ≡ option_map (kind_by w.cursor.sort) l → l ≡ None → (rows : Rows) → IfSome o (λ window. window.rows ≡ window_rows w.cursor rows)
no_limit w None l e none rows = tt
no_limit w (Some window) None e none rows = cc
no_limit w (Some window) (Some l) e none rows = cc

pub stand_anywhere : (watched : AnObserver) → AllByRecursion IsWatching watched → HaveNoLimit (cursors_of watched) → (rows : Rows) → StandsAt watched rows
stand_anywhere [] all none rows = tt
stand_anywhere (w ∷ watched) all none rows = (no_limit w w.window w.cursor.limit all.0 none.0 rows, stand_anywhere watched all.1 none.1 rows)

stand_none : (o : Option WindowState) (P : WindowState → Type 0) → o ≡ None → IfSome o P
stand_none None P e = tt
stand_none (Some window) P e = cc

-- what a cursor without a limit tells
pub told_plain : (w : Watched) (changes : List Change) (one : ToldOf) → IsWatching w → w.window ≡ None → one.name ≡ w.cursor.name → one.told ≡ all_told (all_noted w.cursor [] changes) → one.moves ≡ None → IsSorted text_cmp (all_noted w.cursor [] changes) → IsToldBy w changes one
told_plain w changes one is none name told moves sorted =
    let limit = unlimited w is none in
    record {
      name = name;
      fits = subst (IsMoveOf w) (sym moves) tt;
      tells = λ rows rows' l.
          let nets = all_are_nets w.cursor rows rows [] changes l.by_key l.leads.fit (λ id. refl) in
          subst (λ t. IsTold (seen w.cursor rows) (seen w.cursor rows') t) (sym told)
          (nets_told w.cursor rows rows' (all_noted w.cursor [] changes) limit sorted (subst (λ (m : Rows). AreNets w.cursor rows m (all_noted w.cursor [] changes)) l.leads.ends nets));
      lands = λ rows rows' l. subst (λ m. IsAt rows' (carried_one w m)) (sym moves) (stand_none w.window (λ window. window.rows ≡ window_rows w.cursor rows') none);
    }

some_limit : (window : WindowState) (l : Option ℕ) (sort : List SortKey) → Some (kind window) ≡ option_map (kind_by sort) l → (window.sort ≡ sort) × (l ≡ Some window.limit)
some_limit window None sort e = cc
some_limit window (Some l) sort e =
    let same = same_Some (kind window) (kind_by sort l) e in
    (ap (λ (k : Kind). k.0) same, sym (ap (λ (k : Kind). let o : Option ℕ = Some k.1 in o) same))

told_alike : (b b' a a' : List ℕ → Option Entries) (told : List (List ℕ × Option Entries)) → ((id : List ℕ) → b id ≡ b' id) → ((id : List ℕ) → a id ≡ a' id) → IsTold b a told → IsTold b' a' told
told_alike b b' a a' told was is t = record {
  by_id = t.by_id;
  quiet = λ id e. sym (was id) ∙ t.quiet id e ∙ is id;
  news = λ id doc e. let both = t.news id doc e in (both.0 ∙ is id, λ same. both.1 (was id ∙ same ∙ sym (is id)));
}

-- what a cursor with a limit tells, by the plan of its window
pub told_window : (w : Watched) (window : WindowState) (changes : List Change) (one : ToldOf) (moves : MovesState) → IsWatching w → w.window ≡ Some window → one.name ≡ w.cursor.name → one.told ≡ moves.told → one.moves ≡ Some moves → IsPlan window (all_news w.cursor [] changes) moves → IsToldBy w changes one
told_window w window changes one moves is there name told moved_is plan =
    let news = all_news w.cursor [] changes in
    let kinds = some_limit window w.cursor.limit w.cursor.sort (sym (ap (option_map kind) there) ∙ is) in
    let stood : (rows : Rows) → IsAt rows w → window.rows ≡ window_rows w.cursor rows = λ rows at_rows. subst (λ o. IfSome o (λ (x : WindowState). x.rows ≡ window_rows w.cursor rows)) there at_rows in
    let lead : (rows rows' : Rows) → Leading w changes rows rows' → rows_after window moves ≡ window_rows w.cursor rows' = λ rows rows' l.
    let s' = subst (λ (m : Rows). IsSorted key_cmp m) l.leads.ends (changes_sorted rows changes l.by_key) in
    let are = subst (λ (m : Rows). AreNews w.cursor rows m news) l.leads.ends (all_are_news w.cursor rows rows [] changes l.by_key (λ id. refl)) in
    rows_said window.rows moves.changes ∙ ap (rows_with window.rows) plan.says ∙ ap (λ rows. rows_with rows news) (stood rows l.stands)
    ∙ window_follows w.cursor rows rows' news l.by_key s' (all_news_sorted w.cursor [] changes (sorted-nil text_cmp)) are in
    record {
      name = name;
      fits = subst (IsMoveOf w) (sym moved_is) (subst (λ o. IfSome o (λ (x : WindowState). AreMovesOf x moves)) (sym there) plan.carries);
      tells = λ rows rows' l.
          let s' = subst (λ (m : Rows). IsSorted key_cmp m) l.leads.ends (changes_sorted rows changes l.by_key) in
          let show = λ (m : RowMap) (id : List ℕ). shown_at window.sort window.limit m id in
          let shows = λ (m : Rows) (sorted : IsSorted key_cmp m) (id : List ℕ). ap (λ sort. shown_at sort window.limit (window_rows w.cursor m) id) kinds.0 ∙ shown_window w.cursor m sorted window.limit id kinds.1 in
          subst (λ t. IsTold (seen w.cursor rows) (seen w.cursor rows') t) (sym told)
          (told_alike (show window.rows) (seen w.cursor rows) (show (rows_after window moves)) (seen w.cursor rows') moves.told
          (λ id. ap (λ m. show m id) (stood rows l.stands) ∙ shows rows l.by_key id)
          (λ id. ap (λ m. show m id) (lead rows rows' l) ∙ shows rows' s' id)
          plan.tells);
      lands = λ rows rows' l.
          subst (λ m. IsAt rows' (carried_one w m)) (sym moved_is) (subst (λ o. IfSome (option_map (moved moves) o) (λ (x : WindowState). x.rows ≡ window_rows w.cursor rows')) (sym there) (lead rows rows' l));
    }

-- a window filled with the documents that match
pub filled_is : (cursor : Cursor) (all : Rows) → IsSorted key_cmp all → rows_with [] (put_rows cursor [] (rows_of cursor.collection all)) ≡ window_rows cursor all
filled_is cursor all s =
    let news = put_rows cursor [] (rows_of cursor.collection all) in
    window_follows cursor [] all news (sorted-nil key_cmp) s (put_all_sorted cursor [] (rows_of cursor.collection all) (sorted-nil text_cmp)) (all_from_none cursor all s)
