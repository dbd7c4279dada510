-- The answer of a step: what each cursor tells, under its name.
use Rattle.std.specs.Prelude.{◌≡◌, ℕ, zero, suc, ◌∷◌, [], List, map, Option, None, Some, IfSome}
use Rattle.map_model.specs.Maps.{at, set, IsSorted}
use Rattle.map_model.specs.Changes.{Leads}
use Rattle.value_model.specs.Val.{Entries}
use Rattle.ejson_value.specs.declared.key.Key.{Key}
use Rattle.ejson_value.specs.declared.change.Change.{Change}
use Rattle.ejson_value.specs.declared.change.Publish.{Publish}
use Rattle.ejson_value.specs.Key.{key_cmp, key_of}
use Rattle.ejson_value.specs.Rows.{Rows}
use Rattle.ejson_value.specs.Changes.{changes_of}
use Rattle.sort_window.specs.declared.rows.Shown.{Shown}
use Rattle.sort_window.specs.Shown.{IsTold}
use Rattle.sort_window.specs.Windows.{MovesState}
use Rattle.live_observer.specs.declared.watched.Watched.{Watched}
use Rattle.live_observer.specs.Observing.{AnObserver, APlan, IsAt, carried_one, IsMoveOf}
use Rattle.live_observer.specs.Noting.{seen}

abbrev pub ToldMap : Type 0
ToldMap = List (Key × Option Entries)

-- what a cursor tells by id, under its name, and what becomes of its window
pub record ToldOf : Type 0 where
  pub name : List ℕ
  pub told : List (List ℕ × Option Entries)
  pub moves : Option MovesState

-- what a cursor tells: of its window, where that moves
abbrev pub told_in : List Shown → Option MovesState → List (List ℕ × Option Entries)
told_in shown None = map (λ one. (one.id, one.doc)) shown
told_in shown (Some moves) = moves.told

abbrev pub put_told : List ℕ → ToldMap → List (List ℕ × Option Entries) → ToldMap
put_told name answer [] = answer
put_told name answer (one ∷ told) = put_told name (set key_cmp answer (key_of name one.0) (Some one.1)) told

abbrev pub put_all : ToldMap → List ToldOf → ToldMap
put_all answer [] = answer
put_all answer (one ∷ all) = put_all (put_told one.name answer one.told) all

abbrev pub publish_of : Key × Option Entries → Publish
publish_of one = record { key = one.0; new = one.1 }

-- what is told, by id
abbrev pub as_told : List Shown → List (List ℕ × Option Entries)
as_told shown = map (λ one. (one.id, one.doc)) shown

-- what one of them publishes under the name
abbrev pub publish_at : List ℕ → Shown → Publish
publish_at name one = record { key = key_of name one.id; new = one.doc }

-- the changes lead on from contents where the cursor stands
pub record Leading (w : Watched) (changes : List Change) (rows rows' : Rows) : Type 0 where
  pub by_key : IsSorted key_cmp rows
  pub stands : IsAt rows w
  pub leads : Leads key_cmp (changes_of changes) rows rows'

-- what the cursor tells is the difference of what it publishes, and its window comes to where the contents are then
pub record IsToldBy (w : Watched) (changes : List Change) (one : ToldOf) : Type 0 where
  pub name : one.name ≡ w.cursor.name
  pub fits : IsMoveOf w one.moves
  pub tells : (rows rows' : Rows) → Leading w changes rows rows' → IsTold (seen w.cursor rows) (seen w.cursor rows') one.told
  pub lands : (rows rows' : Rows) → Leading w changes rows rows' → IsAt rows' (carried_one w one.moves)

-- one told for each cursor
abbrev pub AreToldBy : AnObserver → List Change → List ToldOf → Type 0
AreToldBy [] changes [] = Unit {0}
AreToldBy [] changes (one ∷ all) = ⊥
AreToldBy (w ∷ watched) changes [] = ⊥
AreToldBy (w ∷ watched) changes (one ∷ all) = IsToldBy w changes one × AreToldBy watched changes all

-- what becomes of one window among them
abbrev pub carried_at : AnObserver → ℕ → Option MovesState → AnObserver
carried_at [] place moves = []
carried_at (w ∷ watched) zero moves = carried_one w moves ∷ watched
carried_at (w ∷ watched) (suc place) moves = w ∷ carried_at watched place moves

abbrev pub IsMoveAt : AnObserver → ℕ → Option MovesState → Type 0
IsMoveAt [] place moves = ⊥
IsMoveAt (w ∷ watched) zero moves = IsMoveOf w moves
IsMoveAt (w ∷ watched) (suc place) moves = IsMoveAt watched place moves

abbrev pub plan_of : List ToldOf → APlan
plan_of all = map (λ (one : ToldOf). one.moves) all
