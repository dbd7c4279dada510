-- What each subscription of a session shows, and the merge of it: one call of the merge for each item, which hands in all that its subscription
-- shows then (Meteor's guide,
-- "Publications and data loading": a document that several subscriptions publish is merged by top-level field).
use Rattle.std.specs.Prelude.{ℕ, List, [], ◌∷◌, map, Option, Some, None}
use Rattle.std.specs.declared.cmp.Ordering.{Ordering}
use Rattle.std.specs.Ordering.{eq_by_cmp}
use Rattle.std.specs.Map.{keys_of}
use Rattle.map_model.specs.Maps.{at, union}
use Rattle.map_model.specs.Differences.{Step, diff}
use Rattle.merge_model.specs.Publishing.{Call, apply}
use Rattle.merge_model.specs.Box as merge
use Rattle.value_model.specs.Val.{Val, Entries}
use Rattle.value_model.specs.Order.{text_cmp, compare}
use Rattle.ejson_value.specs.declared.key.Key.{Key}
use Rattle.ejson_value.specs.Key.{key_cmp}
use Rattle.ejson_value.specs.Rows.{Rows}
use Rattle.publication.specs.Cursors.{ACursors}
use Rattle.session_model.specs.Publication.{queried}
use Rattle.session_model.specs.Items.{Item}
use Rattle.session_model.specs.Items as item
use Rattle.session_model.specs.Subscriptions.{Live, of_sub}
use Rattle.session_model.specs.State.{State, started, after}
use Rattle.session_model.specs.Moments.{Moment, rows_at}

-- what cursors publish of the documents at a place; nothing before the subscription is loaded
abbrev pub shown_at : List Moment → ACursors → Option ℕ → Rows
shown_at C cursors None = []
shown_at C cursors (Some place) = queried cursors (rows_at C place)

-- what a subscription shows
abbrev pub shown_in : List Moment → List Live → ℕ → Rows
shown_in C ls s = of_sub (λ (l : Live). shown_at C l.cursors l.cursor) [] s ls

-- the subscription whose documents an item changes
abbrev pub subject : Item → ℕ
subject (item.load s place) = s
subject (item.advance s count) = s
subject (item.close s message) = s
subject i = 0

module _ {K D : Type 0} (R : K → K → Ordering) where
  -- all that b has, and nothing at what a alone has
  abbrev pub news : List (K × D) → List (K × D) → List (K × Option D)
  news a b = map (λ k. (k, at R b k)) (keys_of (union R a b))

abbrev pub Calls : Type 0
Calls = List (Call Key Entries)

abbrev pub call_of : List Moment → State → Item → Call Key Entries
call_of C st i = apply (subject i) (news key_cmp (shown_in C st.subs (subject i)) (shown_in C (after st i).subs (subject i)))

-- the calls of a journal, the newest first
abbrev pub calls_from : List Moment → Calls → State → List Item → Calls
calls_from C past st [] = past
calls_from C past st (i ∷ items) = calls_from C (call_of C st i ∷ past) (after st i) items

abbrev pub calls_of : List Moment → List Item → Calls
calls_of C items = calls_from C [] started items

-- what a client has that took all that these calls answer
abbrev pub merge_of : Calls → Rows
merge_of past = merge.merge_of key_cmp text_cmp past

-- the merge after a journal
abbrev pub merged : List Moment → List Item → Rows
merged C items = merge_of (calls_of C items)

-- the data messages that lead from these documents to those, by key
abbrev pub difference : Rows → Rows → List (Key × Step (List ℕ) Val)
difference before after = diff text_cmp (eq_by_cmp compare) key_cmp before after
