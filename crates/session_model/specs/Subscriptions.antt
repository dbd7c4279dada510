-- The live subscriptions of a session: those that were opened and not closed, in the order in which they were opened (Meteor's DDP.md, "Managing data").
use Rattle.std.specs.Prelude.{ℕ, ◌+◌, ◌==◌, nat_le, is_none, List, [], ◌∷◌, filter, length, Bool, true, false, not, ◌&&◌, Option, Some, None, if◌then◌else◌}
use Rattle.std.specs.List.{list_all}
use Rattle.value_model.specs.Val.{Val}
use Rattle.value_model.specs.Size.{is_name}
use Rattle.publication.specs.Cursors.{ACursors}

pub record Live : Type 0 where
  -- which of the session's subscriptions it is, from 0 as they are opened
  pub sub : ℕ
  pub id : List ℕ
  -- the publication's name and the parameters, and the cursors that they make
  pub name : List ℕ
  pub params : List Val
  pub cursors : ACursors
  -- a place of the history that it may not show less than
  pub floor : ℕ
  -- how many entries of the history its documents take in; None until it is loaded
  pub cursor : Option ℕ

-- how many subscriptions of a session may be live
abbrev pub max_live : ℕ
max_live = 256

abbrev pub is_crowded : List Live → Bool
is_crowded ls = nat_le max_live (length ls)

-- the live subscription with this id
abbrev pub sub_named : List ℕ → List Live → Option ℕ
sub_named id [] = None
sub_named id (l ∷ ls) = if is_name id l.id then Some l.sub else sub_named id ls

-- what f says of the subscription with this number, if it is live
abbrev pub of_sub : {A : Type 0} → (Live → A) → A → ℕ → List Live → A
of_sub f otherwise s [] = otherwise
of_sub f otherwise s (l ∷ ls) = if s == l.sub then f l else of_sub f otherwise s ls

abbrev pub is_live : ℕ → List Live → Bool
is_live s ls = of_sub (λ (l : Live). true) false s ls

-- its id
abbrev pub ids_of : ℕ → List Live → List (List ℕ)
ids_of s ls = of_sub (λ (l : Live). l.id ∷ []) [] s ls

-- its place, once it is loaded
abbrev pub cursor_of : ℕ → List Live → Option ℕ
cursor_of s ls = of_sub (λ (l : Live). l.cursor) None s ls

-- ---- what becomes of them

abbrev pub loaded : ℕ → ℕ → List Live → List Live
loaded s place [] = []
loaded s place (l ∷ ls) = if s == l.sub then record l { cursor = Some place } ∷ ls else l ∷ loaded s place ls

abbrev pub moved : ℕ → Option ℕ → Option ℕ
moved count None = None
moved count (Some place) = Some (place + count)

abbrev pub advanced : ℕ → ℕ → List Live → List Live
advanced s count [] = []
advanced s count (l ∷ ls) = if s == l.sub then record l { cursor = moved count l.cursor } ∷ ls else l ∷ advanced s count ls

abbrev pub closed : ℕ → List Live → List Live
closed s ls = filter (λ (l : Live). not (s == l.sub)) ls

-- ---- questions

-- the subscription is live and not loaded, and may be loaded at this place
abbrev pub may_load : ℕ → ℕ → List Live → Bool
may_load s place ls = of_sub (λ (l : Live). is_none l.cursor && nat_le l.floor place) false s ls

-- a cursor is at least at this place
abbrev pub past : ℕ → Option ℕ → Bool
past place None = false
past place (Some cursor) = nat_le place cursor

-- each live subscription is loaded, and shows at least what the history was at this place
abbrev pub is_open : ℕ → List Live → Bool
is_open place ls = list_all (λ (l : Live). past place l.cursor) ls
