-- The subscriptions that the items of a journal leave are those that the journal says, looking back.
use Rattle.std.specs.Prelude.{◌≡◌, ℕ, ◌+◌, ◌≤◌, nat_lt, List, [], ◌∷◌, Bool, false, not, ◌&&◌, Option, None, option_map, if◌then◌else◌}
use Rattle.session_model.specs.Items.{Item}
use Rattle.session_model.specs.Subscriptions.{Live, is_live, cursor_of, closed}
use Rattle.session_model.specs.State.{State}
use Rattle.session_model.specs.LooksBack.{opened_in, closes, is_closed, load_by, loaded_at, advance_by, advances, cursor_in}

-- ---- one item at the end

abbrev pub cursor_by : Bool → Option ℕ → ℕ → Option ℕ
cursor_by closed place count = if closed then None else option_map (λ p. p + count) place

-- the item says nothing of the subscription
pub record IsQuiet (s : ℕ) (i : Item) : Type 0 where
  pub load : load_by s i ≡ None
  pub advance : advance_by s i ≡ 0
  pub close : closes s i ≡ false

-- ---- which are live

-- no two live subscriptions have one number
abbrev pub AreDistinct : List Live → Type 0
AreDistinct [] = Unit {0}
AreDistinct (l ∷ ls) = (is_live l.sub ls ≡ false) × AreDistinct ls

-- ---- all of it, over a journal

pub record Tracks (st : State) (items : List Item) : Type 0 where
  pub cursors : (s : ℕ) → cursor_of s st.subs ≡ cursor_in s items
  pub live : (s : ℕ) → is_live s st.subs ≡ (nat_lt s st.opened && not (is_closed s items))
  pub distinct : AreDistinct st.subs
  pub unloaded : (s : ℕ) → loaded_at s items ≡ None → advances s items ≡ 0
  pub fresh : (s : ℕ) → st.opened ≤ s → (loaded_at s items ≡ None) × (is_closed s items ≡ false)
  pub opened : st.opened ≡ opened_in items
