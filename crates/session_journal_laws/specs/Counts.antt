-- Each method that is handled has one result, and an `updated` once its fence opened.
use Rattle.std.specs.Prelude.{◌≡◌, ℕ, ◌+◌, List}
use Rattle.ddp_messages.specs.ServerMessage.{ServerMessage}
use Rattle.session_model.specs.Items.{Item}
use Rattle.session_model.specs.State.{State, own_after}
use Rattle.session_model.specs.Moments.{Moment}
use Rattle.session_model.specs.Out.{updated, own_messages}
use Rattle.session_model.specs.Counting.{results, updateds, method_by, is_running, is_armed, number_in}

-- ---- one item: what is handled runs or has its result; what has its result is armed or has its `updated`

abbrev pub OwnCounts : List Moment → ℕ → List ℕ → State → Item → Type 0
OwnCounts C number id st i =
    (method_by id i + number_in is_running id st.methods ≡ results id (own_messages C number st i) + number_in is_running id (own_after st i).methods)
    × (results id (own_messages C number st i) + number_in is_armed id st.methods
    ≡ updateds id (own_messages C number st i) + number_in is_armed id (own_after st i).methods)

abbrev pub Counts : List ℕ → ℕ → State → List ServerMessage → State → Type 0
Counts id n st ms st2 =
    (n + number_in is_running id st.methods ≡ results id ms + number_in is_running id st2.methods)
    × (results id ms + number_in is_armed id st.methods ≡ updateds id ms + number_in is_armed id st2.methods)
