-- Which methods' writes are shown, by looking back over a journal (Meteor's DDP.md, "Remote procedure calls": `updated` comes once the
-- method's writes are reflected in the data messages).
use Rattle.std.specs.Prelude.{ℕ, zero, suc, ◌+◌, nat_lt, List, [], ◌∷◌, Bool, false, not, ◌||◌, Option, Some, None, if◌then◌else◌}
use Rattle.value_model.specs.Size.{is_name}
use Rattle.session_model.specs.Items.{Item, id_of}
use Rattle.session_model.specs.Items as item
use Rattle.session_model.specs.Counting.{one_if}
use Rattle.session_model.specs.LooksBack.{opened_in, cursor_in, finished_at, is_refused_in}

-- a subscription that is live and loaded shows less than the history was at this place
abbrev pub is_behind : ℕ → Option ℕ → Bool
is_behind place None = false
is_behind place (Some cursor) = nat_lt cursor place

-- one of the first n does
abbrev pub is_one_behind : ℕ → ℕ → List Item → Bool
is_one_behind place zero items = false
is_one_behind place (suc s) items = is_behind place (cursor_in s items) || is_one_behind place s items

-- no subscription shows less than the history was where the call had ended
abbrev pub is_reflected_at : Option ℕ → List Item → Bool
is_reflected_at None items = false
is_reflected_at (Some place) items = not (is_one_behind place (opened_in items) items)

-- the call was refused, so that it wrote nothing; or it has finished, and each live subscription that is loaded shows what it wrote
abbrev pub is_reflected : ℕ → List Item → Bool
is_reflected k items = is_refused_in items k || is_reflected_at (finished_at k items) items

-- a method of an unknown name writes nothing
abbrev pub reflected_by : List ℕ → List Item → Item → ℕ
reflected_by id items (item.call k message seed) = if is_reflected k items then one_if (is_name id (id_of message)) else 0
reflected_by id items (item.unknown message) = one_if (is_name id (id_of message))
reflected_by id items i = 0

abbrev pub reflected_among : List ℕ → List Item → List Item → ℕ
reflected_among id items [] = 0
reflected_among id items (i ∷ some) = reflected_by id items i + reflected_among id items some

-- how many methods with this id were handled whose writes are shown
abbrev pub methods_reflected : List ℕ → List Item → ℕ
methods_reflected id items = reflected_among id items items
