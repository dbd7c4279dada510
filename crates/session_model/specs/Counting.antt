-- How often a method is handled and answered (Meteor's DDP.md, "Remote procedure calls": a server sends one `result` and one `updated` for each method).
use Rattle.std.specs.Prelude.{ℕ, ◌+◌, List, [], ◌∷◌, Bool, true, false, if◌then◌else◌}
use Rattle.value_model.specs.Size.{is_name}
use Rattle.ddp_messages.specs.ServerMessage.{ServerMessage}
use Rattle.ddp_messages.specs.ServerMessage as server
use Rattle.session_model.specs.Items.{Item, id_of}
use Rattle.session_model.specs.Items as item
use Rattle.session_model.specs.Methods.{Phase, running, finished, Method}

abbrev pub one_if : Bool → ℕ
one_if b = if b then 1 else 0

abbrev pub count : List ℕ → List (List ℕ) → ℕ
count id [] = 0
count id (x ∷ ids) = one_if (is_name id x) + count id ids

-- ---- messages

abbrev pub result_in : List ℕ → ServerMessage → ℕ
result_in id (server.finished x fault value) = one_if (is_name id x)
result_in id message = 0

abbrev pub updated_in : List ℕ → ServerMessage → ℕ
updated_in id (server.updated ids) = count id ids
updated_in id message = 0

abbrev pub total : (ServerMessage → ℕ) → List ServerMessage → ℕ
total f [] = 0
total f (m ∷ ms) = f m + total f ms

-- how many `result`s have this id, and how many `updated`s
abbrev pub results : List ℕ → List ServerMessage → ℕ
results id ms = total (result_in id) ms

abbrev pub updateds : List ℕ → List ServerMessage → ℕ
updateds id ms = total (updated_in id) ms

-- ---- items

abbrev pub method_by : List ℕ → Item → ℕ
method_by id (item.call k message seed) = one_if (is_name id (id_of message))
method_by id (item.unknown message) = one_if (is_name id (id_of message))
method_by id i = 0

-- how many methods with this id were handled
abbrev pub methods_handled : List ℕ → List Item → ℕ
methods_handled id [] = 0
methods_handled id (i ∷ items) = method_by id i + methods_handled id items

-- ---- calls

abbrev pub is_running : Phase → Bool
is_running running = true
is_running p = false

-- it has finished, and isn't told yet
abbrev pub is_armed : Phase → Bool
is_armed (finished place) = true
is_armed p = false

abbrev pub in_phase : (Phase → Bool) → List ℕ → Method → ℕ
in_phase q id m = if q m.phase then one_if (is_name id m.id) else 0

-- how many calls with this id are in such a phase
abbrev pub number_in : (Phase → Bool) → List ℕ → List Method → ℕ
number_in q id [] = 0
number_in q id (m ∷ ms) = in_phase q id m + number_in q id ms
