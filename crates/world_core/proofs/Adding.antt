-- Lists of acts that add no entry to the history.
use Rattle.std.specs.Prelude.{◌≡◌, ℕ, ◌-◌, nat_lt, List, [], ◌∷◌, ◌++◌, Bool, true, false, cond, Option, None, Some, is_none, All, refl}
use Rattle.std.proofs.lemmas.List.Elements.{All-nil, All-cons, All-append}
use Rattle.connection.specs.session_model.Subscriptions.{Live}
use Rattle.connection.specs.world_model.declared.events.Act.{Act}
use Rattle.connection.specs.world_model.declared.events.Act.TheVariants as act
use Rattle.connection.specs.world_model.Settle.{load_at, loads}
use Rattle.world_rounds_laws.specs.Listing.{behind_by, behind}
use Rattle.world_core.specs.Acting.{learns_of}
use Rattle.connection.specs.Acting.{adds_entry}

abbrev AddsNone : Act → Type 0
AddsNone a = adds_entry a ≡ false

abbrev pub AddNone : List Act → Type 0
AddNone acts = All AddsNone acts

pub learns_add : (place : ℕ) (calls : List ℕ) → AddNone (learns_of place calls)
learns_add place [] = All-nil AddsNone
learns_add place (k ∷ calls) = All-cons AddsNone (act.Learn k place) (learns_of place calls) refl (learns_add place calls)

-- one that may stand there
one_if : (b : Bool) (a : Act) → AddsNone a → AddNone (cond b (a ∷ []) [])
one_if true a none = All-cons AddsNone a [] none (All-nil AddsNone)
one_if false a none = All-nil AddsNone

pub loads_add : (place : ℕ) (subs : List Live) → AddNone (loads place subs)
loads_add place [] = All-nil AddsNone
loads_add place (l ∷ subs) = All-append AddsNone (load_at place l) (loads place subs) (one_if (is_none l.cursor) (act.Load l.sub place) refl) (loads_add place subs)

behind_adds : (entries sub : ℕ) (o : Option ℕ) → AddNone (behind_by entries sub o)
behind_adds entries sub None = All-nil AddsNone
behind_adds entries sub (Some cursor) = one_if (nat_lt cursor entries) (act.Advance sub (entries - cursor)) refl

pub behind_add : (entries : ℕ) (subs : List Live) → AddNone (behind entries subs)
behind_add entries [] = All-nil AddsNone
behind_add entries (l ∷ subs) = All-append AddsNone (behind_by entries l.sub l.cursor) (behind entries subs) (behind_adds entries l.sub l.cursor) (behind_add entries subs)
