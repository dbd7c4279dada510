-- Laws: The event that is read from a value of the program is an event of the program.
use Rattle.std.specs.Prelude.{◌≡◌, ◌&&◌, ℕ, codes, List, Bool, true, false, Option, Some, None, IfSome, option_map, refl, if◌then◌else◌}
use Rattle.std.proofs.Common.{sym, subst}
use Rattle.value_model.specs.Val.{Val, text, list, Vals, no_vals, val, vals_of, list_of}
use Rattle.value_model.specs.ValLaws.{vals_of-list_of}
use Rattle.value_model.specs.Size.{is_name}
use Rattle.value_model.specs.Valid.{IsValue, AreValues}
use Rattle.ddp_messages.specs.Limits.{AreShallow}
use Rattle.world_core.specs.world_model.declared.events.Event.{Event}
use Rattle.world_core.specs.world_model.declared.events.Event.TheVariants as event
use Rattle.world_core.specs.world_model.Events.{IsEvent}
use Rattle.line_parts.specs.Parts.{text_first, is_nil, text_alone, texts_alone, have_few_levels, params_in}
use Rattle.line_parts.proofs.Forms.{shallow_all}
use Rattle.world_events.specs.Events.{admin_in, sub_in, call_in, number_in, placed_in, load_at, advance_by, called_in, act_of, asked_in, placed_row}
use Rattle.world_events.specs.Events.{row_in, event_in}
use Rattle.replay_core.specs.ValuesReadLaws.{from_any, from_one, made_any, made_one}
use Rattle.replay_core.specs.EventsRead.{AreFit, Follows}

-- ---- parts of a list

behind_are : (vs : Vals) → AreValues vs → IfSome (text_first vs) Follows
behind_are no_vals all = tt
behind_are (val (text t) vs) all = all.1
behind_are (val v vs) all = tt

are_fit : (alone few : Bool) (vs : List Val) → AreValues (vals_of vs) → (few ≡ true → AreShallow vs) →
    IfSome (if alone && few then Some vs else None) AreFit
are_fit true true vs values shallow = (values, shallow refl)
are_fit true false vs values shallow = tt
are_fit false few vs values shallow = tt

params_are : (vs : Vals) → AreValues vs → IfSome (params_in vs) AreFit
params_are no_vals all = (tt, tt)
params_are (val (list vs) rest) all =
    are_fit (is_nil rest) (have_few_levels vs) (list_of vs) (subst AreValues (sym (vals_of-list_of vs)) all.0) (λ few.
    shallow_all (list_of vs) (list_of vs) refl few)
params_are (val v rest) all = tt

-- ---- rows

either : (b : Bool) (x y : Option Event) → IfSome x IsEvent → IfSome y IsEvent → IfSome (if b then x else y) IsEvent
either true x y p q = p
either false x y p q = q

-- an event that nothing follows
alone : (b : Bool) (e : Event) → IsEvent e → IfSome (if b then Some e else None) IsEvent
alone true e is = is
alone false e is = tt

admin_is : (vs : Vals) → AreValues vs → IfSome (admin_in vs) IsEvent
admin_is vs all =
    either (is_nil vs) None (option_map event.Admin (params_in vs)) tt (made_one event.Admin (params_in vs) AreFit IsEvent (params_are vs all) (λ op fit. fit))

sub_is : (vs : Vals) → AreValues vs → IfSome (sub_in vs) IsEvent
sub_is vs all =
    from_one (text_first vs) _ Follows IsEvent (behind_are vs all) (λ who one.
    from_one (text_first who.1) _ Follows IsEvent (behind_are who.1 one) (λ id two.
    from_one (text_first id.1) _ Follows IsEvent (behind_are id.1 two) (λ name three.
    made_one (event.Sub who.0 id.0 name.0) (params_in name.1) AreFit IsEvent (params_are name.1 three) (λ params fit. fit))))

call_is : (vs : Vals) → AreValues vs → IfSome (call_in vs) IsEvent
call_is vs all =
    from_one (text_first vs) _ Follows IsEvent (behind_are vs all) (λ who one.
    from_one (text_first who.1) _ Follows IsEvent (behind_are who.1 one) (λ method two.
    made_one (event.Call who.0 method.0) (params_in method.1) AreFit IsEvent (params_are method.1 two) (λ params fit. fit)))

asked_is : (word : List ℕ) (vs : Vals) → AreValues vs → IfSome (asked_in word vs) IsEvent
asked_is word vs all =
    either (is_name word (codes "client")) _ _ (made_any event.Client (text_alone vs) IsEvent (λ who. tt))
    (either (is_name word (codes "sub")) _ _ (sub_is vs all)
    (either (is_name word (codes "unsub")) _ _ (made_any _ (texts_alone vs) IsEvent (λ both. tt))
    (either (is_name word (codes "call")) _ _ (call_is vs all)
    (either (is_name word (codes "raw")) _ _ (made_any _ (texts_alone vs) IsEvent (λ both. tt))
    (either (is_name word (codes "drop")) _ _ (made_any event.Drop (text_alone vs) IsEvent (λ who. tt))
    (from_any (act_of word) _ IsEvent (λ a. made_any (λ who. event.Do who a) (text_alone vs) IsEvent (λ who. tt))))))))

placed_is : (word : List ℕ) (vs : Vals) → AreValues vs → IfSome (placed_row word vs) IsEvent
placed_is word vs all =
    either (is_name word (codes "step")) _ _ (from_any (called_in vs) _ IsEvent (λ called. alone (is_nil called.2) (event.Step called.0 called.1) tt))
    (either (is_name word (codes "learn")) _ _ (from_any (called_in vs) _ IsEvent (λ called.
    made_any (event.Learn called.0 called.1) (number_in called.2) IsEvent (λ place. tt)))
    (either (is_name word (codes "load")) _ _ (made_any load_at (placed_in vs) IsEvent (λ p. tt))
    (either (is_name word (codes "advance")) _ _ (made_any advance_by (placed_in vs) IsEvent (λ p. tt)) (asked_is word vs all))))

row_is : (word : List ℕ) (vs : Vals) → AreValues vs → IfSome (row_in word vs) IsEvent
row_is word vs all =
    either (is_name word (codes "admin")) _ _ (admin_is vs all)
    (either (is_name word (codes "settle")) _ _ (alone (is_nil vs) event.Settle tt)
    (either (is_name word (codes "show")) _ _ (made_any event.Show (text_alone vs) IsEvent (λ who. tt))
    (either (is_name word (codes "journal")) _ _ (made_any event.Journal (text_alone vs) IsEvent (λ who. tt))
    (either (is_name word (codes "store")) _ _ (alone (is_nil vs) event.Store tt)
    (either (is_name word (codes "history")) _ _ (alone (is_nil vs) event.History tt) (placed_is word vs all))))))

pub event_is : (v : Val) → IsValue v → IfSome (event_in v) IsEvent
event_is (list vs) is =
    from_one (text_first vs) (λ first. row_in first.0 first.1) Follows IsEvent (behind_are vs is) (λ first all. row_is first.0 first.1 all)
event_is v is = tt
