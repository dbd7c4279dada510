-- The act that an event names, by the length of the history and what is kept of a session.
use Rattle.std.specs.Prelude.{ℕ, ℤ, pos, negsuc, suc, ◌-◌, List, Option, Some, None, option_map}
use Rattle.connection.specs.world_model.declared.events.Act.{Act}
use Rattle.connection.specs.world_model.declared.events.Act.TheVariants as act
use Rattle.connection.specs.world_model.declared.events.Event.{Event}
use Rattle.connection.specs.world_model.declared.events.Event.TheVariants as event
use Rattle.connection.specs.world_model.Events.{number_of, count_from}
use Rattle.connection.specs.session_model.Subscriptions.{Live, sub_named, cursor_of}

abbrev pub place_at : ℕ → Option ℤ → ℕ
place_at length None = length
place_at length (Some (pos n)) = n
place_at length (Some (negsuc n)) = suc length

abbrev pub count_at : ℕ → Option ℕ → Option ℤ → ℕ
count_at length cursor None = count_from length cursor
count_at length cursor (Some (pos n)) = n
count_at length cursor (Some (negsuc n)) = 0

abbrev pub load_named : List Live → ℕ → List ℕ → Option ℤ → Option Act
load_named subs length id place = option_map (λ s. act.Load s (place_at length place)) (sub_named id subs)

abbrev pub advance_named : List Live → ℕ → List ℕ → Option ℤ → Option Act
advance_named subs length id count = option_map (λ s. act.Advance s (count_at length (cursor_of s subs) count)) (sub_named id subs)

abbrev pub named_at : List Live → ℕ → Event → Option Act
named_at subs length (event.Do name a) = Some a
named_at subs length (event.Step name k) = option_map act.Step (number_of k)
named_at subs length (event.Learn name k place) = option_map (λ n. act.Learn n (place_at length place)) (number_of k)
named_at subs length (event.Load name id place) = load_named subs length id place
named_at subs length (event.Advance name id count) = advance_named subs length id count
named_at subs length e = None
