-- What the rules of a collection answer to a write of a client (Meteor's documentation, "allow" and "deny": a write goes through where no deny rule
-- holds and some allow rule does).
use Rattle.std.specs.Prelude.{ℕ, suc, List, [], ◌∷◌, ◌++◌, take, Bool, true, false, ◌&&◌, ◌||◌, not, Option, None, Some, Ok, Err, is_ok, if◌then◌else◌}
use Rattle.std.specs.List.{list_any, list_all}
use Rattle.value_model.specs.Val.{Val, Entries}
use Rattle.value_model.specs.Size.{is_name}
use Rattle.selector_match.specs.Query.{Query}
use Rattle.selector_match.specs.Holds.{holds}
use Rattle.selector_match.specs.Reading as selector
use Rattle.modifier_apply.specs.Change.{Change, Modification, changed_by}
use Rattle.program_steps.specs.declared.rules.Action.{Action}
use Rattle.program_steps.specs.declared.rules.Action.TheVariants as action
use Rattle.program_steps.specs.declared.rules.Rules.{Rules}
use Rattle.program_steps.specs.Guards.{Rule}
use Rattle.program_model.specs.declared.verdict.Verdict.{Verdict}
use Rattle.program_model.specs.declared.verdict.Verdict.TheVariants as verdict

-- a write to one document: a new one, a change of the one with this id, or its removal
pub data Write : Type 0 where
  inserts : List ℕ → Entries → Write
  updates : List ℕ → Modification → Write
  removes : List ℕ → Write

abbrev pub action_of : Write → Action
action_of (inserts id doc) = action.Insert
action_of (updates id modifier) = action.Update
action_of (removes id) = action.Remove

abbrev pub id_of : Write → List ℕ
id_of (inserts id doc) = id
id_of (updates id modifier) = id
id_of (removes id) = id

-- the document that rules look at: the new one of an insert, else the one that is there
abbrev pub judged_document : Write → Option Entries → Option Entries
judged_document (inserts id doc) present = Some doc
judged_document write present = present

abbrev pub same_action : Action → Action → Bool
same_action action.Insert action.Insert = true
same_action action.Update action.Update = true
same_action action.Remove action.Remove = true
same_action a b = false

-- ---- the fields that an update is of: the first parts of its paths

abbrev pub first_parts : List Change → List (List ℕ)
first_parts [] = []
first_parts (c ∷ cs) = take 1 c.path ++ first_parts cs

abbrev pub fields_in : Write → List (List ℕ)
fields_in (updates id (changed_by cs)) = first_parts cs
fields_in write = []

abbrev pub is_among : List (List ℕ) → List ℕ → Bool
is_among names name = list_any (λ n. is_name n name) names

-- ---- when a rule holds

-- Each rule on the action has a selector that is read, or none.
abbrev pub is_read : Option Val → Bool
is_read None = true
is_read (Some v) = is_ok (selector.reading v)

abbrev pub are_read : Action → List Rule → Bool
are_read a rules = list_all (λ (rule : Rule). not (same_action rule.on a) || is_read rule.selector) rules

abbrev pub held_by : selector.Reading Query → List ℕ → Entries → Bool
held_by (Ok query) id doc = holds query id doc
held_by (Err e) id doc = false

abbrev pub selects : Option Val → List ℕ → Entries → Bool
selects None id doc = true
selects (Some v) id doc = held_by (selector.reading v) id doc

-- an allow rule has all fields of the update, a deny rule has some
abbrev pub has_all_fields : Option (List (List ℕ)) → List (List ℕ) → Bool
has_all_fields None parts = true
has_all_fields (Some names) parts = list_all (is_among names) parts

abbrev pub has_some_field : Option (List (List ℕ)) → List (List ℕ) → Bool
has_some_field None parts = true
has_some_field (Some names) parts = list_any (is_among names) parts

abbrev pub speaks_of : Rule → Write → Entries → Bool
speaks_of rule write doc = same_action rule.on (action_of write) && selects rule.selector (id_of write) doc

abbrev pub allows : Write → Entries → Rule → Bool
allows write doc rule = speaks_of rule write doc && has_all_fields rule.fields (fields_in write)

abbrev pub denies : Write → Entries → Rule → Bool
denies write doc rule = speaks_of rule write doc && has_some_field rule.fields (fields_in write)

-- the place of the first rule that denies, counted from this number
abbrev pub first_denial : Write → Entries → ℕ → List Rule → Option ℕ
first_denial write doc n [] = None
first_denial write doc n (rule ∷ rules) = if denies write doc rule then Some n else first_denial write doc (suc n) rules

-- ---- the answer

abbrev pub unless_denied : Option ℕ → Bool → Verdict
unless_denied (Some place) allowed = verdict.Denied place
unless_denied None allowed = if allowed then verdict.Allowed else verdict.NotAllowed

abbrev pub on_document : Rules → Write → Option Entries → Verdict
on_document rules write None = verdict.Absent
on_document rules write (Some doc) = unless_denied (first_denial write doc 0 rules.deny) (list_any (allows write doc) rules.allow)

-- what the rules answer, where this document is there: deny rules go before allow rules
abbrev pub judged : Rules → Write → Option Entries → Verdict
judged rules write present =
    if are_read (action_of write) rules.allow && are_read (action_of write) rules.deny then on_document rules write
    (judged_document write present) else verdict.BadRule

-- the rules of a collection; one without an entry has none
abbrev pub no_rules : Rules
no_rules = record { allow = []; deny = [] }

abbrev pub or_none : Option Rules → Rules
or_none None = no_rules
or_none (Some rules) = rules
