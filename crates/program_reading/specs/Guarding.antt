-- How an object is read as the rules of a collection: `{"allow":[rule..],"deny":[rule..]}`, where each list may be missing.
-- A rule is `{"on":"insert"|"update"|"remove","selector":selector,"fields":[name..]}`, where all but `on` may be missing, and `fields` stands in
-- rules on updates alone. A selector is any value: one that can't be read is told when the rule is tested.
use Rattle.std.specs.Prelude.{ℕ, Bool, true, false, not, List, [], ◌∷◌, ◌++◌, length, codes, Option, None, Some, Ok, is_some, nat_lt, if◌then◌else◌, ◌&&◌, ◌||◌}
use Rattle.value_model.specs.Val.{Val, text, list, object, Vals, no_vals, val, Fields, list_of}
use Rattle.value_model.specs.Size.{is_name}
use Rattle.value_model.specs.Branches.{field_of}
use Rattle.ejson_value.specs.Results.{made, and_then}
use Rattle.program_steps.specs.declared.rules.Action.{Action}
use Rattle.program_steps.specs.declared.rules.Action.TheVariants as action
use Rattle.program_steps.specs.declared.rules.Rules.{Rules}
use Rattle.program_steps.specs.Guards.{Rule}
use Rattle.program_reading.specs.declared.fault.Flaw.TheVariants as flaw
use Rattle.program_reading.specs.declared.names.Shape.TheVariants as shape
use Rattle.program_reading.specs.Faults.{Place, below, element, Reading, bad}
use Rattle.program_reading.specs.Names.{name_reading, has_only_keys}

-- the most rules of a list
abbrev pub max_rules : ℕ
max_rules = 64

abbrev pub action_named : List ℕ → Option Action
action_named name =
    if is_name name (codes "insert") then Some action.Insert else (
    if is_name name (codes "update") then Some action.Update else (
    if is_name name (codes "remove") then Some action.Remove else None))

abbrev pub action_of : Option Val → Option Action
action_of (Some (text name)) = action_named name
action_of _ = None

abbrev pub is_update : Option Action → Bool
is_update (Some action.Update) = true
is_update _ = false

abbrev pub action_reading : Place → Option Action → Reading Action
action_reading place None = bad flaw.BadShape place
action_reading place (Some a) = Ok a

-- more names of fields, behind those so far
abbrev pub field_names_behind : Place → List (List ℕ) → Vals → Reading (List (List ℕ))
field_names_behind place names no_vals = Ok names
field_names_behind place names (val v vs) = and_then (name_reading (element place (length names)) v) (λ name. field_names_behind place (names ++ name ∷ []) vs)

abbrev pub field_names_reading : Place → Option Val → Reading (Option (List (List ℕ)))
field_names_reading place None = Ok None
field_names_reading place (Some (list vs)) = made (λ names. Some names) (field_names_behind place [] vs)
field_names_reading place (Some v) = bad flaw.BadShape place

abbrev pub is_rule : Fields → Bool
is_rule fs =
    has_only_keys shape.Rule fs && is_some (field_of fs (codes "on")) &&
    (not (is_some (field_of fs (codes "fields"))) || is_update (action_of (field_of fs (codes "on"))))

abbrev pub rule_parts_reading : Place → Fields → Reading Rule
rule_parts_reading place fs =
    and_then (field_names_reading (below place (codes "fields")) (field_of fs (codes "fields"))) (λ fields.
    and_then (action_reading (below place (codes "on")) (action_of (field_of fs (codes "on")))) (λ on.
    Ok (record { on = on; selector = field_of fs (codes "selector"); fields = fields })))

abbrev pub rule_reading : Place → Val → Reading Rule
rule_reading place (object fs) = if is_rule fs then rule_parts_reading place fs else bad flaw.BadShape place
rule_reading place v = bad flaw.BadShape place

-- more rules, behind those so far
abbrev pub rules_behind : Place → List Rule → Vals → Reading (List Rule)
rules_behind place rules no_vals = Ok rules
rules_behind place rules (val v vs) = and_then (rule_reading (element place (length rules)) v) (λ rule. rules_behind place (rules ++ rule ∷ []) vs)

abbrev pub rule_list_reading : Place → Option Val → Reading (List Rule)
rule_list_reading place None = Ok []
rule_list_reading place (Some (list vs)) = if nat_lt max_rules (length (list_of vs)) then bad flaw.TooMany place else rules_behind place [] vs
rule_list_reading place (Some v) = bad flaw.BadShape place

-- the two lists of a collection's rules
abbrev pub lists_reading : Place → Fields → Reading Rules
lists_reading place fs =
    and_then (rule_list_reading (below place (codes "allow")) (field_of fs (codes "allow"))) (λ allow.
    and_then (rule_list_reading (below place (codes "deny")) (field_of fs (codes "deny"))) (λ deny. Ok (record { allow = allow; deny = deny })))
