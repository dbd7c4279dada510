-- How a value is read as an application:
-- `{"collections":[name..],"methods":{name:program..},"publications":{name:[cursor..]..},"rules":{collection:rules..}}`, where each key may be
-- missing. A cursor is `{"collection":name,"as":name,"selector":template,"fields":{path:1|0..},"sort":[[path,1|-1]..],"limit":number}`, where all
-- but the collection may be missing.
-- The first fault is answered: collections, methods, publications, rules, inside by the bytes of the keys or by place, and at each part its form,
-- its name, how many parts it has, an unknown collection and a double name, in this order.
use Rattle.std.specs.Prelude.{ℕ, Bool, true, false, not, List, [], ◌∷◌, ◌++◌, length, codes, Option, None, Some, Ok, unwrap_or, is_some, nat_lt}
use Rattle.std.specs.Prelude.{nat_le, if◌then◌else◌, ◌&&◌, ◌||◌}
use Rattle.std.specs.BTreeMap.{insert_entry}
use Rattle.map_model.specs.Maps.{at}
use Rattle.value_model.specs.Val.{Val, text, list, object, Vals, no_vals, val, Fields, no_fields, field, list_of}
use Rattle.value_model.specs.Order.{text_cmp}
use Rattle.value_model.specs.Size.{is_name, names_of}
use Rattle.value_model.specs.Branches.{field_of}
use Rattle.ejson_value.specs.Results.{made, and_then}
use Rattle.program_reading.specs.declared.fault.Flaw.TheVariants as flaw
use Rattle.program_reading.specs.declared.names.Shape.TheVariants as shape
use Rattle.ejson_value.specs.declared.sort.SortKey.{SortKey}
use Rattle.app_model.specs.declared.publication.Projection.{Projection}
use Rattle.app_model.specs.declared.publication.CursorRule.{CursorRule}
use Rattle.app_model.specs.Rules.{Rules, publishes}
use Rattle.program_steps.specs.declared.rules.Action.{Action}
use Rattle.program_steps.specs.declared.rules.Action.TheVariants as action
use Rattle.program_steps.specs.declared.rules.Rules.{Rules as WriteRules}
use Rattle.program_steps.specs.declared.step.Program.{Program}
use Rattle.program_steps.specs.Guards.{method_name, guarded_program}
use Rattle.program_reading.specs.Faults.{Place, below, element, Reading, bad}
use Rattle.program_reading.specs.Names.{is_valid_name, name_reading, has_name, known_reading, has_only_keys}
use Rattle.program_reading.specs.Programs.{program_reading}
use Rattle.program_reading.specs.Guarding.{lists_reading}
use Rattle.app_model.specs.Fields.{projection_reading}
use Rattle.app_model.specs.Sorting.{window_reading}
use Rattle.app_model.specs.App.{App}

-- the most collections, publications, cursors of a publication, and methods
abbrev pub max_collections : ℕ
max_collections = 64

abbrev pub max_publications : ℕ
max_publications = 256

abbrev pub max_cursors : ℕ
max_cursors = 8

abbrev pub max_methods : ℕ
max_methods = 256

abbrev pub unless_double : Bool → Place → List ℕ → Reading (List ℕ)
unless_double double place name = if double then bad flaw.DoubleName place else Ok name

abbrev pub listed_place : List (List ℕ) → Place
listed_place names = element (codes "collections") (length names)

-- a collection that is listed behind others
abbrev pub listed_reading : List (List ℕ) → Val → Reading (List ℕ)
listed_reading names v = and_then (name_reading (listed_place names) v) (λ name. unless_double (has_name names name) (listed_place names) name)

abbrev pub names_behind : List (List ℕ) → Vals → Reading (List (List ℕ))
names_behind names no_vals = Ok names
names_behind names (val v vs) = and_then (listed_reading names v) (λ name. names_behind (names ++ name ∷ []) vs)

abbrev pub collections_reading : Option Val → Reading (List (List ℕ))
collections_reading None = Ok []
collections_reading (Some (list vs)) = if nat_lt max_collections (length (list_of vs)) then bad flaw.TooMany (codes "collections") else names_behind [] vs
collections_reading (Some v) = bad flaw.BadShape (codes "collections")

abbrev pub is_cursor : Fields → Bool
is_cursor fs = has_only_keys shape.Cursor fs && is_some (field_of fs (codes "collection"))

-- the name under which a cursor publishes: its collection's, where it has no name of its own
abbrev pub published_as : Option Val → Option Val → Option Val
published_as None collection = collection
published_as (Some v) collection = Some v

-- whether one of the cursors publishes under this name, if it is one
abbrev pub is_published : Rules → Option Val → Bool
is_published rules (Some (text name)) = publishes rules name
is_published rules _ = false

abbrev pub alias_reading : Place → Option Val → Reading (Option (List ℕ))
alias_reading place None = Ok None
alias_reading place (Some v) = made (λ name. Some name) (name_reading place v)

-- a cursor without a selector publishes all documents of its collection
abbrev pub selector_of : Option Val → Val
selector_of selector = unwrap_or selector (object no_fields)

-- the name of a cursor's collection, and the published one
abbrev pub names_reading : List (List ℕ) → Place → Fields → Reading (List ℕ × List ℕ)
names_reading collections place fs =
    and_then (alias_reading (below place (codes "as")) (field_of fs (codes "as"))) (λ alias.
    and_then (known_reading collections (below place (codes "collection")) (field_of fs (codes "collection"))) (λ collection.
    Ok (collection, unwrap_or alias collection)))

-- the projection, the limit and the sort keys of a cursor
abbrev pub shown_reading : Place → Fields → Reading (Projection × (Option ℕ × List SortKey))
shown_reading place fs =
    and_then (projection_reading (below place (codes "fields")) (field_of fs (codes "fields"))) (λ fields.
    and_then (window_reading place fs) (λ window. Ok (fields, window)))

abbrev pub parts_reading : List (List ℕ) → Place → Fields → Reading CursorRule
parts_reading collections place fs =
    and_then (names_reading collections place fs) (λ names.
    and_then (shown_reading place fs) (λ shown.
    Ok (record {
      collection = names.0;
      name = names.1;
      selector = selector_of (field_of fs (codes "selector"));
      fields = shown.0;
      sort = shown.1.1;
      limit = shown.1.0;
    })))

-- a cursor behind others
abbrev pub rule_reading : List (List ℕ) → Place → Rules → Val → Reading CursorRule
rule_reading collections place rules (object fs) =
    if not (is_cursor fs) then bad flaw.BadShape place else (
    if is_published rules (published_as (field_of fs (codes "as")) (field_of fs (codes "collection"))) then bad flaw.DoubleName place else
    parts_reading collections place fs)
rule_reading collections place rules v = bad flaw.BadShape place

abbrev pub rules_behind : List (List ℕ) → Place → Rules → Vals → Reading (Rules)
rules_behind collections place rules no_vals = Ok rules
rules_behind collections place rules (val v vs) =
    and_then (rule_reading collections (element place (length rules)) rules v) (λ rule. rules_behind collections place (rules ++ rule ∷ []) vs)

abbrev pub cursors_reading : List (List ℕ) → Place → Vals → Reading Rules
cursors_reading collections place vs =
    if nat_lt max_cursors (length (list_of vs)) then bad flaw.TooMany place else rules_behind collections place [] vs

abbrev pub named_reading : List (List ℕ) → Place → List ℕ → Vals → Reading Rules
named_reading collections place name vs = if is_valid_name name then cursors_reading collections place vs else bad flaw.BadName place

-- the publication of this name
abbrev pub publication_reading : List (List ℕ) → List ℕ → Val → Reading Rules
publication_reading collections name (list vs) = named_reading collections (below (codes "publications") name) name vs
publication_reading collections name v = bad flaw.BadShape (below (codes "publications") name)

-- the publications of an object, put to those before
abbrev pub publications_put : List (List ℕ) → List (List ℕ × Rules) → Fields → Reading (List (List ℕ × Rules))
publications_put collections rows no_fields = Ok rows
publications_put collections rows (field name v fs) =
    and_then (publication_reading collections name v) (λ publication. publications_put collections (insert_entry text_cmp rows name publication) fs)

abbrev pub publications_reading : List (List ℕ) → Option Val → Reading (List (List ℕ × Rules))
publications_reading collections None = Ok []
publications_reading collections (Some (object fs)) =
    if nat_lt max_publications (length (names_of fs)) then bad flaw.TooMany (codes "publications") else publications_put collections [] fs
publications_reading collections (Some v) = bad flaw.BadShape (codes "publications")

-- the methods of an object, put to those before
abbrev pub methods_put : List (List ℕ) → List (List ℕ × Program) → Fields → Reading (List (List ℕ × Program))
methods_put collections rows no_fields = Ok rows
methods_put collections rows (field name v fs) =
    and_then (program_reading collections (below (codes "methods") name) name v)
    (λ program. methods_put collections (insert_entry text_cmp rows name program) fs)

abbrev pub methods_reading : List (List ℕ) → Option Val → Reading (List (List ℕ × Program))
methods_reading collections None = Ok []
methods_reading collections (Some (object fs)) =
    if nat_lt max_methods (length (names_of fs)) then bad flaw.TooMany (codes "methods") else methods_put collections [] fs
methods_reading collections (Some v) = bad flaw.BadShape (codes "methods")

-- whether a method has the name of one that the collection's rules make
abbrev pub has_method : List (List ℕ × Program) → List ℕ → Action → Bool
has_method methods collection a = is_some (at text_cmp methods (method_name collection a))

abbrev pub has_made_name : List (List ℕ × Program) → List ℕ → Bool
has_made_name methods collection =
    has_method methods collection action.Insert || has_method methods collection action.Update || has_method methods collection action.Remove

-- the rules of the collection of this name
abbrev pub entry_reading : List (List ℕ) → List (List ℕ × Program) → Place → List ℕ → Fields → Reading WriteRules
entry_reading collections methods place name fs =
    if not (has_only_keys shape.Rules fs) then bad flaw.BadShape place else (
    if not (is_valid_name name) then bad flaw.BadName place else (
    if not (has_name collections name) then bad flaw.UnknownCollection place else (
    if has_made_name methods name then bad flaw.DoubleName place else
    lists_reading place fs)))

abbrev pub guard_reading : List (List ℕ) → List (List ℕ × Program) → List ℕ → Val → Reading WriteRules
guard_reading collections methods name (object fs) = entry_reading collections methods (below (codes "rules") name) name fs
guard_reading collections methods name v = bad flaw.BadShape (below (codes "rules") name)

-- the rules of an object's collections, put to those before
abbrev pub guards_put : List (List ℕ) → List (List ℕ × Program) → List (List ℕ × WriteRules) → Fields → Reading (List (List ℕ × WriteRules))
guards_put collections methods rows no_fields = Ok rows
guards_put collections methods rows (field name v fs) =
    and_then (guard_reading collections methods name v) (λ guards. guards_put collections methods (insert_entry text_cmp rows name guards) fs)

abbrev pub guards_reading : List (List ℕ) → List (List ℕ × Program) → Option Val → Reading (List (List ℕ × WriteRules))
guards_reading collections methods None = Ok []
guards_reading collections methods (Some (object fs)) = guards_put collections methods [] fs
guards_reading collections methods (Some v) = bad flaw.BadShape (codes "rules")

-- A collection with rules has three methods more.
abbrev pub with_method : List (List ℕ × Program) → List ℕ → Action → List (List ℕ × Program)
with_method methods collection a = insert_entry text_cmp methods (method_name collection a) (guarded_program collection a)

abbrev pub with_made : List (List ℕ × Program) → List (List ℕ × WriteRules) → List (List ℕ × Program)
with_made methods [] = methods
with_made methods (row ∷ rows) = with_made (with_method (with_method (with_method methods row.0 action.Insert) row.0 action.Update) row.0 action.Remove) rows

-- the collections and the methods
abbrev pub stored_reading : Fields → Reading (List (List ℕ) × List (List ℕ × Program))
stored_reading fs =
    and_then (collections_reading (field_of fs (codes "collections"))) (λ collections.
    and_then (methods_reading collections (field_of fs (codes "methods"))) (λ methods. Ok (collections, methods)))

-- the publications and the rules
abbrev pub told_reading : List (List ℕ) → List (List ℕ × Program) → Fields → Reading (List (List ℕ × Rules) × List (List ℕ × WriteRules))
told_reading collections methods fs =
    and_then (publications_reading collections (field_of fs (codes "publications"))) (λ publications.
    and_then (guards_reading collections methods (field_of fs (codes "rules"))) (λ guards. Ok (publications, guards)))

abbrev pub members_reading : Fields → Reading App
members_reading fs =
    and_then (stored_reading fs) (λ stored.
    and_then (told_reading stored.0 stored.1 fs) (λ told.
    Ok (record { collections = stored.0; methods = with_made stored.1 told.1; publications = told.0; guards = told.1 })))

abbrev pub app_reading : Val → Reading App
app_reading (object fs) = if has_only_keys shape.Application fs then members_reading fs else bad flaw.BadShape []
app_reading v = bad flaw.BadShape []
