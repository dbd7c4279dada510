-- How a value is read as a selector (query operators, in MongoDB's documentation). The first fault in reading order is answered, keys by bytes.
use Rattle.std.specs.Prelude.{◌≡◌, ℕ, Bool, true, false, not, List, [], ◌∷◌, codes, bytes_eq, Option, None, Some, option_map, ok_or, Result, Ok, Err}
use Rattle.std.specs.Prelude.{if◌then◌else◌, ◌&&◌, ◌||◌, ◌==◌, pos}
use Rattle.std.specs.List.{list_all}
use Rattle.value_model.specs.Val.{Val, null, boolean, int, list, object, user, Vals, no_vals, val, Fields, no_fields, field, list_of}
use Rattle.value_model.specs.Branches.{path_of}
use Rattle.ejson_value.specs.Results.{made, with_both}
use Rattle.selector_match.specs.declared.fault.SelectorFault.{SelectorFault}
use Rattle.selector_match.specs.declared.fault.SelectorFault.TheVariants as fault
use Rattle.selector_match.specs.declared.names.OperatorName.{OperatorName}
use Rattle.selector_match.specs.declared.names.OperatorName.TheVariants as name
use Rattle.selector_match.specs.declared.names.PlainName.{PlainName}
use Rattle.selector_match.specs.declared.names.PlainName.TheVariants as plain
use Rattle.selector_match.specs.declared.names.Connective.{Connective}
use Rattle.selector_match.specs.declared.names.Connective.TheVariants as connective
use Rattle.selector_match.specs.Query.{Query, no_clauses, clause, Clause, all_of, any_of, none_of, at_path, Queries, no_queries, query, Predicates}
use Rattle.selector_match.specs.Query.{no_predicates, predicate, Predicate, equal, not_equal, among, not_among, greater, at_least, less, at_most}
use Rattle.selector_match.specs.Query.{present, sized, has_all, has_element, negated, ElementTest, by_predicates, by_query}

abbrev pub Reading : Type 0 → Type 0
Reading X = Result X SelectorFault

-- a name that begins with `$`
abbrev pub begins_with_dollar : List ℕ → Bool
begins_with_dollar [] = false
begins_with_dollar (b ∷ bs) = b == 36

-- some name of the object begins with `$`
abbrev pub has_operator : Fields → Bool
has_operator no_fields = false
has_operator (field n v fs) = begins_with_dollar n || has_operator fs

abbrev pub has_plain_name : Fields → Bool
has_plain_name no_fields = false
has_plain_name (field n v fs) = not (begins_with_dollar n) || has_plain_name fs

-- a set of operators: an object, not empty, all of whose names begin with `$`
abbrev pub is_operator_set : Fields → Bool
is_operator_set fs = has_operator fs && not (has_plain_name fs)

abbrev pub connective_named : List ℕ → Option Connective
connective_named n =
    if bytes_eq n (codes "$and") then Some connective.And else
    (if bytes_eq n (codes "$or") then Some connective.Or else (if bytes_eq n (codes "$nor") then Some connective.Nor else None))

-- the operators whose operands hold no operators
abbrev pub plain_named : List ℕ → Option PlainName
plain_named n =
    if bytes_eq n (codes "$eq") then Some plain.Equal else (
    if bytes_eq n (codes "$ne") then Some plain.NotEqual else (
    if bytes_eq n (codes "$in") then Some plain.Among else (
    if bytes_eq n (codes "$nin") then Some plain.NotAmong else (
    if bytes_eq n (codes "$gt") then Some plain.Greater else (
    if bytes_eq n (codes "$gte") then Some plain.AtLeast else (
    if bytes_eq n (codes "$lt") then Some plain.Less else (
    if bytes_eq n (codes "$lte") then Some plain.AtMost else (
    if bytes_eq n (codes "$exists") then Some plain.Exists else (
    if bytes_eq n (codes "$size") then Some plain.Size else (
    if bytes_eq n (codes "$all") then Some plain.All else None))))))))))

abbrev pub operator_named : List ℕ → Option OperatorName
operator_named n =
    if bytes_eq n (codes "$elemMatch") then Some name.ElementMatch else
    (if bytes_eq n (codes "$not") then Some name.Not else option_map name.Plain (plain_named n))

-- Operands: a list; what can be compared; a boolean; a number from 0; a list of literals, in which no object has an operator.
abbrev pub list_operand : Val → Reading (List Val)
list_operand (list vs) = Ok (list_of vs)
list_operand _ = Err fault.BadOperand

abbrev pub is_comparable : Val → Bool
is_comparable null = false
is_comparable (list vs) = false
is_comparable (object fs) = false
is_comparable (user name v) = false
is_comparable _ = true

abbrev pub compared_operand : Val → Reading Val
compared_operand v = if is_comparable v then Ok v else Err fault.BadOperand

abbrev pub boolean_operand : Val → Reading Bool
boolean_operand (boolean b) = Ok b
boolean_operand _ = Err fault.BadOperand

abbrev pub size_operand : Val → Reading ℕ
size_operand (int (pos n)) = Ok n
size_operand _ = Err fault.BadOperand

abbrev pub is_literal : Val → Bool
is_literal (object fs) = not (has_operator fs)
is_literal _ = true

abbrev pub literals_operand : Val → Reading (List Val)
literals_operand (list vs) = if list_all is_literal (list_of vs) then Ok (list_of vs) else Err fault.BadOperand
literals_operand _ = Err fault.BadOperand

abbrev pub joined : Connective → Queries → Clause
joined connective.And qs = all_of qs
joined connective.Or qs = any_of qs
joined connective.Nor qs = none_of qs

-- the operator `$eq` alone, which a literal stands for
abbrev pub literal : Val → Predicates
literal v = predicate (equal v) no_predicates

-- a text that writes no path is a bad operand
abbrev pub path_reading : List ℕ → Reading (List (List ℕ))
path_reading written = ok_or (path_of written) fault.BadOperand

abbrev pub by_connective : Option Connective → Reading Queries → Reading Clause
by_connective None qs = Err fault.UnknownOperator
by_connective (Some c) qs = made (λ x. joined c x) qs

-- a condition by its name, whose value is read as selectors and as what a path has to meet
abbrev pub clause_made : List ℕ → Reading Queries → Reading Predicates → Reading Clause
clause_made n queries condition =
    if begins_with_dollar n then by_connective (connective_named n) queries else with_both at_path (path_reading n) condition

-- an operator with an operand that holds no operators
abbrev pub plain_made : PlainName → Val → Reading Predicate
plain_made plain.Equal v = Ok (equal v)
plain_made plain.NotEqual v = Ok (not_equal v)
plain_made plain.Among v = made among (list_operand v)
plain_made plain.NotAmong v = made not_among (list_operand v)
plain_made plain.Greater v = made greater (compared_operand v)
plain_made plain.AtLeast v = made at_least (compared_operand v)
plain_made plain.Less v = made less (compared_operand v)
plain_made plain.AtMost v = made at_most (compared_operand v)
plain_made plain.Exists v = made present (boolean_operand v)
plain_made plain.Size v = made sized (size_operand v)
plain_made plain.All v = made has_all (literals_operand v)

-- an operator with its operand, which is also read as the test of an element and as a set of operators
abbrev pub predicate_made : Option OperatorName → Val → Reading ElementTest → Reading Predicates → Reading Predicate
predicate_made None v element set = Err fault.UnknownOperator
predicate_made (Some (name.Plain n)) v element set = plain_made n v
predicate_made (Some name.ElementMatch) v element set = made has_element element
predicate_made (Some name.Not) v element set = made negated set

-- A selector is read alike at the top, under `$and`, `$or` and `$nor`, and as the test of an element.
abbrev mutual
  pub reading : Val → Reading Query
  reading (object fs) = clauses_reading fs
  reading _ = Err fault.NotObject

  pub clauses_reading : Fields → Reading Query
  clauses_reading no_fields = Ok no_clauses
  clauses_reading (field n v fs) = with_both clause (clause_made n (queries_reading v) (condition_reading v)) (clauses_reading fs)

  -- a list, not empty, of selectors
  pub queries_reading : Val → Reading Queries
  queries_reading (list vs) = some_queries_reading vs
  queries_reading _ = Err fault.BadOperand

  pub some_queries_reading : Vals → Reading Queries
  some_queries_reading no_vals = Err fault.BadOperand
  some_queries_reading (val v vs) = with_both query (reading v) (more_queries_reading vs)

  pub more_queries_reading : Vals → Reading Queries
  more_queries_reading no_vals = Ok no_queries
  more_queries_reading (val v vs) = with_both query (reading v) (more_queries_reading vs)

  -- the value of a path: a set of operators, or a literal
  pub condition_reading : Val → Reading Predicates
  condition_reading (object fs) =
      if is_operator_set fs then predicates_reading fs else (if has_operator fs then Err fault.BadOperand else Ok (literal (object fs)))
  condition_reading v = Ok (literal v)

  pub predicates_reading : Fields → Reading Predicates
  predicates_reading no_fields = Ok no_predicates
  predicates_reading (field n v fs) = with_both predicate (predicate_made (operator_named n) v (element_operand v) (set_operand v)) (predicates_reading fs)

  -- The operand of `$elemMatch`, which is an object: a set of operators where all its names begin with `$`, or a selector, in which `_id` is a name
  -- like any other.
  pub element_operand : Val → Reading ElementTest
  element_operand (object fs) = if is_operator_set fs then made by_predicates (predicates_reading fs) else made by_query (clauses_reading fs)
  element_operand _ = Err fault.BadOperand

  -- the operand of `$not`, which is a set of operators
  pub set_operand : Val → Reading Predicates
  set_operand (object fs) = if is_operator_set fs then predicates_reading fs else Err fault.BadOperand
  set_operand _ = Err fault.BadOperand

-- the test that an object is, of an element
abbrev pub test_reading : Val → Reading ElementTest
test_reading (object fs) = element_operand (object fs)
test_reading _ = Err fault.NotObject

-- The call answers as the reading says, or want of memory.
abbrev pub Gives : {T X : Type 0} → (T → X) → Result T SelectorFault → Reading X → Type 0
Gives f (Ok t) r = r ≡ Ok (f t)
Gives f (Err fault.Memory) r = Unit {0}
Gives f (Err e) r = r ≡ Err e
