-- The cursors that are made of rules with different names have different names.
use Rattle.std.specs.Prelude.{◌≡◌, ℕ, Bool, false, List, [], ◌∷◌, ◌++◌, map, Ok, ◌||◌, refl}
use Rattle.std.proofs.Common.{ap, sym, ◌∙◌, subst, append-nil, append_assoc}
use Rattle.std.specs.List.{list_any}
use Rattle.value_model.specs.Val.{Val}
use Rattle.value_model.specs.Size.{is_name}
use Rattle.ejson_value.specs.ResultLaws.{and_then-ok}
use Rattle.selector_match.specs.Query.{Query}
use Rattle.app_model.specs.declared.publication.CursorRule.{CursorRule}
use Rattle.app_model.specs.Rules.{Rules, publishes as rules_publish, HaveDistinctNames as RulesHaveDistinctNames}
use Rattle.publication.specs.declared.cursor.Cursor.{Cursor}
use Rattle.publication.specs.Faults.{Making}
use Rattle.publication.specs.Cursors.{ACursors, publishes, HaveDistinctNames, selector_made, cursor_of, cursor_made, cursors_behind}

abbrev has : List (List ℕ) → List ℕ → Bool
has ns name = list_any (λ n. is_name n name) ns

abbrev AreDistinct : List (List ℕ) → Type 0
AreDistinct [] = Unit {0}
AreDistinct (n ∷ ns) = (has ns n ≡ false) × AreDistinct ns

rules_has : (rules : Rules) (name : List ℕ) → rules_publish rules name ≡ has (map (λ (r : CursorRule). r.name) rules) name
rules_has [] name = refl
rules_has (r ∷ rules) name = ap (λ b. is_name r.name name || b) (rules_has rules name)

cursors_has : (cursors : ACursors) (name : List ℕ) → publishes cursors name ≡ has (map (λ (c : Cursor). c.name) cursors) name
cursors_has [] name = refl
cursors_has (c ∷ cursors) name = ap (λ b. is_name c.name name || b) (cursors_has cursors name)

from_rules : (rules : Rules) → RulesHaveDistinctNames rules → AreDistinct (map (λ (r : CursorRule). r.name) rules)
from_rules [] d = tt
from_rules (r ∷ rules) d = (sym (rules_has rules r.name) ∙ d.0, from_rules rules d.1)

to_cursors : (cursors : ACursors) → AreDistinct (map (λ (c : Cursor). c.name) cursors) → HaveDistinctNames cursors
to_cursors [] d = tt
to_cursors (c ∷ cursors) d = (cursors_has cursors c.name ∙ d.0, to_cursors cursors d.1)

ok_is : {A : Type 0} (a b : A) → let r : Making A = Ok a in r ≡ Ok b → a ≡ b
ok_is a b e = cc

named_alike : (params : List Val) (rule : CursorRule) (cursor : Cursor) → cursor_made params rule ≡ Ok cursor → cursor.name ≡ rule.name
named_alike params rule cursor e =
    let two = and_then-ok (selector_made params rule.selector) (λ (q : Query). let r : Making Cursor = Ok (cursor_of rule q) in r) cursor e in
    ap (λ (c : Cursor). c.name) (sym (ok_is (cursor_of rule two.0) cursor two.2))

map-snoc : (cursors : ACursors) (c : Cursor) → map (λ (x : Cursor). x.name) (cursors ++ c ∷ []) ≡ map (λ (x : Cursor). x.name) cursors ++ c.name ∷ []
map-snoc [] c = refl
map-snoc (x ∷ cursors) c = ap (λ ns. x.name ∷ ns) (map-snoc cursors c)

-- the names of the cursors that are made, in order
all_named : (params : List Val) (cursors : ACursors) (rules : Rules) (made : ACursors) → cursors_behind params cursors rules ≡ Ok made →
    map (λ (c : Cursor). c.name) made ≡ map (λ (c : Cursor). c.name) cursors ++ map (λ (r : CursorRule). r.name) rules
all_named params cursors [] made e = ap (λ cs. map (λ (c : Cursor). c.name) cs) (sym (ok_is cursors made e))
    ∙ sym (append-nil (map (λ (c : Cursor). c.name) cursors))
all_named params cursors (rule ∷ rules) made e =
    let two = and_then-ok (cursor_made params rule) (λ (c : Cursor). cursors_behind params (cursors ++ c ∷ []) rules) made e in
    let front = map (λ (c : Cursor). c.name) cursors in
    let rest = map (λ (r : CursorRule). r.name) rules in
    all_named params (cursors ++ two.0 ∷ []) rules made two.2
    ∙ (ap (λ ns. ns ++ rest) (map-snoc cursors two.0)
    ∙ (append_assoc front (two.0.name ∷ []) rest ∙ ap (λ n. front ++ n ∷ rest) (named_alike params rule two.0 two.1)))

pub cursors_distinct : (params : List Val) (rules : Rules) (made : ACursors) → cursors_behind params [] rules ≡ Ok made → RulesHaveDistinctNames rules →
    HaveDistinctNames made
cursors_distinct params rules made e d = to_cursors made (subst AreDistinct (sym (all_named params [] rules made e)) (from_rules rules d))
